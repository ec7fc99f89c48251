-- Whether more connections come, and how many places (a server has a fixed number) are kept for clients that
-- wait for one. See `ARCHITECTURE.md`, "Threads".
use Rattle.std.specs.Prelude.{◌≡◌, ◌⊎◌, ◌-◌, ◌<◌, ◌≤◌, ℕ, true, Option, None, Some, Result, Ok, Err}
use Rattle.fe_server.specs.declared.register.Admission.{Admission}
use Rattle.fe_server.specs.declared.register.Bounds.{Bounds}
use Rattle.fe_server.specs.declared.register.Expected.{Expected}
use Rattle.fe_server.specs.declared.register.Full.{Full}
use Rattle.fe_server.specs.declared.register.NoMore.{NoMore}

-- No connection comes any more: the server has ended, or as many came as `accepts` allows; 0 sets no bound.
abbrev pub HasEnded : ℕ → NoMore → Type 0
HasEnded accepts no_more = (no_more.over ≡ true) ⊎ ((0 < accepts) × (accepts ≤ no_more.came))

-- How many clients wait for a place after a client asked for one: if it was one of them (`Some`), one less,
-- since it waits no longer whether it got in or not.
abbrev pub awaited_after : Option Expected → ℕ → ℕ
awaited_after None awaited = awaited
awaited_after (Some expected) awaited = awaited - 1

-- how many free places a client may not take: one for each client that waits; none if it is one of them
abbrev pub kept_from : Option Expected → ℕ → ℕ
kept_from None awaited = awaited
kept_from (Some expected) awaited = 0

-- A connection was admitted, or refused, under these bounds.
abbrev pub IsBoundBy : Bounds → Result Admission Full → Type 0
IsBoundBy bounds (Ok admission) = admission.bounds ≡ bounds
IsBoundBy bounds (Err full) = full.bounds ≡ bounds
