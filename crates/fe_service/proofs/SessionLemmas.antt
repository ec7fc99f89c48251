-- What a crate above asks of the requests of a session.
use Rattle.std.proofs.Common.{◌≡◌, ℕ, ◌<◌, ◌≤◌, ◌+◌, Some, None}
use Rattle.std.specs.FinMap.{FinMap, get}
use Rattle.fe_waits.specs.Waiting.{pair_cmp, WaitingAccess}
use Rattle.fe_waits.proofs.RoomLemmas.{room-in-window}
use Rattle.fe_service.specs.AttachmentsState.{count_of}

-- where the numbers of a session and one more lie in a window of 32, it has room for that one
pub room-of_session : (waiting : FinMap pair_cmp WaitingAccess) (session floor number : ℕ) → ((n : ℕ) (waiter : WaitingAccess) → get waiting (session, n) ≡ Some waiter → (floor ≤ n) × (n < floor + 32)) → get waiting (session, number) ≡ None → floor ≤ number → number < floor + 32 → count_of waiting session < 32
room-of_session waiting session floor number within new least most = room-in-window waiting session floor number within new least most
