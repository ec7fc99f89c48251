use Rattle.std.proofs.Common.{◌≡◌, ℕ, Result}
use Rattle.std.specs.Ordering.{nat_cmp}
use Rattle.std.specs.FinMap.{get-empty, len-empty}
use Rattle.fe_state.specs.Sessions.{Session}
use Rattle.fe_state.specs.declared.array.Array.{Array}
use Rattle.std.proofs.lemmas.Result.{err_from_is_err_and}
use Rattle.fe_memory.specs.Memory.{out_of_memory}
use Rattle.fe_codec.specs.declared.fault.Fault.{Fault}
use Rattle.fe_codec.specs.declared.fault.Fault.TheVariants.{Left, NoMemory}
use Rattle.fe_codec.specs.Loading.{ReadsFault}
use Rattle.fe_codec.proofs.reading.state_at.Goals as goal

-- the header takes no memory
takes_none : {Y : Type 0} (fault : Fault) (given : Result Y ℕ) → ReadsFault fault given → fault ≡ NoMemory out_of_memory → ⊥
takes_none (NoMemory error) given h is = h
takes_none (Left left) given h is = absurd cc

pub returns-in_err-header-clause-memory : goal.returns-in_err-header-clause-memory
returns-in_err-header-clause-memory c = λ is.
    let p = err_from_is_err_and c.from_residual.result c.from_residual.ensures.1 in
    absurd (takes_none c.in_err-header.field-0.0 _ c.in_err-header.ensures.given (cc (is, p.1, p.2)))

pub read_arrays-requires-clause-fresh : goal.read_arrays-requires-clause-fresh
read_arrays-requires-clause-fresh c = λ q _. rw c.in_ok-state.ensures (get-empty nat_cmp q)

pub read_arrays-requires-clause-none : goal.read_arrays-requires-clause-none
read_arrays-requires-clause-none c = rw c.in_ok-state.ensures (len-empty nat_cmp Array)

pub read_sessions-requires-clause-fresh : goal.read_sessions-requires-clause-fresh
read_sessions-requires-clause-fresh c = λ q _. rw (c.in_ok-rest.ensures.sessions, c.in_ok-state.ensures) (get-empty nat_cmp q)

pub read_sessions-requires-clause-none : goal.read_sessions-requires-clause-none
read_sessions-requires-clause-none c = rw (c.in_ok-rest.ensures.sessions, c.in_ok-state.ensures) (len-empty nat_cmp Session)
