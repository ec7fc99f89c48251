use Rattle.std.proofs.Common.{IsTrue, ap, subst, rules}
use Rattle.std.specs.Prelude.{Err}
use Rattle.fe_replica.specs.Replaying.{IsMismatch}
use Rattle.fe_replica.specs.declared.taking.Refused.{Refused}
use Rattle.fe_replica.proofs.Taken.{no_mismatch}
use Rattle.fe_state.specs.State.{ServerState}
use Rattle.fe_state.specs.UndoLog.{rewound}
use Rattle.fe_keeper.specs.Keeper.{must_begin}
use Rattle.fe_keeper.specs.within.Upholds.{store_of}
use Rattle.fe_keeper.proofs.Taking.{memory_alone}
use Rattle.fe_keeper.proofs.keeper.whole_before.Goals as goal

pub returns-in_err-take-clause-memory : goal.returns-in_err-take-clause-memory
returns-in_err-take-clause-memory g c =
    let entries = c.args.entries.now in
    let before : ServerState = rewound c.args.log.now c.args.state.now in
    let refused : Refused = c.in_err-take.field-0.0 in
    let must : IsTrue (must_begin (store_of c.args.store.now) entries) = search rules in
    memory_alone (IsTrue (must_begin (store_of c.args.store.now) entries)) c.from_residual-in_err-take.result refused c.from_residual-in_err-take.ensures.1
    (λ place is. no_mismatch before c.args.first entries place c.requires.continues
    (subst (λ (s : ServerState). IsMismatch s c.args.first entries place) c.rewind.ensures.beginning (c.in_err-take.ensures.mismatch place (ap Err is)))) must
