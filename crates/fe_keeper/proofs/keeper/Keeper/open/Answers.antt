use Rattle.std.proofs.Common.{◌≡◌, ◌⊎◌, sym, subst}
use Rattle.fe_keeper.specs.declared.fault.Fault.{Fault}
use Rattle.fe_keeper.specs.declared.fault.Fault.TheVariants.{Device, Unformatted}
use Rattle.fe_keeper.proofs.keeper.Keeper.open.Goals as goal

pub returns-in-Err-clause-unformatted : goal.returns-in-Err-clause-unformatted
returns-in-Err-clause-unformatted g c = λ honest odd.
    subst (λ (e : Fault × g.row.D.Denot). (e.0 ≡ Unformatted) ⊎ (e.0 ≡ Device)) (sym c.into_parts.ensures) (c.in-Err.ensures.unformatted honest odd)
