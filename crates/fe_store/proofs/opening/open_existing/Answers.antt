use Rattle.std.proofs.Common.{◌≡◌, sym, subst}
use Rattle.fe_memory.specs.Memory.{out_of_memory}
use Rattle.fe_keeper.specs.Damage.{MayLackMemory}
use Rattle.fe_store.specs.declared.fault.OpenFault.{OpenFault}
use Rattle.fe_store.specs.declared.fault.OpenFault.TheVariants as fault
use Rattle.fe_store.proofs.opening.open_existing.Goals as goal

pub returns-in-Err-clause-memory : goal.returns-in-Err-clause-memory
returns-in-Err-clause-memory g c = λ honest.
    subst (λ (e : OpenFault × g.row.D.Denot). e.0 ≡ fault.Memory out_of_memory → MayLackMemory (g.D.Disk.seen c.args.disk) (g.D.Disk.calls c.args.disk) (g.D.Disk.calls e.1)) (sym c.into_parts.ensures)
    (c.in-Err.ensures.memory honest)
