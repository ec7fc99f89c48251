use Rattle.std.proofs.Common.{◌≡◌, false, take}
use Rattle.fe_desk.specs.Crash.{Advances}
use Rattle.fe_desk.specs.Runs.{whole, AreSteps}
use Rattle.fe_desk.proofs.running.take_steps.Given as goal

abbrev pub invariant-loop-k : goal.invariant-loop-k
invariant-loop-k g l =
    record {
      run : AreSteps g.D.Disk l.initial.desk (whole (take l.k l.steps)) l.desk;
      works : l.desk.keeper.store.has_failed ≡ false;
      advances : Advances g.D.Disk l.initial.desk l.desk;
    }
