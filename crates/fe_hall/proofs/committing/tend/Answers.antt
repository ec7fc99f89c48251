use Rattle.std.proofs.Common.{IsTrue, ◌∙◌}
use Rattle.fe_keeper.specs.Ends.{ForDeviceAndMemory}
use Rattle.fe_keeper.specs.Keeper.{can_begin}
use Rattle.fe_hall.proofs.Committed.{rests_both, device_alone, breaks_behind}
use Rattle.fe_hall.proofs.committing.tend.Goals as goal

pub returns-in-Ok-clause-keeps : goal.returns-in-Ok-clause-keeps
returns-in-Ok-clause-keeps g c =
    let still = c.in_ok-advance.ensures.still in
    let rests = rests_both g.D.Disk c.args.keeper.now c.advance.new.keeper c.checkpoint_begin.new.self still.works c.advance.ensures.keeps.0 c.checkpoint_begin.ensures.rests in
    (rests, c.checkpoint_begin.ensures.durable)

pub returns-in_default : goal.returns-in_default
returns-in_default g c =
    let old = c.args.keeper.now in
    let mid = c.advance.new.keeper in
    let new = c.checkpoint_begin.new.self in
    let still = c.in_ok-advance.ensures.still in
    let alone = device_alone g.D.Disk mid new (ForDeviceAndMemory (IsTrue (can_begin mid.store))) c.in-Err.fault (still.works ∙ c.requires.works) (λ is x. c.in_default.not-NoMemory _ is) (λ place x. x) c.in-Err.ensures.ends in
    record {
      keeps = (rests_both g.D.Disk old mid new still.works c.advance.ensures.keeps.0 c.checkpoint_begin.ensures.rests, c.checkpoint_begin.ensures.durable);
      still = tt;
      device = (alone.0, breaks_behind g.D.Disk old mid new still alone.1);
    }
