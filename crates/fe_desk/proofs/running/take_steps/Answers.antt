use Rattle.std.proofs.Common.{◌<◌, length, Ok, refl, rules}
use Rattle.std.proofs.lemmas.Option.{slice_get_read}
use Rattle.fe_desk.specs.Runs.{Ends, IsStep}
use Rattle.fe_desk.proofs.Advancing.{advances_both}
use Rattle.fe_desk.proofs.Runnings.{no_step, steps_next, goes_to}
use Rattle.fe_desk.proofs.Stepping.{ends_of}
use Rattle.fe_desk.proofs.running.take_steps.Goals as goal

pub loop-k-init : goal.loop-k-init
loop-k-init g c = record {
  run = refl;
  works = c.requires.works;
  advances = no_step g.D.Disk g.met.D.Disk.only_now c.args.desk.now c.requires.stands;
}

pub loop-k-preserved : goal.loop-k-preserved
loop-k-preserved g c =
    let lt : c.loop-k.k < length c.args.steps.now = search rules in
    let here = c.loop-k.invariant in
    let d = c.loop-k.desk in
    let e = c.step.new.self in
    let step = c.index-steps-k.result in
    let taken : IsStep g.D.Disk d step (Ok tt) e = c.in_default.ensures.is_step in
    let whole : Ends g.D.Disk d step (Ok tt) e = ends_of g.D.Disk d step e (Ok tt) here.works taken in
    record {
      run = steps_next g.D.Disk c.args.desk.now d e c.args.steps.now c.loop-k.k step (Ok tt) refl lt c.index-steps-k.is here.run taken;
      works = whole.sound.fine.after;
      advances = advances_both g.D.Disk c.args.desk.now d e here.works here.advances c.step.ensures.advances;
    }

pub returns-in-Err-clause-advances : goal.returns-in-Err-clause-advances
returns-in-Err-clause-advances g c =
    advances_both g.D.Disk c.args.desk.now c.loop-k.desk c.step.new.self c.loop-k.invariant.works c.loop-k.invariant.advances c.step.ensures.advances

pub returns-in-Err-clause-goes : goal.returns-in-Err-clause-goes
returns-in-Err-clause-goes g c =
    let lt : c.loop-k.k < length c.args.steps.now = search rules in
    let step = c.index-steps-k.result in
    goes_to g.D.Disk c.args.desk.now c.loop-k.desk c.step.new.self c.args.steps.now c.loop-k.k step c.step.result c.in-Err.fault c.in-Err.is
    (slice_get_read c.args.steps.now (length c.args.steps.now) c.loop-k.k step refl lt c.index-steps-k.is) c.loop-k.invariant.run c.step.ensures.is_step
