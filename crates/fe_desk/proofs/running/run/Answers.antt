use Rattle.std.proofs.Common.{◌≡◌, ℕ, List, map, refl, sym, ap, subst, ◌∙◌, ◌≤◌, length, arith}
use Rattle.fe_disk.specs.Runs.{LeavesOnly}
use Rattle.fe_disk.proofs.Moments.{weaker}
use Rattle.fe_state.specs.History.{IsHistory}
use Rattle.fe_state.specs.declared.entry.Entry.{Entry}
use Rattle.fe_keeper.specs.Stands.{LeavesPrefix}
use Rattle.fe_desk.specs.Crash.{IsFrom, disk_of}
use Rattle.fe_desk.specs.Runs.{groups_of}
use Rattle.fe_desk.proofs.Openings.{device_alone, first_from, stands_at}
use Rattle.fe_desk.proofs.Runnings.{stands_begun, run_moments, run_of}
use Rattle.fe_desk.proofs.running.run.Goals as goal

pub returns-in-Err-clause-any_moment : goal.returns-in-Err-clause-any_moment
returns-in-Err-clause-any_moment g c = λ honest s each.
    let groups = groups_of c.new.result in
    weaker g.D.Disk c.args.disk c.in-Err.disk (g.D.Disk.may_leave c.args.disk) (LeavesPrefix s groups 0)
    (λ image may. stands_begun s groups image (each image may)) (c.in-Err.ensures.reads honest).run

pub returns-in-Err-clause-stands : goal.returns-in-Err-clause-stands
returns-in-Err-clause-stands g c = λ honest s stands past. absurd past

pub take_steps-fault-requires-clause-stands : goal.take_steps-fault-requires-clause-stands
take_steps-fault-requires-clause-stands g c = λ honest begun from image may.
    let d = c.in-Ok.desk in
    let few : d.synced ≤ length d.run_state.groups = omega (arith, c.in-Ok.ensures.first.1) in
    stands_at begun d image from few (c.in-Ok.ensures.stands (c.in-Ok.ensures.device.honesty.0 honest) image may)

pub returns-in-Err-clause-ran : goal.returns-in-Err-clause-ran
returns-in-Err-clause-ran g c =
    let refused = c.in-Err.ensures in
    let alone = device_alone c.in-Err.fault refused.device in
    record {
      is_fault = refused.faults;
      says = refused.says;
      refused = refused.refused;
      unformatted = refused.unformatted;
      device = alone.0;
      still = alone.1;
      writes_none = refused.device.most;
      reads = refused.reads;
      groups = ap (λ gs. map (λ g. g.items) gs) c.new.ensures.groups;
      written = ap (λ ps. map (λ p. (p.conn, p.written)) ps) c.new.ensures.ports;
      synced = c.new.ensures.synced;
    }

pub returns-clause-ran : goal.returns-clause-ran
returns-clause-ran g c =
    let first = c.in-Ok.desk in
    let last = c.take_steps-fault.new.desk in
    let parts = c.into_parts-trace in
    let fault = c.take_steps-fault.result in
    let opened = c.in-Ok.ensures in
    run_of g.D.Disk c.args.disk c.args.steps.now parts.result.0 parts.result.1 fault
    (record {
      first = first;
      last = last;
      opened = opened.opened;
      begins = opened.first.0;
      none_stored = opened.first.1;
      works = opened.works;
      still = opened.device.still (λ is. cc);
      goes = c.take_steps-fault.ensures.goes;
      history = (c.take_steps-fault.ensures.advances.from first.keeper.state (first_from first.keeper.state first refl opened.first.0.groups opened.first.1)).history;
      trace = parts.ensures.trace;
      disk_is = parts.ensures.disk;
    })

pub returns-clause-history : goal.returns-clause-history
returns-clause-history g c = λ honest s stands.
    let first = c.in-Ok.desk in
    let same : first.keeper.state ≡ s = c.images_stand_for_one.ensures (g.D.Disk.seen c.args.disk) first.keeper.state s (c.in-Ok.ensures.opened honest) stands in
    let from : IsFrom s first = first_from s first same c.in-Ok.ensures.first.0.groups c.in-Ok.ensures.first.1 in
    subst (λ (gs : List (List Entry)). IsHistory s gs) (sym c.into_parts-trace.ensures.trace.groups) (c.take_steps-fault.ensures.advances.from s from).history

pub returns-clause-any_moment : goal.returns-clause-any_moment
returns-clause-any_moment g c = λ honest s each.
    let first = c.in-Ok.desk in
    let last = c.take_steps-fault.new.desk in
    let seen = g.D.Disk.seen c.args.disk in
    let same : first.keeper.state ≡ s = c.images_stand_for_one.ensures seen first.keeper.state s (c.in-Ok.ensures.opened honest) (each seen (g.met.D.Disk.seen_may_stay c.args.disk honest)) in
    let from : IsFrom s first = first_from s first same c.in-Ok.ensures.first.0.groups c.in-Ok.ensures.first.1 in
    subst (λ d. LeavesOnly g.D.Disk c.args.disk d (LeavesPrefix s (groups_of c.into_parts-trace.result.0) 0)) (sym c.into_parts-trace.ensures.disk)
    (subst (λ (gs : List (List Entry)). LeavesOnly g.D.Disk c.args.disk (disk_of last) (LeavesPrefix s gs 0)) (sym c.into_parts-trace.ensures.trace.groups)
    (run_moments g.D.Disk c.args.disk first last s each (c.in-Ok.ensures.reads honest).run (c.in-Ok.ensures.device.honesty.1 honest) c.in-Ok.ensures.works from c.take_steps-fault.ensures.advances))

pub returns-clause-stands : goal.returns-clause-stands
returns-clause-stands g c = λ honest s stands _ image may.
    let first = c.in-Ok.desk in
    let last = c.take_steps-fault.new.desk in
    let same : first.keeper.state ≡ s = c.images_stand_for_one.ensures (g.D.Disk.seen c.args.disk) first.keeper.state s (c.in-Ok.ensures.opened honest) stands in
    let from : IsFrom s first = first_from s first same c.in-Ok.ensures.first.0.groups c.in-Ok.ensures.first.1 in
    let run = c.take_steps-fault.ensures.advances in
    subst (λ (n : ℕ). LeavesPrefix s (groups_of c.into_parts-trace.result.0) n image) (sym c.into_parts-trace.ensures.trace.synced_is)
    (subst (λ (gs : List (List Entry)). LeavesPrefix s gs last.synced image) (sym c.into_parts-trace.ensures.trace.groups)
    (c.into_parts-trace.ensures.stands (run.honesty.1 (c.in-Ok.ensures.device.honesty.1 honest)) s (run.from s from) image (subst (λ d. g.D.Disk.may_leave d image) c.into_parts-trace.ensures.disk may)))

pub returns-clause-size : goal.returns-clause-size
returns-clause-size g c = c.into_parts-trace.ensures.size ∙ sym c.in-Ok.ensures.sized
