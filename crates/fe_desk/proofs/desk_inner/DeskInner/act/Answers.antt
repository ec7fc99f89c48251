use Rattle.std.proofs.Common.{IsTrue, is_some, refl, sym, ◌∙◌}
use Rattle.fe_keeper.specs.Ends.{ForDevice, ForDeviceAndMemory}
use Rattle.fe_keeper.specs.Keeper.{can_begin, has_slices}
use Rattle.fe_desk.specs.declared.step.Step.TheVariants as step
use Rattle.fe_desk.specs.within.Desk.{desk_of}
use Rattle.fe_desk.proofs.WithMail.{posts_not}
use Rattle.fe_desk.proofs.Acted.{act_at, act_still, act_short, act_bytes, act_append, act_check}
use Rattle.fe_desk.proofs.Stepping.{same_desk}
use Rattle.fe_desk.proofs.desk_inner.DeskInner.act.Goals as goal

pub returns-in-Err-clause-goes : goal.returns-in-Err-clause-goes
returns-in-Err-clause-goes g c =
    let e = c.connect.ensures in
    let h = c.in-Err.ensures in
    let same = same_desk (desk_of c.args.self.now) (desk_of c.connect.new.self) h.err e.stays.store.keeper e.stays.store.synced in
    act_at c.in-Connect.is (act_short {k = g.D.Disk} g.met.D.Disk.only_now c.requires.ready same (h.unconnected, same))

pub returns-in-Ok-clause-goes : goal.returns-in-Ok-clause-goes
returns-in-Ok-clause-goes g c =
    let e = c.connect.ensures in
    act_at c.in-Connect.is (act_still {k = g.D.Disk} g.met.D.Disk.only_now c.requires.ready e.stays c.in-Ok.ensures.connected e.stays.store.keeper)

pub returns-in-Bytes-clause-goes : goal.returns-in-Bytes-clause-goes
returns-in-Bytes-clause-goes g c = act_at c.in-Bytes.is (act_bytes c.in-Bytes.conn c.in-Bytes.piece c.as_slice.result.now c.as_slice.ensures.value c.bytes.ensures.goes)

pub returns-in-Gone-clause-goes : goal.returns-in-Gone-clause-goes
returns-in-Gone-clause-goes g c =
    let e = c.leave.ensures in
    act_at c.in-Gone.is (act_still {k = g.D.Disk} g.met.D.Disk.only_now c.requires.ready e.stays e.gone e.stays.store.keeper)

pub returns-in-Cut-clause-goes : goal.returns-in-Cut-clause-goes
returns-in-Cut-clause-goes g c =
    let e = c.cut.ensures in
    act_at c.in-Cut.is (act_still {k = g.D.Disk} g.met.D.Disk.only_now c.requires.ready e.stays e.cut e.stays.store.keeper)

pub returns-in-Append-clause-goes : goal.returns-in-Append-clause-goes
returns-in-Append-clause-goes g c = act_at c.in-Append.is (act_append c.desk_outcome.ensures c.store.ensures)

pub returns-in-Post-clause-goes : goal.returns-in-Post-clause-goes
returns-in-Post-clause-goes g c =
    let e = c.post.ensures in
    act_at c.in-Post.is (act_still {k = g.D.Disk} g.met.D.Disk.only_now c.requires.ready e.stays e.posted e.stays.store.keeper)

pub returns-in-CheckBegin : goal.returns-in-CheckBegin
returns-in-CheckBegin g c =
    let old = c.args.self.now in
    let e = c.checkpoint_begin.ensures in
    let goes =
    act_check step.CheckBegin (desk_of old) c.checkpoint_begin.new.self c.checkpoint_begin.result (ForDeviceAndMemory (IsTrue (can_begin old.keeper.store))) g.met.D.Disk.counts_now c.requires.ready e.rests
    refl e.store (λ can same. (can, same)) (λ place none. none) (λ breaks. breaks) c.desk_outcome-in-CheckBegin.ensures e.ends in
    record { places = c.requires.places; goes = act_at c.in-CheckBegin.is goes; changed = λ is. absurd (posts_not step.CheckBegin refl (sym c.in-CheckBegin.is ∙ is)) }

pub returns-in-CheckStep : goal.returns-in-CheckStep
returns-in-CheckStep g c =
    let old = c.args.self.now in
    let e = c.checkpoint_step.ensures in
    let goes =
    act_check step.CheckStep (desk_of old) c.checkpoint_step.new.self c.checkpoint_step.result (ForDevice (IsTrue (has_slices old.keeper.store.checkpoint))) g.met.D.Disk.counts_now c.requires.ready e.rests
    refl e.store (λ none same. absurd none) (λ place none. none) (λ breaks. breaks) c.desk_outcome-in-CheckStep.ensures e.ends in
    record { places = c.requires.places; goes = act_at c.in-CheckStep.is goes; changed = λ is. absurd (posts_not step.CheckStep refl (sym c.in-CheckStep.is ∙ is)) }

pub returns-in-CheckFinish : goal.returns-in-CheckFinish
returns-in-CheckFinish g c =
    let old = c.args.self.now in
    let e = c.checkpoint_finish.ensures in
    let goes =
    act_check step.CheckFinish (desk_of old) c.checkpoint_finish.new.self c.checkpoint_finish.result (ForDevice (IsTrue (is_some old.keeper.store.checkpoint))) g.met.D.Disk.counts_now c.requires.ready e.rests
    refl e.store (λ none same. absurd none) (λ place none. none) (λ breaks. breaks) c.desk_outcome-in-CheckFinish.ensures e.ends in
    record { places = c.requires.places; goes = act_at c.in-CheckFinish.is goes; changed = λ is. absurd (posts_not step.CheckFinish refl (sym c.in-CheckFinish.is ∙ is)) }
