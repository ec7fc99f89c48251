use Rattle.std.proofs.Common.{◌≡◌, ◌∙◌, IsTrue, refl, sym, ap, rules}
use Rattle.std.specs.Prelude.{false}
use Rattle.fe_keeper.specs.Ends.{Works, Refuses, Fails, ForDeviceAndMemory}
use Rattle.fe_keeper.specs.Keeper.{KeeperState, can_begin}
use Rattle.fe_keeper.specs.declared.fault.Fault.{Fault}
use Rattle.fe_keeper.proofs.Ends.{device_told, told, memory_fails}
use Rattle.fe_keeper.proofs.Taking.{carries_durable, carries_rest}
use Rattle.fe_keeper.proofs.keeper.Keeper.checkpoint_begin.Goals as goal

pub returns-in_err-begin-clause-ends : goal.returns-in_err-begin-clause-ends
returns-in_err-begin-clause-ends g c =
    let old = c.args.self.now in
    let cause : IsTrue (can_begin old.store) = search rules in
    device_told g.D.Disk (ForDeviceAndMemory (IsTrue (can_begin old.store))) c.from_residual-in_err-begin.result c.in_err-begin.field-0.0 c.self.inside c.begin.new.self old c.self.view_is c.from_residual-in_err-begin.ensures.1
    (sym c.has_failed.ensures ∙ c.if-has_failed.false) c.in_err-begin.ensures.step.ends.outcome cause

pub returns-in_err-checkpoint-clause-ends : goal.returns-in_err-checkpoint-clause-ends
returns-in_err-checkpoint-clause-ends g c =
    let old = c.args.self.now in
    let inside = c.self.inside in
    let Cause : Fault → Type 0 = ForDeviceAndMemory (IsTrue (can_begin old.store)) in
    let fault : Fault = c.in_err-checkpoint.field-0.0 in
    let works : inside.store.journal.has_failed ≡ false = sym c.has_failed.ensures ∙ c.if-has_failed.false in
    let cause : IsTrue (can_begin old.store) = search rules in
    let none : Refuses old old = record { before = ap (λ (k : KeeperState g.row.D.Denot). k.store.has_failed) (sym c.self.view_is) ∙ works; same = refl } in
    told c.from_residual.result fault (Works g.D.Disk old old) (Fails g.D.Disk Cause old old) c.from_residual.ensures.1
    (memory_fails g.D.Disk Cause fault old old c.in_err-checkpoint.ensures.memory cause none)

pub returns-in_err-begin-clause-rests : goal.returns-in_err-begin-clause-rests
returns-in_err-begin-clause-rests g c =
    carries_rest g.D.Disk c.begin.result c.self.inside c.begin.new.self c.args.self.now c.self.invariant c.self.view_is
    (λ honest kept. c.begin.ensures.step.carries honest c.self.inside.state kept c.in_ok-checkpoint.ensures.image) c.begin.ensures.step.ends.honesty

pub returns-clause-rests : goal.returns-clause-rests
returns-clause-rests g c =
    carries_rest g.D.Disk c.begin.result c.self.inside c.begin.new.self c.args.self.now c.self.invariant c.self.view_is
    (λ honest kept. c.begin.ensures.step.carries honest c.self.inside.state kept c.in_ok-checkpoint.ensures.image) c.begin.ensures.step.ends.honesty

pub returns-clause-durable : goal.returns-clause-durable
returns-clause-durable g c =
    carries_durable g.D.Disk c.self.inside c.begin.new.self c.self.invariant (sym c.has_failed.ensures ∙ c.if-has_failed.false) c.begin.ensures.step.ends.honesty
    (λ honest kept. (c.in_ok-begin.ensures.step.carries honest c.self.inside.state kept c.in_ok-checkpoint.ensures.image).upheld)
