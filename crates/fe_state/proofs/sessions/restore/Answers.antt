use Rattle.std.proofs.Common.{◌≡◌, ap, take, ◌∙◌}
use Rattle.std.specs.Ordering.{nat_cmp}
use Rattle.std.specs.FinMap.{FinMap, insert}
use Rattle.fe_state.specs.declared.kept.Kept.{Kept}
use Rattle.fe_state.specs.DroppedAnswers.{keeping_all, kept_again, AreDropped, MayLower}
use Rattle.fe_state.proofs.SessionLemmas.{kept_lowered}
use Rattle.fe_state.proofs.Undone.{at_some}
use Rattle.fe_state.proofs.sessions.restore.Goals as goal

pub returns-in-Settled : goal.returns-in-Settled
returns-in-Settled c =
    let there = c.get_mut-here.ensures.value in
    let dropped = c.args.log.now.dropped in
    let floor = c.in-Settled.floor in
    let answers = c.in-Settled.answers in
    let may = at_some (λ s. MayLower s floor × AreDropped floor answers dropped) _ _ (rw c.in-Settled.is at c.requires) there in
    let lowered = kept_lowered c.here.inside.cells c.here.inside.floor _ c.here.view_is floor may.0 in
    let again = ap (λ (m : FinMap nat_cmp Kept). keeping_all m (take answers dropped)) lowered in
    let here : c.keep_again.new.here ≡ kept_again c.get_mut-here.result.now floor answers dropped =
    λ i. record { floor = c.keep_again.ensures.floor i; kept = (c.keep_again.ensures.kept ∙ again) i } in
    rw (c.in-Settled.is, there) (ap (insert c.args.sessions.now c.args.undo.now.session) here)
