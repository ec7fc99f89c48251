use Rattle.std.proofs.Common.{◌≡◌, ◌++◌, refl, sym, ap, ◌∙◌, arith, append-nil}
use Rattle.std.specs.Prelude.{vec_capacity}
use Rattle.std.specs.Ordering.{nat_cmp}
use Rattle.std.specs.FinMap.{FinMap, get, remove}
use Rattle.fe_table.proofs.TableLemmas.{remove_absent}
use Rattle.fe_state.specs.declared.kept.Kept.{Kept}
use Rattle.fe_state.specs.DroppedAnswers.{answer_at}
use Rattle.fe_state.specs.Sessions.{Session, forgetting}
use Rattle.fe_state.proofs.DroppedLemmas.{none_dropped, one_dropped}
use Rattle.fe_state.proofs.SessionLemmas.{kept_from_floor, kept_in_window, raised_next}
use Rattle.fe_state.proofs.session.Session.drop_below.Goals.{in-Some, in_default}
use Rattle.fe_state.proofs.session.Session.drop_below.Goals as goal

pub loop-number-init : goal.loop-number-init
loop-number-init c = record {
  floor = refl;
  kept = kept_from_floor c.self.inside.cells c.self.inside.floor _ c.self.view_is;
  in_window = kept_in_window c.self.inside.cells c.self.inside.floor _ c.self.view_is;
  dropped = none_dropped _ _ _ _ (sym (ap (λ (x : Session). x.floor) c.self.view_is));
  capacity = refl;
}

pub loop-number-preserved : goal.loop-number-preserved
loop-number-preserved c =
    let from : c.self.inside.floor ≡ c.args.self.now.floor = ap (λ (x : Session). x.floor) c.self.view_is in
    let old = c.loop-number.self in
    let items = c.loop-number.dropped.items in
    let number = c.loop-number.number in
    let found = sym c.kept.ensures.kept ∙ sym c.copied.ensures in
    let step : (c.match-copied.self ≡ forgetting old number)
    × ((c.match-copied.dropped.items ≡ items ++ answer_at number (get old.kept number))
    × (vec_capacity c.match-copied.dropped ≡ vec_capacity c.loop-number.dropped)) =
    elim c.match-copied.branch [
      | in-Some w ↦ let here = found ∙ w.in-Some.is in (
        w.self-is ∙ w.forget.ensures,
        (rw (w.dropped-is, here) w.push_reserved.ensures.items, ap vec_capacity w.dropped-is ∙ w.push_reserved.ensures.capacity),
      )
      | in_default w ↦ let none = found ∙ w.in_default.is in (
        w.self-is ∙ ap (λ (m : FinMap nat_cmp Kept). let s : Session = record { floor = old.floor; kept = m } in s) (remove_absent old.kept number none),
        (rw (w.dropped-is, none) (sym (append-nil items)), ap vec_capacity w.dropped-is),
      )
    ] in
    let kept = ap (λ (x : Session). x.kept) step.0 in
    record {
      floor = ap (λ (x : Session). x.floor) step.0 ∙ c.loop-number.invariant.floor;
      kept = kept
          ∙ ap (λ (m : FinMap nat_cmp Kept). remove m number) c.loop-number.invariant.kept
          ∙ raised_next c.args.self.now.kept number;
      in_window = c.loop-number.invariant.in_window;
      dropped = rw kept (one_dropped _ _ _ _ _ _ _ (omega arith) (omega arith) step.1.0 c.loop-number.invariant.dropped);
      capacity = step.1.1 ∙ c.loop-number.invariant.capacity;
    }
