use Rattle.std.proofs.Common.{◌≡◌, ℕ, refl, ap, ◌∙◌, nat_le, arith}
use Rattle.std.specs.Ordering.{nat_cmp}
use Rattle.std.specs.FinMap.{FinMap, remove, retain_keys}
use Rattle.fe_state.specs.declared.kept.Kept.{Kept}
use Rattle.fe_state.specs.Sessions.{Session}
use Rattle.fe_state.proofs.SessionLemmas.{kept_from_floor, kept_raised, raised_next}
use Rattle.fe_state.proofs.session.Session.raise.Goals as goal

pub loop-number-init : goal.loop-number-init
loop-number-init c = record {
  floor = refl;
  kept = kept_from_floor c.self.inside.cells c.self.inside.floor _ c.self.view_is;
}

pub loop-number-preserved : goal.loop-number-preserved
loop-number-preserved c = record {
  floor = ap (λ (x : Session). x.floor) c.forget.ensures ∙ c.loop-number.invariant.floor;
  kept = ap (λ (x : Session). x.kept) c.forget.ensures
      ∙ ap (λ (m : FinMap nat_cmp Kept). remove m c.loop-number.number) c.loop-number.invariant.kept
      ∙ raised_next c.args.self.now.kept c.loop-number.number;
}

pub returns : goal.returns
returns c =
    let from : c.self.inside.floor ≡ c.args.self.now.floor = ap (λ (x : Session). x.floor) c.self.view_is in
    let at_end : c.loop-number.number ≡ c.args.floor = omega arith in
    kept_raised c.self-2.inside.cells c.self-2.inside.floor _ c.self-2.view_is c.args.self.now c.args.floor (omega arith) (omega arith)
    (c.loop-number.invariant.kept ∙ ap (λ (n : ℕ). retain_keys c.args.self.now.kept (nat_le n)) at_end)
