use Rattle.std.proofs.Common.{◌≡◌, ℕ, inl, inr, sym, subst, arith}
use Rattle.std.proofs.lemmas.Bool.{cases_lt}
use Rattle.std.specs.Prelude.{slice_index}
use Rattle.fe_store.specs.Spare.{IsSpareAt}
use Rattle.fe_store.proofs.fresh.is_spare.Goals as goal

pub loop-at-preserved : goal.loop-at-preserved
loop-at-preserved c = λ k low. elim (cases_lt k c.loop-at.at) [
  | inl before ↦ c.loop-at.invariant k before
  | inr past ↦
      let here : k ≡ c.loop-at.at = omega (arith, low, past) in
      subst (λ (n : ℕ). IsSpareAt c.args.others.now n (slice_index c.args.bytes.now n)) (sym here) (c.is_spare_at.ensures.0 c.if-not-is_spare_at.false)
]
