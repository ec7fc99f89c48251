-- The order of the lines.
use Rattle.std.proofs.Common.{◌≡◌}
use Rattle.std.specs.Ordering.{ordering_then}
use Rattle.std.specs.declared.cmp.Ordering.{Ordering}
use Rattle.std.specs.declared.cmp.Ordering.TheVariants.{Less, Equal, Greater}
use Rattle.std.specs.Cmp.{IsTotalOrder, on_total, then_total}
use Rattle.std.specs.FinMap.{IsAntisymmetric}
use Rattle.fe_waits.specs.Waiting.{pair_cmp, pair_cmp_total, pair_cmp-IsAntisymmetric}
use Rattle.fe_report.specs.Report.{spot_cmp}

pub spot_cmp_total : IsTotalOrder spot_cmp
spot_cmp_total = then_total (on_total (λ p. p.0) pair_cmp_total) (on_total (λ p. p.1) pair_cmp_total)

-- only equal spots tie
pub spot_cmp-IsAntisymmetric : IsAntisymmetric spot_cmp
spot_cmp-IsAntisymmetric a b e = by_first (pair_cmp a.0 b.0) (λ t. pair_cmp-IsAntisymmetric a.0 b.0 t) e
  where
    by_first : (o : Ordering) → (o ≡ Equal → a.0 ≡ b.0) → ordering_then o (pair_cmp a.1 b.1) ≡ Equal → a ≡ b
    by_first Less same e = cc
    by_first Equal same e = let second = pair_cmp-IsAntisymmetric a.1 b.1 e in λ i. (same (λ _. Equal) i, second i)
    by_first Greater same e = cc
