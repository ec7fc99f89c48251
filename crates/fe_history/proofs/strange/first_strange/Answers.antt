use Rattle.std.proofs.Common.{map, refl, subst, arith}
use Rattle.std.specs.Prelude.{All}
use Rattle.std.proofs.lemmas.Bool.{OnFalse_at}
use Rattle.std.proofs.lemmas.List.{take_all}
use Rattle.std.proofs.lemmas.List.Elements.{All-more}
use Rattle.std.proofs.lemmas.Option.{slice_get-get_or}
use Rattle.fe_history.specs.Receipts.{IsBorneOut}
use Rattle.fe_history.proofs.strange.first_strange.Goals as goal

pub returns-then-is_strange-clause-some : goal.returns-then-is_strange-clause-some
returns-then-is_strange-clause-some c = record {
  at = c.loop-receipt.receipt-index;
  receipt = _;
  is_there = slice_get-get_or c.args.receipts.now c.loop-receipt.receipt-index _ c.loop-receipt-test.true;
  before = c.loop-receipt.invariant;
  strange = c.is_strange.ensures.strange.0 c.if-is_strange.true;
  place_is = refl;
}

pub loop-receipt-preserved : goal.loop-receipt-preserved
loop-receipt-preserved c =
    All-more (IsBorneOut c.args.state.now (map (λ v. v.items) c.args.sent.now)) c.args.receipts.now c.loop-receipt.receipt-index _ c.loop-receipt-test.true c.loop-receipt.invariant
    (OnFalse_at c.if-is_strange.false c.is_strange.ensures.borne_out)

pub returns-clause-none : goal.returns-clause-none
returns-clause-none c =
    subst (λ rs. All (IsBorneOut c.args.state.now (map (λ v. v.items) c.args.sent.now)) rs) (take_all c.loop-receipt.receipt-index c.args.receipts.now (omega (arith, c.loop-receipt-test.false))) c.loop-receipt.invariant
