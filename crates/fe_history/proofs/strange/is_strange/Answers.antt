use Rattle.std.proofs.Common.{◌≡◌, map, sym, ap, ◌∙◌, refl, arith}
use Rattle.std.specs.Option.{option_copied}
use Rattle.std.proofs.lemmas.Bool.{OnTrue_at, OnFalse_at}
use Rattle.fe_history.specs.Receipts.{IsStrange}
use Rattle.fe_history.proofs.BorneOut.{decided, borne_out}
use Rattle.fe_history.proofs.strange.is_strange.Goals as goal
use Rattle.fe_history.proofs.strange.is_strange.Goals.{then-receipt-place-via-then-receipt-place, then-receipt-place-via-else-receipt-place+then-keeps_other}

pub returns-then-receipt-place-clause-strange : goal.returns-then-receipt-place-clause-strange
returns-then-receipt-place-clause-strange c = (
  λ _. elim c.then-receipt-place.branch [
    | then-receipt-place-via-then-receipt-place w ↦ IsStrange.NotStored (omega (arith, c.place.ensures.place, w.if-receipt-place.true))
    | then-receipt-place-via-else-receipt-place+then-keeps_other w ↦
        let o = OnTrue_at w.if-keeps_other.true w.keeps_other.ensures.other in
        IsStrange.OtherKept o.0 o.1 o.2 o.3 o.4 o.5
  ],
  λ _. refl,
)

pub returns-then-kept-receipt-clause-strange : goal.returns-then-kept-receipt-clause-strange
returns-then-kept-receipt-clause-strange c = (λ _. IsStrange.EarlierKept c.in-Some.kept.now (sym c.kept.ensures ∙ ap option_copied c.in-Some.is) c.if-kept-receipt.true, λ _. refl)

pub returns-clause-strange : goal.returns-clause-strange
returns-clause-strange c =
    let r = c.args.receipt.now in
    let k = c.in-Some.kept.now in
    let keeps = sym c.kept.ensures ∙ ap option_copied c.in-Some.is in
    let at_place : k.place ≡ r.place = omega (arith, c.if-kept-receipt.false, c.if-kept-receipt-2.false) in
    decided c.args.state.now (map (λ v. v.items) c.args.sent.now) r c.is_missed.result
    (λ e. let m = OnTrue_at e c.is_missed.ensures.missed in IsStrange.NeverSent k keeps at_place m.0 m.1)
    (λ e. borne_out c.args.state.now (map (λ v. v.items) c.args.sent.now) r k keeps (omega (arith, c.place.ensures.place, c.if-receipt-place.false)) (OnFalse_at c.if-keeps_other.false c.keeps_other.ensures.none)
    (omega (arith, at_place)) (OnFalse_at e c.is_missed.ensures.sent))
