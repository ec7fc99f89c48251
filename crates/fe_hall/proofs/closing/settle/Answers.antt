use Rattle.std.proofs.Common.{◌≡◌, ◌∙◌, Bool, true, refl, sym, subst, true≢false, rules}
use Rattle.std.specs.Prelude.{MatchBool}
use Rattle.fe_history.proofs.BorneOut.{one_strange, all_borne_out, none_is}
use Rattle.fe_history.specs.Acts.{HasMore, stores_in}
use Rattle.fe_hall.proofs.closing.settle.Goals as goal

pub returns-in-Some-strange-clause-refused : goal.returns-in-Some-strange-clause-refused
returns-in-Some-strange-clause-refused g c = λ _. (
  λ _. one_strange c.args.state.now c.args.state.now c.as_slice.result.now c.args.sent.items c.receipts.result.now c.args.receipts.items (λ v. v.items) refl c.as_slice.ensures.value (c.receipts.ensures ∙ c.of-account.ensures.same_receipts ∙ c.into_items.ensures) c.in-Some-strange.place c.in-Some-strange.ensures.some,
  λ _. refl,
)

pub returns-in-None-clause-borne_out : goal.returns-in-None-clause-borne_out
returns-in-None-clause-borne_out g c =
    all_borne_out c.args.state.now c.args.state.now c.as_slice.result.now c.args.sent.items c.receipts.result.now c.of-account.result.receipts (λ v. v.items) refl c.as_slice.ensures.value c.receipts.ensures c.in-None.ensures.none

pub returns-in-None-clause-refused : goal.returns-in-None-clause-refused
returns-in-None-clause-refused g c = λ _. (
  λ err. absurd (true≢false (sym err)),
  λ one. absurd (none_is c.args.state.now c.args.state.now c.as_slice.result.now c.args.sent.items c.receipts.result.now c.args.receipts.items (λ v. v.items) refl c.as_slice.ensures.value (c.receipts.ensures ∙ c.of-account.ensures.same_receipts ∙ c.into_items.ensures) c.in-None.ensures.none one),
)

pub returns-in-None-clause-leaves : goal.returns-in-None-clause-leaves
returns-in-None-clause-leaves g c =
    let e = c.of-account.ensures in
    let a = c.of-account.result in
    let alone : a.own ≡ true = search rules in
    record {
      same_receipts = e.same_receipts ∙ c.into_items.ensures;
      this = e.this;
      that = e.that;
      legal = e.legal;
      own = subst (λ (b : Bool). MatchBool b (stores_in a.history ≡ stores_in c.args.seat) (HasMore (stores_in c.args.seat) (stores_in a.history))) alone e.own;
    }
