use Rattle.std.proofs.Common.{◌≡◌, map, refl, sym, subst, true≢false}
use Rattle.std.specs.Prelude.{Any}
use Rattle.fe_state.specs.State.{ServerState}
use Rattle.fe_history.specs.Receipts.{IsStrange, IsFirstStrange}
use Rattle.fe_hall.specs.declared.closing.Unclosed.TheVariants.{StrangeReceipt}
use Rattle.fe_history.proofs.BorneOut.{all_as, none_strange}
use Rattle.fe_hall.proofs.closing.close.Goals as goal

pub returns-in-Ok-clause-receipts : goal.returns-in-Ok-clause-receipts
returns-in-Ok-clause-receipts g c =
    let e = c.in-Ok.ensures in
    all_as c.state.result.now c.args.keeper.state c.in-Ok.audit.sent (map (λ v. v.items) c.args.sent.items) c.in-Ok.audit.receipts c.args.receipts.items c.state.ensures.state e.audit.lists e.leaves.same_receipts e.borne_out

pub returns-in-Ok-clause-refused : goal.returns-in-Ok-clause-refused
returns-in-Ok-clause-refused g c = λ _. (
  λ err. absurd (true≢false (sym err)),
  λ one. absurd (none_strange c.args.keeper.state (map (λ v. v.items) c.args.sent.items) c.args.receipts.items (returns-in-Ok-clause-receipts g c) one),
)

pub returns-in-Err-clause-strange : goal.returns-in-Err-clause-strange
returns-in-Err-clause-strange g c = λ place is.
    let why : c.in-Err.unclosed ≡ StrangeReceipt place = cc is in
    subst (λ (s : ServerState). IsFirstStrange s (map (λ v. v.items) c.args.sent.items) c.args.receipts.items place) c.state.ensures.state
    (c.in-Err.ensures.strange place why)

pub returns-in-Err-clause-refused : goal.returns-in-Err-clause-refused
returns-in-Err-clause-refused g c = λ other.
    let here = c.in-Err.ensures.refused other in (
      λ err. subst (λ (s : ServerState). Any (IsStrange s (map (λ v. v.items) c.args.sent.items)) c.args.receipts.items) c.state.ensures.state (here.0 err),
      λ one. refl,
    )
