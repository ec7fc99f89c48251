use Rattle.std.proofs.Common.{refl, sym, ◌∙◌, subst}
use Rattle.fe_waits.specs.declared.row.Row.{Row}
use Rattle.fe_waits.specs.Waiting.{IsOn, waiting_access_of}
use Rattle.fe_waits.proofs.MemberLemmas.{some_same}
use Rattle.fe_service.proofs.RequestLemmas.{request-on, none-on_word, none-on_word_back}
use Rattle.fe_service.proofs.attachments.Attachments.first_on.Goals as goal

pub returns-in_err-node-clause-none : goal.returns-in_err-node-clause-none
returns-in_err-node-clause-none c =
    rw (c.from_residual.ensures, ← c.self.view_is) (λ _. none-on_word _ _ c.self.invariant.agree _ c.self.invariant.owned c.args.array c.args.index (c.in_err-node.ensures.none.0 refl), λ _. refl)

pub returns-clause-on_word : goal.returns-clause-on_word
returns-clause-on_word c =
    let on = c.in_ok-node.ensures.on_word in
    let same = some_same (sym on.1 ∙ c.row-row.ensures.row) in
    let owner = rw c.deref.ensures.value at c.owner.ensures in
    rw (c.of.ensures, ← c.self.view_is)
    (request-on _ _ _ _ _ c.self.invariant _ _ c.row-row.ensures.row c.row-row.ensures.member _ _ _ owner (subst (λ (row : Row). IsOn (waiting_access_of row) c.args.array c.args.index) same on.2))

pub returns-clause-none : goal.returns-clause-none
returns-clause-none c =
    rw (← c.self.view_is) (
      λ is. none-on_word _ _ c.self.invariant.agree _ c.self.invariant.owned c.args.array c.args.index (c.in_ok-node.ensures.none.0 is),
      λ none. c.in_ok-node.ensures.none.1 (none-on_word_back _ _ c.self.invariant.agree _ c.self.invariant.owned c.args.array c.args.index none),
    )
