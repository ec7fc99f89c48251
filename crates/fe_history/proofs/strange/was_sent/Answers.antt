use Rattle.std.proofs.Common.{rules}
use Rattle.std.proofs.lemmas.Iterator.{YieldsList-from_slice, cases_from_any}
use borrow.Author.Tests.{tests}
use Rattle.fe_history.specs.Receipts.{IsCalledBehind}
use Rattle.fe_history.proofs.Sent.{any_decided}
use Rattle.fe_history.proofs.strange.was_sent.Goals as goal

pub returns : goal.returns
returns c =
    any_decided (λ v. v.items) c.args.sent.now (λ messages. IsCalledBehind messages c.args.receipt.now.session c.args.receipt.now.number c.args.request.now) c.any.result
    (cases_from_any _ _ _ (λ v. IsCalledBehind v.items c.args.receipt.now.session c.args.receipt.now.number c.args.request.now) (λ v. IsCalledBehind v.items c.args.receipt.now.session c.args.receipt.now.number c.args.request.now → ⊥)
    c.any.ensures.ran (YieldsList-from_slice c.args.sent.now cc) (λ x q k. search (rules, tests)) (λ x q k. search (rules, tests)))
