use Rattle.std.proofs.Common.{◌≡◌, rules}
use Rattle.std.proofs.lemmas.Iterator.{YieldsList-from_slice, cases_from_any}
use borrow.Author.Tests.{tests}
use Rattle.fe_wire.specs.declared.client_message.ClientMessage.TheVariants.{Call}
use Rattle.fe_history.proofs.Sent.{any_holds}
use Rattle.fe_history.proofs.strange.has_call.Goals as goal

pub returns : goal.returns
returns c =
    any_holds (λ x. x ≡ Call c.args.number c.args.request.now) c.args.messages.now c.any.result
    (cases_from_any _ _ c.any.result (λ x. x ≡ Call c.args.number c.args.request.now) (λ x. x ≡ Call c.args.number c.args.request.now → ⊥) c.any.ensures.ran (YieldsList-from_slice c.args.messages.now cc) (λ x q k. search (rules, tests)) (λ x q k. search (rules, tests)))
