use Rattle.std.proofs.Common.{◌≡◌, rules, arith}
use Rattle.std.proofs.lemmas.Iterator.{YieldsList-from_slice, IsFirst-from_position}
use Rattle.std.proofs.lemmas.Option.{MatchOption-at_some, MatchOption-at_none}
use borrow.Author.Tests.{tests}
use Rattle.fe_wire.specs.declared.client_message.ClientMessage.TheVariants.{Attach}
use Rattle.fe_history.proofs.Sent.{decided, unattached}
use Rattle.fe_history.proofs.strange.is_called_behind.Goals as goal

pub returns-in-Some : goal.returns-in-Some
returns-in-Some c =
    let xs = c.args.messages.now in
    let first = MatchOption-at_some _ _ c.in-Some.at c.in-Some.is (IsFirst-from_position _ _ c.position.result (λ x. x ≡ Attach c.args.session) (λ x. x ≡ Attach c.args.session → ⊥) c.position.ensures.ran (YieldsList-from_slice xs cc) (λ x q k. search (rules, tests)) (λ x q k. search (rules, tests))) in
    decided xs c.args.session c.args.number c.args.request.now c.in-Some.at first.0 first.1 first.2 c.has_call.result _ c.has_call.ensures (omega arith)

pub returns-in-None : goal.returns-in-None
returns-in-None c =
    let xs = c.args.messages.now in
    unattached xs c.args.session c.args.number c.args.request.now
    (MatchOption-at_none _ _ c.in-None.is (IsFirst-from_position _ _ c.position.result (λ x. x ≡ Attach c.args.session) (λ x. x ≡ Attach c.args.session → ⊥) c.position.ensures.ran (YieldsList-from_slice xs cc) (λ x q k. search (rules, tests)) (λ x q k. search (rules, tests))))
