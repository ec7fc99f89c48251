use Rattle.std.proofs.Common.{sym, subst}
use Rattle.fe_wire.specs.declared.client_message.ClientMessage.{ClientMessage}
use Rattle.fe_messages.proofs.Entering.{Taken, attach_taken, attach_refused, call_taken, call_refused, cancel_taken, cancel_refused, settle_taken, settle_refused, bye_taken, bye_refused}
use Rattle.fe_messages.proofs.taking.hand_over.Goals as goal

pub returns-in-Err-clause-taken : goal.returns-in-Err-clause-taken
returns-in-Err-clause-taken c =
    let f = c.args.front.now in let k = c.mail_refusal.new.self in
    subst (λ (m : ClientMessage). Taken f c.args.conn m k) (sym c.in-Attach.is)
    (attach_refused f c.attach.new.self k c.args.conn c.attach.result c.in-Err.refusal c.in-Err.is c.in-Attach.session c.attach.ensures.attached c.mail_refusal.ensures)

pub returns-in_default-clause-taken : goal.returns-in_default-clause-taken
returns-in_default-clause-taken c =
    let f = c.args.front.now in let g = c.attach.new.self in
    subst (λ (m : ClientMessage). Taken f c.args.conn m g) (sym c.in-Attach.is)
    (attach_taken f g g c.args.conn c.state.ensures.front c.state.ensures.limits c.in-Attach.session c.attach.result c.attach.ensures.attached c.in_default.field-0 c.in_default.is)

pub returns-in-Ok-clause-taken : goal.returns-in-Ok-clause-taken
returns-in-Ok-clause-taken c =
    let f = c.args.front.now in let g = c.call.new.self in
    subst (λ (m : ClientMessage). Taken f c.args.conn m g) (sym c.in-Call.is)
    (call_taken f g g c.args.conn c.state.ensures.front c.state.ensures.limits c.in-Call.number c.in-Call.request c.in-Ok.call.outcome c.in-Ok.ensures.step)

pub returns-in-Err-call-clause-taken : goal.returns-in-Err-call-clause-taken
returns-in-Err-call-clause-taken c =
    let f = c.args.front.now in let k = c.refuse.new.front in
    subst (λ (m : ClientMessage). Taken f c.args.conn m k) (sym c.in-Call.is)
    (call_refused f c.call.new.self k c.args.conn c.in-Call.number c.in-Call.request c.in-Err-call.refusal c.in-Err-call.ensures.refusal c.in-Err-call.ensures.err c.refuse.ensures.mailed)

pub returns-in-Ok-cancel-clause-taken : goal.returns-in-Ok-cancel-clause-taken
returns-in-Ok-cancel-clause-taken c =
    let f = c.args.front.now in let g = c.cancel.new.self in
    subst (λ (m : ClientMessage). Taken f c.args.conn m g) (sym c.in-Cancel.is)
    (cancel_taken f g g c.args.conn c.in-Cancel.number c.cancel.result c.cancel.ensures.cancelled c.in-Ok-cancel.session c.in-Ok-cancel.is)

pub returns-in-Err-cancel-clause-taken : goal.returns-in-Err-cancel-clause-taken
returns-in-Err-cancel-clause-taken c =
    let f = c.args.front.now in let k = c.refuse-in-Err-cancel.new.front in
    subst (λ (m : ClientMessage). Taken f c.args.conn m k) (sym c.in-Cancel.is)
    (cancel_refused f c.cancel.new.self k c.args.conn c.cancel.result c.in-Err-cancel.refusal c.in-Err-cancel.is c.in-Cancel.number c.cancel.ensures.cancelled c.refuse-in-Err-cancel.ensures.mailed)

pub returns-in-Ok-settle-clause-taken : goal.returns-in-Ok-settle-clause-taken
returns-in-Ok-settle-clause-taken c =
    let f = c.args.front.now in let g = c.settle.new.self in
    subst (λ (m : ClientMessage). Taken f c.args.conn m g) (sym c.in-Settle.is)
    (settle_taken f g g c.args.conn c.state.ensures.front c.state.ensures.limits c.in-Settle.floor c.settle.result c.settle.ensures.settled c.in-Ok-settle.session c.in-Ok-settle.is)

pub returns-in-Err-settle-clause-taken : goal.returns-in-Err-settle-clause-taken
returns-in-Err-settle-clause-taken c =
    let f = c.args.front.now in let k = c.refuse-in-Err-settle.new.front in
    subst (λ (m : ClientMessage). Taken f c.args.conn m k) (sym c.in-Settle.is)
    (settle_refused f c.settle.new.self k c.args.conn c.settle.result c.in-Err-settle.refusal c.in-Err-settle.is c.in-Settle.floor c.settle.ensures.settled c.refuse-in-Err-settle.ensures.mailed)

pub returns-in-Ok-bye-clause-taken : goal.returns-in-Ok-bye-clause-taken
returns-in-Ok-bye-clause-taken c =
    let f = c.args.front.now in let g = c.bye.new.self in
    subst (λ (m : ClientMessage). Taken f c.args.conn m g) (sym c.in-Bye.is)
    (bye_taken f g g c.args.conn c.state.ensures.front c.state.ensures.limits c.bye.result c.bye.ensures.closed c.in-Ok-bye.session c.in-Ok-bye.is)

pub returns-in-Err-bye-clause-taken : goal.returns-in-Err-bye-clause-taken
returns-in-Err-bye-clause-taken c =
    let f = c.args.front.now in let k = c.refuse-in-Err-bye.new.front in
    subst (λ (m : ClientMessage). Taken f c.args.conn m k) (sym c.in-Bye.is)
    (bye_refused f c.bye.new.self k c.args.conn c.bye.result c.in-Err-bye.refusal c.in-Err-bye.is c.bye.ensures.closed c.refuse-in-Err-bye.ensures.mailed)
