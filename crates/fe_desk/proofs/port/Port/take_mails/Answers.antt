use Rattle.std.proofs.Common.{◌∙◌, ap}
use Rattle.fe_desk.specs.DeskRunState.{Client}
use Rattle.fe_desk.specs.within.Desk.{client_of}
use Rattle.fe_desk.proofs.Emptying.{fewer_after, on_any_err}
use Rattle.fe_desk.proofs.Writing.{none_yet, one_more, stops_here, stops_waiting, next_keeps}
use Rattle.fe_desk.proofs.port.Port.take_mails.Goals as goal

pub loop-mail-init : goal.loop-mail-init
loop-mail-init c = record {
  reply = ap (λ (x : Client). x.reply) c.in_ok-write_waiting.ensures.written;
  so_far = none_yet c.args.front.now (client_of c.args.self.now) (client_of c.write_waiting.new.self) c.in_ok-write_waiting.ensures.written;
}

pub loop-mail-smaller : goal.loop-mail-smaller
loop-mail-smaller c =
    fewer_after c.loop-mail.front c.next_mail.new.front c.loop-mail.self.conn c.write.new.self.conn c.in-Some.mail c.in-Some.ensures.mail c.next_mail.ensures.taken (ap (λ (x : Client). x.conn) c.in_ok-write.ensures.written)

pub loop-mail-preserved : goal.loop-mail-preserved
loop-mail-preserved c = record {
  reply = ap (λ (x : Client). x.reply) c.in_ok-write.ensures.written ∙ c.loop-mail.invariant.reply;
  so_far = one_more c.args.front.now (client_of c.args.self.now) c.loop-mail.front (client_of c.loop-mail.self) c.next_mail.new.front c.in-Some.mail c.of.result c.loop-mail.invariant.so_far c.in-Some.ensures.mail c.next_mail.ensures.taken c.of.ensures (client_of c.write.new.self) c.in_ok-write.ensures.written;
}

pub returns-in_err-write_waiting-clause-stops : goal.returns-in_err-write_waiting-clause-stops
returns-in_err-write_waiting-clause-stops c =
    on_any_err c.from_residual.result (stops_waiting c.args.front.now (client_of c.args.self.now) (client_of c.write_waiting.new.self) c.in_err-write_waiting.ensures.err c.in_err-write_waiting.ensures.waits)

pub returns-in_err-write-clause-stops : goal.returns-in_err-write-clause-stops
returns-in_err-write-clause-stops c =
    on_any_err c.from_residual-in_err-write.result
    (stops_here c.args.front.now (client_of c.args.self.now) c.loop-mail.front (client_of c.loop-mail.self) c.next_mail.new.front c.in-Some.mail c.of.result c.loop-mail.invariant.so_far c.in-Some.ensures.mail c.next_mail.ensures.taken c.of.ensures (client_of c.write.new.self) c.in_err-write.ensures.err)

pub returns-in_err-write-clause-front : goal.returns-in_err-write-clause-front
returns-in_err-write-clause-front c = next_keeps c.args.front.now (client_of c.args.self.now) c.loop-mail.front (client_of c.loop-mail.self) c.next_mail.new.front c.loop-mail.invariant.so_far c.next_mail.ensures.taken

pub returns-clause-front : goal.returns-clause-front
returns-clause-front c = next_keeps c.args.front.now (client_of c.args.self.now) c.loop-mail.front (client_of c.loop-mail.self) c.next_mail.new.front c.loop-mail.invariant.so_far c.next_mail.ensures.taken
