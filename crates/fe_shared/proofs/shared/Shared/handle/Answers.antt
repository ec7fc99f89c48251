use Rattle.std.proofs.Common.{sym, subst, arith, rules}
use Rattle.std.specs.Prelude.{IfSome, IsTrue}
use Rattle.fe_messages.specs.Taking.{Took}
use Rattle.fe_history.specs.Acts.{StandsIn}
use Rattle.fe_history.specs.Rules.{Hears}
use Rattle.fe_history.specs.declared.act.Act.TheVariants.{Asked}
use Rattle.fe_shared.specs.Seats.{takes_more}
use Rattle.fe_shared.proofs.Marks.{had_asked, heard_marked}
use Rattle.fe_shared.proofs.Risings.{takes_goes}
use Rattle.fe_shared.proofs.shared.Shared.handle.Goals as goal

pub hear-requires : goal.hear-requires
hear-requires g c =
    let s = c.self.inside in
    record {
      asked =
          subst (λ (t : Took). IfSome t.had (λ session. StandsIn s.history (Asked t.conn session))) (sym c.take_message-took.ensures.took)
          (had_asked s.front c.conn-conn.result s.posted s.history c.self.invariant.0);
    }

pub invariant_of-self-inside-2 : goal.invariant_of-self-inside-2
invariant_of-self-inside-2 g c =
    let s = c.self.inside in
    let t = c.take_message-took.ensures.taken in
    let more : IsTrue (takes_more s.front.books) = search rules in
    let goes = takes_goes s.front c.take_message-took.new.front c.conn-conn.result c.args.message.now t.0 c.state.ensures.front s.open more t.1 in
    (goes.books, (omega (arith, s.calls_agree, goes.calls, c.take.ensures.book), (omega (arith, s.mails_agree, goes.taken), (s.few, (s.call_parts, (s.mail_parts, tt))))))

pub invariant_of-self-2 : goal.invariant_of-self-2
invariant_of-self-2 g c =
    let s = c.self.inside in
    let t = c.take_message-took.ensures.taken in
    let heard = subst (λ (t : Took). Hears s.history t.conn t.had t.place t.message c.hear.new.self) c.take_message-took.ensures.took c.hear.ensures.heard in
    (heard_marked s.front c.take_message-took.new.front c.conn-conn.result c.args.message.now t.0 s.posted s.history c.hear.new.self heard c.shows_legal.ensures.legal t.2 t.1 c.self.invariant.0, c.self.invariant.1)
