use Rattle.std.specs.Prelude.{◌≡◌, Result, Ok, Err, OnOk, OnErr}
use Rattle.std.proofs.Common.{refl, sym, ap, subst, ◌∙◌}
use Rattle.std.specs.FinMap.{get, insert, len}
use Rattle.fe_memory.specs.declared.OutOfMemory.{OutOfMemory}
use Rattle.fe_mail.specs.Books.{Balances}
use Rattle.fe_mail.specs.Connections.{mails_in, first_connection}
use Rattle.fe_mail.proofs.MailCounts.{mails_in-connect}
use Rattle.fe_front.specs.Front.{FrontState}
use Rattle.fe_front.specs.within.Inside.{IsSound}
use Rattle.fe_front.proofs.Agreement.{Agree, agree-connected}
use Rattle.fe_front.proofs.Ties.{quiet_sound}
use Rattle.fe_front.proofs.front.Front.connect.Goals as goal

pub invariant_of-self : goal.invariant_of-self
invariant_of-self c =
    by c.connect.result c.connect.ensures.connected c.connect.ensures.err
  where
    by : (r : Result (Unit {0}) OutOfMemory) → OnOk r (c.connect.new.self ≡ insert c.self.inside.connections c.args.conn first_connection) → OnErr r (c.connect.new.self ≡ c.self.inside.connections)
        → IsSound (record { service = c.self.inside.service; connections = c.connect.new.self; books = c.self.inside.books; durable = c.self.inside.durable; out = c.self.inside.out; spare = c.self.inside.spare })
    by (Ok x) is err =
        let old = c.self.inside in
        let absent = ap (λ (f : FrontState). get f.connections c.args.conn) c.self.view_is ∙ c.requires.unconnected in
        let mails = ap mails_in is ∙ mails_in-connect old.connections c.args.conn absent in
        quiet_sound old old.service c.connect.new.self old.books c.self.invariant refl refl
        (subst (λ m. Agree old.service.attachments m) (sym is) (agree-connected old.service.attachments old.connections c.self.invariant.tied.agree c.args.conn absent))
        (subst (λ n. Balances old.books (len old.service.waiting) n) (sym mails) c.self.invariant.tied.balance)
    by (Err error) ok is =
        let old = c.self.inside in
        subst IsSound
        (λ i. record { service = old.service; connections = sym is i; books = old.books; durable = old.durable; out = old.out; spare = old.spare })
        c.self.invariant
