use Rattle.std.proofs.Common.{[], ◌∷◌, refl, sym, ap, subst, ◌∙◌, arith}
use Rattle.std.proofs.lemmas.List.{append-nil}
use Rattle.fe_shared.specs.Marks.{TakingIssued}
use Rattle.fe_shared.specs.Seats.{taking_answered}
use Rattle.fe_shared.specs.declared.taking.Taking.{Taking}
use Rattle.fe_history.proofs.Acts.{prefix_self}
use Rattle.fe_hall.proofs.Written.{takes_same, takes_one, takes_end, spelled_one, lacks_one}
use Rattle.fe_hall.proofs.writing.Writing.take_mail.Goals as goal

pub returns-in-Err-clause-took : goal.returns-in-Err-clause-took
returns-in-Err-clause-took g c =
    let s = c.args.self.now in
    let takes = takes_same s.seat s.seat s.receipts.list.items c.reserve.new.self.list.items s.receipts.few (record { conn = refl; mails = refl; taken = refl }) c.reserve.ensures.items in
    ([], takes, omega arith, lacks_one s.frames.items s.frames.items [] (omega arith) refl, (prefix_self s.history, tt))

pub returns-in-Gone-clause-took : goal.returns-in-Gone-clause-took
returns-in-Gone-clause-took g c =
    let s = c.args.self.now in
    let look = c.take_mail-taking in
    let told = look.ensures.seat ∙ ap (λ (t : Taking). taking_answered s.seat t) c.in-Gone.is in
    ([], takes_end s.seat look.new.seat _ s.receipts.list.items c.reserve.new.self.list.items s.receipts.few c.reserve.ensures.items told, omega arith, sym (append-nil s.frames.items), (look.ensures.this, tt))

pub returns-in-Stopped-clause-took : goal.returns-in-Stopped-clause-took
returns-in-Stopped-clause-took g c =
    let s = c.args.self.now in
    let look = c.take_mail-taking in
    let told = look.ensures.seat ∙ ap (λ (t : Taking). taking_answered s.seat t) c.in-Stopped.is in
    ([], takes_end s.seat look.new.seat _ s.receipts.list.items c.reserve.new.self.list.items s.receipts.few c.reserve.ensures.items told, omega arith, sym (append-nil s.frames.items), (look.ensures.this, tt))

pub returns-in-Spent-clause-took : goal.returns-in-Spent-clause-took
returns-in-Spent-clause-took g c =
    let s = c.args.self.now in
    let look = c.take_mail-taking in
    let told = look.ensures.seat ∙ ap (λ (t : Taking). taking_answered s.seat t) c.in-Spent.is in
    ([], takes_end s.seat look.new.seat _ s.receipts.list.items c.reserve.new.self.list.items s.receipts.few c.reserve.ensures.items told, omega arith, sym (append-nil s.frames.items), (look.ensures.this, tt))

pub returns-in-Ok-clause-took : goal.returns-in-Ok-clause-took
returns-in-Ok-clause-took g c =
    let s = c.args.self.now in
    let look = c.take_mail-taking in
    let m = c.in-Mail.mail in
    let takes =
    takes_one s.seat look.new.seat look.result s.receipts.list.items c.reserve.new.self.list.items c.keep.new.self.list.items m c.in-Mail.more _
    c.reserve.ensures.items look.ensures.seat c.in-Mail.is c.conn.ensures c.keep.ensures in
    let issued = subst (λ (t : Taking). TakingIssued s.seat.conn t look.new.history) c.in-Mail.is look.ensures.issued in
    (m ∷ [], takes, omega arith, spelled_one s.frames.items s.frames.items c.put-2.new.out.items m c.of.result refl c.of.ensures c.in-Ok.ensures.ok, (look.ensures.this, (issued, tt)))

pub returns-clause-took : goal.returns-clause-took
returns-clause-took g c =
    let s = c.args.self.now in
    let look = c.take_mail-taking in
    let m = c.in-Mail.mail in
    let takes =
    takes_one s.seat look.new.seat look.result s.receipts.list.items c.reserve.new.self.list.items c.keep.new.self.list.items m c.in-Mail.more _
    c.reserve.ensures.items look.ensures.seat c.in-Mail.is c.conn.ensures c.keep.ensures in
    let issued = subst (λ (t : Taking). TakingIssued s.seat.conn t look.new.history) c.in-Mail.is look.ensures.issued in
    (m ∷ [], takes, omega arith, lacks_one s.frames.items c.put-2.new.out.items (m ∷ []) (omega arith) c.in-Err-put.ensures.err, (look.ensures.this, (issued, tt)))
