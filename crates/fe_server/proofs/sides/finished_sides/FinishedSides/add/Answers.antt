use Rattle.fe_server.proofs.Leavings.{joined_seat, one_more}
use Rattle.fe_server.proofs.sides.finished_sides.FinishedSides.add.Goals as goal

pub invariant_of-self : goal.invariant_of-self
invariant_of-self g c =
    let a = c.args in
    let old = c.self.inside in
    one_more old.calls old.mails c.join_to.new.all c.join_to-2.new.all old.receipts a.receipts.history c.learn.new.self.history old.transcripts a.transcripts a.calls a.mails a.self.now c.self.view_is c.self.invariant c.requires
    c.learn.ensures.history (joined_seat old.calls c.join_to.new.all c.into_seats.result a.calls.calls c.join_to.ensures c.into_seats.ensures)
    (joined_seat old.mails c.join_to-2.new.all c.into_seats-2.result a.mails.mails c.join_to-2.ensures c.into_seats-2.ensures)

pub invariant_of-self-in_err-add : goal.invariant_of-self-in_err-add
invariant_of-self-in_err-add g c =
    let a = c.args in
    let old = c.self.inside in
    one_more old.calls old.mails c.join_to.new.all c.join_to-2.new.all old.receipts a.receipts.history c.add.new.self.history old.transcripts a.transcripts a.calls a.mails a.self.now c.self.view_is c.self.invariant c.requires
    c.add.ensures.history (joined_seat old.calls c.join_to.new.all c.into_seats.result a.calls.calls c.join_to.ensures c.into_seats.ensures)
    (joined_seat old.mails c.join_to-2.new.all c.into_seats-2.result a.mails.mails c.join_to-2.ensures c.into_seats-2.ensures)

pub invariant_of-self-2 : goal.invariant_of-self-2
invariant_of-self-2 g c =
    let a = c.args in
    let old = c.self.inside in
    one_more old.calls old.mails c.join_to.new.all c.join_to-2.new.all old.receipts a.receipts.history c.add.new.self.history old.transcripts a.transcripts a.calls a.mails a.self.now c.self.view_is c.self.invariant c.requires
    c.add.ensures.history (joined_seat old.calls c.join_to.new.all c.into_seats.result a.calls.calls c.join_to.ensures c.into_seats.ensures)
    (joined_seat old.mails c.join_to-2.new.all c.into_seats-2.result a.mails.mails c.join_to-2.ensures c.into_seats-2.ensures)
