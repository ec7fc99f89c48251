-- What connections that have ended leave.
use Rattle.std.proofs.Common.{◌≡◌, ℕ, ◌+◌, Bool, Option, Some, None, List, [], ◌∷◌, ◌++◌, Err, refl, sym, ap, subst, ◌∙◌, arith}
use Rattle.std.specs.Prelude.{All, Contains, filter_map, sum_by}
use Rattle.std.proofs.lemmas.List.Elements.{All-nil, All-push, All-weaker, All-from_recursion}
use Rattle.std.proofs.lemmas.List.Sums.{sum_by-append}
use mathlib.Core.List.{IsPrefix}
use Rattle.fe_mail.specs.declared.mail.Mail.{Mail}
use Rattle.fe_wire.specs.declared.client_message.ClientMessage.{ClientMessage}
use Rattle.fe_history.specs.Acts.{AreIssued, GatheredReceipts}
use Rattle.fe_history.specs.Receipts.{receipt_of}
use Rattle.fe_history.specs.declared.act.Act.{Act}
use Rattle.fe_history.specs.declared.act.Act.TheVariants.{Issued}
use Rattle.fe_history.specs.declared.receipt.Receipt.{Receipt}
use Rattle.fe_history.proofs.Acts.{are_later, each_of}
use Rattle.fe_hall.specs.Audits.{Audited, IsAudit}
use Rattle.fe_hall.specs.Writes.{AreTaken}
use Rattle.fe_shared.specs.Seats.{CallSeatState, MailSeatState, Seats, first_mail_seat, one_seat}
use Rattle.fe_server.specs.Acknowledged.{HasTranscripts}
use Rattle.fe_server.specs.FinishedConnections.{joined_to}
use Rattle.fe_server.specs.Connections.{AnswersIssued, AreCounted, IsOfConnection}
use Rattle.fe_server.specs.within.Leavings.{AreWhole, ComesAfter, Leavings, amount_in}
use Rattle.fe_server.specs.declared.failed.Failed.{Failed}
use Rattle.fe_server.specs.declared.transcript.Transcript.{Transcript}
use Rattle.fe_server.proofs.Acknowledged.{contains_issued}

-- ---- the answers of a connection

-- each of them is in a later history
answers_issued : (xs ys : List Act) → IsPrefix xs ys → (t : Transcript) → AreIssued t.conn t.mails.value.taken xs → AnswersIssued ys t
answers_issued xs ys p t issued =
    All-from_recursion (λ r. Contains ys (Issued r)) (filter_map (receipt_of t.conn) t.mails.value.taken)
    (contains_issued ys (filter_map (receipt_of t.conn) t.mails.value.taken) (each_of t.conn t.mails.value.taken ys (are_later t.conn t.mails.value.taken xs ys p issued)))

-- a write side that began with a new seat took the mails that its seat has
pub taken_issued : (conn : ℕ) (first mails : MailSeatState) (receipts : List Receipt) (all : List Mail) (acts : List Act)
    → first ≡ first_mail_seat conn → AreTaken first mails receipts all → AreIssued first.conn all acts → AreIssued conn mails.taken acts
taken_issued conn first mails receipts all acts p taken issued =
    subst (λ (ms : List Mail). AreIssued conn ms acts) (sym (taken.taken ∙ ap (λ (s : MailSeatState). s.taken ++ all) p))
    (subst (λ (n : ℕ). AreIssued n all acts) (ap (λ (s : MailSeatState). s.conn) p) issued)

-- ---- all that connections leave

-- no connection has ended
pub none_whole : (history : List Act) → AreWhole None None history []
none_whole history = record {
  each = All-nil IsOfConnection;
  issued = All-nil (λ (t : Transcript). AreIssued t.conn t.mails.value.taken history);
  calls_counted = refl;
  mails_counted = refl;
}

amount_joined : (seats : Option Seats) (amount : ℕ) → amount_in (joined_to seats amount) ≡ amount_in seats + amount
amount_joined None amount = omega arith
amount_joined (Some all) amount = refl

-- the seat of one connection was added
pub joined_seat : (old new : Option Seats) (seat : Seats) (amount : ℕ) → new ≡ joined_to old seat.amount → seat ≡ one_seat amount → new ≡ joined_to old amount
joined_seat old new seat amount joined one = joined ∙ ap (λ (s : Seats). joined_to old s.amount) one

-- a seat was added, and the connection whose seat it is
one_counted : (f : Transcript → ℕ) (old new : Option Seats) (before after : List Transcript) (t : Transcript) (amount : ℕ) → amount_in old ≡ sum_by f before → new ≡ joined_to old amount
    → f t ≡ amount → after ≡ before ++ t ∷ [] → amount_in new ≡ sum_by f after
one_counted f old new before after t amount was joined same last =
    let here : sum_by f (t ∷ []) ≡ 0 + f t = refl in
    let more : sum_by f (before ++ t ∷ []) ≡ sum_by f before + sum_by f (t ∷ []) = sum_by-append f before (t ∷ []) in
    let sums : sum_by f after ≡ sum_by f before + (0 + f t) = ap (sum_by f) last ∙ more ∙ ap (λ (n : ℕ). sum_by f before + n) here in
    let amounts : amount_in new ≡ amount_in old + amount = ap amount_in joined ∙ amount_joined old amount in
    omega (arith, was, same, sums, amounts)

-- one more connection has ended
pub one_more : (calls mails new_calls new_mails : Option Seats) (receipts : GatheredReceipts) (one new : List Act) (before after : List Transcript) (call : CallSeatState) (mail : MailSeatState) (old : Leavings)
    → record { calls = calls; mails = mails; receipts = receipts; transcripts = before } ≡ old → AreWhole calls mails receipts.history before
    → ComesAfter old.transcripts call mail one after → IsPrefix receipts.history new × IsPrefix one new
    → new_calls ≡ joined_to calls call.calls → new_mails ≡ joined_to mails mail.mails → AreWhole new_calls new_mails new after
one_more calls mails new_calls new_mails receipts one new before after call mail old view whole comes goes more_calls more_mails =
    let t = comes.transcript in
    let seen = receipts.history in
    let last : after ≡ before ++ t ∷ [] = comes.is_last ∙ ap (λ (l : Leavings). l.transcripts ++ t ∷ []) (sym view) in
    let Is : Transcript → Type 0 = λ t. AreIssued t.conn t.mails.value.taken new in record {
      each = subst (λ (ts : List Transcript). All IsOfConnection ts) (sym last) (All-push IsOfConnection before t whole.each comes.of);
      issued =
          subst (λ (ts : List Transcript). All Is ts) (sym last)
          (All-push Is before t
          (All-weaker (λ (t : Transcript). AreIssued t.conn t.mails.value.taken seen) Is (λ t issued. are_later t.conn t.mails.value.taken seen new goes.0 issued) before whole.issued)
          (are_later t.conn t.mails.value.taken one new goes.1 comes.issued));
      calls_counted = one_counted (λ (t : Transcript). t.calls.value.calls) calls new_calls before after t call.calls whole.calls_counted more_calls (ap (λ (s : CallSeatState). s.calls) comes.same_calls) last;
      mails_counted = one_counted (λ (t : Transcript). t.mails.value.mails) mails new_mails before after t mail.mails whole.mails_counted more_mails (ap (λ (s : MailSeatState). s.mails) comes.same_mails) last;
    }

-- ---- at the end

-- the answers among the mails were issued in the account's history
pub all_issued : (calls mails : Option Seats) (seen history : List Act) (transcripts : List Transcript) → AreWhole calls mails seen transcripts → IsPrefix seen history
    → All (AnswersIssued history) transcripts
all_issued calls mails seen history transcripts whole p =
    All-weaker (λ (t : Transcript). AreIssued t.conn t.mails.value.taken seen) (AnswersIssued history) (λ t issued. answers_issued seen history p t issued) transcripts whole.issued

-- the books of these seats
pub all_counted : (calls mails : Seats) (all_calls all_mails : Option Seats) (seen : List Act) (transcripts : List Transcript) (sent : List (List ClientMessage)) (kept : Bool) (audit : Audited)
    → AreWhole all_calls all_mails seen transcripts → all_calls ≡ Some calls → all_mails ≡ Some mails → IsAudit calls mails sent kept audit → AreCounted transcripts audit.books
all_counted calls mails all_calls all_mails seen transcripts sent kept audit whole p q of =
    (of.booked_calls ∙ ap amount_in (sym p) ∙ whole.calls_counted, of.booked_mails ∙ ap amount_in (sym q) ∙ whole.mails_counted)

-- nothing was served
pub no_transcripts : {D : Type 0} (failed : Failed D) → failed.transcripts ≡ [] → HasTranscripts (Err failed)
no_transcripts failed none = record {
  each = subst (λ (ts : List Transcript). All IsOfConnection ts) (sym none) (All-nil IsOfConnection);
  issued = subst (λ (ts : List Transcript). All (AnswersIssued failed.account.history) ts) (sym none) (All-nil (AnswersIssued failed.account.history));
  counted = tt;
}
