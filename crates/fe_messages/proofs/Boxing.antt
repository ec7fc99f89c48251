-- What holds of each mail in a box still holds after a message, where it holds of the mails that messages make.
use Rattle.std.proofs.Common.{◌≡◌, ◌∙◌, inl, inr, ℕ, ◌<◌, Bool, true, false, List, Option, Some, None, refl, sym, ap, subst}
use Rattle.std.specs.Prelude.{nat_lt, if◌then◌else◌, Ok}
use Rattle.std.specs.Option.{option_map_or, option_map}
use Rattle.std.specs.FinMap.{get}
use Rattle.std.proofs.lemmas.Bool.{ltb-true}
use Rattle.fe_state.specs.declared.entry.Entry.{Entry}
use Rattle.fe_state.specs.declared.kept.Kept.{Kept}
use Rattle.fe_state.specs.declared.request.Request.{Request}
use Rattle.fe_service.specs.Service.{request_of}
use Rattle.fe_mail.specs.Books.{call_repeated}
use Rattle.fe_mail.specs.declared.mail.Mail.{Mail}
use Rattle.fe_mail.specs.declared.mail.Mail.TheVariants as mail
use Rattle.fe_mail.specs.declared.refusal.Refusal.{Refusal}
use Rattle.fe_wire.specs.declared.client_message.ClientMessage.{ClientMessage}
use Rattle.fe_wire.specs.declared.client_message.ClientMessage.TheVariants as message
use Rattle.fe_front.specs.Front.{FrontState}
use Rattle.fe_front.specs.Steps.{mailed, attached_to, settled_to, closed_by, cancelled_from}
use Rattle.fe_front.specs.Call.{Called, call_refused_by, kept_at, repeated, addressed, request_at}
use Rattle.fe_front.specs.declared.outcome.Outcome.{Outcome}
use Rattle.fe_front.specs.declared.outcome.Outcome.TheVariants as outcome
use Rattle.fe_messages.specs.Taking.{Takes}
use Rattle.fe_messages.proofs.Boxes.{AllIn, boxes-mailed, boxes-attached}

-- the front where a repeated call is booked
abbrev pub again : FrontState → FrontState
again f = record f { books = call_repeated f.books }

-- and the answer that is kept is mailed, if its entry is durable
abbrev pub sent_again : FrontState → ℕ → ℕ → ℕ → Kept → FrontState
sent_again f conn session number k = if nat_lt k.place f.durable then mailed (again f) conn (mail.Answer session number k.answer k.place) else again f

-- the mails that are made at once hold it, and so does an answer that is kept and durable, if its request is the message's
module _ (P : ℕ → Mail → Type 0) (refused : (conn number : ℕ) (r : Refusal) → P conn (mail.Refused number r)) (withdrawn : (conn number : ℕ) → P conn (mail.Withdrawn number))
    (report : (conn : ℕ) (text : List ℕ) → P conn (mail.Report text)) where
  abbrev Each : FrontState → Type 0
  Each f = AllIn P f.connections

  at_front : (f g : FrontState) → g ≡ f → Each f → Each g
  at_front f g is all = subst (λ (x : FrontState). Each x) (sym is) all

  each_mailed : (f g : FrontState) (conn : ℕ) (m : Mail) → g ≡ mailed f conn m → P conn m → Each f → Each g
  each_mailed f g conn m is such all = at_front (mailed f conn m) g is (boxes-mailed P f conn m such all)

  module _ (f : FrontState) (conn : ℕ) where
    -- Such is each answer that is kept and durable, if the message calls the very request that it was kept with, and the connection has
    -- its session.
    abbrev pub IsKeptSuch : ClientMessage → Type 0
    IsKeptSuch m = (session number : ℕ) (k : Kept) → m ≡ message.Call number k.request → addressed f conn number ≡ Ok session → kept_at f session number ≡ Some k → k.place < f.durable
        → P conn (mail.Answer session number k.answer k.place)

    -- what is kept for a number is kept with the request that the number belongs to
    known_kept : (session number : ℕ) (request : Request) (k : Kept) → request_at f session number ≡ Some request → kept_at f session number ≡ Some k → request ≡ k.request
    known_kept session number request k known is = by (sym known ∙ ap (λ (o : Option Kept). option_map_or (λ (k : Kept). Some k.request) o (option_map request_of (get f.service.waiting (session, number)))) is)
      where
        by : Some request ≡ Some k.request → request ≡ k.request
        by same = cc same

    each_repeated : (session number : ℕ) (request : Request) → IsKeptSuch (message.Call number request) → request_at f session number ≡ Some request → addressed f conn number ≡ Ok session → Each f
        → Each (repeated f conn session number)
    each_repeated session number request kept known to all = by (kept_at f session number) refl
      where
        sent : (k : Kept) → kept_at f session number ≡ Some k → (b : Bool) → nat_lt k.place f.durable ≡ b
            → Each (if b then mailed (again f) conn (mail.Answer session number k.answer k.place) else again f)
        sent k is true below =
            boxes-mailed P (again f) conn (mail.Answer session number k.answer k.place)
            (kept session number k (ap (λ (r : Request). message.Call number r) (known_kept session number request k known is)) to is (ltb-true k.place f.durable below)) all
        sent k is false below = all

        by : (o : Option Kept) → kept_at f session number ≡ o → Each (option_map_or (sent_again f conn session number) o (again f))
        by None is = all
        by (Some k) is = sent k is (nat_lt k.place f.durable) refl

    each_called : (g : FrontState) (session number : ℕ) (request : Request) (o : Outcome) (es : List Entry) → IsKeptSuch (message.Call number request) → addressed f conn number ≡ Ok session
        → Called f conn session number request o es g → Each f → Each g
    each_called g session number request (outcome.Completed n) es kept to r all = at_front _ g r.rest all
    each_called g session number request outcome.Waits es kept to r all = at_front _ g r.rest all
    each_called g session number request outcome.AlreadyWaiting es kept to r all = at_front (repeated f conn session number) g r.rest (each_repeated session number request kept r.known to all)
    each_called g session number request outcome.SentAgain es kept to r all = at_front (repeated f conn session number) g r.rest (each_repeated session number request kept r.known to all)
    each_called g session number request outcome.NotYetSynced es kept to r all = at_front (repeated f conn session number) g r.rest (each_repeated session number request kept r.known to all)

    pub message_boxes : (g : FrontState) (m : ClientMessage) (es : List Entry) → IsKeptSuch m → Takes f conn m es g → Each f → Each g
    message_boxes g (message.Attach session) es kept (inl step) all = at_front (attached_to f conn session) g step.1.front (boxes-attached P f conn session all)
    message_boxes g (message.Attach session) es kept (inr (r, why, told)) all = each_mailed f g conn (mail.Refused session r) told.front (refused conn session r) all
    message_boxes g (message.Call number request) es kept (inl (o, step)) all = each_called g step.0 number request o es kept step.1 step.2 all
    message_boxes g (message.Call number request) es kept (inr (r, why, told)) all = each_mailed (call_refused_by f) g conn (mail.Refused number r) told.front (refused conn number r) all
    message_boxes g (message.Cancel number) es kept (inl step) all = each_mailed (cancelled_from f step.0 number) g conn (mail.Withdrawn number) step.2.front (withdrawn conn number) all
    message_boxes g (message.Cancel number) es kept (inr (r, why, told)) all = each_mailed f g conn (mail.Refused number r) told.front (refused conn number r) all
    message_boxes g (message.Settle floor) es kept (inl step) all = at_front (settled_to f step.0 floor) g step.2.front all
    message_boxes g (message.Settle floor) es kept (inr (r, why, told)) all = each_mailed f g conn (mail.Refused floor r) told.front (refused conn floor r) all
    message_boxes g message.Bye es kept (inl step) all = at_front (closed_by f step.0) g step.2.front all
    message_boxes g message.Bye es kept (inr (r, why, told)) all = each_mailed f g conn (mail.Refused 0 r) told.front (refused conn 0 r) all
    message_boxes g message.Report es kept (inl step) all = each_mailed f g conn _ step.1.front (report conn _) all
    message_boxes g message.Report es kept (inr told) all = each_mailed f g conn _ told.front (refused conn 0 _) all
