-- The entries that a message of a connection makes are answered, whether they are legal or not; and its mails are on the groups that
-- were stored.
use Rattle.std.proofs.Common.{◌≡◌, inl, inr, ℕ, ◌<◌, Bool, true, List, [], ◌∷◌, Some, sym, subst}
use Rattle.fe_state.specs.State.{ServerState, IsAnswered, directory_of}
use Rattle.fe_state.specs.declared.entry.Entry.{Entry}
use Rattle.fe_state.specs.declared.kept.Kept.{Kept}
use Rattle.fe_state.specs.declared.request.Request.{Request}
use Rattle.fe_mail.specs.declared.mail.Mail.{Mail}
use Rattle.fe_wire.specs.declared.client_message.ClientMessage.{ClientMessage}
use Rattle.fe_wire.specs.declared.client_message.ClientMessage.TheVariants as message
use Rattle.fe_front.specs.Front.{FrontState}
use Rattle.fe_front.specs.Call.{Called, kept_at}
use Rattle.fe_front.specs.declared.outcome.Outcome.{Outcome}
use Rattle.fe_front.specs.declared.outcome.Outcome.TheVariants as outcome
use Rattle.fe_messages.specs.Answers.{IsAnswerIn, AreAnswered}
use Rattle.fe_messages.specs.Taking.{HasOnly, Takes}
use Rattle.fe_messages.proofs.Boxes.{AllIn}
use Rattle.fe_messages.proofs.Boxing.{message_boxes}
use Rattle.fe_messages.proofs.AttachmentLaws.{addressed_has}
use Rattle.fe_desk.specs.Acknowledged.{StandsOn, entries_of}
use Rattle.fe_desk.proofs.Answered.{turns_answered}

-- which sessions each connection may ask for
abbrev pub MayAsk : (ℕ → ℕ → Bool) → ℕ → ℕ → Type 0
MayAsk asked = λ conn session. asked conn session ≡ true

-- ---- the entries of messages are answered

none_answered : (s : ServerState) (es : List Entry) → es ≡ [] → AreAnswered s es
none_answered s es none = subst (AreAnswered s) (sym none) tt

-- an entry that finishes nothing is answered
one_answered : (s : ServerState) (e : Entry) (es : List Entry) → IsAnswered (directory_of s) e → es ≡ e ∷ [] → AreAnswered s es
one_answered s e es answered one = subst (AreAnswered s) (sym one) (answered, tt)

call_answered : (f g : FrontState) (conn session number : ℕ) (request : Request) (o : Outcome) (es : List Entry) → Called f conn session number request o es g → AreAnswered f.service.state es
call_answered f g conn session number request (outcome.Completed n) es r = subst (AreAnswered f.service.state) (sym r.entries) (r.answered, turns_answered _ f.service.waiting r.served r.completes.serves.turns)
call_answered f g conn session number request outcome.Waits es r = none_answered f.service.state es r.entries
call_answered f g conn session number request outcome.AlreadyWaiting es r = none_answered f.service.state es r.entries
call_answered f g conn session number request outcome.SentAgain es r = none_answered f.service.state es r.entries
call_answered f g conn session number request outcome.NotYetSynced es r = none_answered f.service.state es r.entries

pub message_answered : (f g : FrontState) (conn : ℕ) (m : ClientMessage) (es : List Entry) → Takes f conn m es g → AreAnswered f.service.state es
message_answered f g conn (message.Attach session) es (inl step) = one_answered f.service.state _ es tt step.1.entries
message_answered f g conn (message.Attach session) es (inr (r, why, refused)) = none_answered f.service.state es refused.entries
message_answered f g conn (message.Call number request) es (inl (o, step)) = call_answered f g conn step.0 number request o es step.2
message_answered f g conn (message.Call number request) es (inr (r, why, refused)) = none_answered f.service.state es refused.entries
message_answered f g conn (message.Cancel number) es (inl step) = none_answered f.service.state es step.2.entries
message_answered f g conn (message.Cancel number) es (inr (r, why, refused)) = none_answered f.service.state es refused.entries
message_answered f g conn (message.Settle floor) es (inl step) = one_answered f.service.state _ es tt step.2.entries
message_answered f g conn (message.Settle floor) es (inr (r, why, refused)) = none_answered f.service.state es refused.entries
message_answered f g conn message.Bye es (inl step) = one_answered f.service.state _ es tt step.2.entries
message_answered f g conn message.Bye es (inr (r, why, refused)) = none_answered f.service.state es refused.entries
message_answered f g conn message.Report es (inl step) = none_answered f.service.state es step.1.entries
message_answered f g conn message.Report es (inr refused) = none_answered f.service.state es refused.entries

-- ---- the mails of messages

module _ (begun : ServerState) (groups : List (List Entry)) (asked : ℕ → ℕ → Bool) where
  abbrev pub StandsTo : ℕ → Mail → Type 0
  StandsTo conn m = StandsOn begun groups (asked conn) m

  -- each mail in a box is on the groups
  abbrev Stand : FrontState → Type 0
  Stand f = AllIn StandsTo f.connections

  -- and so does each answer that is kept and durable
  abbrev pub KeptStand : FrontState → Type 0
  KeptStand f = (session number : ℕ) (k : Kept) → kept_at f session number ≡ Some k → k.place < f.durable
      → IsAnswerIn begun (entries_of groups) session number k.answer k.place

  pub message_stands : (f g : FrontState) (conn : ℕ) (m : ClientMessage) (es : List Entry) → HasOnly (MayAsk asked) f → KeptStand f → Takes f conn m es g → Stand f → Stand g
  message_stands f g conn m es has kept takes all =
      message_boxes StandsTo (λ conn number r. tt) (λ conn number. tt) (λ conn text. tt) f conn g m es
      (λ session number k calls to is below. (has.sessions conn session (addressed_has f conn number session to), kept session number k is below)) takes all
