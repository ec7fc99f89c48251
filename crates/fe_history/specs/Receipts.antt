-- Receipts of answers that were taken for clients. One is strange if what is kept or what was sent speaks
-- against it. See `docs/model.md`, "The hall".
use Rattle.std.specs.Prelude.{◌≡◌, ℕ, ◌<◌, ◌≤◌, List, length, take, slice_get, Option, Some, None, All, Any}
use Rattle.std.specs.FinMap.{get}
use Rattle.fe_state.specs.Sessions.{kept_in}
use Rattle.fe_state.specs.State.{ServerState}
use Rattle.fe_state.specs.declared.kept.Kept.{Kept}
use Rattle.fe_state.specs.declared.request.Request.{Request}
use Rattle.fe_mail.specs.declared.mail.Mail.{Mail}
use Rattle.fe_mail.specs.declared.mail.Mail.TheVariants as mail
use Rattle.fe_wire.specs.declared.client_message.ClientMessage.{ClientMessage}
use Rattle.fe_wire.specs.declared.client_message.ClientMessage.TheVariants.{Attach, Call}
use Rattle.fe_history.specs.declared.receipt.Receipt.{Receipt}

-- the receipt of a mail to a connection: only an answer has one
abbrev pub receipt_of : ℕ → Mail → Option Receipt
receipt_of conn (mail.Answer session number answer place) =
    Some (record { conn = conn; session = session; number = number; answer = answer; place = place })
receipt_of conn _ = None

-- the state keeps this for a number of a session
abbrev pub Keeps : ServerState → ℕ → ℕ → Kept → Type 0
Keeps s session number k = kept_in (get s.sessions session) number ≡ Some k

-- what is kept is what the receipt says: it is for its session and number, and has its answer
pub record IsAsIssued (r : Receipt) (session number : ℕ) (k : Kept) : Type 0 where
  pub same_session : session ≡ r.session
  pub same_number : number ≡ r.number
  pub same_answer : k.answer ≡ r.answer

-- the messages have a call of this number and request somewhere after an attach of the session
pub record IsCalledBehind (messages : List ClientMessage) (session number : ℕ)
    (request : Request) : Type 0 where
  pub attach : ℕ
  pub call : ℕ
  pub is_attach : slice_get messages attach ≡ Some (Attach session)
  pub is_call : slice_get messages call ≡ Some (Call number request)
  pub is_behind : attach < call

-- one of the lists has such a call
abbrev pub WasSent : List (List ClientMessage) → ℕ → ℕ → Request → Type 0
WasSent sent session number request = Any (λ messages. IsCalledBehind messages session number request) sent

-- no list has reached its limit, 1,024 messages: the lists hold all attaches and calls that were sent
abbrev pub AreWhole : List (List ClientMessage) → Type 0
AreWhole sent = All (λ messages. length messages < 1024) sent

-- A receipt is strange if its place is not below the state's, so that its entry is not stored; if something
-- else than it says is kept at its place; if an earlier answer is kept for its number (a later one may be, if
-- the session was closed and opened again); or if the lists hold all that was sent, and none has a call of
-- the request that is kept at its place, behind an attach of its session.
pub data IsStrange (s : ServerState) (sent : List (List ClientMessage)) (r : Receipt) : Type 0 where
  NotStored : s.place ≤ r.place → IsStrange s sent r
  OtherKept : (session number : ℕ) (k : Kept) → Keeps s session number k → k.place ≡ r.place
      → (IsAsIssued r session number k → ⊥) → IsStrange s sent r
  EarlierKept : (k : Kept) → Keeps s r.session r.number k → k.place < r.place → IsStrange s sent r
  NeverSent : (k : Kept) → Keeps s r.session r.number k → k.place ≡ r.place → AreWhole sent
      → (WasSent sent r.session r.number k.request → ⊥) → IsStrange s sent r

-- A receipt that nothing speaks against: its place is stored; what is kept at its place, if anything, is what
-- it says; nothing is kept for its number at an earlier place; and if the lists hold all that was sent, one
-- has the request that is kept at its place, if any is.
pub record IsBorneOut (s : ServerState) (sent : List (List ClientMessage)) (r : Receipt) : Type 0 where
  pub is_stored : r.place < s.place
  pub as_issued : (session number : ℕ) (k : Kept) → Keeps s session number k → k.place ≡ r.place
      → IsAsIssued r session number k
  pub none_earlier : (k : Kept) → Keeps s r.session r.number k → r.place ≤ k.place
  pub was_sent : AreWhole sent → (k : Kept) → Keeps s r.session r.number k → k.place ≡ r.place
      → WasSent sent r.session r.number k.request

-- the place is that of the first strange receipt
pub record IsFirstStrange (s : ServerState) (sent : List (List ClientMessage)) (receipts : List Receipt)
    (place : ℕ) : Type 0 where
  pub at : ℕ
  pub receipt : Receipt
  pub is_there : slice_get receipts at ≡ Some receipt
  pub before : All (IsBorneOut s sent) (take at receipts)
  pub strange : IsStrange s sent receipt
  pub place_is : place ≡ receipt.place
