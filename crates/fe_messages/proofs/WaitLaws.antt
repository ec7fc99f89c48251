-- A request waits, and an entry finishes a request, only if that request was called.
use Rattle.std.proofs.Common.{◌≡◌, inl, inr, ℕ, Bool, true, false, List, [], ◌∷◌, length, drop, ◌+◌, Option, Some, None, refl, sym, ap, subst, ◌∙◌}
use Rattle.std.specs.Prelude.{◌≢◌, ◌⊎◌, nat_lt, IfSome, if◌then◌else◌}
use Rattle.std.specs.List.{AllByRecursion}
use Rattle.std.specs.Option.{option_map_or}
use Rattle.std.specs.FinMap.{get, insert, get-empty}
use Rattle.fe_waits.specs.Waiting.{pair_cmp, WaitingAccess}
use Rattle.fe_waits.proofs.MemberLemmas.{key_cases, get-insert_here, get-insert_other}
use Rattle.fe_state.specs.State.{ServerState, after}
use Rattle.fe_state.specs.declared.batch.Batch.{Batch}
use Rattle.fe_state.specs.declared.entry.Entry.{Entry}
use Rattle.fe_state.specs.declared.entry.Entry.TheVariants.{Attached, Closed, Settled, Finished}
use Rattle.fe_state.specs.declared.kept.Kept.{Kept}
use Rattle.fe_state.specs.declared.request.Request.{Request}
use Rattle.fe_service.specs.AttachmentsState.{holder_of, is_closing}
use Rattle.fe_service.specs.Events.{left}
use Rattle.fe_service.specs.Service.{WaitingAccesses, request_of, AreTurns, without_turn}
use Rattle.fe_service.proofs.Serving.{turn_within, turns_within}
use Rattle.fe_service.proofs.Staying.{within_remove, within_without}
use Rattle.fe_mail.specs.Books.{mail_refused_by_box, mail_taken, call_repeated}
use Rattle.fe_mail.specs.Connections.{session_on, mails_on, with_mails, session_of, mail_of}
use Rattle.fe_mail.specs.declared.mail.Mail.{Mail}
use Rattle.fe_mail.specs.declared.mail.Mail.TheVariants as mail
use Rattle.fe_wire.specs.declared.client_message.ClientMessage.{ClientMessage}
use Rattle.fe_wire.specs.declared.client_message.ClientMessage.TheVariants as message
use Rattle.fe_front.specs.Front.{FrontState, is_connected, IsFirst}
use Rattle.fe_front.specs.Steps.{parted, released, freed, departed, withdrawn_from, unboxed, dropped, boxed, overflowed, mailed, connected, attached_to, settled_to, closed_by, cancelled_from, taken}
use Rattle.fe_front.specs.Posting.{delivered, vacated, ended, posted_entry, posted_all, posted}
use Rattle.fe_front.specs.Call.{Called, Completed, call_refused_by, kept_at, repeated}
use Rattle.fe_front.specs.declared.outcome.Outcome.{Outcome}
use Rattle.fe_front.specs.declared.outcome.Outcome.TheVariants as outcome
use Rattle.fe_messages.specs.Taking.{CallsOnly, FinishesOnly, LeavesOpen, Takes, WaitsOnly}
use Rattle.fe_messages.proofs.AttachmentLaws.{addressed_has}
use Rattle.fe_messages.proofs.Boxes.{all_weaker}

-- ---- what no longer waits

-- each request that waits now waited before
pub record Fewer (f g : FrontState) : Type 0 where
  pub waits : (key : ℕ × ℕ) (w : WaitingAccess) → get g.service.waiting key ≡ Some w → get f.service.waiting key ≡ Some w

pub all_wait : (f : FrontState) → Fewer f f
all_wait f = record { waits = λ key w waits. waits }

pub both_fewer : (f g h : FrontState) → Fewer f g → Fewer g h → Fewer f h
both_fewer f g h a b = record { waits = λ key w waits. a.waits key w (b.waits key w waits) }

withdrawn_fewer : (f : FrontState) (session : ℕ) → Fewer f (withdrawn_from f session)
withdrawn_fewer f session = record { waits = λ key w waits. (within_without f.service.waiting session key w waits).0 }

closed_fewer : (f : FrontState) (session : ℕ) → Fewer f (closed_by f session)
closed_fewer f session = record { waits = λ key w waits. (within_without f.service.waiting session key w waits).0 }

cancelled_fewer : (f : FrontState) (session number : ℕ) → Fewer f (cancelled_from f session number)
cancelled_fewer f session number = record { waits = within_remove f.service.waiting (session, number) }

parted_fewer : (f : FrontState) (conn session : ℕ) → Fewer f (parted f conn session)
parted_fewer f conn session = record { waits = λ key w waits. waits }

released_fewer : (f : FrontState) (conn : ℕ) → Fewer f (released f conn)
released_fewer f conn = by (session_on f.connections conn)
  where
    by : (o : Option ℕ) → Fewer f (option_map_or (parted f conn) o f)
    by None = all_wait f
    by (Some session) = parted_fewer f conn session

freed_fewer : (f : FrontState) (session : ℕ) → Fewer f (freed f session)
freed_fewer f session = by (holder_of f.service.attachments session)
  where
    by : (o : Option ℕ) → Fewer f (option_map_or (λ conn. parted f conn session) o f)
    by None = all_wait f
    by (Some conn) = parted_fewer f conn session

attached_fewer : (f : FrontState) (conn session : ℕ) → Fewer f (attached_to f conn session)
attached_fewer f conn session = record { waits = (both_fewer f (released f conn) (freed (released f conn) session) (released_fewer f conn) (freed_fewer (released f conn) session)).waits }

departed_fewer : (f : FrontState) (conn : ℕ) → Fewer f (departed f conn)
departed_fewer f conn = by (session_on f.connections conn)
  where
    by : (o : Option ℕ) → Fewer f (option_map_or (λ session. parted (withdrawn_from f session) conn session) o f)
    by None = all_wait f
    by (Some session) = record { waits = (withdrawn_fewer f session).waits }

pub dropped_fewer : (f : FrontState) (conn : ℕ) → Fewer f (dropped f conn)
dropped_fewer f conn = by (is_connected f conn)
  where
    by : (b : Bool) → Fewer f (if b then unboxed (departed f conn) conn else f)
    by true = record { waits = (departed_fewer f conn).waits }
    by false = all_wait f

pub mailed_fewer : (f : FrontState) (conn : ℕ) (m : Mail) → Fewer f (mailed f conn m)
mailed_fewer f conn m = by (is_connected f conn) (nat_lt (length (mails_on f.connections conn)) 128)
  where
    by : (a b : Bool) → Fewer f (if a then (if b then boxed f conn m else overflowed f conn) else f)
    by false b = all_wait f
    by true true = record { waits = λ key w waits. waits }
    by true false = record { waits = (dropped_fewer (record f { books = mail_refused_by_box f.books }) conn).waits }

pub connected_fewer : (f : FrontState) (conn : ℕ) → Fewer f (connected f conn)
connected_fewer f conn = record { waits = λ key w waits. waits }

pub taken_fewer : (f : FrontState) (conn : ℕ) → Fewer f (taken f conn)
taken_fewer f conn = by (nat_lt 0 (length (mails_on f.connections conn)))
  where
    by : (b : Bool) → Fewer f (if b then record f { connections = with_mails f.connections conn (drop 1 (mails_on f.connections conn)); books = mail_taken f.books } else f)
    by true = record { waits = λ key w waits. waits }
    by false = all_wait f

repeated_fewer : (f : FrontState) (conn session number : ℕ) → Fewer f (repeated f conn session number)
repeated_fewer f conn session number = by (kept_at f session number)
  where
    again : FrontState
    again = record f { books = call_repeated f.books }

    sent : (k : Kept) (b : Bool) → Fewer f (if b then mailed again conn (mail.Answer session number k.answer k.place) else again)
    sent k true = record { waits = (mailed_fewer again conn (mail.Answer session number k.answer k.place)).waits }
    sent k false = record { waits = λ key w waits. waits }

    by : (o : Option Kept) → Fewer f (option_map_or (λ k. if nat_lt k.place f.durable then mailed again conn (mail.Answer session number k.answer k.place) else again) o again)
    by None = record { waits = λ key w waits. waits }
    by (Some k) = sent k (nat_lt k.place f.durable)

-- those that are served wait no more
completed_fewer : (f g : FrontState) (session number n : ℕ) (request : Request) (es : List Entry) → Completed f session number request n es g → Fewer f g
completed_fewer f g session number n request es r =
    let serves = r.completes.serves in
    record {
      waits = λ key w waits.
          turns_within (after f.service.state (Finished session number request r.answer)) f.service.waiting r.served serves.turns key w (sym (ap (λ (m : WaitingAccesses). get m key) serves.rest) ∙ waits);
    }

-- ---- posting

delivered_fewer : (f : FrontState) (e : Entry) (place : ℕ) → Fewer f (delivered f e place)
delivered_fewer f e place = by (holder_of f.service.attachments (session_of e))
  where
    by : (o : Option ℕ) → Fewer f (option_map_or (λ conn. mailed f conn (mail_of e place)) o f)
    by None = all_wait f
    by (Some conn) = mailed_fewer f conn (mail_of e place)

vacated_fewer : (f : FrontState) (session : ℕ) → Fewer f (vacated f session)
vacated_fewer f session = by (is_closing f.service.attachments session)
  where
    by : (b : Bool) → Fewer f (if b then record f { service = left f.service session } else f)
    by false = all_wait f
    by true = record { waits = λ key w waits. waits }

posted_entry_fewer : (f : FrontState) (e : Entry) (place : ℕ) → Fewer f (posted_entry f e place)
posted_entry_fewer f (Attached session floor) place = delivered_fewer f (Attached session floor) place
posted_entry_fewer f (Settled session floor) place = delivered_fewer f (Settled session floor) place
posted_entry_fewer f (Finished session number request answer) place = delivered_fewer f (Finished session number request answer) place
posted_entry_fewer f (Closed session) place =
    let g = delivered f (Closed session) place in
    both_fewer f g (ended g session) (delivered_fewer f (Closed session) place) (both_fewer g (freed g session) (ended g session) (freed_fewer g session) (vacated_fewer (freed g session) session))

posted_all_fewer : (f : FrontState) (es : List Entry) (place : ℕ) → Fewer f (posted_all f es place)
posted_all_fewer f [] place = all_wait f
posted_all_fewer f (e ∷ es) place = both_fewer f (posted_entry f e place) (posted_all (posted_entry f e place) es (place + 1)) (posted_entry_fewer f e place) (posted_all_fewer (posted_entry f e place) es (place + 1))

pub posted_fewer : (f : FrontState) (batch : Batch) → Fewer f (posted f batch)
posted_fewer f batch = record { waits = (posted_all_fewer f batch.entries batch.first).waits }

-- ---- what was called

-- what waits was called, where more was called
pub waits_more : (called more : ℕ → ℕ → Request → Type 0) (f : FrontState) → ((session number : ℕ) (request : Request) → called session number request → more session number request) → WaitsOnly called f → WaitsOnly more f
waits_more called more f rises only key = by (get f.service.waiting key) (only key)
  where
    by : (o : Option WaitingAccess) → IfSome o (λ w. called key.0 key.1 (request_of w)) → IfSome o (λ w. more key.0 key.1 (request_of w))
    by None was = tt
    by (Some w) was = rises key.0 key.1 (request_of w) was

module _ (called : ℕ → ℕ → Request → Type 0) where
  -- if a request waits under this key, it was called
  abbrev MayWait : ℕ × ℕ → Option WaitingAccess → Type 0
  MayWait key o = IfSome o (λ w. called key.0 key.1 (request_of w))

  -- a request that waits was called
  waits_called : (f : FrontState) (key : ℕ × ℕ) (w : WaitingAccess) → WaitsOnly called f → get f.service.waiting key ≡ Some w → called key.0 key.1 (request_of w)
  waits_called f key w only is = subst (λ (o : Option WaitingAccess). MayWait key o) is (only key)

  -- nothing waits at first
  pub first_waits : (begun : ServerState) (f : FrontState) → IsFirst begun f → WaitsOnly called f
  first_waits begun f first key = subst (λ (o : Option WaitingAccess). MayWait key o) (sym (ap (λ (m : WaitingAccesses). get m key) first.waiting ∙ get-empty pair_cmp key)) tt

  pub waits_fewer : (f g : FrontState) → Fewer f g → WaitsOnly called f → WaitsOnly called g
  waits_fewer f g fewer only key = by (get g.service.waiting key) refl
    where
      by : (o : Option WaitingAccess) → get g.service.waiting key ≡ o → MayWait key o
      by None is = tt
      by (Some w) is = waits_called f key w only (fewer.waits key w is)

  -- ---- messages

  -- what waits was called, and so was what the entries finish
  abbrev Only : List Entry → FrontState → Type 0
  Only es g = WaitsOnly called g × AllByRecursion (FinishesOnly called) es

  only_at : (es xs : List Entry) (g h : FrontState) → es ≡ xs → g ≡ h → Only xs h → Only es g
  only_at es xs g h same is only = subst (λ (x : FrontState). Only es x) (sym is) (subst (λ (ys : List Entry). Only ys h) (sym same) only)

  -- no entry is made
  none_only : (f g h : FrontState) (es : List Entry) → es ≡ [] → g ≡ h → Fewer f h → WaitsOnly called f → Only es g
  none_only f g h es none is fewer only = only_at es [] g h none is (waits_fewer f h fewer only, tt)

  -- a mail is made, and no entry
  mailed_only : (f g : FrontState) (conn : ℕ) (m : Mail) (es : List Entry) → es ≡ [] → g ≡ mailed f conn m → WaitsOnly called f → Only es g
  mailed_only f g conn m es none is only = none_only f g (mailed f conn m) es none is (mailed_fewer f conn m) only

  -- a call is repeated
  repeated_only : (f g : FrontState) (conn session number : ℕ) (es : List Entry) → es ≡ [] → g ≡ repeated f conn session number → WaitsOnly called f → Only es g
  repeated_only f g conn session number es none is only = none_only f g (repeated f conn session number) es none is (repeated_fewer f conn session number) only

  -- each waiting request that is served was called
  turns_called : (s : ServerState) (waiting : WaitingAccesses) (es : List Entry) → AreTurns s waiting es → ((key : ℕ × ℕ) (w : WaitingAccess) → get waiting key ≡ Some w → called key.0 key.1 (request_of w))
      → AllByRecursion (FinishesOnly called) es
  turns_called s waiting [] turns only = tt
  turns_called s waiting (e ∷ es) turns only =
      let turn = turns.0 in (
        subst (λ (x : Entry). FinishesOnly called x) (sym turn.entry) (only (turn.session, turn.number) turn.waiter turn.waits),
        turns_called (after s e) (without_turn waiting e) es turns.1 (λ key w waits. only key w (turn_within s waiting e turn key w waits)),
      )

  -- a called request begins to wait
  waited_only : (waiting : WaitingAccesses) (session number : ℕ) (waiter : WaitingAccess) → called session number (request_of waiter) → ((key : ℕ × ℕ) → MayWait key (get waiting key))
      → (key : ℕ × ℕ) → MayWait key (get (insert waiting (session, number) waiter) key)
  waited_only waiting session number waiter may only key = elim (key_cases key (session, number)) as (λ _. MayWait key (get (insert waiting (session, number) waiter) key)) [
    | inl same ↦
        subst (λ (o : Option WaitingAccess). MayWait key o) (sym (ap (get (insert waiting (session, number) waiter)) same ∙ get-insert_here waiting (session, number) waiter))
        (subst (λ (k : ℕ × ℕ). called k.0 k.1 (request_of waiter)) (sym same) may)
    | inr other ↦ subst (λ (o : Option WaitingAccess). MayWait key o) (sym (get-insert_other waiting (session, number) waiter key other)) (only key)
  ]

  called_only : (f g : FrontState) (conn session number : ℕ) (request : Request) (o : Outcome) (es : List Entry) → Called f conn session number request o es g → called session number request → WaitsOnly called f
      → Only es g
  called_only f g conn session number request (outcome.Completed n) es r may only =
      let turns = r.completes.serves.turns in (
        waits_fewer f g (completed_fewer f g session number n request es r) only,
        subst (λ (xs : List Entry). AllByRecursion (FinishesOnly called) xs) (sym r.entries)
            (may, turns_called (after f.service.state (Finished session number request r.answer)) f.service.waiting r.served turns (λ key w waits. waits_called f key w only waits)),
      )
  called_only f g conn session number request outcome.Waits es r may only =
      only_at es [] g _ r.entries r.rest (waited_only f.service.waiting session number r.waiter (subst (λ (q : Request). called session number q) r.waits may) only, tt)
  called_only f g conn session number request outcome.AlreadyWaiting es r may only = repeated_only f g conn session number es r.entries r.rest only
  called_only f g conn session number request outcome.SentAgain es r may only = repeated_only f g conn session number es r.entries r.rest only
  called_only f g conn session number request outcome.NotYetSynced es r may only = repeated_only f g conn session number es r.entries r.rest only

  -- after a message, what waits was called, and so was what its entries finish
  pub message_waits : (f g : FrontState) (conn : ℕ) (m : ClientMessage) (es : List Entry) → Takes f conn m es g → CallsOnly called (session_on f.connections conn) m → WaitsOnly called f
      → WaitsOnly called g × AllByRecursion (FinishesOnly called) es
  message_waits f g conn (message.Attach session) es (inl step) may only = only_at es _ g (attached_to f conn session) step.1.entries step.1.front (waits_fewer f (attached_to f conn session) (attached_fewer f conn session) only, (tt, tt))
  message_waits f g conn (message.Attach session) es (inr (r, why, refused)) may only = mailed_only f g conn _ es refused.entries refused.front only
  message_waits f g conn (message.Call number request) es (inl (o, step)) may only =
      called_only f g conn step.0 number request o es step.2 (subst (λ (had : Option ℕ). IfSome had (λ session. called session number request)) (addressed_has f conn number step.0 step.1) may) only
  message_waits f g conn (message.Call number request) es (inr (r, why, refused)) may only = mailed_only (call_refused_by f) g conn _ es refused.entries refused.front only
  message_waits f g conn (message.Cancel number) es (inl step) may only =
      let rest = cancelled_from f step.0 number in
      mailed_only rest g conn _ es step.2.entries step.2.front (waits_fewer f rest (cancelled_fewer f step.0 number) only)
  message_waits f g conn (message.Cancel number) es (inr (r, why, refused)) may only = mailed_only f g conn _ es refused.entries refused.front only
  message_waits f g conn (message.Settle floor) es (inl step) may only = only_at es _ g (settled_to f step.0 floor) step.2.entries step.2.front (only, (tt, tt))
  message_waits f g conn (message.Settle floor) es (inr (r, why, refused)) may only = mailed_only f g conn _ es refused.entries refused.front only
  message_waits f g conn message.Bye es (inl step) may only = only_at es _ g (closed_by f step.0) step.2.entries step.2.front (waits_fewer f (closed_by f step.0) (closed_fewer f step.0) only, (tt, tt))
  message_waits f g conn message.Bye es (inr (r, why, refused)) may only = mailed_only f g conn _ es refused.entries refused.front only
  message_waits f g conn message.Report es (inl step) may only = mailed_only f g conn _ es step.1.entries step.1.front only
  message_waits f g conn message.Report es (inr refused) may only = mailed_only f g conn _ es refused.entries refused.front only

-- ---- sessions that are closed

-- the entry closes no session
abbrev pub ClosesNone : Entry → Type 0
ClosesNone (Attached session floor) = Unit {0}
ClosesNone (Closed session) = ⊥
ClosesNone (Settled session floor) = Unit {0}
ClosesNone (Finished session number request answer) = Unit {0}

pub none_open : (session : ℕ) (e : Entry) → ClosesNone e → LeavesOpen session e
none_open session (Attached other floor) none = tt
none_open session (Closed other) none = absurd none
none_open session (Settled other floor) none = tt
none_open session (Finished other number request answer) none = tt

-- the entries close no session, or they are one that closes a session for which nothing waits
abbrev pub ClosesIdle : List Entry → FrontState → Type 0
ClosesIdle es g =
    AllByRecursion ClosesNone es ⊎ ((session : ℕ) × (es ≡ Closed session ∷ []) × ((key : ℕ × ℕ) (w : WaitingAccess) → get g.service.waiting key ≡ Some w → key.0 ≢ session))

-- no entry closes the session of a request that waits after it
pub waits_open : (es : List Entry) (g : FrontState) (key : ℕ × ℕ) (w : WaitingAccess) → ClosesIdle es g → get g.service.waiting key ≡ Some w → AllByRecursion (LeavesOpen key.0) es
waits_open es g key w (inl none) waits = all_weaker ClosesNone (LeavesOpen key.0) (none_open key.0) es none
waits_open es g key w (inr (session, is, idle)) waits = subst (λ (xs : List Entry). AllByRecursion (LeavesOpen key.0) xs) (sym is) (idle key w waits, tt)

no_entry : (es : List Entry) (g : FrontState) → es ≡ [] → ClosesIdle es g
no_entry es g is = inl (subst (λ (xs : List Entry). AllByRecursion ClosesNone xs) (sym is) tt)

turns_close : (s : ServerState) (waiting : WaitingAccesses) (es : List Entry) → AreTurns s waiting es → AllByRecursion ClosesNone es
turns_close s waiting [] turns = tt
turns_close s waiting (e ∷ es) turns = (subst (λ (x : Entry). ClosesNone x) (sym turns.0.entry) tt, turns_close (after s e) (without_turn waiting e) es turns.1)

called_closes : (f g : FrontState) (conn session number : ℕ) (request : Request) (o : Outcome) (es : List Entry) → Called f conn session number request o es g → ClosesIdle es g
called_closes f g conn session number request (outcome.Completed n) es r =
    inl (subst (λ (xs : List Entry). AllByRecursion ClosesNone xs) (sym r.entries) (tt, turns_close (after f.service.state (Finished session number request r.answer)) f.service.waiting r.served r.completes.serves.turns))
called_closes f g conn session number request outcome.Waits es r = no_entry es g r.entries
called_closes f g conn session number request outcome.AlreadyWaiting es r = no_entry es g r.entries
called_closes f g conn session number request outcome.SentAgain es r = no_entry es g r.entries
called_closes f g conn session number request outcome.NotYetSynced es r = no_entry es g r.entries

-- a message closes a session only if no request waits for it then
pub message_closes : (f g : FrontState) (conn : ℕ) (m : ClientMessage) (es : List Entry) → Takes f conn m es g → ClosesIdle es g
message_closes f g conn (message.Attach session) es (inl step) = inl (subst (λ (xs : List Entry). AllByRecursion ClosesNone xs) (sym step.1.entries) (tt, tt))
message_closes f g conn (message.Attach session) es (inr (r, why, refused)) = no_entry es g refused.entries
message_closes f g conn (message.Call number request) es (inl (o, step)) = called_closes f g conn step.0 number request o es step.2
message_closes f g conn (message.Call number request) es (inr (r, why, refused)) = no_entry es g refused.entries
message_closes f g conn (message.Cancel number) es (inl step) = no_entry es g step.2.entries
message_closes f g conn (message.Cancel number) es (inr (r, why, refused)) = no_entry es g refused.entries
message_closes f g conn (message.Settle floor) es (inl step) = inl (subst (λ (xs : List Entry). AllByRecursion ClosesNone xs) (sym step.2.entries) (tt, tt))
message_closes f g conn (message.Settle floor) es (inr (r, why, refused)) = no_entry es g refused.entries
message_closes f g conn message.Bye es (inl step) =
    inr (
      step.0,
      step.2.entries,
      λ key w waits. (within_without f.service.waiting step.0 key w (sym (ap (λ (h : FrontState). get h.service.waiting key) step.2.front) ∙ waits)).1,
    )
message_closes f g conn message.Bye es (inr (r, why, refused)) = no_entry es g refused.entries
message_closes f g conn message.Report es (inl step) = no_entry es g step.1.entries
message_closes f g conn message.Report es (inr refused) = no_entry es g refused.entries
