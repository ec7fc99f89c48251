-- Sessions and connections let go of each other, and come together only where a connection asks for a session.
use Rattle.std.proofs.Common.{◌≡◌, ◌⊎◌, inl, inr, ℕ, ◌+◌, Bool, true, false, List, [], ◌∷◌, length, drop, Option, Some, None, refl, sym, ap, subst, ◌∙◌}
use Rattle.std.specs.Prelude.{nat_lt, is_some, if◌then◌else◌, option_and_then, Ok, Err}
use Rattle.std.specs.Option.{option_map_or}
use Rattle.std.specs.Ordering.{nat_cmp}
use Rattle.std.specs.FinMap.{FinMap, get, insert, remove}
use Rattle.fe_state.proofs.Maps.{get_inserted, get_beside, get_removed, get_left, same_or_other}
use Rattle.fe_state.specs.declared.entry.Entry.{Entry}
use Rattle.fe_state.specs.declared.entry.Entry.TheVariants.{Attached, Closed, Settled, Finished}
use Rattle.fe_state.specs.declared.kept.Kept.{Kept}
use Rattle.fe_state.specs.declared.request.Request.{Request}
use Rattle.fe_service.specs.AttachmentsState.{holder_of, is_closing, with_holder}
use Rattle.fe_service.specs.declared.attachment.Attachment.{Attachment}
use Rattle.fe_service.specs.Events.{left, floor_of}
use Rattle.fe_mail.specs.Books.{mail_refused_by_box, mail_taken, call_repeated}
use Rattle.fe_mail.specs.Connections.{first_connection, session_on, mails_on, with_session, with_mails, session_of, mail_of}
use Rattle.fe_mail.specs.declared.connection.Connection.{Connection}
use Rattle.fe_mail.specs.declared.mail.Mail.{Mail}
use Rattle.fe_mail.specs.declared.mail.Mail.TheVariants as mail
use Rattle.fe_mail.specs.declared.refusal.Refusal.TheVariants.{NotAttached, Closing, BelowFloor, BeyondWindow}
use Rattle.fe_mail.proofs.Lookups.{session_on-with_mails, session_on-with_session, session_on-with_session-beside}
use Rattle.fe_wire.specs.declared.client_message.ClientMessage.{ClientMessage}
use Rattle.fe_wire.specs.declared.client_message.ClientMessage.TheVariants as message
use Rattle.fe_front.proofs.First.{nobody, no_session}
use Rattle.fe_front.specs.Front.{FrontState, is_connected, IsFirst}
use Rattle.fe_front.specs.Steps.{parted, released, freed, departed, withdrawn_from, unboxed, dropped, boxed, overflowed, mailed, connected, attached_to, settled_to, closed_by, cancelled_from, taken}
use Rattle.fe_front.specs.Posting.{delivered, vacated, ended, posted_entry, posted_all, posted}
use Rattle.fe_front.specs.Call.{Called, call_refused_by, kept_at, repeated, unclosing, and_then, in_window, addressed}
use Rattle.fe_front.specs.declared.outcome.Outcome.{Outcome}
use Rattle.fe_front.specs.declared.outcome.Outcome.TheVariants as outcome
use Rattle.fe_state.specs.State.{ServerState}
use Rattle.fe_front.proofs.Agreement.{holder-inserted, holder-beside, holder-removed, holder-left, holder-closing}
use Rattle.fe_messages.specs.Taking.{AsksOnly, HasOnly, Takes}
use Rattle.fe_state.specs.declared.batch.Batch.{Batch}

pub none_some : {X P : Type 0} {x : X} → None ≡ Some x → P
none_some e = cc

pub some_same : {X : Type 0} {x y : X} → Some x ≡ Some y → x ≡ y
some_same e = cc

-- ---- what is let go

-- who has a session now had it before, and a connection that has a session now had it before
pub record Loses (f g : FrontState) : Type 0 where
  pub holders : (session conn : ℕ) → holder_of g.service.attachments session ≡ Some conn → holder_of f.service.attachments session ≡ Some conn
  pub sessions : (conn session : ℕ) → session_on g.connections conn ≡ Some session → session_on f.connections conn ≡ Some session

pub itself : (f : FrontState) → Loses f f
itself f = record { holders = λ session conn has. has; sessions = λ conn session has. has }

pub both_lose : (f g h : FrontState) → Loses f g → Loses g h → Loses f h
both_lose f g h a b = record {
  holders = λ session conn has. a.holders session conn (b.holders session conn has);
  sessions = λ conn session has. a.sessions conn session (b.sessions conn session has);
}

holder_lost : (attachments : FinMap nat_cmp Attachment) (session q conn : ℕ) → holder_of (with_holder attachments session None) q ≡ Some conn → holder_of attachments q ≡ Some conn
holder_lost attachments session q conn has = elim (same_or_other q session) [
  | inl e ↦ none_some (sym (holder-inserted attachments session _) ∙ ap (λ (n : ℕ). holder_of (with_holder attachments session None) n) (sym e) ∙ has)
  | inr ne ↦ sym (holder-beside attachments session _ q ne) ∙ has
]

session_lost : (m : FinMap nat_cmp Connection) (conn q session : ℕ) → session_on (with_session m conn None) q ≡ Some session → session_on m q ≡ Some session
session_lost m conn q session has = elim (same_or_other q conn) [
  | inl e ↦ by e (get m conn) refl
  | inr ne ↦ sym (session_on-with_session-beside m conn None q ne) ∙ has
]
  where
    by : q ≡ conn → (o : Option Connection) → get m conn ≡ o → session_on m q ≡ Some session
    by e None is = ap (λ (o : Option Connection). session_on (option_map_or (λ (c : Connection). insert m conn (record { session = None; mails = c.mails })) o m) q) (sym is) ∙ has
    by e (Some c) is =
        none_some (sym (session_on-with_session m conn None (ap (λ (o : Option Connection). is_some o) is)) ∙ ap (λ (n : ℕ). session_on (with_session m conn None) n) (sym e) ∙ has)

removed_lost : (m : FinMap nat_cmp Connection) (conn q session : ℕ) → session_on (remove m conn) q ≡ Some session → session_on m q ≡ Some session
removed_lost m conn q session has = elim (same_or_other q conn) [
  | inl e ↦ none_some (sym (ap (option_and_then (λ (c : Connection). c.session)) (get_removed m conn)) ∙ ap (λ (n : ℕ). session_on (remove m conn) n) (sym e) ∙ has)
  | inr ne ↦ sym (ap (option_and_then (λ (c : Connection). c.session)) (get_left m conn q ne)) ∙ has
]

-- a connection that is given a session has that one, or is not there
joined_session : (m : FinMap nat_cmp Connection) (conn session q s : ℕ) → q ≡ conn → (o : Option Connection) → get m conn ≡ o → session_on (with_session m conn (Some session)) q ≡ Some s
    → (s ≡ session) ⊎ (session_on m q ≡ Some s)
joined_session m conn session q s e None absent is =
    inr (ap (λ (o : Option Connection). session_on (option_map_or (λ (c : Connection). insert m conn (record { session = Some session; mails = c.mails })) o m) q) (sym absent) ∙ is)
joined_session m conn session q s e (Some x) present is =
    inl (some_same (sym is ∙ ap (λ (n : ℕ). session_on (with_session m conn (Some session)) n) e ∙ session_on-with_session m conn (Some session) (ap (λ (o : Option Connection). is_some o) present)))

parted_loses : (f : FrontState) (conn session : ℕ) → Loses f (parted f conn session)
parted_loses f conn session = record {
  holders = λ q c has. holder_lost f.service.attachments session q c has;
  sessions = λ q s has. session_lost f.connections conn q s has;
}

released_loses : (f : FrontState) (conn : ℕ) → Loses f (released f conn)
released_loses f conn = by (session_on f.connections conn)
  where
    by : (o : Option ℕ) → Loses f (option_map_or (parted f conn) o f)
    by None = itself f
    by (Some session) = parted_loses f conn session

freed_loses : (f : FrontState) (session : ℕ) → Loses f (freed f session)
freed_loses f session = by (holder_of f.service.attachments session)
  where
    by : (o : Option ℕ) → Loses f (option_map_or (λ conn. parted f conn session) o f)
    by None = itself f
    by (Some conn) = parted_loses f conn session

departed_loses : (f : FrontState) (conn : ℕ) → Loses f (departed f conn)
departed_loses f conn = by (session_on f.connections conn)
  where
    by : (o : Option ℕ) → Loses f (option_map_or (λ session. parted (withdrawn_from f session) conn session) o f)
    by None = itself f
    by (Some session) = both_lose f (withdrawn_from f session) (parted (withdrawn_from f session) conn session) (record { holders = λ q c has. has; sessions = λ q s has. has }) (parted_loses (withdrawn_from f session) conn session)

pub dropped_loses : (f : FrontState) (conn : ℕ) → Loses f (dropped f conn)
dropped_loses f conn = by (is_connected f conn)
  where
    by : (b : Bool) → Loses f (if b then unboxed (departed f conn) conn else f)
    by true = both_lose f (departed f conn) (unboxed (departed f conn) conn) (departed_loses f conn)
        (record { holders = λ q c has. has; sessions = λ q s has. removed_lost (departed f conn).connections conn q s has })
    by false = itself f

pub mailed_loses : (f : FrontState) (conn : ℕ) (m : Mail) → Loses f (mailed f conn m)
mailed_loses f conn m = by (is_connected f conn) (nat_lt (length (mails_on f.connections conn)) 128)
  where
    by : (a b : Bool) → Loses f (if a then (if b then boxed f conn m else overflowed f conn) else f)
    by false b = itself f
    by true true = record { holders = λ q c has. has; sessions = λ q s has. sym (session_on-with_mails f.connections conn _ q) ∙ has }
    by true false = both_lose f (record f { books = mail_refused_by_box f.books }) (overflowed f conn) (record { holders = λ q c has. has; sessions = λ q s has. has }) (dropped_loses (record f { books = mail_refused_by_box f.books }) conn)

pub taken_loses : (f : FrontState) (conn : ℕ) → Loses f (taken f conn)
taken_loses f conn = by (nat_lt 0 (length (mails_on f.connections conn)))
  where
    by : (b : Bool) → Loses f (if b then record f { connections = with_mails f.connections conn (drop 1 (mails_on f.connections conn)); books = mail_taken f.books } else f)
    by true = record { holders = λ q c has. has; sessions = λ q s has. sym (session_on-with_mails f.connections conn _ q) ∙ has }
    by false = itself f

pub connected_loses : (f : FrontState) (conn : ℕ) → Loses f (connected f conn)
connected_loses f conn = record {
  holders = λ q c has. has;
  sessions = λ q s has. elim (same_or_other q conn) [
    | inl e ↦ none_some (sym (ap (option_and_then (λ (c : Connection). c.session)) (get_inserted f.connections conn first_connection)) ∙ ap (λ (n : ℕ). session_on (insert f.connections conn first_connection) n) (sym e) ∙ has)
    | inr ne ↦ sym (ap (option_and_then (λ (c : Connection). c.session)) (get_beside f.connections conn first_connection q ne)) ∙ has
  ];
}

-- ---- posting

delivered_loses : (f : FrontState) (e : Entry) (place : ℕ) → Loses f (delivered f e place)
delivered_loses f e place = by (holder_of f.service.attachments (session_of e))
  where
    by : (o : Option ℕ) → Loses f (option_map_or (λ conn. mailed f conn (mail_of e place)) o f)
    by None = itself f
    by (Some conn) = mailed_loses f conn (mail_of e place)

vacated_loses : (f : FrontState) (session : ℕ) → Loses f (vacated f session)
vacated_loses f session = by (is_closing f.service.attachments session)
  where
    by : (b : Bool) → Loses f (if b then record f { service = left f.service session } else f)
    by false = itself f
    by true = record {
      holders = λ q c has. elim (same_or_other q session) [
        | inl e ↦ none_some (sym (holder-removed f.service.attachments session) ∙ ap (λ (n : ℕ). holder_of (remove f.service.attachments session) n) (sym e) ∙ has)
        | inr ne ↦ sym (holder-left f.service.attachments session q ne) ∙ has
      ];
      sessions = λ q s has. has;
    }

pub posted_entry_loses : (f : FrontState) (e : Entry) (place : ℕ) → Loses f (posted_entry f e place)
posted_entry_loses f (Attached session floor) place = delivered_loses f (Attached session floor) place
posted_entry_loses f (Settled session floor) place = delivered_loses f (Settled session floor) place
posted_entry_loses f (Finished session number request answer) place = delivered_loses f (Finished session number request answer) place
posted_entry_loses f (Closed session) place =
    let g = delivered f (Closed session) place in
    both_lose f g (ended g session) (delivered_loses f (Closed session) place) (both_lose g (freed g session) (ended g session) (freed_loses g session) (vacated_loses (freed g session) session))

posted_all_loses : (f : FrontState) (es : List Entry) (place : ℕ) → Loses f (posted_all f es place)
posted_all_loses f [] place = itself f
posted_all_loses f (e ∷ es) place = both_lose f (posted_entry f e place) (posted_all (posted_entry f e place) es (place + 1)) (posted_entry_loses f e place) (posted_all_loses (posted_entry f e place) es (place + 1))

pub posted_loses : (f : FrontState) (batch : Batch) → Loses f (posted f batch)
posted_loses f batch =
    let all = posted_all_loses f batch.entries batch.first in
    record { holders = λ q c has. all.holders q c has; sessions = λ q s has. all.sessions q s has }

-- ---- what comes together

-- where more is asked for
pub has_more : (asked more : ℕ → ℕ → Type 0) (f : FrontState) → ((conn session : ℕ) → asked conn session → more conn session) → HasOnly asked f → HasOnly more f
has_more asked more f rises has = record {
  holders = λ session conn is. rises conn session (has.holders session conn is);
  sessions = λ conn session is. rises conn session (has.sessions conn session is);
}

module _ (asked : ℕ → ℕ → Type 0) where
  -- nobody has a session at first
  pub first_has : (begun : ServerState) (f : FrontState) → IsFirst begun f → HasOnly asked f
  first_has begun f first = record {
    holders = λ session conn is. none_some (sym (nobody begun.sessions f.service.attachments first.attachments session) ∙ is);
    sessions = λ conn session is. none_some (sym (no_session f.connections first.connections conn) ∙ is);
  }

  pub has_lost : (f g : FrontState) → Loses f g → HasOnly asked f → HasOnly asked g
  has_lost f g loses has = record {
    holders = λ session conn is. has.holders session conn (loses.holders session conn is);
    sessions = λ conn session is. has.sessions conn session (loses.sessions conn session is);
  }

  has_lost_at : (f g h : FrontState) → h ≡ g → Loses f g → HasOnly asked f → HasOnly asked h
  has_lost_at f g h is loses has = subst (λ (x : FrontState). HasOnly asked x) (sym is) (has_lost f g loses has)

  has_attached : (f : FrontState) (conn session : ℕ) → asked conn session → HasOnly asked f → HasOnly asked (attached_to f conn session)
  has_attached f conn session may has =
      let mid : FrontState = freed (released f conn) session in
      let here : HasOnly asked mid = has_lost (released f conn) mid (freed_loses (released f conn) session) (has_lost f (released f conn) (released_loses f conn) has) in
      let attachments = mid.service.attachments in
      let m = mid.connections in
      let holder : (q c : ℕ) → holder_of (insert attachments session (record { holder = Some conn; closing = false })) q ≡ Some c → asked c q = λ q c is. elim (same_or_other q session) [
        | inl e ↦
            let who : conn ≡ c = some_same (sym (holder-inserted attachments session (record { holder = Some conn; closing = false })) ∙ ap (λ (n : ℕ). holder_of (insert attachments session (record { holder = Some conn; closing = false })) n) (sym e) ∙ is) in
            subst (λ (n : ℕ). asked n q) who (subst (λ (n : ℕ). asked conn n) (sym e) may)
        | inr ne ↦ here.holders q c (sym (holder-beside attachments session (record { holder = Some conn; closing = false }) q ne) ∙ is)
      ] in
      record {
        holders = holder;
        sessions = λ q s is. elim (same_or_other q conn) [
          | inl e ↦ elim (joined_session m conn session q s e (get m conn) refl is) [
            | inl which ↦ subst (λ (n : ℕ). asked q n) (sym which) (subst (λ (n : ℕ). asked n session) (sym e) may)
            | inr had ↦ here.sessions q s had
          ]
          | inr ne ↦ here.sessions q s (sym (session_on-with_session-beside m conn (Some session) q ne) ∙ is)
        ];
      }

  -- ---- messages

  repeated_has : (f : FrontState) (conn session number : ℕ) → HasOnly asked f → HasOnly asked (repeated f conn session number)
  repeated_has f conn session number has = by (kept_at f session number)
    where
      again : FrontState
      again = record f { books = call_repeated f.books }

      there : HasOnly asked again
      there = has_lost f again (record { holders = λ q c is. is; sessions = λ q s is. is }) has

      sent : (k : Kept) (b : Bool) → HasOnly asked (if b then mailed again conn (mail.Answer session number k.answer k.place) else again)
      sent k true = has_lost again (mailed again conn (mail.Answer session number k.answer k.place)) (mailed_loses again conn (mail.Answer session number k.answer k.place)) there
      sent k false = there

      by : (o : Option Kept) → HasOnly asked (option_map_or (λ k. if nat_lt k.place f.durable then mailed again conn (mail.Answer session number k.answer k.place) else again) o again)
      by None = there
      by (Some k) = sent k (nat_lt k.place f.durable)

  called_has : (f g : FrontState) (conn session number : ℕ) (request : Request) (o : Outcome) (es : List Entry) → Called f conn session number request o es g → HasOnly asked f → HasOnly asked g
  called_has f g conn session number request (outcome.Completed n) es r has =
      let attachments = r.completes.attachments in
      let rest : g.connections ≡ f.connections = ap (λ (x : FrontState). x.connections) r.rest in
      record {
        holders = λ q c is. has.holders q c (sym (ap (λ x. holder_of x q) attachments) ∙ is);
        sessions = λ q s is. has.sessions q s (sym (ap (λ x. session_on x q) rest) ∙ is);
      }
  called_has f g conn session number request outcome.Waits es r has = has_lost_at f _ g r.rest (record { holders = λ q c is. is; sessions = λ q s is. is }) has
  called_has f g conn session number request outcome.AlreadyWaiting es r has = subst (λ (x : FrontState). HasOnly asked x) (sym r.rest) (repeated_has f conn session number has)
  called_has f g conn session number request outcome.SentAgain es r has = subst (λ (x : FrontState). HasOnly asked x) (sym r.rest) (repeated_has f conn session number has)
  called_has f g conn session number request outcome.NotYetSynced es r has = subst (λ (x : FrontState). HasOnly asked x) (sym r.rest) (repeated_has f conn session number has)

  refused_has : (f g : FrontState) (conn : ℕ) (m : Mail) → g ≡ mailed f conn m → HasOnly asked f → HasOnly asked g
  refused_has f g conn m is has = has_lost_at f (mailed f conn m) g is (mailed_loses f conn m) has

  pub message_has : (f g : FrontState) (conn : ℕ) (m : ClientMessage) (es : List Entry) → AsksOnly (asked conn) m → Takes f conn m es g → HasOnly asked f → HasOnly asked g
  message_has f g conn (message.Attach session) es may (inl step) has = subst (λ (x : FrontState). HasOnly asked x) (sym step.1.front) (has_attached f conn session may has)
  message_has f g conn (message.Attach session) es may (inr (r, why, refused)) has = refused_has f g conn _ refused.front has
  message_has f g conn (message.Call number request) es may (inl (o, step)) has = called_has f g conn step.0 number request o es step.2 has
  message_has f g conn (message.Call number request) es may (inr (r, why, refused)) has =
      refused_has (call_refused_by f) g conn _ refused.front (has_lost f (call_refused_by f) (record { holders = λ q c is. is; sessions = λ q s is. is }) has)
  message_has f g conn (message.Cancel number) es may (inl step) has =
      refused_has (cancelled_from f step.0 number) g conn _ step.2.front (has_lost f (cancelled_from f step.0 number) (record { holders = λ q c is. is; sessions = λ q s is. is }) has)
  message_has f g conn (message.Cancel number) es may (inr (r, why, refused)) has = refused_has f g conn _ refused.front has
  message_has f g conn (message.Settle floor) es may (inl step) has = has_lost_at f (settled_to f step.0 floor) g step.2.front (record { holders = λ q c is. is; sessions = λ q s is. is }) has
  message_has f g conn (message.Settle floor) es may (inr (r, why, refused)) has = refused_has f g conn _ refused.front has
  message_has f g conn message.Bye es may (inl step) has =
      has_lost_at f (closed_by f step.0) g step.2.front (record { holders = λ q c is. sym (holder-closing f.service.attachments step.0 q) ∙ is; sessions = λ q s is. is }) has
  message_has f g conn message.Bye es may (inr (r, why, refused)) has = refused_has f g conn _ refused.front has
  message_has f g conn message.Report es may (inl step) has = refused_has f g conn _ step.1.front has
  message_has f g conn message.Report es may (inr refused) has = refused_has f g conn _ refused.front has

-- the session of a call is the one that its connection has
pub addressed_has : (f : FrontState) (conn number session : ℕ) → addressed f conn number ≡ Ok session → session_on f.connections conn ≡ Some session
addressed_has f conn number session is = by (session_on f.connections conn) is
  where
    windowed : (s : ℕ) → in_window f number s ≡ Ok session → s ≡ session
    windowed s e = cases (nat_lt number (floor_of f.service s)) (nat_lt number (floor_of f.service s + 32)) e
      where
        cases : (a b : Bool) → (if a then Err BelowFloor else if b then Ok s else Err BeyondWindow) ≡ Ok session → s ≡ session
        cases true b e = absurd (cc e)
        cases false true e = cc
        cases false false e = absurd (cc e)

    open_is : (s : ℕ) (b : Bool) → and_then (if b then Err Closing else Ok s) (in_window f number) ≡ Ok session → s ≡ session
    open_is s true e = absurd (cc e)
    open_is s false e = windowed s e

    by : (o : Option ℕ) → and_then (option_map_or (unclosing f) o (Err NotAttached)) (in_window f number) ≡ Ok session → o ≡ Some session
    by None e = absurd (cc e)
    by (Some s) e = ap Some (open_is s (is_closing f.service.attachments s) e)
