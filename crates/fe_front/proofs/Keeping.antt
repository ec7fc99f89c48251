-- What stays where mails are made, connections go and entries are posted: the state, the mark, the batch that is out and what is
-- pending; and no connection comes.
use Rattle.std.proofs.Common.{◌≡◌, ℕ, ◌+◌, Bool, true, false, true≢false, inl, inr, List, [], ◌∷◌, ◌++◌, Option, Some, None, is_some, refl, sym, ap, ◌∙◌}
use Rattle.std.specs.Prelude.{nat_lt, length, if◌then◌else◌}
use Rattle.std.specs.Option.{option_map_or}
use Rattle.std.specs.Ordering.{nat_cmp}
use Rattle.std.specs.FinMap.{FinMap, get, remove}
use Rattle.fe_state.proofs.Maps.{get_removed, get_left, same_or_other}
use Rattle.fe_state.specs.declared.entry.Entry.{Entry}
use Rattle.fe_state.specs.declared.entry.Entry.TheVariants.{Attached, Closed, Settled, Finished}
use Rattle.fe_state.specs.declared.kept.Kept.{Kept}
use Rattle.fe_service.specs.AttachmentsState.{holder_of, is_closing}
use Rattle.fe_service.specs.Events.{left}
use Rattle.fe_mail.specs.Books.{mail_refused_by_box, call_repeated}
use Rattle.fe_mail.specs.Connections.{session_on, mails_on, session_of, mail_of}
use Rattle.fe_mail.specs.declared.connection.Connection.{Connection}
use Rattle.fe_mail.specs.declared.mail.Mail.{Mail}
use Rattle.fe_mail.specs.declared.mail.Mail.TheVariants as mail
use Rattle.fe_mail.proofs.Lookups.{is_some-with_session, is_some-with_mails}
use Rattle.fe_front.specs.Front.{FrontState, is_connected}
use Rattle.fe_front.specs.Call.{kept_at, repeated}
use Rattle.fe_front.specs.Steps.{parted, released, freed, departed, withdrawn_from, unboxed, dropped, boxed, overflowed, mailed, cancelled_from, cancelled_by}
use Rattle.fe_front.specs.Posting.{delivered, vacated, ended, posted_entry, posted_all}

-- no connection comes: whoever is connected after was connected before
abbrev pub NoneComes : FrontState → FrontState → Type 0
NoneComes f g = (conn : ℕ) → is_connected g conn ≡ true → is_connected f conn ≡ true

pub record Keeps (f g : FrontState) : Type 0 where
  pub state : g.service.state ≡ f.service.state
  pub durable : g.durable ≡ f.durable
  pub out : g.out ≡ f.out
  pub pending : g.service.pending ≡ f.service.pending
  pub none_comes : NoneComes f g

pub itself : (f : FrontState) → Keeps f f
itself f = record { state = refl; durable = refl; out = refl; pending = refl; none_comes = λ q is. is }

pub both : (f g h : FrontState) → Keeps f g → Keeps g h → Keeps f h
both f g h a b = record {
  state = b.state ∙ a.state;
  durable = b.durable ∙ a.durable;
  out = b.out ∙ a.out;
  pending = b.pending ∙ a.pending;
  none_comes = λ q is. a.none_comes q (b.none_comes q is);
}

removed-comes : (m : FinMap nat_cmp Connection) (conn q : ℕ) → is_some (get (remove m conn) q) ≡ true → is_some (get m q) ≡ true
removed-comes m conn q is = elim (same_or_other q conn) [
  | inl e ↦ absurd (true≢false (sym is ∙ ap (λ (k : ℕ). is_some (get (remove m conn) k)) e ∙ ap (λ (o : Option Connection). is_some o) (get_removed m conn)))
  | inr ne ↦ sym (ap (λ (o : Option Connection). is_some o) (get_left m conn q ne)) ∙ is
]

parted-keeps : (f : FrontState) (conn session : ℕ) → Keeps f (parted f conn session)
parted-keeps f conn session = record { state = refl; durable = refl; out = refl; pending = refl; none_comes = λ q is. sym (is_some-with_session f.connections conn None q) ∙ is }

pub released-keeps : (f : FrontState) (conn : ℕ) → Keeps f (released f conn)
released-keeps f conn = by (session_on f.connections conn)
  where
    by : (o : Option ℕ) → Keeps f (option_map_or (parted f conn) o f)
    by None = itself f
    by (Some session) = parted-keeps f conn session

pub freed-keeps : (f : FrontState) (session : ℕ) → Keeps f (freed f session)
freed-keeps f session = by (holder_of f.service.attachments session)
  where
    by : (o : Option ℕ) → Keeps f (option_map_or (λ conn. parted f conn session) o f)
    by None = itself f
    by (Some conn) = parted-keeps f conn session

departed-keeps : (f : FrontState) (conn : ℕ) → Keeps f (departed f conn)
departed-keeps f conn = by (session_on f.connections conn)
  where
    by : (o : Option ℕ) → Keeps f (option_map_or (λ session. parted (withdrawn_from f session) conn session) o f)
    by None = itself f
    by (Some session) = both f (withdrawn_from f session) (parted (withdrawn_from f session) conn session) (record { state = refl; durable = refl; out = refl; pending = refl; none_comes = λ q is. is }) (parted-keeps (withdrawn_from f session) conn session)

pub dropped-keeps : (f : FrontState) (conn : ℕ) → Keeps f (dropped f conn)
dropped-keeps f conn = by (is_connected f conn)
  where
    by : (b : Bool) → Keeps f (if b then unboxed (departed f conn) conn else f)
    by true = both f (departed f conn) (unboxed (departed f conn) conn) (departed-keeps f conn) (record { state = refl; durable = refl; out = refl; pending = refl; none_comes = removed-comes (departed f conn).connections conn })
    by false = itself f

pub mailed-keeps : (f : FrontState) (conn : ℕ) (m : Mail) → Keeps f (mailed f conn m)
mailed-keeps f conn m = by (is_connected f conn) (nat_lt (length (mails_on f.connections conn)) 128)
  where
    refused : FrontState
    refused = record f { books = mail_refused_by_box f.books }

    by : (a b : Bool) → Keeps f (if a then (if b then boxed f conn m else overflowed f conn) else f)
    by false b = itself f
    by true true =
        record { state = refl; durable = refl; out = refl; pending = refl; none_comes = λ q is. sym (is_some-with_mails f.connections conn (mails_on f.connections conn ++ m ∷ []) q) ∙ is }
    by true false = both f refused (overflowed f conn) (record { state = refl; durable = refl; out = refl; pending = refl; none_comes = λ q is. is }) (dropped-keeps refused conn)

delivered-keeps : (f : FrontState) (e : Entry) (place : ℕ) → Keeps f (delivered f e place)
delivered-keeps f e place = by (holder_of f.service.attachments (session_of e))
  where
    by : (o : Option ℕ) → Keeps f (option_map_or (λ conn. mailed f conn (mail_of e place)) o f)
    by None = itself f
    by (Some conn) = mailed-keeps f conn (mail_of e place)

vacated-keeps : (f : FrontState) (session : ℕ) → Keeps f (vacated f session)
vacated-keeps f session = by (is_closing f.service.attachments session)
  where
    by : (b : Bool) → Keeps f (if b then record f { service = left f.service session } else f)
    by true = record { state = refl; durable = refl; out = refl; pending = refl; none_comes = λ q is. is }
    by false = itself f

posted_entry-keeps : (f : FrontState) (e : Entry) (place : ℕ) → Keeps f (posted_entry f e place)
posted_entry-keeps f (Attached session floor) place = delivered-keeps f (Attached session floor) place
posted_entry-keeps f (Settled session floor) place = delivered-keeps f (Settled session floor) place
posted_entry-keeps f (Finished session number request answer) place = delivered-keeps f (Finished session number request answer) place
posted_entry-keeps f (Closed session) place =
    let g = delivered f (Closed session) place in
    both f g (ended g session) (delivered-keeps f (Closed session) place) (both g (freed g session) (ended g session) (freed-keeps g session) (vacated-keeps (freed g session) session))

pub posted_all-keeps : (f : FrontState) (es : List Entry) (place : ℕ) → Keeps f (posted_all f es place)
posted_all-keeps f [] place = itself f
posted_all-keeps f (e ∷ es) place =
    both f (posted_entry f e place) (posted_all (posted_entry f e place) es (place + 1)) (posted_entry-keeps f e place) (posted_all-keeps (posted_entry f e place) es (place + 1))

-- ---- events

pub cancelled-keeps : (f : FrontState) (conn session number : ℕ) → Keeps f (cancelled_by f conn session number)
cancelled-keeps f conn session number =
    let out = cancelled_from f session number in
    both f out (cancelled_by f conn session number) (record { state = refl; durable = refl; out = refl; pending = refl; none_comes = λ q is. is }) (mailed-keeps out conn (mail.Withdrawn number))

pub repeated-keeps : (f : FrontState) (conn session number : ℕ) → Keeps f (repeated f conn session number)
repeated-keeps f conn session number = by (kept_at again session number)
  where
    again : FrontState
    again = record f { books = call_repeated f.books }

    start : Keeps f again
    start = record { state = refl; durable = refl; out = refl; pending = refl; none_comes = λ q is. is }

    chosen : (b : Bool) (h : FrontState) → Keeps again h → Keeps f (if b then h else again)
    chosen true h keeps = both f again h start keeps
    chosen false h keeps = start

    by : (o : Option Kept) → Keeps f (option_map_or (λ (k : Kept). if nat_lt k.place again.durable then mailed again conn (mail.Answer session number k.answer k.place) else again) o again)
    by None = start
    by (Some k) = chosen (nat_lt k.place again.durable) (mailed again conn (mail.Answer session number k.answer k.place)) (mailed-keeps again conn (mail.Answer session number k.answer k.place))
