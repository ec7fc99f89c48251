-- What holds of each mail in a box still holds where connections come and go, mails are taken, and such mails are made.
use Rattle.std.proofs.Common.{◌≡◌, ◌≢◌, ℕ, ◌+◌, Bool, true, false, inl, inr, List, [], ◌∷◌, ◌++◌, Option, Some, None, length, drop, refl, sym, ap, subst}
use Rattle.std.specs.Prelude.{nat_lt, is_some, if◌then◌else◌}
use Rattle.std.specs.List.{AllByRecursion}
use Rattle.std.specs.Option.{option_map_or}
use Rattle.std.specs.Ordering.{nat_cmp}
use Rattle.std.specs.FinMap.{FinMap, get, insert, remove}
use Rattle.fe_state.proofs.Maps.{get_inserted, get_beside, get_removed, get_left, same_or_other}
use Rattle.fe_state.specs.declared.entry.Entry.{Entry}
use Rattle.fe_state.specs.declared.entry.Entry.TheVariants.{Attached, Closed, Settled, Finished}
use Rattle.fe_service.specs.AttachmentsState.{holder_of, is_closing}
use Rattle.fe_service.specs.Events.{left}
use Rattle.fe_mail.specs.Books.{mail_refused_by_box, mail_taken}
use Rattle.fe_mail.specs.Connections.{first_connection, session_on, mails_on, with_session, with_mails, session_of, mail_of}
use Rattle.fe_mail.specs.declared.connection.Connection.{Connection}
use Rattle.fe_mail.specs.declared.mail.Mail.{Mail}
use Rattle.fe_mail.proofs.Lookups.{mails_on-with_session, mails_on-with_mails, mails_on-with_mails-beside}
use Rattle.fe_front.specs.Front.{FrontState, is_connected}
use Rattle.fe_front.specs.Steps.{parted, released, freed, departed, withdrawn_from, unboxed, dropped, boxed, overflowed, mailed, connected, attached_to, taken}
use Rattle.fe_front.specs.Posting.{delivered, vacated, posted_entry, posted_all}

-- each mail in a box of these connections is such
abbrev pub AllIn : (ℕ → Mail → Type 0) → FinMap nat_cmp Connection → Type 0
AllIn P m = (conn : ℕ) → AllByRecursion (P conn) (mails_on m conn)

-- so is the mail of each of the entries, the first of them at this place, to a connection that may get mail of its session
abbrev pub AllPosted : (ℕ → ℕ → Type 0) → (ℕ → Mail → Type 0) → List Entry → ℕ → Type 0
AllPosted May P [] place = Unit {0}
AllPosted May P (e ∷ es) place = ((conn : ℕ) → May conn (session_of e) → P conn (mail_of e place)) × AllPosted May P es (place + 1)

pub all_append : {X : Type 0} (P : X → Type 0) (xs ys : List X) → AllByRecursion P xs → AllByRecursion P ys → AllByRecursion P (xs ++ ys)
all_append P [] ys all more = more
all_append P (x ∷ xs) ys all more = (all.0, all_append P xs ys all.1 more)

all_rest : {X : Type 0} (P : X → Type 0) (xs : List X) → AllByRecursion P xs → AllByRecursion P (drop 1 xs)
all_rest P [] all = tt
all_rest P (x ∷ xs) all = all.1

pub all_weaker : {X : Type 0} (P Q : X → Type 0) → ((x : X) → P x → Q x) → (xs : List X) → AllByRecursion P xs → AllByRecursion Q xs
all_weaker P Q weaker [] all = tt
all_weaker P Q weaker (x ∷ xs) all = (weaker x all.0, all_weaker P Q weaker xs all.1)

module _ (P : ℕ → Mail → Type 0) where
  -- ---- connections

  same_box : (m n : FinMap nat_cmp Connection) → ((conn : ℕ) → mails_on n conn ≡ mails_on m conn) → AllIn P m → AllIn P n
  same_box m n same all conn = subst (λ (ms : List Mail). AllByRecursion (P conn) ms) (sym (same conn)) (all conn)

  -- one box is another, and the others are the same
  other_box : (m n : FinMap nat_cmp Connection) (conn : ℕ) → AllByRecursion (P conn) (mails_on n conn) → ((q : ℕ) → q ≢ conn → mails_on n q ≡ mails_on m q) → AllIn P m → AllIn P n
  other_box m n conn here beside all q = elim (same_or_other q conn) [
    | inl e ↦ subst (λ (k : ℕ). AllByRecursion (P k) (mails_on n k)) (sym e) here
    | inr ne ↦ subst (λ (ms : List Mail). AllByRecursion (P q) ms) (sym (beside q ne)) (all q)
  ]

  abbrev mails_of : Option Connection → List Mail
  mails_of o = option_map_or (λ (c : Connection). c.mails) o []

  in_removed : (m : FinMap nat_cmp Connection) (conn : ℕ) → AllIn P m → AllIn P (remove m conn)
  in_removed m conn = other_box m (remove m conn) conn (subst (λ (o : Option Connection). AllByRecursion (P conn) (mails_of o)) (sym (get_removed m conn)) tt) (λ q ne. ap mails_of (get_left m conn q ne))

  in_connected : (m : FinMap nat_cmp Connection) (conn : ℕ) → AllIn P m → AllIn P (insert m conn first_connection)
  in_connected m conn = other_box m (insert m conn first_connection) conn (subst (λ (o : Option Connection). AllByRecursion (P conn) (mails_of o)) (sym (get_inserted m conn first_connection)) tt)
      (λ q ne. ap mails_of (get_beside m conn first_connection q ne))

  in_with_session : (m : FinMap nat_cmp Connection) (conn : ℕ) (session : Option ℕ) → AllIn P m → AllIn P (with_session m conn session)
  in_with_session m conn session = same_box m (with_session m conn session) (mails_on-with_session m conn session)

  in_with_mails : (m : FinMap nat_cmp Connection) (conn : ℕ) (mails : List Mail) → AllByRecursion (P conn) mails → AllIn P m → AllIn P (with_mails m conn mails)
  in_with_mails m conn mails new = by (get m conn) refl
    where
      by : (o : Option Connection) → get m conn ≡ o → AllIn P m → AllIn P (with_mails m conn mails)
      by None is = same_box m (with_mails m conn mails)
          (λ q. ap (λ (o : Option Connection). mails_on (option_map_or (λ (c : Connection). insert m conn (record { session = c.session; mails = mails })) o m) q) is)
      by (Some c) is = other_box m (with_mails m conn mails) conn
          (subst (λ (ms : List Mail). AllByRecursion (P conn) ms) (sym (mails_on-with_mails m conn mails (ap (λ (o : Option Connection). is_some o) is))) new)
          (mails_on-with_mails-beside m conn mails)

  -- ---- what happens to a front

  pub boxes-released : (f : FrontState) (conn : ℕ) → AllIn P f.connections → AllIn P (released f conn).connections
  boxes-released f conn = by (session_on f.connections conn)
    where
      by : (o : Option ℕ) → AllIn P f.connections → AllIn P (option_map_or (parted f conn) o f).connections
      by None all = all
      by (Some session) all = in_with_session f.connections conn None all

  pub boxes-freed : (f : FrontState) (session : ℕ) → AllIn P f.connections → AllIn P (freed f session).connections
  boxes-freed f session = by (holder_of f.service.attachments session)
    where
      by : (o : Option ℕ) → AllIn P f.connections → AllIn P (option_map_or (λ conn. parted f conn session) o f).connections
      by None all = all
      by (Some conn) all = in_with_session f.connections conn None all

  boxes-departed : (f : FrontState) (conn : ℕ) → AllIn P f.connections → AllIn P (departed f conn).connections
  boxes-departed f conn = by (session_on f.connections conn)
    where
      by : (o : Option ℕ) → AllIn P f.connections → AllIn P (option_map_or (λ session. parted (withdrawn_from f session) conn session) o f).connections
      by None all = all
      by (Some session) all = in_with_session f.connections conn None all

  pub boxes-dropped : (f : FrontState) (conn : ℕ) → AllIn P f.connections → AllIn P (dropped f conn).connections
  boxes-dropped f conn all = by (is_connected f conn)
    where
      by : (b : Bool) → AllIn P (if b then unboxed (departed f conn) conn else f).connections
      by true = in_removed (departed f conn).connections conn (boxes-departed f conn all)
      by false = all

  pub boxes-mailed : (f : FrontState) (conn : ℕ) (m : Mail) → P conn m → AllIn P f.connections → AllIn P (mailed f conn m).connections
  boxes-mailed f conn m such all = by (is_connected f conn) (nat_lt (length (mails_on f.connections conn)) 128)
    where
      by : (a b : Bool) → AllIn P (if a then (if b then boxed f conn m else overflowed f conn) else f).connections
      by false b = all
      by true true = in_with_mails f.connections conn (mails_on f.connections conn ++ m ∷ []) (all_append (P conn) (mails_on f.connections conn) (m ∷ []) (all conn) (such, tt)) all
      by true false = boxes-dropped (record f { books = mail_refused_by_box f.books }) conn all

  pub boxes-connected : (f : FrontState) (conn : ℕ) → AllIn P f.connections → AllIn P (connected f conn).connections
  boxes-connected f conn = in_connected f.connections conn

  pub boxes-attached : (f : FrontState) (conn session : ℕ) → AllIn P f.connections → AllIn P (attached_to f conn session).connections
  boxes-attached f conn session all =
      let left = released f conn in
      in_with_session (freed left session).connections conn (Some session) (boxes-freed left session (boxes-released f conn all))

  pub boxes-taken : (f : FrontState) (conn : ℕ) → AllIn P f.connections → AllIn P (taken f conn).connections
  boxes-taken f conn all = by (nat_lt 0 (length (mails_on f.connections conn)))
    where
      by : (b : Bool) → AllIn P (if b then record f { connections = with_mails f.connections conn (drop 1 (mails_on f.connections conn)); books = mail_taken f.books } else f).connections
      by true = in_with_mails f.connections conn (drop 1 (mails_on f.connections conn)) (all_rest (P conn) (mails_on f.connections conn) (all conn)) all
      by false = all

  -- ---- posting

  -- `May` is which connections may get mail of which sessions: of a front that `Has` it, those that have the session
  module _ (May : ℕ → ℕ → Type 0) (Has : FrontState → Type 0) (holders : (f : FrontState) → Has f → (session conn : ℕ) → holder_of f.service.attachments session ≡ Some conn → May conn session)
      (stays : (f : FrontState) (e : Entry) (place : ℕ) → Has f → Has (posted_entry f e place)) where
    -- the mail of an entry is such, to a connection that may get it
    abbrev IsPosted : Entry → ℕ → Type 0
    IsPosted e place = (conn : ℕ) → May conn (session_of e) → P conn (mail_of e place)

    boxes-delivered : (f : FrontState) (e : Entry) (place : ℕ) → IsPosted e place → Has f → AllIn P f.connections → AllIn P (delivered f e place).connections
    boxes-delivered f e place such has all = by (holder_of f.service.attachments (session_of e)) refl
      where
        by : (o : Option ℕ) → holder_of f.service.attachments (session_of e) ≡ o → AllIn P (option_map_or (λ conn. mailed f conn (mail_of e place)) o f).connections
        by None is = all
        by (Some conn) is = boxes-mailed f conn (mail_of e place) (such conn (holders f has (session_of e) conn is)) all

    boxes-vacated : (f : FrontState) (session : ℕ) → AllIn P f.connections → AllIn P (vacated f session).connections
    boxes-vacated f session all = by (is_closing f.service.attachments session)
      where
        by : (b : Bool) → AllIn P (if b then record f { service = left f.service session } else f).connections
        by true = all
        by false = all

    boxes-posted_entry : (f : FrontState) (e : Entry) (place : ℕ) → IsPosted e place → Has f → AllIn P f.connections → AllIn P (posted_entry f e place).connections
    boxes-posted_entry f (Attached session floor) place such has all = boxes-delivered f (Attached session floor) place such has all
    boxes-posted_entry f (Settled session floor) place such has all = boxes-delivered f (Settled session floor) place such has all
    boxes-posted_entry f (Finished session number request answer) place such has all = boxes-delivered f (Finished session number request answer) place such has all
    boxes-posted_entry f (Closed session) place such has all =
        let g = delivered f (Closed session) place in
        boxes-vacated (freed g session) session (boxes-freed g session (boxes-delivered f (Closed session) place such has all))

    pub boxes-posted_all : (f : FrontState) (es : List Entry) (place : ℕ) → AllPosted May P es place → Has f → AllIn P f.connections → AllIn P (posted_all f es place).connections
    boxes-posted_all f [] place such has all = all
    boxes-posted_all f (e ∷ es) place such has all =
        boxes-posted_all (posted_entry f e place) es (place + 1) such.1 (stays f e place has) (boxes-posted_entry f e place such.0 has all)
