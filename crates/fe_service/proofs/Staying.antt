-- What leaves a service one.
use Rattle.std.proofs.Common.{◌≡◌, ◌≢◌, ℕ, ◌≤◌, ◌<◌, inl, inr, Option, Some, None, Bool, true, false, not, cond, refl, sym, ap, subst, ◌∙◌, arith}
use Rattle.std.specs.Prelude.{◌==◌, is_some, IsSome, IsSomeAnd, nat_le}
use Rattle.std.specs.Option.{option_map, option_map_or}
use Rattle.std.specs.Ordering.{nat_cmp}
use Rattle.std.specs.FinMap.{FinMap, empty, get, get-empty, insert, remove}
use Rattle.std.proofs.lemmas.Bool.Decides.{nat_tests}
use Rattle.fe_waits.specs.Waiting.{pair_cmp, WaitingAccess}
use Rattle.fe_waits.proofs.MemberLemmas.{key_cases, none_some, some_same, get-insert_here, get-remove_here, get-remove_other, get-insert_other, get-without_slot}
use Rattle.fe_service.specs.AttachmentsState.{NoneOfSession, without_session, with_holder, with_closing, is_closing, holder_of, count_of}
use Rattle.fe_service.specs.declared.attachment.Attachment.{Attachment}
use Rattle.fe_service.proofs.SessionLemmas.{room-of_session}
use Rattle.fe_state.proofs.Maps.{get_inserted, get_beside, get_removed, get_left, get_retained, same_or_other}
use Rattle.fe_state.specs.Sessions.{Session, MayRise, raised, put_session, opened, first_session, IsUsable}
use Rattle.fe_state.specs.State.{reply}
use Rattle.fe_service.specs.Service.{WaitingAccesses, request_of, ServiceState, IsService, is_open}
use Rattle.fe_service.specs.Events.{IsFree, MaySettle, held, left, waited, settled, closed, attached}

-- where each part is equal
pub same_service : (s t : ServiceState) → t.state ≡ s.state → t.attachments ≡ s.attachments → t.waiting ≡ s.waiting → t.pending ≡ s.pending → IsService s → IsService t
same_service s t state attachments waiting pending =
    subst IsService (λ i. record { state = sym state i; attachments = sym attachments i; waiting = sym waiting i; pending = sym pending i })

-- where fewer wait
pub fewer_service : (s : ServiceState) (few : WaitingAccesses) → ((key : ℕ × ℕ) (w : WaitingAccess) → get few key ≡ Some w → get s.waiting key ≡ Some w) → IsService s → IsService (record s { waiting = few })
fewer_service s few within h = record {
  usable = λ key w waits. h.usable key w (within key w waits);
  quiet = λ key w waits. h.quiet key w (within key w waits);
  has_attachment = h.has_attachment;
}

pub within_remove : (m : WaitingAccesses) (k key : ℕ × ℕ) (w : WaitingAccess) → get (remove m k) key ≡ Some w → get m key ≡ Some w
within_remove m k key w waits =
    elim (key_cases key k) as (λ _. get m key ≡ Some w) [
      | inl same ↦ none_some (sym (ap (get (remove m k)) same ∙ get-remove_here m k) ∙ waits)
      | inr other ↦ sym (get-remove_other m k key other) ∙ waits
    ]

pub within_without : (m : WaitingAccesses) (session : ℕ) (key : ℕ × ℕ) (w : WaitingAccess) → get (without_session m session) key ≡ Some w → (get m key ≡ Some w) × (key.0 ≢ session)
within_without m session key w waits = by_test (key.0 == session) refl
  where
    by_test : (b : Bool) → (key.0 == session) ≡ b → (get m key ≡ Some w) × (key.0 ≢ session)
    by_test true is = none_some (sym (get-without_slot m session key ∙ ap (λ b. cond (not b) (get m key) None) is) ∙ waits)
    by_test false is = (sym (get-without_slot m session key ∙ ap (λ b. cond (not b) (get m key) None) is) ∙ waits, λ same. differs same)
      where
        differs : key.0 ≡ session → ⊥
        differs same = grind (arith, nat_tests, is, same)

nowhere : {P : Type 0} → false ≡ true → P
nowhere e = cc

-- the attachments that are open
pub open_held : (attachments : FinMap nat_cmp Attachment) (session : ℕ) (holder : Option ℕ) → IsSome (get attachments session) → (other : ℕ) → is_open (with_holder attachments session holder) other ≡ is_open attachments other
open_held attachments session holder has_attachment other =
    elim (same_or_other other session) as (λ _. is_open (with_holder attachments session holder) other ≡ is_open attachments other) [
      | inl same ↦
          ap (is_open (with_holder attachments session holder)) same
          ∙ ap (λ (o : Option Attachment). option_map_or (λ attachment. not attachment.closing) o false) (get_inserted attachments session (record { holder = holder; closing = is_closing attachments session }))
          ∙ by_attachment (get attachments session) refl has_attachment
          ∙ ap (is_open attachments) (sym same)
      | inr differs ↦ ap (λ (o : Option Attachment). option_map_or (λ attachment. not attachment.closing) o false) (get_beside attachments session (record { holder = holder; closing = is_closing attachments session }) other differs)
    ]
  where
    by_attachment : (here : Option Attachment) → get attachments session ≡ here → IsSome here → not (is_closing attachments session) ≡ is_open attachments session
    by_attachment None is some = nowhere some
    by_attachment (Some attachment) is some = ap (λ o. not (option_map_or (λ attachment. attachment.closing) o false)) is ∙ sym (ap (λ o. option_map_or (λ attachment. not attachment.closing) o false) is)

pub held_service : (s : ServiceState) (session : ℕ) (holder : Option ℕ) → IsSome (get s.attachments session) → IsService s → IsService (held s session holder)
held_service s session holder has_attachment h = record {
  usable = h.usable;
  quiet = h.quiet;
  has_attachment = λ other. h.has_attachment other ∙ sym (open_held s.attachments session holder has_attachment other);
}

-- a session that is closing is not open
closing_shut : (here : Option Attachment) → option_map_or (λ attachment. attachment.closing) here false ≡ true → option_map_or (λ attachment. not attachment.closing) here false ≡ false
closing_shut None e = refl
closing_shut (Some attachment) e = ap not e

pub left_service : (s : ServiceState) (session : ℕ) → is_closing s.attachments session ≡ true → IsService s → IsService (left s session)
left_service s session closing h = record {
  usable = h.usable;
  quiet = h.quiet;
  has_attachment = λ other.
      elim (same_or_other other session) as (λ _. is_some (get s.state.sessions other) ≡ is_open (remove s.attachments session) other) [
        | inl same ↦
            h.has_attachment other
            ∙ ap (is_open s.attachments) same
            ∙ closing_shut (get s.attachments session) closing
            ∙ sym (ap (λ (o : Option Attachment). option_map_or (λ attachment. not attachment.closing) o false) (get_removed s.attachments session))
            ∙ ap (is_open (remove s.attachments session)) (sym same)
        | inr differs ↦ h.has_attachment other ∙ sym (ap (λ (o : Option Attachment). option_map_or (λ attachment. not attachment.closing) o false) (get_left s.attachments session other differs))
      ];
}

pub waited_service : (s : ServiceState) (session number : ℕ) (waiter : WaitingAccess) → IsSomeAnd (get s.state.sessions session) (λ x. IsUsable x number) → reply s.state (request_of waiter) ≡ None → IsService s → IsService (waited s session number waiter)
waited_service s session number waiter usable idle h = record {
  usable = λ key w waits.
      elim (key_cases key (session, number)) as (λ _. IsSomeAnd (get s.state.sessions key.0) (λ x. IsUsable x key.1)) [
        | inl same ↦ subst (λ (k : ℕ × ℕ). IsSomeAnd (get s.state.sessions k.0) (λ x. IsUsable x k.1)) (sym same) usable
        | inr other ↦ h.usable key w (sym (get-insert_other s.waiting (session, number) waiter key other) ∙ waits)
      ];
  quiet = λ key w waits.
      elim (key_cases key (session, number)) as (λ _. reply s.state (request_of w) ≡ None) [
        | inl same ↦
            let is : waiter ≡ w = some_same (sym (get-insert_here s.waiting (session, number) waiter) ∙ sym (ap (get (insert s.waiting (session, number) waiter)) same) ∙ waits) in
            subst (λ (w : WaitingAccess). reply s.state (request_of w) ≡ None) is idle
        | inr other ↦ h.quiet key w (sym (get-insert_other s.waiting (session, number) waiter key other) ∙ waits)
      ];
  has_attachment = h.has_attachment;
}

-- a session that changes stays where it is
present_put : (sessions : FinMap nat_cmp Session) (session : ℕ) (f : Session → Session) (here : Option Session) → get sessions session ≡ here → (other : ℕ)
    → is_some (get (put_session sessions session (option_map f here)) other) ≡ is_some (get sessions other)
present_put sessions session f None is other = refl
present_put sessions session f (Some x) is other =
    elim (same_or_other other session) as (λ _. is_some (get (insert sessions session (f x)) other) ≡ is_some (get sessions other)) [
      | inl same ↦
          ap (λ n. is_some (get (insert sessions session (f x)) n)) same
          ∙ ap is_some (get_inserted sessions session (f x))
          ∙ sym (ap is_some is)
          ∙ ap (λ n. is_some (get sessions n)) (sym same)
      | inr differs ↦ ap is_some (get_beside sessions session (f x) other differs)
    ]

kept_raised : (x : Session) (floor number : ℕ) → get x.kept number ≡ None → get (raised x floor).kept number ≡ None
kept_raised x floor number none = get_retained x.kept (nat_le floor) number ∙ elim (nat_le floor number) as (λ b. cond b (get x.kept number) None ≡ None) [ true ↦ none | false ↦ refl ]

pub settled_service : (s : ServiceState) (session floor : ℕ) → MaySettle s session floor → IsService s → IsService (settled s session floor)
settled_service s session floor may h = record {
  usable = λ key w waits.
      elim (same_or_other key.0 session) as (λ _. IsSomeAnd (get (settled s session floor).state.sessions key.0) (λ x. IsUsable x key.1)) [
        | inl same ↦
            subst
            (λ n. IsSomeAnd (get (settled s session floor).state.sessions n) (λ x. IsUsable x key.1))
            (sym same)
            (by_session key.1 (get s.state.sessions session) refl may.rises (may.above key.1 w (ap (λ n. get s.waiting (n, key.1)) (sym same) ∙ waits)) (subst (λ n. IsSomeAnd (get s.state.sessions n) (λ x. IsUsable x key.1)) same (h.usable key w waits)))
        | inr other ↦ subst (λ (o : Option Session). IsSomeAnd o (λ x. IsUsable x key.1)) (sym (put_beside (option_map (λ x. raised x floor) (get s.state.sessions session)) key.0 other)) (h.usable key w waits)
      ];
  quiet = h.quiet;
  has_attachment = λ other. present_put s.state.sessions session (λ x. raised x floor) (get s.state.sessions session) refl other ∙ h.has_attachment other;
}
  where
    put_beside : (new : Option Session) (other : ℕ) → other ≢ session → get (put_session s.state.sessions session new) other ≡ get s.state.sessions other
    put_beside None other differs = refl
    put_beside (Some x) other differs = get_beside s.state.sessions session x other differs

    by_session : (number : ℕ) (here : Option Session) → get s.state.sessions session ≡ here → IsSomeAnd here (λ x. MayRise x.floor floor) → floor ≤ number → IsSomeAnd here (λ x. IsUsable x number)
        → IsSomeAnd (get (put_session s.state.sessions session (option_map (λ x. raised x floor) here)) session) (λ x. IsUsable x number)
    by_session number None is rises above usable = absurd usable
    by_session number (Some x) is rises above usable =
        let new : IsUsable (raised x floor) number = record {
          in_window = record { not_below = above; not_beyond = omega (arith, usable.in_window.not_beyond, rises.no_lower) };
          not_kept = kept_raised x floor number usable.not_kept;
        } in
        subst (λ (o : Option Session). IsSomeAnd o (λ x. IsUsable x number)) (sym (get_inserted s.state.sessions session (raised x floor))) new

pub closed_service : (s : ServiceState) (session : ℕ) → IsService s → IsService (closed s session)
closed_service s session h = record {
  usable = λ key w waits.
      let (was, other) = within_without s.waiting session key w waits in
      subst (λ (o : Option Session). IsSomeAnd o (λ x. IsUsable x key.1)) (sym (get_left s.state.sessions session key.0 other)) (h.usable key w was);
  quiet = λ key w waits. h.quiet key w (within_without s.waiting session key w waits).0;
  has_attachment = λ other.
      elim (same_or_other other session) as (λ _. is_some (get (remove s.state.sessions session) other) ≡ is_open (with_closing s.attachments session) other) [
        | inl same ↦
            ap (λ n. is_some (get (remove s.state.sessions session) n)) same
            ∙ ap is_some (get_removed s.state.sessions session)
            ∙ sym (ap (λ (o : Option Attachment). option_map_or (λ attachment. not attachment.closing) o false) (get_inserted s.attachments session (record { holder = holder_of s.attachments session; closing = true })))
            ∙ ap (is_open (with_closing s.attachments session)) (sym same)
        | inr differs ↦
            ap is_some (get_left s.state.sessions session other differs)
            ∙ h.has_attachment other
            ∙ sym (ap (λ (o : Option Attachment). option_map_or (λ attachment. not attachment.closing) o false) (get_beside s.attachments session (record { holder = holder_of s.attachments session; closing = true }) other differs))
      ];
}

-- a session that is attached
opened_here : (sessions : FinMap nat_cmp Session) (session : ℕ) → is_some (get (opened sessions session) session) ≡ true
opened_here sessions session = by_test (is_some (get sessions session)) refl
  where
    by_test : (b : Bool) → is_some (get sessions session) ≡ b → is_some (get (cond b sessions (insert sessions session first_session)) session) ≡ true
    by_test true is = is
    by_test false is = ap is_some (get_inserted sessions session first_session)

opened_beside : (sessions : FinMap nat_cmp Session) (session other : ℕ) → other ≢ session → get (opened sessions session) other ≡ get sessions other
opened_beside sessions session other differs = elim (is_some (get sessions session)) as (λ b. get (cond b sessions (insert sessions session first_session)) other ≡ get sessions other) [
  | true ↦ refl
  | false ↦ get_beside sessions session first_session other differs
]

-- one that was there stays as it is
opened_there : (sessions : FinMap nat_cmp Session) (session : ℕ) (P : Session → Type 0) → IsSomeAnd (get sessions session) P → IsSomeAnd (get (opened sessions session) session) P
opened_there sessions session P holds = by_session (get sessions session) refl holds
  where
    by_session : (here : Option Session) → get sessions session ≡ here → IsSomeAnd here P → IsSomeAnd (get (opened sessions session) session) P
    by_session None is holds = absurd holds
    by_session (Some x) is holds = subst (λ b. IsSomeAnd (get (cond b sessions (insert sessions session first_session)) session) P) (sym (ap is_some is)) (subst (λ (o : Option Session). IsSomeAnd o P) (sym is) holds)

pub attached_service : (s : ServiceState) (session conn : ℕ) → IsService s → IsService (attached s session conn)
attached_service s session conn h = record {
  usable = λ key w waits.
      elim (same_or_other key.0 session) as (λ _. IsSomeAnd (get (opened s.state.sessions session) key.0) (λ x. IsUsable x key.1)) [
        | inl same ↦
            subst
            (λ n. IsSomeAnd (get (opened s.state.sessions session) n) (λ x. IsUsable x key.1))
            (sym same)
            (opened_there s.state.sessions session (λ x. IsUsable x key.1) (subst (λ n. IsSomeAnd (get s.state.sessions n) (λ x. IsUsable x key.1)) same (h.usable key w waits)))
        | inr other ↦ subst (λ (o : Option Session). IsSomeAnd o (λ x. IsUsable x key.1)) (sym (opened_beside s.state.sessions session key.0 other)) (h.usable key w waits)
      ];
  quiet = h.quiet;
  has_attachment = λ other.
      elim (same_or_other other session) as (λ _. is_some (get (opened s.state.sessions session) other) ≡ is_open (insert s.attachments session (record { holder = Some conn; closing = false })) other) [
        | inl same ↦
            ap (λ n. is_some (get (opened s.state.sessions session) n)) same
            ∙ opened_here s.state.sessions session
            ∙ sym (ap (λ (o : Option Attachment). option_map_or (λ attachment. not attachment.closing) o false) (get_inserted s.attachments session (record { holder = Some conn; closing = false })))
            ∙ ap (is_open (insert s.attachments session (record { holder = Some conn; closing = false }))) (sym same)
        | inr differs ↦
            ap is_some (opened_beside s.state.sessions session other differs)
            ∙ h.has_attachment other
            ∙ sym (ap (λ (o : Option Attachment). option_map_or (λ attachment. not attachment.closing) o false) (get_beside s.attachments session (record { holder = Some conn; closing = false }) other differs))
      ];
}

-- where a session may finish a number that does not wait, fewer than 32 of it wait
pub room_for : (s : ServiceState) (session number : ℕ) → IsService s → IsFree s session number → count_of s.waiting session < 32
room_for s session number h free = by_session (get s.state.sessions session) refl free.usable
  where
    by_session : (here : Option Session) → get s.state.sessions session ≡ here → IsSomeAnd here (λ x. IsUsable x number) → count_of s.waiting session < 32
    by_session None is usable = absurd usable
    by_session (Some x) is usable =
        room-of_session
        s.waiting
        session
        x.floor
        number
        (λ n w waits. let u : IsUsable x n = subst (λ (o : Option Session). IsSomeAnd o (λ x. IsUsable x n)) is (h.usable (session, n) w waits) in (u.in_window.not_below, u.in_window.not_beyond))
        free.new
        usable.in_window.not_below
        usable.in_window.not_beyond

-- nobody waits where nothing does
pub none_waiting : {P : Type 0} (m : WaitingAccesses) → m ≡ empty → (key : ℕ × ℕ) (w : WaitingAccess) → get m key ≡ Some w → P
none_waiting m none key w waits = none_some (sym (get-empty pair_cmp key) ∙ sym (ap (λ m. get m key) none) ∙ waits)

-- a session that is closing has an attachment, and nothing of it waits
pub closing_attached : (attachments : FinMap nat_cmp Attachment) (session : ℕ) → is_closing attachments session ≡ true → IsSome (get attachments session)
closing_attached attachments session closing = by_attachment (get attachments session) closing
  where
    by_attachment : (here : Option Attachment) → option_map_or (λ attachment. attachment.closing) here false ≡ true → IsSome here
    by_attachment None closing = closing
    by_attachment (Some attachment) closing = refl

pub none_closing : (s : ServiceState) (session : ℕ) → IsService s → is_closing s.attachments session ≡ true → NoneOfSession s.waiting session
none_closing s session h closing number = by_waiter (get s.waiting (session, number)) refl
  where
    by_session : {P : Type 0} (here : Option Session) → is_some here ≡ false → IsSomeAnd here (λ x. IsUsable x number) → P
    by_session None is usable = absurd usable
    by_session (Some x) is usable = nowhere (sym is)

    by_waiter : (waiter : Option WaitingAccess) → get s.waiting (session, number) ≡ waiter → get s.waiting (session, number) ≡ None
    by_waiter None is = is
    by_waiter (Some w) is = by_session (get s.state.sessions session) (h.has_attachment session ∙ closing_shut (get s.attachments session) closing) (h.usable (session, number) w is)
