-- Sessions and connections that let go of each other, and what a session's attachment allows.
use Rattle.std.proofs.Common.{◌≡◌, ℕ, ◌+◌, ◌-◌, ◌^◌, ◌<◌, ◌≤◌, inl, inr, Bool, true, false, not, cond, ◌&&◌, Option, Some, None, IsSome, refl, sym, ap, ◌∙◌, arith, rules}
use Rattle.std.specs.Prelude.{is_none, nat_lt, nat_le, if◌then◌else◌, Ok, Err, IsTrue}
use Rattle.std.specs.Option.{option_map_or}
use Rattle.std.specs.Ordering.{nat_cmp}
use Rattle.std.specs.Cmp.{nat_cmp_total}
use Rattle.std.specs.FinMap.{FinMap, get, insert, len, len-insert}
use Rattle.std.proofs.lemmas.Bool.Decides.{nat_tests}
use Rattle.fe_state.proofs.Maps.{get_inserted, get_beside, same_or_other}
use Rattle.fe_waits.proofs.MemberLemmas.{none_some}
use Rattle.fe_service.specs.AttachmentsState.{holder_of, with_holder, is_closing}
use Rattle.fe_service.specs.declared.attachment.Attachment.{Attachment}
use Rattle.fe_service.specs.Service.{ServiceState}
use Rattle.fe_service.specs.Events.{IsAttachable, HasRoom, held}
use Rattle.fe_mail.specs.Connections.{session_on, with_session}
use Rattle.fe_mail.specs.declared.refusal.Refusal.TheVariants.{NotAttached, Closing, SessionLimit, Spent}
use Rattle.fe_mail.proofs.Lookups.{session_on-with_session, session_on-with_session-beside, is_some-with_session}
use Rattle.fe_front.specs.Front.{FrontState, has_room, is_spent, is_connected}
use Rattle.fe_front.specs.Call.{attaching, unspent, has_no_attachment}
use Rattle.fe_front.specs.Steps.{parted, released, freed, departed, withdrawn_from}
use Rattle.fe_front.proofs.Agreement.{Agree, connection_there, attachment_there, holder-inserted}

-- what the tests for places and for room say
pub left_of : (place : ℕ) → nat_lt (2 ^ 63 - 1) (place + 2049) ≡ false → place + 2049 ≤ 2 ^ 63 - 1
left_of place h = search (rules, nat_tests, h)

pub few_of : (n : ℕ) → IsTrue (nat_le n 2048) → n ≤ 2048
few_of n h = search (rules, nat_tests, h)

pub room_for : (f : FrontState) → is_spent f ≡ false → IsTrue (has_room f) → HasRoom f.service
room_for f unspent few = record { places = left_of f.service.state.place unspent; few = few_of _ few }

-- ---- a connection that has let go of its session

module _ (f : FrontState) (conn : ℕ) where
  pub released-free : session_on (released f conn).connections conn ≡ None
  released-free = by (session_on f.connections conn) refl
    where
      by : (o : Option ℕ) → session_on f.connections conn ≡ o → session_on (option_map_or (parted f conn) o f).connections conn ≡ None
      by None is = is
      by (Some session) is = session_on-with_session f.connections conn None (connection_there f.connections conn session is)

  pub departed-free : session_on (departed f conn).connections conn ≡ None
  departed-free = by (session_on f.connections conn) refl
    where
      by : (o : Option ℕ) → session_on f.connections conn ≡ o → session_on (option_map_or (λ session. parted (withdrawn_from f session) conn session) o f).connections conn ≡ None
      by None is = is
      by (Some session) is = session_on-with_session f.connections conn None (connection_there f.connections conn session is)

  pub released-connected : (q : ℕ) → is_connected (released f conn) q ≡ is_connected f q
  released-connected q = by (session_on f.connections conn)
    where
      by : (o : Option ℕ) → is_connected (option_map_or (parted f conn) o f) q ≡ is_connected f q
      by None = refl
      by (Some session) = is_some-with_session f.connections conn None q

-- ---- a session that was freed

module _ (f : FrontState) (session : ℕ) where
  pub freed-connected : (q : ℕ) → is_connected (freed f session) q ≡ is_connected f q
  freed-connected q = by (holder_of f.service.attachments session)
    where
      by : (o : Option ℕ) → is_connected (option_map_or (λ conn. parted f conn session) o f) q ≡ is_connected f q
      by None = refl
      by (Some conn) = is_some-with_session f.connections conn None q

  pub freed-holder : holder_of (freed f session).service.attachments session ≡ None
  freed-holder = by (holder_of f.service.attachments session) refl
    where
      by : (o : Option ℕ) → holder_of f.service.attachments session ≡ o → holder_of (option_map_or (λ conn. parted f conn session) o f).service.attachments session ≡ None
      by None is = is
      by (Some conn) is = holder-inserted f.service.attachments session _

  -- a connection that has no session gets none
  pub freed-free : Agree f.service.attachments f.connections → (q : ℕ) → session_on f.connections q ≡ None → session_on (freed f session).connections q ≡ None
  freed-free agree q free = by (holder_of f.service.attachments session) refl
    where
      by : (o : Option ℕ) → holder_of f.service.attachments session ≡ o → session_on (option_map_or (λ conn. parted f conn session) o f).connections q ≡ None
      by None is = free
      by (Some conn) is = elim (same_or_other q conn) as (λ _. session_on (with_session f.connections conn None) q ≡ None) [
        | inl same ↦ none_some (sym (ap (session_on f.connections) (sym same) ∙ free) ∙ (agree session conn).0 is)
        | inr other ↦ session_on-with_session-beside f.connections conn None q other ∙ free
      ]

-- ---- attachments

pub closing-held : (attachments : FinMap nat_cmp Attachment) (session : ℕ) (holder : Option ℕ) (q : ℕ) → is_closing (with_holder attachments session holder) q ≡ is_closing attachments q
closing-held attachments session holder q = elim (same_or_other q session) as (λ _. is_closing (with_holder attachments session holder) q ≡ is_closing attachments q) [
  | inl same ↦
      ap (is_closing (with_holder attachments session holder)) same
      ∙ ap (λ (o : Option Attachment). option_map_or (λ attachment. attachment.closing) o false) (get_inserted attachments session (record { holder = holder; closing = is_closing attachments session }))
      ∙ ap (is_closing attachments) (sym same)
  | inr other ↦ ap (λ (o : Option Attachment). option_map_or (λ attachment. attachment.closing) o false) (get_beside attachments session _ q other)
]

len-held : (attachments : FinMap nat_cmp Attachment) (session : ℕ) (attachment : Attachment) → IsSome (get attachments session) → len (insert attachments session attachment) ≡ len attachments
len-held attachments session attachment there = len-insert nat_cmp_total attachments session attachment ∙ ap (λ b. cond b (len attachments) (len attachments + 1)) there

-- a session stays attachable where another holder takes an attachment that is there
pub attachable-held : (s : ServiceState) (session : ℕ) (holder : Option ℕ) (q : ℕ) → IsSome (get s.attachments session) → IsAttachable s q → IsAttachable (held s session holder) q
attachable-held s session holder q there attachable = record {
  not_closing = closing-held s.attachments session holder q ∙ attachable.not_closing;
  attachment = λ none.
      elim (same_or_other q session) as (λ _. len (with_holder s.attachments session holder) < 64) [
        | inl same ↦ none_some (sym (ap (get (with_holder s.attachments session holder)) (sym same) ∙ none) ∙ get_inserted s.attachments session (record { holder = holder; closing = is_closing s.attachments session }))
        | inr other ↦
            let few = attachable.attachment (sym (get_beside s.attachments session (record { holder = holder; closing = is_closing s.attachments session }) q other) ∙ none) in
            let same = len-held s.attachments session (record { holder = holder; closing = is_closing s.attachments session }) there in
            omega (arith, few, same)
      ];
}

pub released-attachable : (f : FrontState) (conn q : ℕ) → Agree f.service.attachments f.connections → IsAttachable f.service q → IsAttachable (released f conn).service q
released-attachable f conn q agree attachable = by (session_on f.connections conn) refl
  where
    by : (o : Option ℕ) → session_on f.connections conn ≡ o → IsAttachable (option_map_or (parted f conn) o f).service q
    by None is = attachable
    by (Some session) is = attachable-held f.service session None q (attachment_there f.service.attachments session conn ((agree session conn).1 is)) attachable

pub freed-attachable : (f : FrontState) (session q : ℕ) → IsAttachable f.service q → IsAttachable (freed f session).service q
freed-attachable f session q attachable = by (holder_of f.service.attachments session) refl
  where
    by : (o : Option ℕ) → holder_of f.service.attachments session ≡ o → IsAttachable (option_map_or (λ conn. parted f conn session) o f).service q
    by None is = attachable
    by (Some conn) is = attachable-held f.service session None q (attachment_there f.service.attachments session conn is) attachable

pub released-room : (f : FrontState) (conn : ℕ) → HasRoom f.service → HasRoom (released f conn).service
released-room f conn room = by (session_on f.connections conn)
  where
    by : (o : Option ℕ) → HasRoom (option_map_or (parted f conn) o f).service
    by None = room
    by (Some session) = record { places = room.places; few = room.few }

pub freed-room : (f : FrontState) (session : ℕ) → HasRoom f.service → HasRoom (freed f session).service
freed-room f session room = by (holder_of f.service.attachments session)
  where
    by : (o : Option ℕ) → HasRoom (option_map_or (λ conn. parted f conn session) o f).service
    by None = room
    by (Some conn) = record { places = room.places; few = room.few }

-- ---- events that are not refused

attach_tests : (a b c d : Bool) (session x : ℕ) → (if not a then Err NotAttached else (if b then Err Closing else (if c then Err SessionLimit else (if d then Err Spent else Ok session)))) ≡ Ok x → (a ≡ true) × (b ≡ false) × (c ≡ false) × (d ≡ false)
attach_tests true false false false session x e = (refl, refl, refl, refl)
attach_tests true false false true session x e = absurd cc
attach_tests true false true d session x e = absurd cc
attach_tests true true c d session x e = absurd cc
attach_tests false b c d session x e = absurd cc

attachment_left : (o : Option Attachment) (n : ℕ) → (is_none o && not (nat_lt n 64)) ≡ false → o ≡ None → n < 64
attachment_left None n e none = search (rules, nat_tests, e)
attachment_left (Some attachment) n e none = none_some (sym none)

-- what an attach that is not refused finds
pub record Attaches (f : FrontState) (conn session : ℕ) : Type 0 where
  pub connected : is_connected f conn ≡ true
  pub attachable : IsAttachable f.service session
  pub unspent : is_spent f ≡ false

pub attaches : (f : FrontState) (conn session x : ℕ) → attaching f conn session ≡ Ok x → Attaches f conn session
attaches f conn session x e =
    let (connected, shut, attachment, unspent) = attach_tests (is_connected f conn) (is_closing f.service.attachments session) (has_no_attachment f session) (is_spent f) session x e in
    record { connected = connected; attachable = record { not_closing = shut; attachment = attachment_left (get f.service.attachments session) (len f.service.attachments) attachment }; unspent = unspent }
