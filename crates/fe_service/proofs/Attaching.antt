-- An attachment that is taken, and that a session that begins is legal.
use Rattle.std.proofs.Common.{◌≡◌, ℕ, ◌≤◌, ◌<◌, Option, Some, None, true, false, not, refl, sym, ap, ◌∙◌, arith}
use Rattle.std.specs.Prelude.{is_some, IsSomeAnd, MatchOption}
use Rattle.std.specs.Option.{option_map_or}
use Rattle.std.specs.Ordering.{nat_cmp}
use Rattle.std.specs.FinMap.{FinMap, get, insert, len}
use Rattle.fe_service.specs.AttachmentsState.{with_holder, is_closing}
use Rattle.fe_service.specs.declared.attachment.Attachment.{Attachment}
use Rattle.fe_state.specs.Sessions.{Session}
use Rattle.fe_state.specs.State.{IsLegal}
use Rattle.fe_state.specs.declared.entry.Entry.TheVariants.{Attached}
use Rattle.fe_service.specs.Events.{HasRoom, IsAttachable, floor_of}
use Rattle.fe_service.specs.Service.{ServiceState, IsService, is_open}
use Rattle.fe_service.proofs.Sizes.{len_within}

-- the holder of an attachment that was there
pub old_attachment : (attachments : FinMap nat_cmp Attachment) (session conn : ℕ) → is_closing attachments session ≡ false → with_holder attachments session (Some conn) ≡ insert attachments session (record { holder = Some conn; closing = false })
old_attachment attachments session conn shut = ap (λ closing. insert attachments session (record { holder = Some conn; closing = closing })) shut

-- there are no more sessions in the state than attachments
pub open_there : (attachments : FinMap nat_cmp Attachment) (session : ℕ) → is_open attachments session ≡ true → is_some (get attachments session) ≡ true
open_there attachments session is = by_attachment (get attachments session) refl is
  where
    by_attachment : (here : Option Attachment) → get attachments session ≡ here → option_map_or (λ attachment. not attachment.closing) here false ≡ true → is_some (get attachments session) ≡ true
    by_attachment None is e = cc
    by_attachment (Some attachment) is e = ap is_some is

pub usable_there : (s : ServiceState) (session : ℕ) (P : Session → Type 0) → IsService s → IsSomeAnd (get s.state.sessions session) P → is_some (get s.attachments session) ≡ true
usable_there s session P h usable = open_there s.attachments session (sym (h.has_attachment session) ∙ by_session (get s.state.sessions session) usable)
  where
    by_session : (here : Option Session) → IsSomeAnd here P → is_some here ≡ true
    by_session None usable = absurd usable
    by_session (Some x) usable = refl

pub few_sessions : (s : ServiceState) → IsService s → len s.state.sessions ≤ len s.attachments
few_sessions s h = len_within (len s.state.sessions) s.state.sessions s.attachments refl (λ k there. open_there s.attachments k (sym (h.has_attachment k) ∙ there))

-- a session that has an attachment and is not closing is in the state
without_attachment : (attachments : FinMap nat_cmp Attachment) (session : ℕ) → is_closing attachments session ≡ false → is_open attachments session ≡ false → get attachments session ≡ None
without_attachment attachments session shut not_open = by_attachment (get attachments session) refl shut not_open
  where
    by_attachment : (here : Option Attachment) → get attachments session ≡ here → option_map_or (λ attachment. attachment.closing) here false ≡ false → option_map_or (λ attachment. not attachment.closing) here false ≡ false → get attachments session ≡ None
    by_attachment None is shut not_open = is
    by_attachment (Some attachment) is shut not_open = let twice : not attachment.closing ≡ true = ap not shut in cc

pub attach_legal : (s : ServiceState) (session : ℕ) → IsService s → IsAttachable s session → HasRoom s → IsLegal s.state (Attached session (floor_of s session))
attach_legal s session h attachable room = record { has_place = omega (arith, room.places); allowed = by_session (get s.state.sessions session) refl; answered = tt }
  where
    by_session : (here : Option Session) → get s.state.sessions session ≡ here → MatchOption here ((floor_of s session ≡ 1) × (len s.state.sessions < 64)) (λ x. floor_of s session ≡ x.floor)
    by_session None is =
        let shut : is_open s.attachments session ≡ false = sym (h.has_attachment session) ∙ ap is_some is in
        let room = attachable.attachment (without_attachment s.attachments session attachable.not_closing shut) in
        let few = few_sessions s h in
        (ap (λ (o : Option Session). option_map_or (λ x. x.floor) o 1) is, omega (arith, room, few))
    by_session (Some x) is = ap (λ (o : Option Session). option_map_or (λ x. x.floor) o 1) is
