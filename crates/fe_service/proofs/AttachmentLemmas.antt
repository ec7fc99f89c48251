-- The attachments and the slots of the occupants, where an occupant comes, goes or changes.
use Rattle.std.proofs.Common.{◌≡◌, ◌≢◌, ℕ, ◌+◌, ◌-◌, inl, inr, true, false, cond, Option, Some, None, IsSome, is_some, refl, sym, ap, ◌∙◌}
use Rattle.std.specs.Option.{option_map, option_map_or, option_and_then}
use Rattle.std.specs.Ordering.{nat_cmp}
use Rattle.std.specs.Cmp.{nat_cmp_total}
use Rattle.std.specs.FinMap.{FinMap, empty, get, insert, remove, len, get-empty, len-insert, len-remove, same_map, nat_cmp-IsAntisymmetric}
use Rattle.std.proofs.lemmas.Bool.{cases_eq}
use Rattle.fe_waits.proofs.MemberLemmas.{none_some}
use Rattle.fe_waits.proofs.WordLemmas.{get-insert_here, get-insert_other, get-remove_here, get-remove_other}
use Rattle.fe_service.specs.declared.occupant.Occupant.{Occupant}
use Rattle.fe_service.specs.declared.attachment.Attachment.{Attachment}
use Rattle.fe_service.specs.AttachmentsState.{with_holder, with_closing}
use Rattle.fe_service.specs.within.Slots.{slot_in, attachments_of}
use Rattle.fe_service.proofs.KeyLemmas.{get-rekeyed, len-rekeyed}

abbrev attachment_of : Occupant → Attachment
attachment_of occupant = occupant.attachment

abbrev slot_of : Occupant → ℕ
slot_of occupant = occupant.slot

pub get-attachments : (occupants : FinMap nat_cmp Occupant) (session : ℕ) → get (attachments_of occupants) session ≡ option_map (λ occupant. occupant.attachment) (get occupants session)
get-attachments occupants session = get-rekeyed nat_cmp_total nat_cmp_total (λ s. s) attachment_of occupants session session (λ x there. refl)

pub len-attachments : (occupants : FinMap nat_cmp Occupant) → len (attachments_of occupants) ≡ len occupants
len-attachments occupants = len-rekeyed nat_cmp_total nat_cmp_total (λ s. s) attachment_of occupants (λ a b there_a there_b. refl)

pub attachments-empty : attachments_of empty ≡ empty
attachments-empty = same_map nat_cmp_total nat_cmp-IsAntisymmetric _ _ (λ q. get-attachments empty q ∙ ap (option_map attachment_of) (get-empty nat_cmp q) ∙ sym (get-empty nat_cmp q))

-- a session has an attachment if it is an occupant, and if it has a slot
pub no_occupant : (occupants : FinMap nat_cmp Occupant) (session : ℕ) → get (attachments_of occupants) session ≡ None → get occupants session ≡ None
no_occupant occupants session none = by_occupant (get occupants session) refl
  where
    by_occupant : (o : Option Occupant) → get occupants session ≡ o → get occupants session ≡ None
    by_occupant None e = e
    by_occupant (Some occupant) e = none_some (sym none ∙ get-attachments occupants session ∙ ap (option_map attachment_of) e)

pub no_slot : (occupants : FinMap nat_cmp Occupant) (session : ℕ) → get occupants session ≡ None → slot_in occupants session ≡ None
no_slot occupants session none = ap (option_map slot_of) none

pub is_occupant : (occupants : FinMap nat_cmp Occupant) (session : ℕ) → IsSome (get (attachments_of occupants) session) → IsSome (get occupants session)
is_occupant occupants session there = by_occupant (get occupants session) refl
  where
    by_occupant : (o : Option Occupant) → get occupants session ≡ o → IsSome (get occupants session)
    by_occupant None e = none_there (sym (ap is_some (get-attachments occupants session ∙ ap (option_map attachment_of) e)) ∙ there)
      where
        none_there : {P : Type 0} → false ≡ true → P
        none_there f = cc
    by_occupant (Some occupant) e = ap is_some e

pub has_slot : (occupants : FinMap nat_cmp Occupant) (session : ℕ) → IsSome (get occupants session) → IsSome (slot_in occupants session)
has_slot occupants session there = by_occupant (get occupants session) refl there
  where
    by_occupant : (o : Option Occupant) → get occupants session ≡ o → IsSome o → IsSome (option_map slot_of (get occupants session))
    by_occupant None e some = none_there some
      where
        none_there : {P : Type 0} → false ≡ true → P
        none_there f = cc
    by_occupant (Some occupant) e some = ap is_some (ap (option_map slot_of) e)

pub occupant_is_attached : (occupants : FinMap nat_cmp Occupant) (session slot : ℕ) → slot_in occupants session ≡ Some slot → IsSome (get (attachments_of occupants) session)
occupant_is_attached occupants session slot in_slot = by_occupant (get occupants session) refl
  where
    by_occupant : (o : Option Occupant) → get occupants session ≡ o → IsSome (get (attachments_of occupants) session)
    by_occupant None e = none_some (sym (ap (option_map slot_of) e) ∙ in_slot)
    by_occupant (Some occupant) e = ap is_some (get-attachments occupants session ∙ ap (option_map attachment_of) e)

module _ (occupants : FinMap nat_cmp Occupant) (session : ℕ) where
  pub attachments-insert : (occupant : Occupant) → attachments_of (insert occupants session occupant) ≡ insert (attachments_of occupants) session occupant.attachment
  attachments-insert occupant = same_map nat_cmp_total nat_cmp-IsAntisymmetric _ _ (λ q.
      get-attachments (insert occupants session occupant) q
      ∙ elim (cases_eq q session) as (λ _. option_map attachment_of (get (insert occupants session occupant) q) ≡ get (insert (attachments_of occupants) session occupant.attachment) q) [
        | inl same ↦
            ap (λ k. option_map attachment_of (get (insert occupants session occupant) k)) same
            ∙ ap (option_map attachment_of) (get-insert_here occupants session occupant)
            ∙ sym (get-insert_here (attachments_of occupants) session occupant.attachment)
            ∙ ap (get (insert (attachments_of occupants) session occupant.attachment)) (sym same)
        | inr other ↦
            ap (option_map attachment_of) (get-insert_other occupants session occupant q other)
            ∙ sym (get-attachments occupants q)
            ∙ sym (get-insert_other (attachments_of occupants) session occupant.attachment q other)
      ])

  pub attachments-remove : attachments_of (remove occupants session) ≡ remove (attachments_of occupants) session
  attachments-remove = same_map nat_cmp_total nat_cmp-IsAntisymmetric _ _ (λ q.
      get-attachments (remove occupants session) q
      ∙ elim (cases_eq q session) as (λ _. option_map attachment_of (get (remove occupants session) q) ≡ get (remove (attachments_of occupants) session) q) [
        | inl same ↦
            ap (λ k. option_map attachment_of (get (remove occupants session) k)) same
            ∙ ap (option_map attachment_of) (get-remove_here occupants session)
            ∙ sym (get-remove_here (attachments_of occupants) session)
            ∙ ap (get (remove (attachments_of occupants) session)) (sym same)
        | inr other ↦
            ap (option_map attachment_of) (get-remove_other occupants session q other)
            ∙ sym (get-attachments occupants q)
            ∙ sym (get-remove_other (attachments_of occupants) session q other)
      ])

  pub slot-insert_here : (occupant : Occupant) → slot_in (insert occupants session occupant) session ≡ Some occupant.slot
  slot-insert_here occupant = ap (option_map slot_of) (get-insert_here occupants session occupant)

  pub slot-insert_other : (occupant : Occupant) (q : ℕ) → q ≢ session → slot_in (insert occupants session occupant) q ≡ slot_in occupants q
  slot-insert_other occupant q other = ap (option_map slot_of) (get-insert_other occupants session occupant q other)

  pub slot-remove_here : slot_in (remove occupants session) session ≡ None
  slot-remove_here = ap (option_map slot_of) (get-remove_here occupants session)

  pub slot-remove_other : (q : ℕ) → q ≢ session → slot_in (remove occupants session) q ≡ slot_in occupants q
  slot-remove_other q other = ap (option_map slot_of) (get-remove_other occupants session q other)

  pub len-insert_new : (occupant : Occupant) → get occupants session ≡ None → len (insert occupants session occupant) ≡ len occupants + 1
  len-insert_new occupant none = len-insert nat_cmp_total occupants session occupant ∙ ap (λ o. cond (is_some o) (len occupants) (len occupants + 1)) none

  pub len-insert_old : (occupant old : Occupant) → get occupants session ≡ Some old → len (insert occupants session occupant) ≡ len occupants
  len-insert_old occupant old there = len-insert nat_cmp_total occupants session occupant ∙ ap (λ o. cond (is_some o) (len occupants) (len occupants + 1)) there

  pub len-remove_old : (old : Occupant) → get occupants session ≡ Some old → len (remove occupants session) ≡ len occupants - 1
  len-remove_old old there = len-remove nat_cmp_total occupants session ∙ ap (λ o. cond (is_some o) (len occupants - 1) (len occupants)) there

  -- what else is known of a session stays, where its holder or its closing changes
  module _ (occupant : Occupant) (there : get occupants session ≡ Some occupant) where
    attachment_there : get (attachments_of occupants) session ≡ Some occupant.attachment
    attachment_there = get-attachments occupants session ∙ ap (option_map attachment_of) there

    pub attachments-holder : (holder : Option ℕ) → attachments_of (insert occupants session (record { slot = occupant.slot; attachment = record { holder = holder; closing = occupant.attachment.closing } })) ≡ with_holder (attachments_of occupants) session holder
    attachments-holder holder =
        attachments-insert (record { slot = occupant.slot; attachment = record { holder = holder; closing = occupant.attachment.closing } })
        ∙ ap (λ closing. insert (attachments_of occupants) session (record { holder = holder; closing = closing })) (sym (ap (λ o. option_map_or (λ attachment. attachment.closing) o false) attachment_there))

    pub attachments-closing : attachments_of (insert occupants session (record { slot = occupant.slot; attachment = record { holder = occupant.attachment.holder; closing = true } })) ≡ with_closing (attachments_of occupants) session
    attachments-closing =
        attachments-insert (record { slot = occupant.slot; attachment = record { holder = occupant.attachment.holder; closing = true } })
        ∙ ap (λ holder. insert (attachments_of occupants) session (record { holder = holder; closing = true })) (sym (ap (option_and_then (λ attachment. attachment.holder)) attachment_there))
