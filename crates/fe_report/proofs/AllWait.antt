-- Whether all wait, from what a loop over the sessions has seen.
use Rattle.std.proofs.Common.{◌≡◌, ◌⊎◌, ℕ, ◌<◌, ◌==◌, ◌&&◌, ◌||◌, nat_lt, inl, inr, Bool, true, false, not, cond, Option, Some, None, IsSome, is_some, true≢false, refl, sym, ap, ◌∙◌, arith}
use Rattle.std.proofs.lemmas.Bool.Decides.{nat_tests}
use Rattle.std.specs.Option.{option_map_or, option_and_then}
use Rattle.std.specs.Cmp.{nat_cmp_total}
use Rattle.std.specs.FinMap.{get, len, nat_cmp-IsAntisymmetric}
use Rattle.fe_state.proofs.Maps.{get_retained}
use Rattle.fe_service.specs.AttachmentsState.{count_of}
use Rattle.fe_service.specs.declared.attachment.Attachment.{Attachment}
use Rattle.fe_service.specs.Service.{IsService}
use Rattle.fe_front.specs.Front.{FrontState, is_attached}
use Rattle.fe_report.specs.Report.{idle, do_all_wait, held_attachments}
use Rattle.fe_report.proofs.Parts.{none_there, one_there}

pub or_either : (a b : Bool) → (a || b) ≡ true → (a ≡ true) ⊎ (b ≡ true)
or_either true b h = inl refl
or_either false b h = inr h

pub or_left : (a b : Bool) → a ≡ true → (a || b) ≡ true
or_left a b h = ap (λ a. a || b) h

pub or_right : (a b : Bool) → b ≡ true → (a || b) ≡ true
or_right true b h = refl
or_right false b h = h

pub and_first : (a b : Bool) → (a && b) ≡ true → a ≡ true
and_first true b h = refl
and_first false b h = h

pub and_second : (a b : Bool) → (a && b) ≡ true → b ≡ true
and_second true b h = h
and_second false b h = absurd (true≢false (sym h))

pub and_both : (a b : Bool) → a ≡ true → b ≡ true → (a && b) ≡ true
and_both a b g h = ap (λ a. a && b) g ∙ h

pub same_zero : (n : ℕ) → (n == 0) ≡ true → n ≡ 0
same_zero n h = grind (arith, nat_tests)

pub zero_same : (n : ℕ) → n ≡ 0 → (n == 0) ≡ true
zero_same n h = ap (λ n. n == 0) h

above_zero : (n : ℕ) → 0 < n → nat_lt 0 n ≡ true
above_zero n h = grind (arith, nat_tests)

not_zero : (n : ℕ) → 0 < n → (n == 0) ≡ false
not_zero n h = grind (arith, nat_tests)

-- a session that is attached has an attachment, and is one of the state
attachment_there : (o : Option Attachment) → (is_some (option_and_then (λ attachment. attachment.holder) o) && not (option_map_or (λ attachment. attachment.closing) o false)) ≡ true → IsSome o
attachment_there (Some attachment) h = refl
attachment_there None h = absurd (true≢false (sym h))

open_there : (o : Option Attachment) → (is_some (option_and_then (λ attachment. attachment.holder) o) && not (option_map_or (λ attachment. attachment.closing) o false)) ≡ true → option_map_or (λ attachment. not attachment.closing) o false ≡ true
open_there (Some attachment) h = and_second (is_some attachment.holder) (not attachment.closing) h
open_there None h = h

module _ (f : FrontState) where
  pub attached_there : IsService f.service → (s : ℕ) → is_attached f s ≡ true → IsSome (get f.service.state.sessions s)
  attached_there service s h = service.has_attachment s ∙ open_there (get f.service.attachments s) h

  get-attached : (s : ℕ) → get (held_attachments f) s ≡ cond (is_attached f s) (get f.service.attachments s) None
  get-attached s = get_retained f.service.attachments (λ s. is_attached f s) s

  seen_attached : (s : ℕ) → is_attached f s ≡ true → IsSome (get (held_attachments f) s)
  seen_attached s h = ap is_some (get-attached s ∙ ap (λ b. cond b (get f.service.attachments s) None) h) ∙ attachment_there (get f.service.attachments s) h

  get-idle : (s : ℕ) → get (idle f.service.waiting (held_attachments f)) s ≡ cond (count_of f.service.waiting s == 0) (get (held_attachments f) s) None
  get-idle s = get_retained (held_attachments f) (λ s. count_of f.service.waiting s == 0) s

  some_attached : (a : Bool) → (a ≡ true → (s : ℕ) × (is_attached f s ≡ true)) → ((s : ℕ) → is_attached f s ≡ true → a ≡ true) → nat_lt 0 (len (held_attachments f)) ≡ a
  some_attached true is all = let s = is refl in above_zero _ (one_there nat_cmp_total nat_cmp-IsAntisymmetric (held_attachments f) s.0 (seen_attached s.0 s.1))
  some_attached false is all = ap (nat_lt 0) (none_there nat_cmp_total nat_cmp-IsAntisymmetric (held_attachments f) none)
    where
      none : (s : ℕ) → get (held_attachments f) s ≡ None
      none s = get-attached s ∙ by (is_attached f s) refl
        where
          by : (b : Bool) → is_attached f s ≡ b → cond b (get f.service.attachments s) None ≡ None
          by true h = absurd (true≢false (sym (all s h)))
          by false h = refl

  none_idle : (i : Bool) → (i ≡ true → (s : ℕ) × (is_attached f s ≡ true) × (count_of f.service.waiting s ≡ 0)) → ((s : ℕ) → is_attached f s ≡ true → count_of f.service.waiting s ≡ 0 → i ≡ true) → (len (idle f.service.waiting (held_attachments f)) == 0) ≡ not i
  none_idle true is all =
      let s = is refl in
      let there : IsSome (get (idle f.service.waiting (held_attachments f)) s.0) =
      ap is_some (get-idle s.0 ∙ ap (λ b. cond b (get (held_attachments f) s.0) None) (zero_same _ s.2)) ∙ seen_attached s.0 s.1 in
      not_zero _ (one_there nat_cmp_total nat_cmp-IsAntisymmetric (idle f.service.waiting (held_attachments f)) s.0 there)
  none_idle false is all = zero_same _ (none_there nat_cmp_total nat_cmp-IsAntisymmetric (idle f.service.waiting (held_attachments f)) none)
    where
      none : (s : ℕ) → get (idle f.service.waiting (held_attachments f)) s ≡ None
      none s = get-idle s ∙ by (count_of f.service.waiting s == 0) refl
        where
          hidden : count_of f.service.waiting s ≡ 0 → (b : Bool) → is_attached f s ≡ b → cond b (get f.service.attachments s) None ≡ None
          hidden z true h = absurd (true≢false (sym (all s h z)))
          hidden z false h = refl

          by : (b : Bool) → (count_of f.service.waiting s == 0) ≡ b → cond b (get (held_attachments f) s) None ≡ None
          by true h = get-attached s ∙ hidden (same_zero _ h) (is_attached f s) refl
          by false h = refl

  pub all_wait : (a i : Bool) → (a ≡ true → (s : ℕ) × (is_attached f s ≡ true)) → ((s : ℕ) → is_attached f s ≡ true → a ≡ true) → (i ≡ true → (s : ℕ) × (is_attached f s ≡ true) × (count_of f.service.waiting s ≡ 0)) → ((s : ℕ) → is_attached f s ≡ true → count_of f.service.waiting s ≡ 0 → i ≡ true) → (a && not i) ≡ do_all_wait f.service.waiting (held_attachments f)
  all_wait a i some every one each =
      sym (ap (λ b. b && (len (idle f.service.waiting (held_attachments f)) == 0)) (some_attached a some every) ∙ ap (λ b. a && b) (none_idle i one each))
