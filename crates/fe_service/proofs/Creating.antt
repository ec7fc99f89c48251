-- What a creation leaves of a service.
use Rattle.std.proofs.Common.{◌≡◌, ◌≢◌, ℕ, ◌<◌, inl, inr, Option, Some, None, true, List, refl, sym, ap, subst, ◌∙◌, arith}
use Rattle.std.specs.Prelude.{is_some}
use Rattle.std.proofs.lemmas.List.{length-replicate}
use Rattle.std.specs.Ordering.{nat_cmp}
use Rattle.std.specs.FinMap.{FinMap, get, insert, len}
use Rattle.fe_words.specs.Table.{word}
use Rattle.fe_words.specs.declared.word.Tag.{Tag}
use Rattle.fe_state.proofs.Maps.{same_or_other, get_inserted, get_beside}
use Rattle.fe_state.proofs.Limits.{creation_passed}
use Rattle.fe_state.specs.Directory.{creation, words_in}
use Rattle.fe_state.specs.Effect.{created, new_array}
use Rattle.fe_state.specs.State.{ServerState, IsWithinLimits, directory_of, reply, after}
use Rattle.fe_state.specs.declared.array.Array.{Array}
use Rattle.fe_state.specs.declared.answer.Answer.{Answer}
use Rattle.fe_state.specs.declared.answer.Answer.TheVariants as answers
use Rattle.fe_state.specs.declared.request.Request.TheVariants.{Create}
use Rattle.fe_state.specs.declared.entry.Entry.TheVariants.{Finished}
use Rattle.fe_waits.proofs.MemberLemmas.{some_same}
use Rattle.fe_service.specs.Service.{IsQuiet, AreSoundParts}
use Rattle.fe_service.specs.declared.service_inner.ServiceInner.{ServiceInner}
use Rattle.fe_service.proofs.Quiet.{none_on_absent}
use Rattle.fe_service.proofs.Completing.{IsEntered, entered_quiet_at}
use Rattle.fe_service.proofs.Sizes.{len_within}

-- the next id is new
pub next_absent : (s : ServerState) → IsWithinLimits s → get s.arrays s.next_id ≡ None
next_absent s limits = by_array (get s.arrays s.next_id) refl
  where
    by_array : (here : Option Array) → get s.arrays s.next_id ≡ here → get s.arrays s.next_id ≡ None
    by_array None is = is
    by_array (Some a) is = let older = (limits.directory.each s.next_id a is).older in absurd (omega (arith, older))

-- a creation leaves the words of all arrays that were there, and nobody waited on those of the one that it makes
pub created_quiet : (old mid : ServiceInner) (session number : ℕ) (name : List ℕ) (size : ℕ) (tag : Tag) (answer : Answer) → IsWithinLimits old.state → IsQuiet old.state old.attachments.waiting
    → IsEntered old mid (Finished session number (Create name size tag) answer) → IsQuiet mid.state mid.attachments.waiting
created_quiet old mid session number name size tag answer limits quiet e key w waits =
    let was = subst (λ m. get m key ≡ Some w) e.waiting waits in
    let other : w.array ≢ old.state.next_id = λ own. none_on_absent old.state old.attachments.waiting old.state.next_id quiet (ap words_in (next_absent old.state limits)) key w was own in
    entered_quiet_at old mid session number (Create name size tag) answer quiet e w.array w.index other key w waits (refl, refl)

-- what has to hold where an array is made
pub created_is : (s : ServerState) (name : List ℕ) (size : ℕ) (tag : Tag) (id words : ℕ) → reply s (Create name size tag) ≡ Some (answers.Array id words) → (id ≡ s.next_id) × (words ≡ size) × (len s.arrays < 64)
created_is s name size tag id words answered =
    let (creation, next, same) = creation_passed (directory_of s) name size id words (some_same answered) in
    (next, same, creation.room)

-- there are no more arrays on the waiting lists than in the state
pub few_arrays : (p : ServiceInner) → AreSoundParts p → len p.state.arrays < 64 → len p.attachments.arrays < 64
few_arrays p sound few =
    let within = len_within (len p.attachments.arrays) p.attachments.arrays p.state.arrays refl (λ k there. by_array k (get p.state.arrays k) (sym (ap is_some (sound.arrays k)) ∙ there)) in
    omega (arith, within, few)
  where
    by_array : (k : ℕ) (here : Option Array) → is_some (words_in here) ≡ true → is_some here ≡ true
    by_array k None e = e
    by_array k (Some a) e = refl

-- one that makes an array adds it with its length
pub created_there : (s : ServerState) (session number : ℕ) (name : List ℕ) (size : ℕ) (tag : Tag) (id words : ℕ) → reply s (Create name size tag) ≡ Some (answers.Array id words)
    → (after s (Finished session number (Create name size tag) (answers.Array id words))).arrays ≡ insert s.arrays id (new_array name size tag)
created_there s session number name size tag id words answered = ap (λ a. (created (directory_of s) name size tag a).arrays) (some_same answered)

pub created_lengths : (s : ServerState) (lengths : FinMap nat_cmp ℕ) (session number : ℕ) (name : List ℕ) (size : ℕ) (tag : Tag) (id words : ℕ) → reply s (Create name size tag) ≡ Some (answers.Array id words)
    → ((other : ℕ) → get lengths other ≡ words_in (get s.arrays other)) → (other : ℕ)
    → get (insert lengths id size) other ≡ words_in (get (after s (Finished session number (Create name size tag) (answers.Array id words))).arrays other)
created_lengths s lengths session number name size tag id words answered tied other =
    elim (same_or_other other id) as (λ _. get (insert lengths id size) other ≡ words_in (get (after s (Finished session number (Create name size tag) (answers.Array id words))).arrays other)) [
      | inl same ↦
          ap (get (insert lengths id size)) same
          ∙ get_inserted lengths id size
          ∙ sym (ap Some (length-replicate size (word 0 tag)))
          ∙ sym (ap words_in (get_inserted s.arrays id (new_array name size tag)))
          ∙ sym (ap (λ m. words_in (get m id)) (created_there s session number name size tag id words answered))
          ∙ ap (λ i. words_in (get (after s (Finished session number (Create name size tag) (answers.Array id words))).arrays i)) (sym same)
      | inr differs ↦
          get_beside lengths id size other differs
          ∙ tied other
          ∙ sym (ap words_in (get_beside s.arrays id (new_array name size tag) other differs))
          ∙ sym (ap (λ m. words_in (get m other)) (created_there s session number name size tag id words answered))
    ]

-- the array that is made is not on the waiting lists yet
pub id_absent : (p : ServiceInner) (name : List ℕ) (size : ℕ) (tag : Tag) (id words : ℕ) → AreSoundParts p → IsWithinLimits p.state → reply p.state (Create name size tag) ≡ Some (answers.Array id words) → get p.attachments.arrays id ≡ None
id_absent p name size tag id words sound limits answered =
    let (next, same, few) = created_is p.state name size tag id words answered in
    sound.arrays id ∙ ap (λ i. words_in (get p.state.arrays i)) next ∙ ap words_in (next_absent p.state limits)
