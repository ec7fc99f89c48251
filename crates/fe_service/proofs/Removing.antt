-- What a removal leaves of a service.
use Rattle.std.proofs.Common.{◌≡◌, ◌≢◌, ℕ, ◌<◌, inl, inr, Some, None, List, refl, sym, ap, subst, ◌∙◌}
use Rattle.std.specs.FinMap.{get}
use Rattle.fe_words.specs.declared.word.Tag.{Tag}
use Rattle.fe_state.proofs.Maps.{same_or_other, get_removed, get_left}
use Rattle.fe_state.specs.Directory.{word_in, words_in}
use Rattle.fe_state.specs.State.{reply}
use Rattle.fe_state.specs.declared.answer.Answer.{Answer}
use Rattle.fe_state.specs.declared.request.Request.TheVariants.{Remove}
use Rattle.fe_state.specs.declared.entry.Entry.{Entry}
use Rattle.fe_state.specs.declared.entry.Entry.TheVariants.{Finished}
use Rattle.fe_service.specs.Service.{request_of, IsQuiet}
use Rattle.fe_service.specs.within.ServiceInner.{IsQuietAt, WaitAtTag, TakesTurns}
use Rattle.fe_service.specs.declared.service_inner.ServiceInner.{ServiceInner}
use Rattle.fe_service.proofs.Quiet.{tag_in, waits_at_tag, waits_below}
use Rattle.fe_service.proofs.Completing.{IsEntered, entered_quiet_at}
use Rattle.fe_service.proofs.Serving.{taken_within}

-- the words of the array are quiet once they are served, and the others were
pub removed_quiet : (old mid new : ServiceInner) (session number array n : ℕ) (answer : Answer) (es : List Entry) → IsQuiet old.state old.attachments.waiting → IsEntered old mid (Finished session number (Remove array) answer)
    → TakesTurns mid new es → words_in (get old.state.arrays array) ≡ Some n
    → ((tag : ℕ → Tag) (j : ℕ) → j < n → WaitAtTag mid.attachments.waiting array j (tag j) → IsQuietAt new.state new.attachments.waiting array j)
    → ((b j : ℕ) → b ≢ array → IsQuietAt mid.state mid.attachments.waiting b j → IsQuietAt new.state new.attachments.waiting b j)
    → IsQuiet new.state new.attachments.waiting
removed_quiet old mid new session number array n answer es quiet e t long here beside key w waits =
    let was : get old.attachments.waiting key ≡ Some w = subst (λ m. get m key ≡ Some w) e.waiting (taken_within mid new es t key w waits) in
    let tags : ℕ → Tag = λ j. tag_in (word_in (get old.state.arrays array) j) in
    elim (same_or_other w.array array) as (λ _. reply new.state (request_of w) ≡ None) [
      | inl same ↦
          let at : WaitAtTag mid.attachments.waiting array w.index (tags w.index) = subst (λ m. WaitAtTag m array w.index (tags w.index)) (sym e.waiting) (waits_at_tag old.state old.attachments.waiting array w.index quiet) in
          here tags w.index (waits_below old.state old.attachments.waiting array n quiet long key w was same) at key w waits (same, refl)
      | inr other ↦ beside w.array w.index other (entered_quiet_at old mid session number (Remove array) answer quiet e w.array w.index (λ own. other own)) key w waits (refl, refl)
    ]

-- the array is gone
pub removed_absent : (old mid : ServiceInner) (session number array : ℕ) (answer : Answer) → IsEntered old mid (Finished session number (Remove array) answer) → words_in (get mid.state.arrays array) ≡ None
removed_absent old mid session number array answer e = ap (λ s. words_in (get s.arrays array)) e.state ∙ ap words_in (get_removed old.state.arrays array)

-- and the lengths of the others stay
pub removed_lengths : (old mid : ServiceInner) (session number array : ℕ) (answer : Answer) → IsEntered old mid (Finished session number (Remove array) answer) → (id : ℕ) → id ≢ array
    → words_in (get mid.state.arrays id) ≡ words_in (get old.state.arrays id)
removed_lengths old mid session number array answer e id other = ap (λ s. words_in (get s.arrays id)) e.state ∙ ap words_in (get_left old.state.arrays array id other)
