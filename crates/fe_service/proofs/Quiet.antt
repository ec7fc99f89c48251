-- What is quiet once a request finished, and where requests wait in a quiet service.
use Rattle.std.proofs.Common.{◌≡◌, ℕ, zero, suc, ◌<◌, inl, inr, Option, Some, None, List, [], ◌∷◌, length, arith, refl, sym, ap, subst, ◌∙◌}
use Rattle.std.specs.Prelude.{slice_get}
use Rattle.std.specs.FinMap.{get}
use Rattle.fe_words.specs.declared.word.Word.{Word}
use Rattle.fe_words.specs.Table.{row}
use Rattle.fe_words.specs.declared.word.Tag.{Tag}
use Rattle.fe_words.specs.declared.word.Tag.TheVariants.{Empty}
use Rattle.fe_waits.specs.Waiting.{WaitingAccess, NoneOnWord, NoneOnArray}
use Rattle.fe_waits.proofs.MemberLemmas.{none_some, some_same}
use Rattle.fe_state.proofs.Maps.{same_or_other}
use Rattle.fe_state.specs.Directory.{word_in, words_in}
use Rattle.fe_state.specs.Effect.{IsOwnWord}
use Rattle.fe_state.specs.State.{ServerState, after, directory_of}
use Rattle.fe_state.specs.declared.array.Array.{Array}
use Rattle.fe_state.specs.declared.answer.Answer.{Answer}
use Rattle.fe_state.specs.declared.request.Request.{Request}
use Rattle.fe_state.specs.declared.entry.Entry.TheVariants.{Finished}
use Rattle.fe_service.specs.Service.{WaitingAccesses, IsQuiet}
use Rattle.fe_service.specs.within.ServiceInner.{IsQuietAt, WaitAtTag}
use Rattle.fe_service.proofs.Replies.{waits_there, other_waits, waits_by_tag}

-- a request that finished leaves the words quiet that it is not about
pub own_beside : (s : ServerState) (waiting : WaitingAccesses) (session number : ℕ) (request : Request) (answer : Answer) → IsQuiet s waiting → (b j : ℕ) → ¬ IsOwnWord (directory_of s) request b j
    → IsQuietAt (after s (Finished session number request answer)) waiting b j
own_beside s waiting session number request answer quiet b j other key w waits on =
    other_waits
    (directory_of s)
    request
    w.array
    w.index
    w.op
    (λ own. other (subst (λ a. IsOwnWord (directory_of s) request a j) on.0 (subst (λ i. IsOwnWord (directory_of s) request w.array i) on.1 own)))
    (quiet key w waits)

-- all that wait on a word wait where it has the tag that it has
pub quiet_tag : (s : ServerState) (waiting : WaitingAccesses) (a i : ℕ) (word : Word) → IsQuiet s waiting → word_in (get s.arrays a) i ≡ Some word → WaitAtTag waiting a i word.tag
quiet_tag s waiting a i word quiet there key w waits on =
    let at = waits_there (directory_of s) w.array w.index w.op (quiet key w waits) in
    let same : at.word ≡ word = some_same (sym at.there ∙ ap (λ a. word_in (get s.arrays a) w.index) on.0 ∙ ap (λ i. word_in (get s.arrays a) i) on.1 ∙ there) in
    subst (λ (word : Word). row w.op word.tag 0 ≡ None) same (waits_by_tag w.op at.word.tag at.word.value 0 at.undefined)

-- nobody waits on a word that is not there
pub none_there : (s : ServerState) (waiting : WaitingAccesses) (a i : ℕ) → IsQuiet s waiting → word_in (get s.arrays a) i ≡ None → NoneOnWord waiting a i
none_there s waiting a i quiet absent key w waits on =
    let at = waits_there (directory_of s) w.array w.index w.op (quiet key w waits) in
    none_some (sym absent ∙ sym (ap (λ a. word_in (get s.arrays a) w.index) on.0 ∙ ap (λ i. word_in (get s.arrays a) i) on.1) ∙ at.there)

-- nor on an array that is not there
pub none_on_absent : (s : ServerState) (waiting : WaitingAccesses) (a : ℕ) → IsQuiet s waiting → words_in (get s.arrays a) ≡ None → NoneOnArray waiting a
none_on_absent s waiting a quiet absent key w waits same =
    let at = waits_there (directory_of s) w.array w.index w.op (quiet key w waits) in
    by_array (get s.arrays a) w.index at.word absent (sym (ap (λ a. word_in (get s.arrays a) w.index) same) ∙ at.there)
  where
    by_array : (here : Option Array) (index : ℕ) (word : Word) → words_in here ≡ None → word_in here index ≡ Some word → ⊥
    by_array None index word e at = none_some at
    by_array (Some x) index word e at = none_some (sym e)

-- a word that is there is one of its array
index_below : (words : List Word) (i : ℕ) (word : Word) → slice_get words i ≡ Some word → i < length words
index_below [] i word e = none_some e
index_below (x ∷ words) zero word e = omega arith
index_below (x ∷ words) (suc i) word e = let below = index_below words i word e in omega (arith, below)

pub word_below : (here : Option Array) (index : ℕ) (word : Word) → word_in here index ≡ Some word → (n : ℕ) × (words_in here ≡ Some n) × (index < n)
word_below None index word e = none_some e
word_below (Some a) index word e = (length a.words, refl, index_below a.words index word e)

-- a word that is quiet, and each other one
pub quiet_there_and : (s' : ServerState) (waiting' : WaitingAccesses) (a i b j : ℕ) → IsQuietAt s' waiting' a i → (¬ ((b ≡ a) × (j ≡ i)) → IsQuietAt s' waiting' b j) → IsQuietAt s' waiting' b j
quiet_there_and s' waiting' a i b j here beside =
    elim (same_or_other b a) as (λ _. IsQuietAt s' waiting' b j) [
      | inl array ↦
          elim (same_or_other j i) as (λ _. IsQuietAt s' waiting' b j) [
            | inl index ↦ λ key w waits on. here key w waits (on.0 ∙ array, on.1 ∙ index)
            | inr other ↦ beside (λ own. other own.1)
          ]
      | inr other ↦ beside (λ own. other own.0)
    ]

-- the tag of a word, if it is there
abbrev pub tag_in : Option Word → Tag
tag_in None = Empty
tag_in (Some word) = word.tag

pub waits_at_tag : (s : ServerState) (waiting : WaitingAccesses) (a i : ℕ) → IsQuiet s waiting → WaitAtTag waiting a i (tag_in (word_in (get s.arrays a) i))
waits_at_tag s waiting a i quiet = by_word (word_in (get s.arrays a) i) refl
  where
    by_word : (here : Option Word) → word_in (get s.arrays a) i ≡ here → WaitAtTag waiting a i (tag_in here)
    by_word None is = λ key w waits on. absurd (none_there s waiting a i quiet is key w waits on)
    by_word (Some word) is = quiet_tag s waiting a i word quiet is

-- one that waits on an array does so below its length
pub waits_below : (s : ServerState) (waiting : WaitingAccesses) (a n : ℕ) → IsQuiet s waiting → words_in (get s.arrays a) ≡ Some n → (key : ℕ × ℕ) (w : WaitingAccess) → get waiting key ≡ Some w → w.array ≡ a → w.index < n
waits_below s waiting a n quiet long key w waits same =
    let at = waits_there (directory_of s) w.array w.index w.op (quiet key w waits) in
    let (m, length, below) = word_below (get s.arrays w.array) w.index at.word at.there in
    let equal : m ≡ n = some_same (sym length ∙ ap (λ a. words_in (get s.arrays a)) same ∙ long) in
    subst (λ n. w.index < n) equal below
