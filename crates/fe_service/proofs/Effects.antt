-- What the effect of a request says of it, and what a request with no effect leaves of a service.
use Rattle.std.proofs.Common.{◌≡◌, ℕ, Bool, Option, Some, None, refl, sym, ap, subst, ◌∙◌}
use Rattle.std.specs.Prelude.{IsSome, option_and_then}
use Rattle.std.specs.FinMap.{get}
use Rattle.fe_words.specs.Table.{table}
use Rattle.fe_words.specs.declared.word.Word.{Word}
use Rattle.fe_words.specs.declared.word.Reply.{Reply}
use Rattle.fe_words.specs.declared.op.Op.{Op}
use Rattle.fe_waits.proofs.MemberLemmas.{some_same}
use Rattle.fe_state.proofs.EffectLemmas.{nothing_changes}
use Rattle.fe_state.specs.Directory.{Directory, answer_in, word_in, words_in}
use Rattle.fe_state.specs.Effect.{creating, effect_of, performed, removing, writing, IsOwnWord}
use Rattle.fe_state.specs.State.{MakesArray, directory_of, effect_in}
use Rattle.fe_state.specs.declared.answer.Answer.{Answer}
use Rattle.fe_state.specs.declared.answer.Answer.TheVariants as answers
use Rattle.fe_state.specs.declared.array.Array.{Array}
use Rattle.fe_state.specs.declared.effect.Effect.TheVariants as effects
use Rattle.fe_state.specs.declared.request.Request.{Request}
use Rattle.fe_state.specs.declared.request.Request.TheVariants.{Create, Find, Remove, Access}
use Rattle.fe_state.specs.declared.entry.Entry.{Entry}
use Rattle.fe_state.specs.declared.entry.Entry.TheVariants.{Finished}
use Rattle.fe_service.specs.Service.{request_of, IsQuiet}
use Rattle.fe_service.specs.declared.service_inner.ServiceInner.{ServiceInner}
use Rattle.fe_service.proofs.Completing.{IsEntered}
use Rattle.fe_service.proofs.Lengths.{operated_lengths}

-- with no effect the directory stays
same_directory : (old mid : ServiceInner) (own : Entry) → IsEntered old mid own → effect_in (directory_of old.state) own ≡ effects.Nothing → directory_of mid.state ≡ directory_of old.state
same_directory old mid own e none = ap directory_of e.state ∙ nothing_changes (directory_of old.state) own none

-- so what was quiet is quiet still
pub unchanged_quiet : (old mid : ServiceInner) (own : Entry) → IsQuiet old.state old.attachments.waiting → IsEntered old mid own → effect_in (directory_of old.state) own ≡ effects.Nothing → IsQuiet mid.state mid.attachments.waiting
unchanged_quiet old mid own quiet e none key w waits =
    let was = subst (λ m. get m key ≡ Some w) e.waiting waits in
    ap (λ d. answer_in d (request_of w)) (same_directory old mid own e none) ∙ quiet key w was

-- and the arrays have their lengths
pub unchanged_lengths : (old mid : ServiceInner) (own : Entry) → IsEntered old mid own → effect_in (directory_of old.state) own ≡ effects.Nothing → (id : ℕ) → words_in (get mid.state.arrays id) ≡ words_in (get old.state.arrays id)
unchanged_lengths old mid own e none id = ap (λ d. words_in (get d.arrays id)) (same_directory old mid own e none)

-- a request with no effect makes no array
pub makes_none : (d : Directory) (session number : ℕ) (request : Request) (answer : Answer) → answer_in d request ≡ Some answer → effect_of d request ≡ effects.Nothing → MakesArray (Finished session number request answer) → ⊥
makes_none d session number (Create name size tag) (answers.Array i n) answered none makes =
    let clash : effects.Create ≡ effects.Nothing = sym (ap creating (some_same answered)) ∙ none in
    cc
makes_none d session number (Create name size tag) _ answered none makes = makes
makes_none d session number (Find name) answer answered none makes = makes
makes_none d session number (Remove id) answer answered none makes = makes
makes_none d session number (Access id index op no_wait) answer answered none makes = makes

-- an access that writes a word, which is there
pub record Writes (d : Directory) (request : Request) (id index : ℕ) : Type 0 where
  pub op : Op
  pub no_wait : Bool
  pub request_is : request ≡ Access id index op no_wait
  pub before : Word
  pub there : word_in (get d.arrays id) index ≡ Some before

created_not : (answer : Answer) (id index : ℕ) (w : Word) → creating answer ≡ effects.Write id index w → ⊥
created_not (answers.Array i n) id index w is = cc
created_not _ id index w is = cc

removed_not : (array : ℕ) (here : Option Array) (id index : ℕ) (w : Word) → removing array here ≡ effects.Write id index w → ⊥
removed_not array None id index w is = cc
removed_not array (Some a) id index w is = cc

accessed : (d : Directory) (array i : ℕ) (op : Op) (no_wait : Bool) (id index : ℕ) (w : Word) (here : Option Word) (after : Option (Word × Reply)) → word_in (get d.arrays array) i ≡ here → option_and_then (table op) here ≡ after
    → writing array i after ≡ effects.Write id index w → Writes d (Access array i op no_wait) id index
accessed d array i op no_wait id index w here None e f is = absurd (cc)
accessed d array i op no_wait id index w None (Some x) e f is = absurd (cc)
accessed d array i op no_wait id index w (Some before) (Some x) e f is =
    let same_id : array ≡ id = cc in
    let same_index : i ≡ index = cc in
    record {
      op = op;
      no_wait = no_wait;
      request_is = rw (same_id, same_index) refl;
      before = before;
      there = rw (← same_id, ← same_index) e;
    }

pub writes : (d : Directory) (request : Request) (id index : ℕ) (w : Word) → effect_of d request ≡ effects.Write id index w → Writes d request id index
writes d (Create name size tag) id index w is = absurd (created_not _ id index w is)
writes d (Find name) id index w is = absurd (cc)
writes d (Remove array) id index w is = absurd (removed_not array _ id index w is)
writes d (Access array i op no_wait) id index w is = accessed d array i op no_wait id index w (word_in (get d.arrays array) i) _ refl refl is

-- it leaves the lengths of the arrays
pub written_lengths : (d : Directory) (request : Request) (id index : ℕ) → Writes d request id index → (a : ℕ) → words_in (get (performed d request).arrays a) ≡ words_in (get d.arrays a)
written_lengths d request id index w a = subst (λ r. words_in (get (performed d r).arrays a) ≡ words_in (get d.arrays a)) (sym w.request_is) (operated_lengths d.arrays id index _ a)

-- and is about no other word
pub writes_one : (d : Directory) (request : Request) (id index : ℕ) → Writes d request id index → (b j : ℕ) → ¬ ((b ≡ id) × (j ≡ index)) → ¬ IsOwnWord d request b j
writes_one d request id index w b j differs own = differs (subst (λ r. IsOwnWord d r b j) w.request_is own)

-- an array that a request removes is there
pub removes : (array : ℕ) (here : Option Array) → removing array here ≡ effects.Remove array → IsSome (words_in here)
removes array None is = absurd (cc)
removes array (Some a) is = refl
