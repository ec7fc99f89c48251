-- When an access waits, and which requests leave it waiting.
use Rattle.std.proofs.Common.{◌≡◌, ℕ, Option, Some, None, refl, sym, ap, ◌∙◌}
use Rattle.std.specs.Prelude.{false, slice_get}
use Rattle.std.specs.Option.{option_map}
use Rattle.std.specs.FinMap.{get}
use Rattle.fe_words.specs.Table.{table, row}
use Rattle.fe_words.specs.declared.word.Word.{Word}
use Rattle.fe_words.specs.declared.word.Reply.{Reply}
use Rattle.fe_words.specs.declared.word.Tag.{Tag}
use Rattle.fe_words.specs.declared.word.Tag.TheVariants.{Full, Empty}
use Rattle.fe_words.specs.declared.op.Op.{Op}
use Rattle.fe_words.specs.declared.op.Op.TheVariants.{ReadFe, ReadFf, ReadXx, WriteEf, WriteFf, WriteXf, Purge, IntFetchAdd}
use Rattle.fe_state.specs.Directory.{Directory, word_in, answer_in, answer_of, access, accessed, at_once}
use Rattle.fe_state.specs.Effect.{performed, IsOwnWord}
use Rattle.fe_state.specs.declared.array.Array.{Array}
use Rattle.fe_state.specs.declared.request.Request.{Request}
use Rattle.fe_state.specs.declared.request.Request.TheVariants.{Access}
use Rattle.fe_state.proofs.OtherWordLemmas.{performed_beside}
use Rattle.fe_waits.proofs.MemberLemmas.{none_some}

-- the word is there, and the operation table is undefined on it
pub record WaitsOn (d : Directory) (id index : ℕ) (op : Op) : Type 0 where
  pub word : Word
  pub there : word_in (get d.arrays id) index ≡ Some word
  pub undefined : table op word ≡ None

some_none : {X P : Type 0} {x : X} → Some x ≡ None → P
some_none e = none_some (sym e)

-- an access that may wait has no reply just there
pub waits_there : (d : Directory) (id index : ℕ) (op : Op) → answer_in d (Access id index op false) ≡ None → WaitsOn d id index op
waits_there d id index op none = by_array (get d.arrays id) refl none
  where
    by_row : (word : Word) (after : Option (Word × Reply)) → table op word ≡ after → at_once false (option_map (λ after. answer_of after.1) after) ≡ None → table op word ≡ None
    by_row word None is e = is
    by_row word (Some after) is e = some_none e

    by_word : (a : Array) → get d.arrays id ≡ Some a → (here : Option Word) → slice_get a.words index ≡ here → at_once false (accessed here op) ≡ None → WaitsOn d id index op
    by_word a is None at e = some_none e
    by_word a is (Some word) at e = record { word = word; there = ap (λ o. word_in o index) is ∙ at; undefined = by_row word (table op word) refl e }

    by_array : (here : Option Array) → get d.arrays id ≡ here → at_once false (access here index op) ≡ None → WaitsOn d id index op
    by_array None is e = some_none e
    by_array (Some a) is e = by_word a is (slice_get a.words index) refl e

pub there_waits : (d : Directory) (id index : ℕ) (op : Op) → WaitsOn d id index op → answer_in d (Access id index op false) ≡ None
there_waits d id index op w = by_array (get d.arrays id) refl w.there
  where
    by_array : (here : Option Array) → get d.arrays id ≡ here → word_in here index ≡ Some w.word → at_once false (access here index op) ≡ None
    by_array None is at = none_some at
    by_array (Some a) is at = ap (λ o. at_once false (accessed o op)) at ∙ ap (λ o. at_once false (option_map (λ after. answer_of after.1) o)) w.undefined

-- what waits on a word that a request is not about waits on
pub other_waits : (d : Directory) (request : Request) (id index : ℕ) (op : Op) → ¬ IsOwnWord d request id index → answer_in d (Access id index op false) ≡ None → answer_in (performed d request) (Access id index op false) ≡ None
other_waits d request id index op other none =
    let w = waits_there d id index op none in
    there_waits (performed d request) id index op (record { word = w.word; there = performed_beside d request id index other ∙ w.there; undefined = w.undefined })

-- an operation that waits on a word waits on each word with the same tag
pub waits_by_tag : (op : Op) (tag : Tag) (old new : ℕ) → row op tag old ≡ None → row op tag new ≡ None
waits_by_tag ReadFe Full old new e = some_none e
waits_by_tag ReadFe Empty old new e = refl
waits_by_tag ReadFf Full old new e = some_none e
waits_by_tag ReadFf Empty old new e = refl
waits_by_tag ReadXx tag old new e = some_none e
waits_by_tag (WriteEf operand) Full old new e = refl
waits_by_tag (WriteEf operand) Empty old new e = some_none e
waits_by_tag (WriteFf operand) Full old new e = some_none e
waits_by_tag (WriteFf operand) Empty old new e = refl
waits_by_tag (WriteXf operand) tag old new e = some_none e
waits_by_tag Purge tag old new e = some_none e
waits_by_tag (IntFetchAdd operand) Full old new e = some_none e
waits_by_tag (IntFetchAdd operand) Empty old new e = refl
