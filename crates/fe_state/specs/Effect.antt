-- What a request changes in the directory once it is answered, and the directory after it.
-- See `docs/model.md`, "The state of the server".
use Rattle.std.specs.Prelude.{ℕ, ◌+◌, List, slice_set, replicate, Option, Some, None, option_and_then, ◌≡◌}
use Rattle.std.specs.Prelude.{◌-◌, ◌≤◌, ◌<◌, length, IsSome}
use Rattle.std.specs.Ordering.{nat_cmp}
use Rattle.std.specs.FinMap.{FinMap, get, insert, remove, len}
use Rattle.fe_words.specs.Table.{word, table}
use Rattle.fe_words.specs.declared.word.Word.{Word}
use Rattle.fe_words.specs.declared.op.Op.{Op}
use Rattle.fe_words.specs.declared.word.Tag.{Tag}
use Rattle.fe_words.specs.declared.word.Reply.{Reply}
use Rattle.fe_state.specs.Directory.{Directory, creation, word_in, IsArray, named, word_count}
use Rattle.fe_state.specs.declared.array.Array.{Array}
use Rattle.fe_state.specs.declared.answer.Answer.{Answer}
use Rattle.fe_state.specs.declared.answer.Answer.TheVariants as answer
use Rattle.fe_state.specs.declared.effect.Effect.{Effect}
use Rattle.fe_state.specs.declared.effect.Effect.TheVariants as effect
use Rattle.fe_state.specs.declared.request.Request.{Request}
use Rattle.fe_state.specs.declared.request.Request.TheVariants.{Create, Find, Remove, Access}
use Rattle.fe_state.specs.declared.change.Change.{Change}
use Rattle.fe_state.specs.declared.change.Change.TheVariants.{Nothing, Created, Removed, Wrote}
use Rattle.fe_state.specs.Limits.{most_arrays, most_words}

-- an array whose words all have value 0 and the tag
abbrev pub new_array : List ℕ → ℕ → Tag → Array
new_array name size tag = record { name = name; words = replicate size (word 0 tag) }

-- the directory after a request for a new array: an answer with an array adds it, any other changes nothing
abbrev pub created : Directory → List ℕ → ℕ → Tag → Answer → Directory
created d name size tag (answer.Array id _) =
    record { arrays = insert d.arrays id (new_array name size tag); next_id = d.next_id + 1 }
created d name size tag _ = d

-- the array with this word at the index
abbrev pub with_word : Array → ℕ → Word → Array
with_word a index w = record { name = a.name; words = slice_set a.words index w }

-- the arrays with this word at the index of the array that was looked up, if that exists
abbrev pub put_word : FinMap nat_cmp Array → ℕ → ℕ → Word → Option Array → FinMap nat_cmp Array
put_word arrays id index w None = arrays
put_word arrays id index w (Some a) = insert arrays id (with_word a index w)

-- the arrays after an operation, given the word and answer that the operation table has for it; with none,
-- they stay as they are
abbrev pub operated : FinMap nat_cmp Array → ℕ → ℕ → Option (Word × Reply) → FinMap nat_cmp Array
operated arrays id index None = arrays
operated arrays id index (Some after) = put_word arrays id index after.0 (get arrays id)

-- the directory after an access, whether the access may wait or not
abbrev pub operated_on : Directory → ℕ → ℕ → Op → Directory
operated_on d id index op =
    record {
      arrays = operated d.arrays id index
          (option_and_then (table op) (word_in (get d.arrays id) index));
      next_id = d.next_id;
    }

-- the directory after a request
abbrev pub performed : Directory → Request → Directory
performed d (Create name size tag) = created d name size tag (creation d name size)
performed d (Find name) = d
performed d (Remove id) = record { arrays = remove d.arrays id; next_id = d.next_id }
performed d (Access id index op no_wait) = operated_on d id index op

-- an answer that gives an array: to a request for a new one, it means that the array is made
abbrev pub IsNewArray : Answer → Type 0
IsNewArray (answer.Array id size) = Unit {0}
IsNewArray _ = ⊥

-- a request that makes an array in the directory
abbrev pub CreatesArray : Directory → Request → Type 0
CreatesArray d (Create name size tag) = IsNewArray (creation d name size)
CreatesArray d _ = ⊥

-- the effect of a request for a new array with this answer
abbrev pub creating : Answer → Effect
creating (answer.Array id size) = effect.Create
creating _ = effect.Nothing

-- the effect of removing an array, if it exists
abbrev pub removing : ℕ → Option Array → Effect
removing id None = effect.Nothing
removing id (Some a) = effect.Remove id

-- the effect of an operation, given the word and answer that the operation table has for it; with none, it
-- has no effect
abbrev pub writing : ℕ → ℕ → Option (Word × Reply) → Effect
writing id index None = effect.Nothing
writing id index (Some after) = effect.Write id index after.0

-- the effect of a request once it is answered
abbrev pub effect_of : Directory → Request → Effect
effect_of d (Create name size tag) = creating (creation d name size)
effect_of d (Find name) = effect.Nothing
effect_of d (Remove id) = removing id (get d.arrays id)
effect_of d (Access id index op no_wait) =
    writing id index (option_and_then (table op) (word_in (get d.arrays id) index))

-- a word that a request is about: the one that it names, or each one of the array that it makes or removes
abbrev pub IsOwnWord : Directory → Request → ℕ → ℕ → Type 0
IsOwnWord d (Create name size tag) a i = a ≡ d.next_id
IsOwnWord d (Find name) a i = ⊥
IsOwnWord d (Remove id) a i = a ≡ id
IsOwnWord d (Access id index op no_wait) a i = (a ≡ id) × (i ≡ index)

-- every other word keeps its value and its tag
abbrev pub KeepsOtherWords : Type 0
KeepsOtherWords =
    (d : Directory) (request : Request) (a i : ℕ)
    → ¬ IsOwnWord d request a i
    → word_in (get (performed d request).arrays a) i ≡ word_in (get d.arrays a) i

-- ---- the change, and the directory before it

-- the directory before a change, given the one after it
abbrev pub restored : Change → Directory → Directory
restored Nothing d = d
restored Created d = record { arrays = remove d.arrays (d.next_id - 1); next_id = d.next_id - 1 }
restored (Removed id a) d = record { arrays = insert d.arrays id a; next_id = d.next_id }
restored (Wrote id index w) d =
    record { arrays = put_word d.arrays id index w (get d.arrays id); next_id = d.next_id }

-- an array that may be added to a directory under an id: it may be there (`IsArray`), the id and the name are
-- free, and there is room for one array more and for its words
pub record MayBeAdded (d : Directory) (id : ℕ) (a : Array) : Type 0 where
  pub array : IsArray d id a
  pub id_free : get d.arrays id ≡ None
  pub name_free : named d.arrays a.name ≡ None
  pub few_arrays : len d.arrays < most_arrays
  pub few_words : word_count d.arrays + length a.words ≤ most_words

-- a directory in which a change can be undone: the array made is there, the one removed may be added, the
-- word written exists
abbrev pub CanRestore : Change → Directory → Type 0
CanRestore Nothing d = Unit {0}
CanRestore Created d = IsSome (get d.arrays (d.next_id - 1))
CanRestore (Removed id a) d = MayBeAdded d id a
CanRestore (Wrote id index w) d = IsSome (word_in (get d.arrays id) index)

-- a change that leads back from the directory after it to the one before
pub record LeadsBack (change : Change) (before after : Directory) : Type 0 where
  pub can_restore : CanRestore change after
  pub restored : restored change after ≡ before
