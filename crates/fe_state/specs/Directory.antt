-- The directory: the arrays by id, and the id that the next one gets. The answer to a request in it.
-- See `docs/model.md`, "The state of the server".
use Rattle.std.specs.Prelude.{ℕ, sum_by, ◌≡◌, Bool, ◌+◌, ◌≤◌, ◌<◌, refl, not, ◌&&◌, nat_le, nat_lt}
use Rattle.std.specs.Prelude.{if◌then◌else◌, List, length, find, slice_get, Option, Some, None, is_some}
use Rattle.std.specs.Prelude.{IsTrue}
use Rattle.std.specs.Ordering.{nat_cmp}
use Rattle.std.specs.FinMap.{FinMap, entries, code, empty, get, len, contains_key}
use Rattle.std.specs.Option.{option_map}
use Rattle.std.specs.Str.{bytes_eq}
use Rattle.std.specs.Coded.{Coded, code_by, coded×, coded_ℕ}
use Rattle.fe_words.specs.Table.{table}
use Rattle.fe_words.specs.declared.word.Word.{Word}
use Rattle.fe_words.specs.declared.word.Reply.{Reply}
use Rattle.fe_words.specs.declared.word.Reply.TheVariants as reply
use Rattle.fe_words.specs.declared.op.Op.{Op}
use Rattle.fe_state.specs.Name.{is_plain}
use Rattle.fe_state.specs.declared.array.Array.{Array}
use Rattle.fe_state.specs.contracts.array.Array.{the_row}
use Rattle.fe_state.specs.declared.answer.Answer.{Answer}
use Rattle.fe_state.specs.declared.answer.Answer.TheVariants as answer
use Rattle.fe_state.specs.declared.request.Request.{Request}
use Rattle.fe_state.specs.declared.request.Request.TheVariants.{Create, Find, Remove, Access}
use Rattle.fe_state.specs.Limits.{most_arrays, most_words}

-- what a measure gives for all the values together
abbrev pub total : {X : Type 0} → (X → ℕ) → FinMap nat_cmp X → ℕ
total measure m = sum_by (λ e. measure e.1) (entries m)

-- the arrays by id, and the id that the next one gets
pub record Directory : Type 0 where
  pub arrays : FinMap nat_cmp Array
  pub next_id : ℕ

-- for proofs, a directory is coded as the pair of its fields
abbrev pub directory_code : Coded Directory
directory_code =
    code_by (FinMap nat_cmp Array × ℕ) (coded× (code coded_ℕ the_row.coded) coded_ℕ)
    (λ d. (d.arrays, d.next_id)) (λ p. record { arrays = p.0; next_id = p.1 }) (λ _. refl)

-- no array yet; the first one gets id 1
abbrev pub first_directory : Directory
first_directory = record { arrays = empty; next_id = 1 }

-- how many words all arrays have together
abbrev pub word_count : FinMap nat_cmp Array → ℕ
word_count arrays = total (λ a. length a.words) arrays

-- the array with this name, and its id
abbrev pub named : FinMap nat_cmp Array → List ℕ → Option (ℕ × Array)
named arrays name = find (λ e. bytes_eq e.1.name name) (entries arrays)

-- the word at an index of an array, if both exist
abbrev pub word_in : Option Array → ℕ → Option Word
word_in None index = None
word_in (Some a) index = slice_get a.words index

-- the number of words of an array, if it exists
abbrev pub words_in : Option Array → Option ℕ
words_in here = option_map (λ a. length a.words) here

-- the answer to a request for a new array: the first of these that applies
abbrev pub creation : Directory → List ℕ → ℕ → Answer
creation d name size =
    if not (is_plain name) then answer.BadName
    else if not (nat_le 1 size && nat_le size most_words) then answer.BadLength
    else if is_some (named d.arrays name) then answer.NameTaken
    else if nat_le most_arrays (len d.arrays) then answer.ArrayLimit
    else if nat_lt most_words (word_count d.arrays + size) then answer.WordLimit
    else answer.Array d.next_id size

-- the answer to a look-up by name, given the array of that name, if there is one
abbrev pub found : Option (ℕ × Array) → Answer
found None = answer.NoArray
found (Some e) = answer.Array e.0 (length e.1.words)

-- the answer that a reply of the operation table becomes
abbrev pub answer_of : Reply → Answer
answer_of (reply.Value v) = answer.Value v
answer_of reply.Done = answer.Done

-- the answer to an operation on a word: that of the operation table, None if it has none; `BadIndex` if the
-- word does not exist
abbrev pub accessed : Option Word → Op → Option Answer
accessed None op = Some answer.BadIndex
accessed (Some w) op = option_map (λ after. answer_of after.1) (table op w)

-- the answer to an operation on a word of an array; `NoArray` if the array does not exist
abbrev pub access : Option Array → ℕ → Op → Option Answer
access None index op = Some answer.NoArray
access (Some a) index op = accessed (slice_get a.words index) op

-- the answer to an access, given that of its operation: without one it is `NotNow` if the access must not
-- wait, else the access waits
abbrev pub at_once : Bool → Option Answer → Option Answer
at_once no_wait None = if no_wait then Some answer.NotNow else None
at_once no_wait (Some a) = Some a

-- the answer to a request, or None if it has to wait
abbrev pub answer_in : Directory → Request → Option Answer
answer_in d (Create name size tag) = Some (creation d name size)
answer_in d (Find name) = Some (if not (is_plain name) then answer.BadName else found (named d.arrays name))
answer_in d (Remove id) = Some (if contains_key d.arrays id then answer.Done else answer.NoArray)
answer_in d (Access id index op no_wait) = at_once no_wait (access (get d.arrays id) index op)

-- an array that a directory may hold under an id
pub record IsArray (d : Directory) (id : ℕ) (a : Array) : Type 0 where
  pub made : 1 ≤ id
  pub older : id < d.next_id
  pub name : IsTrue (is_plain a.name)
  pub some_words : 1 ≤ length a.words
  pub few_words : length a.words ≤ most_words

-- a directory within the limits, in which no two arrays have one name
pub record IsDirectory (d : Directory) : Type 0 where
  pub next_id : 1 ≤ d.next_id
  pub few_arrays : len d.arrays ≤ most_arrays
  pub each : (id : ℕ) (a : Array) → get d.arrays id ≡ Some a → IsArray d id a
  pub names : (i j : ℕ) (a b : Array) → get d.arrays i ≡ Some a → get d.arrays j ≡ Some b → a.name ≡ b.name
      → i ≡ j
  pub words : word_count d.arrays ≤ most_words
