-- What a code is read as: the tag, the operation or the answer that has it, or None if there is none
-- (`docs/formats.md`, "Codes").
use Rattle.std.specs.Prelude.{ℕ, ◌<◌, List, slice_index_or, Option, option_and_then, Some, None, ◌==◌}
use Rattle.std.specs.Prelude.{if◌then◌else◌}
use Rattle.fe_words.specs.declared.word.Tag.{Tag}
use Rattle.fe_words.specs.declared.word.Tag.TheVariants.{Full, Empty}
use Rattle.fe_words.specs.declared.op.Op.{Op}
use Rattle.fe_words.specs.declared.op.Op.TheVariants.{ReadFe, ReadFf, ReadXx, WriteEf, WriteFf, WriteXf}
use Rattle.fe_words.specs.declared.op.Op.TheVariants.{Purge, IntFetchAdd}
use Rattle.fe_state.specs.declared.answer.Answer.{Answer}
use Rattle.fe_state.specs.declared.answer.Answer.TheVariants as answers

-- a list of bytes, numbers below 256: records, images and frames are such lists

abbrev pub IsBytes : List ℕ → Type 0
IsBytes bytes = (i : ℕ) → slice_index_or bytes i 0 < 256

-- A `do` block over options, steps that may give no value, uses this operator.

infixl 10 ◌>>=◌
abbrev pub ◌>>=◌ : {A B : Type 0} → Option A → (A → Option B) → Option B
o >>= f = option_and_then f o

-- ---- codes

unfoldable pub tag_of : ℕ → Option Tag
tag_of code = if code == 0 then Some Empty else if code == 1 then Some Full else None

-- an operation with no operand: the operand must be 0
abbrev pub alone : Op → ℕ → Option Op
alone op operand = if operand == 0 then Some op else None

unfoldable pub op_of : ℕ → ℕ → Option Op
op_of code operand =
    if code == 16 then alone ReadFe operand
    else if code == 17 then alone ReadFf operand
    else if code == 18 then alone ReadXx operand
    else if code == 19 then Some (WriteEf operand)
    else if code == 20 then Some (WriteFf operand)
    else if code == 21 then Some (WriteXf operand)
    else if code == 22 then alone Purge operand
    else if code == 23 then Some (IntFetchAdd operand)
    else None

-- an answer that carries nothing: both numbers must be 0
abbrev pub bare : Answer → ℕ → ℕ → Option Answer
bare answer number size = if number == 0 then (if size == 0 then Some answer else None) else None

unfoldable pub answer_of : ℕ → ℕ → ℕ → Option Answer
answer_of code number size =
    if code == 1 then (if size == 0 then Some (answers.Value number) else None)
    else if code == 2 then bare answers.Done number size
    else if code == 3 then Some (answers.Array number size)
    else if code == 4 then bare answers.NoArray number size
    else if code == 5 then bare answers.BadIndex number size
    else if code == 6 then bare answers.NameTaken number size
    else if code == 7 then bare answers.ArrayLimit number size
    else if code == 8 then bare answers.WordLimit number size
    else if code == 9 then bare answers.BadName number size
    else if code == 10 then bare answers.BadLength number size
    else if code == 11 then bare answers.NotNow number size
    else None
