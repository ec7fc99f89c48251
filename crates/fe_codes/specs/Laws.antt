-- Laws of the codes, cited by public functions (`docs/formats.md`, "Codes").
use Rattle.std.specs.Prelude.{◌≡◌, ◌↔◌, ℕ, Some}
use Rattle.fe_words.specs.declared.word.Tag.{Tag}
use Rattle.fe_words.specs.declared.op.Op.{Op}
use Rattle.fe_state.specs.declared.answer.Answer.{Answer}
use Rattle.fe_codes.specs.Codes.{tag_code, op_code, operand_of, answer_code, answer_number, answer_length}
use Rattle.fe_codes.specs.Reading.{tag_of, op_of, answer_of}

-- the code of the tag is this one
abbrev pub IsCodeOf : ℕ → Tag → Type 0
IsCodeOf code tag = tag_code tag ≡ code

-- the code and the operand of the operation are these
abbrev pub AreCodesOf : ℕ → ℕ → Op → Type 0
AreCodesOf code operand op = (op_code op ≡ code) × (operand_of op ≡ operand)

-- the code, the number and the length of the answer are these
abbrev pub AreNumbersOf : ℕ → ℕ → ℕ → Answer → Type 0
AreNumbersOf code number size answer =
    (answer_code answer ≡ code) × (answer_number answer ≡ number) × (answer_length answer ≡ size)

-- A code is read as a tag exactly if it is the tag's code.
abbrev pub TagsAreTheirCodes : Type 0
TagsAreTheirCodes = (code : ℕ) (tag : Tag) → (tag_of code ≡ Some tag) ↔ IsCodeOf code tag

-- A code and an operand are read as an operation exactly if they are its code and operand.
abbrev pub OpsAreTheirCodes : Type 0
OpsAreTheirCodes = (code operand : ℕ) (op : Op) → (op_of code operand ≡ Some op) ↔ AreCodesOf code operand op

-- A code, a number and a length are read as an answer exactly if they are those of the answer.
abbrev pub AnswersAreTheirCodes : Type 0
AnswersAreTheirCodes = (code number size : ℕ) (answer : Answer)
    → (answer_of code number size ≡ Some answer) ↔ AreNumbersOf code number size answer
