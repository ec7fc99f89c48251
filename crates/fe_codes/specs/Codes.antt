-- The codes of tags, operations and answers in records and frames, and the numbers with them
-- (`docs/formats.md`, "Codes").
use Rattle.std.specs.Prelude.{ℕ}
use Rattle.fe_words.specs.declared.word.Tag.{Tag}
use Rattle.fe_words.specs.declared.word.Tag.TheVariants.{Full, Empty}
use Rattle.fe_words.specs.declared.op.Op.{Op}
use Rattle.fe_words.specs.declared.op.Op.TheVariants.{ReadFe, ReadFf, ReadXx, WriteEf, WriteFf, WriteXf}
use Rattle.fe_words.specs.declared.op.Op.TheVariants.{Purge, IntFetchAdd}
use Rattle.fe_state.specs.declared.answer.Answer.{Answer}
use Rattle.fe_state.specs.declared.answer.Answer.TheVariants.{Value, Done, Array, NoArray, BadIndex}
use Rattle.fe_state.specs.declared.answer.Answer.TheVariants.{NameTaken, ArrayLimit, WordLimit, BadName}
use Rattle.fe_state.specs.declared.answer.Answer.TheVariants.{BadLength, NotNow}

abbrev pub tag_code : Tag → ℕ
tag_code Empty = 0
tag_code Full = 1

-- the code of an operation, in frames and records
abbrev pub op_code : Op → ℕ
op_code ReadFe = 16
op_code ReadFf = 17
op_code ReadXx = 18
op_code (WriteEf operand) = 19
op_code (WriteFf operand) = 20
op_code (WriteXf operand) = 21
op_code Purge = 22
op_code (IntFetchAdd operand) = 23

-- the operand of an operation, zero if it has none
abbrev pub operand_of : Op → ℕ
operand_of ReadFe = 0
operand_of ReadFf = 0
operand_of ReadXx = 0
operand_of (WriteEf operand) = operand
operand_of (WriteFf operand) = operand
operand_of (WriteXf operand) = operand
operand_of Purge = 0
operand_of (IntFetchAdd operand) = operand

abbrev pub answer_code : Answer → ℕ
answer_code (Value value) = 1
answer_code Done = 2
answer_code (Array id length) = 3
answer_code NoArray = 4
answer_code BadIndex = 5
answer_code NameTaken = 6
answer_code ArrayLimit = 7
answer_code WordLimit = 8
answer_code BadName = 9
answer_code BadLength = 10
answer_code NotNow = 11

-- the value or the id that an answer carries, zero if it carries none
abbrev pub answer_number : Answer → ℕ
answer_number (Value value) = value
answer_number Done = 0
answer_number (Array id length) = id
answer_number NoArray = 0
answer_number BadIndex = 0
answer_number NameTaken = 0
answer_number ArrayLimit = 0
answer_number WordLimit = 0
answer_number BadName = 0
answer_number BadLength = 0
answer_number NotNow = 0

-- the length of the array that an answer names, zero if it names none
abbrev pub answer_length : Answer → ℕ
answer_length (Value value) = 0
answer_length Done = 0
answer_length (Array id length) = length
answer_length NoArray = 0
answer_length BadIndex = 0
answer_length NameTaken = 0
answer_length ArrayLimit = 0
answer_length WordLimit = 0
answer_length BadName = 0
answer_length BadLength = 0
answer_length NotNow = 0
