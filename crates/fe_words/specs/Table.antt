-- The operation table: what each operation does to a tagged word, and what it answers (`docs/model.md`,
-- "Words").
use Rattle.std.specs.Prelude.{◌≡◌, ◌↔◌, ℕ, ◌+◌, ◌%◌, ◌^◌, List, Option, Some, None, IsNone, codes}
use Rattle.fe_words.specs.declared.op.Op.{Op}
use Rattle.fe_words.specs.declared.op.Op.TheVariants.{ReadFe, ReadFf, ReadXx, WriteEf, WriteFf, WriteXf}
use Rattle.fe_words.specs.declared.op.Op.TheVariants.{Purge, IntFetchAdd}
use Rattle.fe_words.specs.declared.word.Word.{Word}
use Rattle.fe_words.specs.declared.word.Tag.{Tag}
use Rattle.fe_words.specs.declared.word.Tag.TheVariants.{Full, Empty}
use Rattle.fe_words.specs.declared.word.Need.{Need}
use Rattle.fe_words.specs.declared.word.Need.TheVariants as need
use Rattle.fe_words.specs.declared.word.Reply.{Reply}
use Rattle.fe_words.specs.declared.word.Reply.TheVariants.{Value, Done}

-- the word with this value and tag
abbrev pub word : ℕ → Tag → Word
word value tag = record { value = value; tag = tag }

-- The eight rows: the word that an operation leaves of one with this tag and value, and the answer, or None
-- if the word lacks the tag that the operation needs. A word that becomes empty keeps its old value, except
-- under purge.
abbrev pub row : Op → Tag → ℕ → Option (Word × Reply)
row ReadFe Full old = Some (word old Empty, Value old)
row ReadFe Empty old = None
row ReadFf Full old = Some (word old Full, Value old)
row ReadFf Empty old = None
row ReadXx tag old = Some (word old tag, Value old)
row (WriteEf operand) Full old = None
row (WriteEf operand) Empty old = Some (word operand Full, Done)
row (WriteFf operand) Full old = Some (word operand Full, Done)
row (WriteFf operand) Empty old = None
row (WriteXf operand) tag old = Some (word operand Full, Done)
row Purge tag old = Some (word 0 Empty, Done)
row (IntFetchAdd operand) Full old = Some (word ((old + operand) % 2 ^ 64) Full, Value old)
row (IntFetchAdd operand) Empty old = None

-- the operation table: the word after the operation and its answer, or None if the word lacks the tag that
-- the operation needs
abbrev pub table : Op → Word → Option (Word × Reply)
table op w = row op w.tag w.value

-- the tag that an operation needs
abbrev pub need_of : Op → Need
need_of ReadFe = need.Full
need_of ReadFf = need.Full
need_of ReadXx = need.Any
need_of (WriteEf operand) = need.Empty
need_of (WriteFf operand) = need.Full
need_of (WriteXf operand) = need.Any
need_of Purge = need.Any
need_of (IntFetchAdd operand) = need.Full

-- a word with this tag meets the need
abbrev pub Meets : Tag → Need → Type 0
Meets tag need.Any = Unit {0}
Meets tag need.Full = tag ≡ Full
Meets tag need.Empty = tag ≡ Empty

-- the table gives nothing exactly when the word does not have the tag that the operation needs
abbrev pub IsUndefinedWhereUnmet : Type 0
IsUndefinedWhereUnmet = (op : Op) (w : Word) → IsNone (table op w) ↔ (¬ Meets w.tag (need_of op))

-- the operation's name in schedules and reports, without its operand
abbrev pub name_of : Op → List ℕ
name_of ReadFe = codes "readfe"
name_of ReadFf = codes "readff"
name_of ReadXx = codes "readxx"
name_of (WriteEf operand) = codes "writeef"
name_of (WriteFf operand) = codes "writeff"
name_of (WriteXf operand) = codes "writexf"
name_of Purge = codes "purge"
name_of (IntFetchAdd operand) = codes "int_fetch_add"
