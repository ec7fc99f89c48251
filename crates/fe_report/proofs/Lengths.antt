-- How long the lines are.
use Rattle.std.proofs.Common.{◌≡◌, ℕ, ◌+◌, ◌^◌, ◌<◌, ◌≤◌, List, ◌++◌, length, codes, arith, length-append, ap}
use Rattle.std.proofs.lemmas.Fmt.{length-decimal-le}
use Rattle.std.specs.Prelude.{String, string_bytes, string_len}
use Rattle.std.specs.Fmt.{decimal}
use Rattle.fe_words.specs.Table.{name_of}
use Rattle.fe_words.specs.declared.op.Op.{Op}
use Rattle.fe_words.specs.declared.op.Op.TheVariants.{ReadFe, ReadFf, ReadXx, WriteEf, WriteFf, WriteXf, Purge, IntFetchAdd}
use Rattle.fe_report.specs.Report.{count_line, session_line}

-- a text that a line was written after
pub grown : {Z : Type 0} (old new : String Z) (line : List ℕ) (n : ℕ) → length line ≤ n → string_bytes new ≡ string_bytes old ++ line → string_len new ≤ string_len old + n
grown old new line n h e =
    let size = ap length e in
    omega (arith, old.bytes.ok.0, new.bytes.ok.0, size, length-append (string_bytes old) line, h)

joined : (xs ys : List ℕ) (a b : ℕ) → length xs ≤ a → length ys ≤ b → length (xs ++ ys) ≤ a + b
joined xs ys a b h k = omega (arith, length-append xs ys, h, k)

pub long : (n : ℕ) → n < 2 ^ 64 → length (decimal n) ≤ 20
long n h = length-decimal-le 20 n (omega arith) (omega arith) h

pub short : (n : ℕ) → n < 2 ^ 32 → length (decimal n) ≤ 10
short n h = length-decimal-le 10 n (omega arith) (omega arith) (omega arith)

pub name : (op : Op) → length (name_of op) ≤ 13
name ReadFe = omega arith
name ReadFf = omega arith
name ReadXx = omega arith
name (WriteEf operand) = omega arith
name (WriteFf operand) = omega arith
name (WriteXf operand) = omega arith
name Purge = omega arith
name (IntFetchAdd operand) = omega arith

pub length-count_line : (n : ℕ) → n < 2 ^ 32 → length (count_line n) ≤ 19
length-count_line n h = joined (codes "waiting ") (decimal n ++ codes "\n") 8 11 (omega arith) (joined (decimal n) (codes "\n") 10 1 (short n h) (omega arith))

pub length-session_line : (s n : ℕ) → s < 2 ^ 64 → n < 2 ^ 32 → length (session_line (s, n)) ≤ 46
length-session_line s n hs hn =
    joined (codes "session ") _ 8 38 (omega arith)
    (joined (decimal s) _ 20 18 (long s hs)
    (joined (codes " waits ") _ 7 11 (omega arith)
    (joined (decimal n) (codes "\n") 10 1 (short n hn) (omega arith))))
