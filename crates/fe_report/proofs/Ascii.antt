-- The line of a request is text.
use Rattle.std.proofs.Common.{◌≡◌, ℕ, ◌^◌, ◌<◌, Bool, true, false, List, [], ◌∷◌, codes, refl, arith}
use Rattle.std.specs.Prelude.{◌&&◌, nat_lt, IsAscii, IsUtf8}
use Rattle.std.specs.Fmt.{decimal}
use Rattle.std.specs.List.{list_all}
use Rattle.std.proofs.lemmas.Bool.{ltb-true}
use Rattle.std.proofs.lemmas.Fmt.{IsAscii-decimal}
use Rattle.std.proofs.lemmas.Str.{IsAscii-append, IsUtf8-from_ascii}
use Rattle.std.proofs.lemmas.Str.Ascii.{IsAscii-nil, IsAscii-cons}
use Rattle.fe_words.specs.Table.{name_of}
use Rattle.fe_words.specs.declared.op.Op.{Op}
use Rattle.fe_words.specs.declared.op.Op.TheVariants.{ReadFe, ReadFf, ReadXx, WriteEf, WriteFf, WriteXf, Purge, IntFetchAdd}
use Rattle.fe_report.specs.Report.{word_line}

first_tested : (b : ℕ) (bs : List ℕ) (here : Bool) → nat_lt b 128 ≡ here → (here && list_all (λ b. nat_lt b 128) bs) ≡ true
    → (list_all (λ b. nat_lt b 128) bs ≡ true → IsAscii bs) → IsAscii (b ∷ bs)
first_tested b bs true here rest more = let below : b < 128 = omega (arith, ltb-true) in IsAscii-cons b bs below (more rest)
first_tested b bs false here rest more = cc

-- bytes that pass a test that computes
tested : (bs : List ℕ) → list_all (λ b. nat_lt b 128) bs ≡ true → IsAscii bs
tested [] passed = IsAscii-nil
tested (b ∷ bs) passed = first_tested b bs (nat_lt b 128) refl passed (tested bs)

name : (op : Op) → IsAscii (name_of op)
name ReadFe = tested (codes "readfe") refl
name ReadFf = tested (codes "readff") refl
name ReadXx = tested (codes "readxx") refl
name (WriteEf operand) = tested (codes "writeef") refl
name (WriteFf operand) = tested (codes "writeff") refl
name (WriteXf operand) = tested (codes "writexf") refl
name Purge = tested (codes "purge") refl
name (IntFetchAdd operand) = tested (codes "int_fetch_add") refl

line : (a i s n : ℕ) (op : Op) → a < 2 ^ 64 → i < 2 ^ 32 → s < 2 ^ 64 → n < 2 ^ 64 → IsAscii (word_line (((a, i), (s, n)), op))
line a i s n op ha hi hs hn =
    IsAscii-append (codes "word ") _ (tested (codes "word ") refl)
    (IsAscii-append (decimal a) _ (IsAscii-decimal a ha)
    (IsAscii-append (codes " ") _ (tested (codes " ") refl)
    (IsAscii-append (decimal i) _ (IsAscii-decimal i (omega (arith, hi)))
    (IsAscii-append (codes " session ") _ (tested (codes " session ") refl)
    (IsAscii-append (decimal s) _ (IsAscii-decimal s hs)
    (IsAscii-append (codes " number ") _ (tested (codes " number ") refl)
    (IsAscii-append (decimal n) _ (IsAscii-decimal n hn)
    (IsAscii-append (codes " ") _ (tested (codes " ") refl)
    (IsAscii-append (name_of op) (codes "\n") (name op) (tested (codes "\n") refl))))))))))

pub word_line-IsUtf8 : (a i s n : ℕ) (op : Op) → a < 2 ^ 64 → i < 2 ^ 32 → s < 2 ^ 64 → n < 2 ^ 64 → IsUtf8 (word_line (((a, i), (s, n)), op))
word_line-IsUtf8 a i s n op ha hi hs hn = IsUtf8-from_ascii _ (line a i s n op ha hi hs hn)
