-- Reading a code gives back what it encodes, and what is read from a code has that code.
use Rattle.std.proofs.Common.{◌≡◌, ℕ, cond, eqb, Option, Some, sym, refl, ap, subst, ◌∙◌}
use Rattle.std.specs.Prelude.{IfSome}
use Rattle.std.proofs.lemmas.Bool.{eqb-true, cond_both}
use Rattle.fe_words.specs.declared.word.Tag.{Tag}
use Rattle.fe_words.specs.declared.word.Tag.TheVariants.{Full, Empty}
use Rattle.fe_words.specs.declared.op.Op.{Op}
use Rattle.fe_words.specs.declared.op.Op.TheVariants.{ReadFe, ReadFf, ReadXx, WriteEf, WriteFf, WriteXf, Purge, IntFetchAdd}
use Rattle.fe_state.specs.declared.answer.Answer.{Answer}
use Rattle.fe_state.specs.declared.answer.Answer.TheVariants as answers
use Rattle.fe_codes.specs.Codes.{tag_code, op_code, operand_of, answer_code, answer_number, answer_length}
use Rattle.fe_codes.specs.Reading.{tag_of, op_of, answer_of}
use Rattle.fe_codes.specs.Laws.{IsCodeOf, AreCodesOf, AreNumbersOf, TagsAreTheirCodes, OpsAreTheirCodes, AnswersAreTheirCodes}

-- what holds of the value that a reader returned
pub some_at : {A : Type 0} (P : A → Type 0) (o : Option A) (x : A) → o ≡ Some x → IfSome o P → P x
some_at P o x e h = subst (λ (t : Option _). IfSome t P) e h

-- a row of a table of codes
pub row : {A : Type 0} (P : A → Type 0) (code n : ℕ) (x y : Option A) → (code ≡ n → IfSome x P) → IfSome y P → IfSome (cond (eqb code n) x y) P
row P code n x y here below = cond_both (eqb code n) x y (λ o. IfSome o P) (λ e. here (eqb-true code n e)) (λ _. below)

-- ---- tags

tag_row : (code : ℕ) → IfSome (tag_of code) (IsCodeOf code)
unfolding tag_of
tag_row code =
    let P : Tag → Type 0 = IsCodeOf code in
    row P code 0 _ _ (λ e. sym e) (row P code 1 _ _ (λ e. sym e) tt)

pub tag_takes : (code : ℕ) (tag : Tag) → tag_of code ≡ Some tag → tag_code tag ≡ code
tag_takes code tag e = some_at (IsCodeOf code) (tag_of code) tag e (tag_row code)

pub tag_again : (tag : Tag) → tag_of (tag_code tag) ≡ Some tag
unfolding tag_of
tag_again Empty = refl
tag_again Full = refl

pub tags_both : TagsAreTheirCodes
tags_both code tag = (tag_takes code tag, λ e. ap tag_of (sym e) ∙ tag_again tag)

-- ---- operations

op_row : (code operand : ℕ) → IfSome (op_of code operand) (AreCodesOf code operand)
unfolding op_of
op_row code operand =
    let P : Op → Type 0 = AreCodesOf code operand in
    row P code 16 _ _ (λ e. row P operand 0 _ _ (λ z. (sym e, sym z)) tt)
    (row P code 17 _ _ (λ e. row P operand 0 _ _ (λ z. (sym e, sym z)) tt)
    (row P code 18 _ _ (λ e. row P operand 0 _ _ (λ z. (sym e, sym z)) tt)
    (row P code 19 _ _ (λ e. (sym e, refl))
    (row P code 20 _ _ (λ e. (sym e, refl))
    (row P code 21 _ _ (λ e. (sym e, refl))
    (row P code 22 _ _ (λ e. row P operand 0 _ _ (λ z. (sym e, sym z)) tt)
    (row P code 23 _ _ (λ e. (sym e, refl)) tt)))))))

pub op_takes : (code operand : ℕ) (op : Op) → op_of code operand ≡ Some op → AreCodesOf code operand op
op_takes code operand op e = some_at (AreCodesOf code operand) (op_of code operand) op e (op_row code operand)

pub op_again : (op : Op) → op_of (op_code op) (operand_of op) ≡ Some op
unfolding op_of
op_again ReadFe = refl
op_again ReadFf = refl
op_again ReadXx = refl
op_again (WriteEf operand) = refl
op_again (WriteFf operand) = refl
op_again (WriteXf operand) = refl
op_again Purge = refl
op_again (IntFetchAdd operand) = refl

pub ops_both : OpsAreTheirCodes
ops_both code operand op =
    (op_takes code operand op, λ h. ap (λ (k : ℕ). op_of k operand) (sym h.0) ∙ ap (λ (k : ℕ). op_of (op_code op) k) (sym h.1) ∙ op_again op)

-- ---- answers

answer_row : (code number size : ℕ) → IfSome (answer_of code number size) (AreNumbersOf code number size)
unfolding answer_of
answer_row code number size =
    let P : Answer → Type 0 = AreNumbersOf code number size in
    row P code 1 _ _ (λ e. row P size 0 _ _ (λ z. (sym e, refl, sym z)) tt)
    (row P code 2 _ _ (λ e. row P number 0 _ _ (λ y. row P size 0 _ _ (λ z. (sym e, sym y, sym z)) tt) tt)
    (row P code 3 _ _ (λ e. (sym e, refl, refl))
    (row P code 4 _ _ (λ e. row P number 0 _ _ (λ y. row P size 0 _ _ (λ z. (sym e, sym y, sym z)) tt) tt)
    (row P code 5 _ _ (λ e. row P number 0 _ _ (λ y. row P size 0 _ _ (λ z. (sym e, sym y, sym z)) tt) tt)
    (row P code 6 _ _ (λ e. row P number 0 _ _ (λ y. row P size 0 _ _ (λ z. (sym e, sym y, sym z)) tt) tt)
    (row P code 7 _ _ (λ e. row P number 0 _ _ (λ y. row P size 0 _ _ (λ z. (sym e, sym y, sym z)) tt) tt)
    (row P code 8 _ _ (λ e. row P number 0 _ _ (λ y. row P size 0 _ _ (λ z. (sym e, sym y, sym z)) tt) tt)
    (row P code 9 _ _ (λ e. row P number 0 _ _ (λ y. row P size 0 _ _ (λ z. (sym e, sym y, sym z)) tt) tt)
    (row P code 10 _ _ (λ e. row P number 0 _ _ (λ y. row P size 0 _ _ (λ z. (sym e, sym y, sym z)) tt) tt)
    (row P code 11 _ _ (λ e. row P number 0 _ _ (λ y. row P size 0 _ _ (λ z. (sym e, sym y, sym z)) tt) tt) tt))))))))))

pub answer_takes : (code number size : ℕ) (a : Answer) → answer_of code number size ≡ Some a → AreNumbersOf code number size a
answer_takes code number size a e = some_at (AreNumbersOf code number size) (answer_of code number size) a e (answer_row code number size)

pub answer_again : (a : Answer) → answer_of (answer_code a) (answer_number a) (answer_length a) ≡ Some a
unfolding answer_of
answer_again (answers.Value value) = refl
answer_again answers.Done = refl
answer_again (answers.Array id size) = refl
answer_again answers.NoArray = refl
answer_again answers.BadIndex = refl
answer_again answers.NameTaken = refl
answer_again answers.ArrayLimit = refl
answer_again answers.WordLimit = refl
answer_again answers.BadName = refl
answer_again answers.BadLength = refl
answer_again answers.NotNow = refl

pub answers_both : AnswersAreTheirCodes
answers_both code number size a =
    (answer_takes code number size a, λ h. ap (λ (k : ℕ). answer_of k number size) (sym h.0) ∙ ap (λ (k : ℕ). answer_of (answer_code a) k size) (sym h.1) ∙ ap (λ (k : ℕ). answer_of (answer_code a) (answer_number a) k) (sym h.2) ∙ answer_again a)
