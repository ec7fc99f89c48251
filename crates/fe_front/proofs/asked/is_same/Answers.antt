use Rattle.std.proofs.Common.{rules, ◌≡◌, ◌-◌, ℕ, length, take, replicate, true, false, Bool, refl, sym, ap, subst, ◌∙◌, List, ◌&&◌, arith}
use Rattle.std.proofs.lemmas.List.{take-append-le, take_all}
use lib.Pointwise.{pointwise, bytes_decides}
use lib.Dec.{T, eqb, eqb→eq}
use Rattle.fe_words.specs.declared.word.Tag.{Tag}
use Rattle.fe_words.specs.declared.op.Op.{Op}
use Rattle.fe_words.specs.contracts.word.TagPartialEq.TheImpl as tags
use Rattle.fe_words.specs.contracts.op.OpPartialEq.TheImpl as ops
use Rattle.fe_state.specs.Name.{padded}
use Rattle.fe_state.specs.Limits.{longest_name}
use Rattle.fe_state.specs.declared.request.Request.{Request}
use Rattle.fe_state.specs.declared.request.Request.TheVariants.{Create, Find, Remove, Access}
use Rattle.fe_state.specs.contracts.request.RequestPartialEq.TheImpl as requests
use Rattle.fe_front.proofs.asked.is_same.Goals as goal

first : (s t : Bool) → (s && t) ≡ true → s ≡ true
first true t h = refl
first false t h = h

second : (s t : Bool) → (s && t) ≡ true → t ≡ true
second true t h = h
second false t h = search rules

number_same : (m n : ℕ) → eqb m n ≡ true → m ≡ n
number_same m n h = eqb→eq m n (subst T (sym h) tt)

tag_same : (s t : Tag) → tags.ghosts.eq s t ≡ true → s ≡ t
tag_same s t h = search rules

op_same : (o p : Op) → ops.ghosts.eq o p ≡ true → o ≡ p
op_same o p h = search rules

front : (x : List ℕ) → take (length x) (padded longest_name x) ≡ x
front x = take-append-le (length x) x (replicate (longest_name - length x) 0) (omega arith) ∙ take_all (length x) x (omega arith)

-- names of one length, with the same cells, zeros after their bytes among them, are the same
name_same : (x y : List ℕ) → (eqb (length x) (length y) && pointwise eqb (padded longest_name x) (padded longest_name y)) ≡ true → x ≡ y
name_same x y h =
    let cells = (bytes_decides (padded longest_name x) (padded longest_name y)).0 (second _ _ h) in
    sym (front x) ∙ ap (take (length x)) cells ∙ ap (λ n. take n (padded longest_name y)) (number_same (length x) (length y) (first _ _ h)) ∙ front y

create_same : (x y : List ℕ) (m n : ℕ) (s t : Tag) → requests.ghosts.eq (Create x m s) (Create y n t) ≡ true → Create x m s ≡ Create y n t
create_same x y m n s t h =
    let names = name_same x y (first _ _ h) in
    let lengths = number_same m n (first _ _ (second _ _ h)) in
    let tags = tag_same s t (second _ _ (second _ _ h)) in
    λ i. Create (names i) (lengths i) (tags i)

same : (a b : Request) → requests.ghosts.eq a b ≡ true → a ≡ b
same (Create x m s) (Create y n t) h = create_same x y m n s t h
same (Create x m s) (Find y) h = search rules
same (Create x m s) (Remove b) h = search rules
same (Create x m s) (Access b j p v) h = search rules
same (Find x) (Create y n t) h = search rules
same (Find x) (Find y) h = ap Find (name_same x y h)
same (Find x) (Remove b) h = search rules
same (Find x) (Access b j p v) h = search rules
same (Remove a) (Create y n t) h = search rules
same (Remove a) (Find y) h = search rules
same (Remove a) (Remove b) h = search rules
same (Remove a) (Access b j p v) h = search rules
same (Access a i o w) (Create y n t) h = search rules
same (Access a i o w) (Find y) h = search rules
same (Access a i o w) (Remove b) h = search rules
same (Access a i o w) (Access b j p v) h = search (op_same, rules)

itself : (a : Request) → requests.ghosts.eq a a ≡ true
itself (Create x m s) = search rules
itself (Find x) = search rules
itself (Remove a) = search rules
itself (Access a i o w) = search rules

pub returns : goal.returns
returns c = (
  λ t. same c.args.before.now c.args.request.now (sym c.eq.ensures ∙ t),
  λ e. c.eq.ensures ∙ subst (λ (b : Request). requests.ghosts.eq c.args.before.now b ≡ true) e (itself c.args.before.now),
)
