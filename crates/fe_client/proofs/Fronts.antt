-- Fronts of lists of bytes.
use Rattle.std.proofs.Common.{◌≡◌, ℕ, zero, suc, ◌+◌, ◌-◌, ◌≤◌, List, [], ◌∷◌, ◌++◌, length, take, drop, refl, sym, ap, ◌∙◌, zero-add, arith}
use Rattle.std.proofs.lemmas.List.{take-append-le, take_all, take-take, length-take-le}
use Rattle.std.proofs.lemmas.Slice.{take-put_mid}
use borrow.Rule.Slice.PartMut.{put_mid}

pub take_further : (i n : ℕ) (xs : List ℕ) → take (i + n) xs ≡ take i xs ++ take n (drop i xs)
take_further zero n xs = ap (λ k. take k xs) (zero-add n)
take_further (suc i) n [] = take_all (suc i + n) [] (omega arith) ∙ sym (take_all n [] (omega arith))
take_further (suc i) n (x ∷ xs) =
    let one : suc i + n ≡ suc (i + n) = omega arith in
    ap (λ k. take k (x ∷ xs)) one ∙ ap (λ t. x ∷ t) (take_further i n xs)

-- a front that reaches into the second part
pub take_into : (xs ys : List ℕ) (n : ℕ) → take (length xs + n) (xs ++ ys) ≡ xs ++ take n ys
take_into [] ys n = ap (λ k. take k ys) (zero-add n)
take_into (x ∷ xs) ys n =
    let one : length (x ∷ xs) + n ≡ suc (length xs + n) = omega arith in
    ap (λ k. take k (x ∷ (xs ++ ys))) one ∙ ap (λ t. x ∷ t) (take_into xs ys n)

-- what was copied into the front of a buffer is what comes next
pub copied : (items copy rest : List ℕ) (next count : ℕ) → length copy ≡ count → copy ≡ take (next + count - next) (drop next items) → take (next + count) items ≡ take next items ++ take count (copy ++ rest)
copied items copy rest next count sized is =
    let same : next + count - next ≡ count = omega arith in
    take_further next count items
    ∙ ap (λ t. take next items ++ t) (sym (take-append-le count copy rest (omega (arith, sized)) ∙ take_all count copy (omega (arith, sized)) ∙ is ∙ ap (λ k. take k (drop next items)) same))

-- what came into a buffer after its front
pub came_behind : (done count room : ℕ) (buffer new : List ℕ) → done ≤ length buffer → count ≤ length new → take (done + count) (put_mid done room buffer new) ≡ take done buffer ++ take count new
came_behind done count room buffer new within fits =
    let all = put_mid done room buffer new in
    let far = done + length new in
    let len : length (take done buffer) ≡ done = length-take-le done buffer within in
    sym (take-take (done + count) far all (omega (arith, fits)))
    ∙ ap (take (done + count)) (take-put_mid done room buffer new far refl within)
    ∙ ap (λ k. take (k + count) (take done buffer ++ new)) (sym len)
    ∙ take_into (take done buffer) new count
