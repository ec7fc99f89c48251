use Rattle.std.proofs.Common.{◌≡◌, ℕ, zero, suc, ◌+◌, ◌-◌, ◌≤◌, List, [], ◌∷◌, ◌++◌, length, take, drop, sym, ap, ◌∙◌, zero-add, arith, length-take}
use Rattle.std.proofs.lemmas.List.{take-append-le, take_all}
use Rattle.fe_hall.proofs.halves.MemoryReadReadHalf.read.Goals as goal

take_further : (i n : ℕ) (xs : List ℕ) → take (i + n) xs ≡ take i xs ++ take n (drop i xs)
take_further zero n xs = ap (λ k. take k xs) (zero-add n)
take_further (suc i) n [] = take_all (suc i + n) [] (omega arith) ∙ sym (take_all n [] (omega arith))
take_further (suc i) n (x ∷ xs) =
    let one : suc i + n ≡ suc (i + n) = omega arith in
    ap (λ k. take k (x ∷ xs)) one ∙ ap (λ t. x ∷ t) (take_further i n xs)

-- what was copied into the front of a buffer is what comes next
copied : (items copy rest : List ℕ) (next count : ℕ) → length copy ≡ count → copy ≡ take (next + count - next) (drop next items) → take (next + count) items ≡ take next items ++ take count (copy ++ rest)
copied items copy rest next count sized is =
    let same : next + count - next ≡ count = omega arith in
    take_further next count items
    ∙ ap (λ t. take next items ++ t) (sym (take-append-le count copy rest (omega (arith, sized)) ∙ take_all count copy (omega (arith, sized)) ∙ is ∙ ap (λ k. take k (drop next items)) same))

pub returns-clause-known : goal.returns-clause-known
returns-clause-known c _ =
    let s = c.args.self.now in
    let count = c.min-count.result in
    let few : count ≤ length c.args.buffer.now = omega (arith, c.min-count.ensures, c.min.ensures) in
    let sized : length c.copy_from_slice.new.self ≡ count = omega (arith, c.copy_from_slice.ensures.len, length-take count c.args.buffer.now, few) in
    copied s.bytes.items c.copy_from_slice.new.self (drop count c.args.buffer.now) s.next count sized
    (c.copy_from_slice.ensures.after ∙ ap (λ (xs : List ℕ). take (s.next + count - s.next) (drop s.next xs)) c.as_slice.ensures.value)
