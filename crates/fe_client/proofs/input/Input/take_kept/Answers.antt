use Rattle.std.proofs.Common.{◌≡◌, ◌-◌, ◌++◌, ◌∷◌, List, ℕ, length, take, drop, refl, sym, ap, ◌∙◌}
use Rattle.fe_client.proofs.Taken.{kept_behind}
use Rattle.fe_client.proofs.input.Input.take_kept.Goals as goal

pub returns-in_ok-add-in-Some-clause-taken : goal.returns-in_ok-add-in-Some-clause-taken
returns-in_ok-add-in-Some-clause-taken c =
    let s = c.args.self.now in
    let front = c.in-Some.front.now in
    let behind = c.in-Some.field-0-1.now in
    let kept : take (s.end - s.next) (drop s.next s.piece.items) ≡ front ++ 10 ∷ behind = ap (λ (xs : List ℕ). take (s.end - s.next) (drop s.next xs)) (sym c.as_slice.ensures.value) ∙ c.in-Some.ensures.parts in
    (front, c.in-Some.ensures.first, c.in_ok-add-in-Some.ensures.ok, kept ∙ ap (λ (xs : List ℕ). front ++ 10 ∷ xs) (sym (kept_behind s.piece.items front behind s.next s.end (length front) refl kept)))
