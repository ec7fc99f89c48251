use Rattle.std.proofs.Common.{◌≡◌, ℕ, ◌<◌, zero, suc, List, [], ◌∷◌, length, Some, true≢false, is_some, sym, ap, ◌∙◌, arith}
use Rattle.std.proofs.lemmas.Option.{unwrap_or-slice_get}
use Rattle.std.specs.FinMap.{entries}
use Rattle.std.specs.Option.{unwrap_or}
use Rattle.std.specs.Prelude.{slice_get}
use Rattle.fe_table.specs.Table.{IsAt}
use Rattle.fe_table.proofs.TablePositions.{get_here}
use Rattle.fe_service.specs.declared.occupant.Occupant.{Occupant}
use Rattle.fe_service.proofs.occupant.occupant_near.Goals as goal

within : {A : Type 0} (xs : List A) (i : ℕ) (x : A) → slice_get xs i ≡ Some x → i < length xs
within [] i x e = absurd (true≢false (ap is_some (sym e)))
within (y ∷ ys) zero x e = omega arith
within (y ∷ ys) (suc i) x e = omega (arith, within ys i x e)

pub returns-then-here-session : goal.returns-then-here-session
returns-then-here-session c =
    let es = entries c.args.occupants.now in
    let e : ℕ × Occupant = (c.in-Some.here, c.in-Some.occupant.now) in
    let there : slice_get (entries c.args.occupants.now) c.args.guess ≡ Some e = sym c.in-Some.ensures.entry in
    let at : IsAt (entries c.args.occupants.now) c.args.session c.args.guess = record {
      in_range = within es c.args.guess e there;
      has_key = λ d. ap (λ (x : ℕ × Occupant). x.0) (sym (unwrap_or-slice_get es c.args.guess d) ∙ ap (λ o. unwrap_or o d) there) ∙ c.if-here-session.true;
    } in
    sym (get_here c.args.occupants.now c.args.session c.args.guess at e there)
