-- The columns of this many free nodes.
use Rattle.std.proofs.Common.{◌≡◌, ◌≤◌, subst, ℕ, zero, suc, ◌+◌, List, [], ◌∷◌, ◌++◌, map, Option, Some, None, replicate, refl, ap, ◌∙◌, add-one}
use Rattle.std.proofs.Math.Nat.{le_antisymm}
use Rattle.std.proofs.lemmas.List.{map-append}
use Rattle.fe_pool.specs.declared.cells.Cell.{Cell}
use Rattle.fe_pool.specs.declared.cells.Cell.TheVariants.{Free}
use Rattle.fe_pool.specs.Columns.{Columns, before_each, index_before}
use Rattle.fe_pool.specs.within.Cells.{item_of, follower_of, word_link_of, session_link_of, columns_of}

-- the columns hold this many free nodes, and `before` is the last of them
pub record IsMade {T : Type 0} (c : Columns T) (count : ℕ) (before : Option ℕ) : Type 0 where
  pub items : c.items ≡ replicate count None
  pub of_word : c.of_word ≡ replicate count None
  pub of_session : c.of_session ≡ replicate count None
  pub followers : c.followers ≡ before_each count
  pub last : before ≡ index_before count

-- one more copy at the end
replicate_push : {A : Type 0} (n : ℕ) (x : A) → replicate n x ++ x ∷ [] ≡ replicate (suc n) x
replicate_push zero x = refl
replicate_push (suc n) x = ap (λ xs. x ∷ xs) (replicate_push n x)

module _ {T : Type 0} where
  -- one more free node is pushed
  pub made-more : (ps qs : List (Cell T)) (count : ℕ) (before : Option ℕ) (at : ℕ) → qs ≡ ps ++ Free before ∷ [] → at ≡ count → IsMade (columns_of ps) count before → IsMade (columns_of qs) (count + 1) (Some at)
  made-more ps qs count before at pushed same made =
      rw (pushed, same, add-one) (record {
        items = more item_of refl made.items;
        of_word = more word_link_of refl made.of_word;
        of_session = more session_link_of refl made.of_session;
        followers = map-append follower_of ps _ ∙ ap (λ xs. xs ++ before ∷ []) made.followers ∙ ap (λ o. before_each count ++ o ∷ []) made.last;
        last = refl;
      })
    where
      more : {X : Type 0} (f : Cell T → Option X) → f (Free before) ≡ None → map f ps ≡ replicate count None → map f (ps ++ Free before ∷ []) ≡ replicate (suc count) None
      more f none e = map-append f ps _ ∙ ap (λ xs. xs ++ f (Free before) ∷ []) e ∙ ap (λ o. replicate count None ++ o ∷ []) none ∙ replicate_push count None

  -- once the count is reached
  pub made-all : (c : Columns T) (count end : ℕ) (before : Option ℕ) → end ≤ count → count ≤ end → IsMade c count before → IsMade c end before
  made-all c count end before up down made = subst (λ (n : ℕ). IsMade c n before) (le_antisymm down up) made
