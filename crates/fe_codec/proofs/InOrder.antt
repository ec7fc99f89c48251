-- Finite maps that are filled in the order of their keys.
use Rattle.std.proofs.Common.{◌≡◌, ℕ, ◌<◌, true, T, List, [], ◌∷◌, ◌++◌, length, Option, Some, None, refl, sym, ap, ◌∙◌, append_assoc, arith}
use Rattle.std.specs.List.{AllByRecursion}
use Rattle.std.specs.Ordering.{nat_cmp}
use Rattle.std.specs.declared.cmp.Ordering.{Ordering}
use Rattle.std.specs.declared.cmp.Ordering.TheVariants.{Greater}
use Rattle.std.specs.Cmp.{nat_cmp_total, nat_cmp_is}
use Rattle.std.specs.FinMap.{FinMap, empty, entries, insert, len, put, is_sorted, entries-insert, entries_sorted, same_entries_map, len-entries, len-empty}
use Rattle.std.specs.FinMap.Entries.{by_order}
use Rattle.std.proofs.lemmas.Bool.{ltb-true, lt-ltb}
use Rattle.std.proofs.lemmas.List.{append-nil}
use Rattle.fe_codec.specs.FirstFault.{is_after}
use Rattle.fe_codec.proofs.Found.{AllAbove, rises_first, rises_rest}

module _ {X : Type 0} where
  -- keys that rise, the first of them above the one before
  abbrev pub Rises : Option ℕ → List (ℕ × X) → Type 0
  Rises previous [] = Unit {0}
  Rises previous (e ∷ es) = (is_after previous e.0 ≡ true) × Rises (Some e.0) es

  abbrev pub put_all : FinMap nat_cmp X → List (ℕ × X) → FinMap nat_cmp X
  put_all m [] = m
  put_all m (e ∷ es) = put_all (insert m e.0 e.1) es

  -- every key that may come next is above these
  abbrev pub AllBefore : Option ℕ → List (ℕ × X) → Type 0
  AllBefore previous es = AllByRecursion (λ e. (k : ℕ) → is_after previous k ≡ true → e.0 < k) es

  put_last : (k : ℕ) (v : X) (es : List (ℕ × X)) → AllByRecursion (λ e. e.0 < k) es → put nat_cmp k v es ≡ es ++ (k, v) ∷ []
  put_last k v [] h = refl
  put_last k v (e ∷ es) h =
      let greater : Greater ≡ nat_cmp k e.0 = nat_cmp_is k e.0 Greater h.0 in
      ap (λ (o : Ordering). by_order o ((k, v) ∷ e ∷ es) ((e.0, v) ∷ es) (e ∷ put nat_cmp k v es)) (sym greater) ∙ ap (λ (t : List (ℕ × X)). e ∷ t) (put_last k v es h.1)

  below_key : (previous : Option ℕ) (k : ℕ) (es : List (ℕ × X)) → is_after previous k ≡ true → AllBefore previous es → AllByRecursion (λ e. e.0 < k) es
  below_key previous k [] after h = tt
  below_key previous k (e ∷ es) after h = (h.0 k after, below_key previous k es after h.1)

  before_next : (k : ℕ) (v : X) (es : List (ℕ × X)) → AllByRecursion (λ e. e.0 < k) es → AllBefore (Some k) (es ++ (k, v) ∷ [])
  before_next k v [] h = (λ q after. ltb-true k q after, tt)
  before_next k v (e ∷ es) h = (λ q after. omega (arith, h.0, ltb-true k q after), before_next k v es h.1)

  -- the entries come after those that are there
  pub entries-put_all : (previous : Option ℕ) (es : List (ℕ × X)) (m : FinMap nat_cmp X) → AllBefore previous (entries m) → Rises previous es → entries (put_all m es) ≡ entries m ++ es
  entries-put_all previous [] m before rises = sym (append-nil (entries m))
  entries-put_all previous (e ∷ es) m before rises =
      let below = below_key previous e.0 (entries m) rises.0 before in
      let one : entries (insert m e.0 e.1) ≡ entries m ++ (e.0, e.1) ∷ [] = entries-insert nat_cmp_total m e.0 e.1 ∙ put_last e.0 e.1 (entries m) below in
      entries-put_all (Some e.0) es (insert m e.0 e.1) (rw one (before_next e.0 e.1 (entries m) below)) rises.1
      ∙ ap (λ (t : List (ℕ × X)). t ++ es) one ∙ append_assoc (entries m) (e ∷ []) es

  no_entry : (es : List (ℕ × X)) → length es ≡ 0 → es ≡ []
  no_entry [] e = refl
  no_entry (x ∷ es) e = absurd (omega arith)

  pub entries-empty : entries (empty {X = X} {R = nat_cmp}) ≡ []
  entries-empty = no_entry _ (sym (len-entries empty) ∙ len-empty nat_cmp X)

  -- entries in order are those of their map
  pub entries-in_order : (es : List (ℕ × X)) → Rises None es → entries (put_all empty es) ≡ es
  entries-in_order es rises = entries-put_all None es empty (rw entries-empty tt) rises ∙ ap (λ (t : List (ℕ × X)). t ++ es) entries-empty

  pub len-in_order : (es : List (ℕ × X)) → Rises None es → len (put_all empty es) ≡ length es
  len-in_order es rises = len-entries (put_all empty es) ∙ ap length (entries-in_order es rises)

  -- the entries of a map are in order, so that the map is theirs
  rises_all : (e : ℕ × X) (es : List (ℕ × X)) → AllAbove e.0 es → T (is_sorted nat_cmp es) → Rises (Some e.0) es
  rises_all e [] above rises = tt
  rises_all e (f ∷ es) above rises = (lt-ltb e.0 f.0 above.0, rises_all f es (rises_first f es rises) (rises_rest f es rises))

  rises_from : (es : List (ℕ × X)) → T (is_sorted nat_cmp es) → Rises None es
  rises_from [] rises = tt
  rises_from (e ∷ es) rises = (refl, rises_all e es (rises_first e es rises) (rises_rest e es rises))

  pub entries-Rises : (m : FinMap nat_cmp X) → Rises None (entries m)
  entries-Rises m = rises_from (entries m) (entries_sorted m)

  pub put_all-entries : (m : FinMap nat_cmp X) → put_all empty (entries m) ≡ m
  put_all-entries m = same_entries_map _ _ (entries-in_order (entries m) (entries-Rises m))
