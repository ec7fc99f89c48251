-- A finite map that is made of the entries of another, each turned into an entry of its own: what it has at a key.
use Rattle.std.proofs.Common.{◌≡◌, ℕ, zero, suc, slice_get, true, false, cond, List, [], ◌∷◌, map, Some, None, IsSome, is_some, true≢false, refl, sym, ap, subst, ◌∙◌, T}
use Rattle.std.specs.Option.{unwrap_or}
use Rattle.std.specs.Ordering.{eq_by_cmp, is_eq}
use Rattle.std.specs.declared.cmp.Ordering.{Ordering}
use Rattle.std.specs.declared.cmp.Ordering.TheVariants.{Less, Equal, Greater}
use Rattle.std.specs.Cmp.{IsTotalOrder}
use Rattle.std.specs.FinMap.{FinMap, IsAntisymmetric, find, get, entries, from_entries, is_sorted, get-entries, get-from_entries, entries_sorted}
use Rattle.std.specs.FinMap.Entries.{below_all}
use Rattle.fe_service.proofs.KeyLemmas.{hit, find_below}
use Rattle.fe_table.proofs.TableLemmas.{first, second}

pub tied : (r : Ordering) → is_eq r ≡ true → r ≡ Equal
tied Less p = absurd (true≢false (sym p))
tied Equal p = refl
tied Greater p = absurd (true≢false (sym p))

pub same_value : {A : Type 0} (x y : A) → Some x ≡ Some y → x ≡ y
same_value x y e = ap (λ o. unwrap_or o x) e

pub not_none : {A : Type 0} {B : Type 0} (x : A) → None ≡ Some x → B
not_none x e = absurd (true≢false (ap is_some (sym e)))

-- an entry of the later ones is one of all, where the keys rise
later : {K X : Type 0} {R : K → K → Ordering} → IsAntisymmetric R → (e d : K × X) (es : List (K × X)) → T (below_all R e.0 es) → find R d.0 es ≡ Some d.1 → find R d.0 (e ∷ es) ≡ Some d.1
later {R = R} same e d es below found =
    elim (eq_by_cmp R d.0 e.0) as (λ b. eq_by_cmp R d.0 e.0 ≡ b → cond b (Some e.1) (find R d.0 es) ≡ Some d.1) [
      | true ↦ λ t. not_none d.1 (sym (find_below R e.0 es below) ∙ ap (λ k. find R k es) (sym (same d.0 e.0 (tied _ t))) ∙ found)
      | false ↦ λ t. found
    ] refl

pub found_at : {K X : Type 0} {R : K → K → Ordering} → IsTotalOrder R → IsAntisymmetric R → (es : List (K × X)) (i : ℕ) (e : K × X) → T (is_sorted R es) → slice_get es i ≡ Some e → find R e.0 es ≡ Some e.1
found_at o same [] i e sorted h = not_none e h
found_at {R = R} o same (x ∷ es) zero e sorted h =
    subst (λ e. find R e.0 (x ∷ es) ≡ Some e.1) (same_value _ _ h) (ap (λ b. cond b (Some x.1) (find R x.0 es)) (hit o x.0 x.0 refl))
found_at o same (x ∷ es) (suc i) e sorted h = later same x e es (first _ _ sorted) (found_at o same es i e (second _ _ sorted) h)

-- the entry at a position is what the map has at its key
pub get-at : {K X : Type 0} {R : K → K → Ordering} → IsTotalOrder R → IsAntisymmetric R → (m : FinMap R X) (i : ℕ) (e : K × X) → slice_get (entries m) i ≡ Some e → get m e.0 ≡ Some e.1
get-at o same m i e h = get-entries m e.0 ∙ found_at o same (entries m) i e (entries_sorted m) h

module _ {K L X Y : Type 0} {R : K → K → Ordering} {S : L → L → Ordering} (o : IsTotalOrder R) (same_R : IsAntisymmetric R) (p : IsTotalOrder S) (same_S : IsAntisymmetric S) (f : K × X → L × Y) where
  -- the entry that gave what a look-up finds
  pub record Source (es : List (K × X)) (q : L) (y : Y) : Type 0 where
    pub entry : K × X
    pub found : find R entry.0 es ≡ Some entry.1
    pub key : (f entry).0 ≡ q
    pub value : (f entry).1 ≡ y

  source : (es : List (K × X)) → T (is_sorted R es) → (q : L) (y : Y) → find S q (map f es) ≡ Some y → Source es q y
  source [] sorted q y is = not_none y is
  source (e ∷ es) sorted q y is =
      elim (eq_by_cmp S q (f e).0) as (λ b. eq_by_cmp S q (f e).0 ≡ b → cond b (Some (f e).1) (find S q (map f es)) ≡ Some y → Source (e ∷ es) q y) [
        | true ↦ λ t here. record {
          entry = e;
          found = ap (λ b. cond b (Some e.1) (find R e.0 es)) (hit o e.0 e.0 refl);
          key = sym (same_S q (f e).0 (tied _ t));
          value = same_value _ _ here;
        }
        | false ↦ λ t there.
            let rest = source es (second _ _ sorted) q y there in
            record {
              entry = rest.entry;
              found = later same_R e rest.entry es (first _ _ sorted) rest.found;
              key = rest.key;
              value = rest.value;
            }
      ] refl is

  there : (es : List (K × X)) (d : K × X) → find R d.0 es ≡ Some d.1 → IsSome (find S (f d).0 (map f es))
  there [] d found = not_none d.1 found
  there (e ∷ es) d found =
      elim (eq_by_cmp R d.0 e.0) as (λ b. eq_by_cmp R d.0 e.0 ≡ b → cond b (Some e.1) (find R d.0 es) ≡ Some d.1 → IsSome (find S (f d).0 (map f (e ∷ es)))) [
        | true ↦ λ t here.
            let key : d.0 ≡ e.0 = same_R d.0 e.0 (tied _ t) in
            let value : d.1 ≡ e.1 = sym (same_value _ _ here) in
            let same : f d ≡ f e = λ i. f (key i, value i) in
            ap (λ b. is_some (cond b (Some (f e).1) (find S (f d).0 (map f es)))) (hit p (f d).0 (f e).0 (ap (λ z. z.0) same))
        | false ↦ λ t rest.
            elim (eq_by_cmp S (f d).0 (f e).0) as (λ b. is_some (cond b (Some (f e).1) (find S (f d).0 (map f es))) ≡ true) [
              | true ↦ refl
              | false ↦ there es d rest
            ]
      ] refl found

  -- ---- maps

  abbrev pub listed : FinMap R X → FinMap S Y
  listed m = from_entries (map f (entries m))

  pub record From (m : FinMap R X) (q : L) (y : Y) : Type 0 where
    pub entry : K × X
    pub found : get m entry.0 ≡ Some entry.1
    pub key : (f entry).0 ≡ q
    pub value : (f entry).1 ≡ y

  pub from_listed : (m : FinMap R X) (q : L) (y : Y) → get (listed m) q ≡ Some y → From m q y
  from_listed m q y is =
      let s = source (entries m) (entries_sorted m) q y (sym (get-from_entries p (map f (entries m)) q) ∙ is) in
      record { entry = s.entry; found = get-entries m s.entry.0 ∙ s.found; key = s.key; value = s.value }

  pub there_listed : (m : FinMap R X) (d : K × X) → get m d.0 ≡ Some d.1 → IsSome (get (listed m) (f d).0)
  there_listed m d found = ap is_some (get-from_entries p (map f (entries m)) (f d).0) ∙ there (entries m) d (sym (get-entries m d.0) ∙ found)
