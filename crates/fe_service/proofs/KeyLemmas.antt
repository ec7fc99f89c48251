-- A finite map whose entries get other keys: what it has at a key, and how many entries it has.
use Rattle.std.proofs.Common.{◌≡◌, ◌≢◌, ℕ, suc, ◌+◌, Bool, true, false, cond, List, [], ◌∷◌, map, length, Option, Some, None, IsSome, is_some, true≢false, refl, sym, ap, ◌∙◌, arith, T}
use Rattle.std.specs.Option.{option_map}
use Rattle.std.specs.Ordering.{eq_by_cmp, is_eq, is_lt}
use Rattle.std.specs.declared.cmp.Ordering.{Ordering}
use Rattle.std.specs.declared.cmp.Ordering.TheVariants.{Less, Equal, Greater}
use Rattle.std.specs.Cmp.{IsTotalOrder, tied_itself}
use Rattle.std.specs.FinMap.{FinMap, IsAntisymmetric, find, get, len, entries, from_entries, is_sorted, get-entries, get-from_entries, entries_sorted, len-empty, len-entries, len-insert}
use Rattle.std.specs.FinMap.Entries.{below_all}
use Rattle.fe_table.proofs.TableLemmas.{first, second}
use Rattle.fe_service.specs.within.Slots.{rekeyed}

-- ---- tests of keys

pub hit : {K : Type 0} {R : K → K → Ordering} → IsTotalOrder R → (a b : K) → a ≡ b → eq_by_cmp R a b ≡ true
hit {R = R} o a b e = ap (eq_by_cmp R a) (sym e) ∙ ap is_eq (tied_itself o a)

pub miss : {K : Type 0} {R : K → K → Ordering} → IsAntisymmetric R → (a b : K) → a ≢ b → eq_by_cmp R a b ≡ false
miss {R = R} same a b n = by_answer (R a b) (λ t. n (same a b t))
  where
    by_answer : (r : Ordering) → (r ≢ Equal) → is_eq r ≡ false
    by_answer Less f = refl
    by_answer Equal f = absurd (f refl)
    by_answer Greater f = refl

-- two tests of keys that are equal together say the same
pub same_test : {K L : Type 0} {R : K → K → Ordering} {S : L → L → Ordering} → IsTotalOrder R → IsAntisymmetric R → IsAntisymmetric S → (a b : K) (c d : L) → (a ≡ b → c ≡ d) → (c ≡ d → a ≡ b) → IsTotalOrder S → eq_by_cmp S c d ≡ eq_by_cmp R a b
same_test {R = R} {S = S} o same_R same_S a b c d there back p = by_answer (R a b) refl
  where
    by_answer : (r : Ordering) → R a b ≡ r → eq_by_cmp S c d ≡ is_eq r
    by_answer Less e = miss same_S c d (λ s. true≢false (sym (hit o a b (back s)) ∙ ap is_eq e))
    by_answer Equal e = hit p c d (there (same_R a b e))
    by_answer Greater e = miss same_S c d (λ s. true≢false (sym (hit o a b (back s)) ∙ ap is_eq e))

-- ---- lists of entries

some_later : {X : Type 0} (b : Bool) (x : X) (o : Option X) → IsSome o → IsSome (cond b (Some x) o)
some_later true x o there = refl
some_later false x o there = there

option_map-cond : {X Y : Type 0} (f : X → Y) (b : Bool) (x : X) (o : Option X) → cond b (Some (f x)) (option_map f o) ≡ option_map f (cond b (Some x) o)
option_map-cond f true x o = refl
option_map-cond f false x o = refl

one_more : (n : ℕ) → n + 1 ≡ suc n
one_more n = omega arith

not_tied : (r : Ordering) → T (is_lt r) → is_eq r ≡ false
not_tied Less p = refl
not_tied Equal p = absurd p
not_tied Greater p = absurd p

-- a key that is below all is not there
pub find_below : {K X : Type 0} (R : K → K → Ordering) (q : K) (es : List (K × X)) → T (below_all R q es) → find R q es ≡ None
find_below R q [] h = refl
find_below R q (e ∷ es) h = ap (λ b. cond b (Some e.1) (find R q es)) (not_tied (R q e.0) (first _ _ h)) ∙ find_below R q es (second _ _ h)

module _ {K L X Y : Type 0} {R : K → K → Ordering} {S : L → L → Ordering} (o : IsTotalOrder R) (p : IsTotalOrder S) (key : K → L) (value : X → Y) where
  there_first : (e : K × X) (es : List (K × X)) → IsSome (find R e.0 (e ∷ es))
  there_first e es = ap (λ b. is_some (cond b (Some e.1) (find R e.0 es))) (hit o e.0 e.0 refl)

  -- where the tests at q say what those at k say
  find-rekeyed : (es : List (K × X)) (k : K) (q : L) → ((x : K) → IsSome (find R x es) → eq_by_cmp S q (key x) ≡ eq_by_cmp R k x) → find S q (map (λ e. (key e.0, value e.1)) es) ≡ option_map value (find R k es)
  find-rekeyed [] k q alike = refl
  find-rekeyed (e ∷ es) k q alike =
      ap (λ b. cond b (Some (value e.1)) (find S q (map (λ e. (key e.0, value e.1)) es))) (alike e.0 (there_first e es))
      ∙ ap (cond (eq_by_cmp R k e.0) (Some (value e.1))) (find-rekeyed es k q (λ x there. alike x (some_later (eq_by_cmp R x e.0) e.1 (find R x es) there)))
      ∙ option_map-cond value (eq_by_cmp R k e.0) e.1 (find R k es)

  -- where no test at q holds
  find-missed : (es : List (K × X)) (q : L) → ((x : K) → IsSome (find R x es) → eq_by_cmp S q (key x) ≡ false) → find S q (map (λ e. (key e.0, value e.1)) es) ≡ None
  find-missed [] q apart = refl
  find-missed (e ∷ es) q apart =
      ap (λ b. cond b (Some (value e.1)) (find S q (map (λ e. (key e.0, value e.1)) es))) (apart e.0 (there_first e es))
      ∙ find-missed es q (λ x there. apart x (some_later (eq_by_cmp R x e.0) e.1 (find R x es) there))

  -- where different keys stay different
  len-listed : (es : List (K × X)) → T (is_sorted R es) → ((a b : K) → IsSome (find R a es) → IsSome (find R b es) → eq_by_cmp S (key a) (key b) ≡ eq_by_cmp R a b) → len (from_entries {R = S} (map (λ e. (key e.0, value e.1)) es)) ≡ length es
  len-listed [] sorted alike = len-empty S Y
  len-listed (e ∷ es) sorted alike =
      let later = λ (x : K) (there : IsSome (find R x es)). some_later (eq_by_cmp R x e.0) e.1 (find R x es) there in
      let rest : len (from_entries {R = S} (map (λ e. (key e.0, value e.1)) es)) ≡ length es = len-listed es (second _ _ sorted) (λ a b there_a there_b. alike a b (later a there_a) (later b there_b)) in
      let new : get (from_entries {R = S} (map (λ e. (key e.0, value e.1)) es)) (key e.0) ≡ None =
      get-from_entries p _ (key e.0)
      ∙ find-rekeyed es e.0 (key e.0) (λ x there. alike e.0 x (there_first e es) (later x there))
      ∙ ap (option_map value) (find_below R e.0 es (first _ _ sorted)) in
      len-insert p (from_entries {R = S} (map (λ e. (key e.0, value e.1)) es)) (key e.0) (value e.1)
      ∙ ap (λ o. cond (is_some o) (len (from_entries {R = S} (map (λ e. (key e.0, value e.1)) es))) (len (from_entries {R = S} (map (λ e. (key e.0, value e.1)) es)) + 1)) new
      ∙ ap (λ n. n + 1) rest
      ∙ one_more (length es)

  -- ---- maps

  there_in : (m : FinMap R X) (x : K) → IsSome (find R x (entries m)) → IsSome (get m x)
  there_in m x there = ap is_some (get-entries m x) ∙ there

  pub get-rekeyed : (m : FinMap R X) (k : K) (q : L) → ((x : K) → IsSome (get m x) → eq_by_cmp S q (key x) ≡ eq_by_cmp R k x) → get (rekeyed {S = S} key value m) q ≡ option_map value (get m k)
  get-rekeyed m k q alike =
      get-from_entries p _ q ∙ find-rekeyed (entries m) k q (λ x there. alike x (there_in m x there)) ∙ ap (option_map value) (sym (get-entries m k))

  pub get-rekeyed_none : (m : FinMap R X) (q : L) → ((x : K) → IsSome (get m x) → eq_by_cmp S q (key x) ≡ false) → get (rekeyed {S = S} key value m) q ≡ None
  get-rekeyed_none m q apart = get-from_entries p _ q ∙ find-missed (entries m) q (λ x there. apart x (there_in m x there))

  pub len-rekeyed : (m : FinMap R X) → ((a b : K) → IsSome (get m a) → IsSome (get m b) → eq_by_cmp S (key a) (key b) ≡ eq_by_cmp R a b) → len (rekeyed {S = S} key value m) ≡ len m
  len-rekeyed m alike =
      len-listed (entries m) (entries_sorted m) (λ a b there_a there_b. alike a b (there_in m a there_a) (there_in m b there_b)) ∙ sym (len-entries m)
