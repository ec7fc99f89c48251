-- A directory within the limits stays so where an array comes or goes, and what takes a change back.
use Rattle.std.proofs.Common.{◌≡◌, ◌≢◌, ℕ, ◌+◌, ◌-◌, ◌<◌, ◌≤◌, ◌⊎◌, inl, inr, Option, Some, None, Bool, true, false, T, cond, List, [], ◌∷◌, length, refl, sym, ap, ◌∙◌, arith, length-set, zero, suc, set, drop, add-one}
use Rattle.std.specs.Prelude.{IsSome, is_some, ◌&&◌, slice_get}
use Rattle.std.specs.Option.{option_map}
use Rattle.std.specs.Ordering.{nat_cmp, is_eq, is_lt}
use Rattle.std.specs.declared.cmp.Ordering.{Ordering}
use Rattle.std.specs.declared.cmp.Ordering.TheVariants.{Less, Equal, Greater}
use Rattle.std.specs.Cmp.{nat_cmp_total, nat_cmp_is}
use Rattle.std.proofs.lemmas.Cmp.{ranked}
use Rattle.std.specs.List.{find}
use Rattle.std.specs.Str.{bytes_eq}
use Rattle.std.specs.FinMap as map
use Rattle.std.specs.FinMap.{FinMap, empty, entries, entries_sorted, get, insert, remove, is_sorted, get-entries, len-insert, len-remove}
use Rattle.std.specs.FinMap.Entries.{below_all}
use Rattle.std.proofs.lemmas.Slice.Eq.{bytes_eq-Decides}
use Rattle.std.proofs.Math.Seq.{drop-nil}
use Rattle.fe_words.specs.declared.word.Word.{Word}
use Rattle.fe_state.proofs.Maps.{get_inserted, get_beside, get_removed, get_left, same_or_other}
use Rattle.fe_state.proofs.Empty.{empty_directory, no_words}
use Rattle.fe_state.proofs.Limits.{array_in, creation_passed, remove_kept, size_of, unnamed}
use Rattle.fe_table.proofs.TableLemmas.{first, second}
use Rattle.fe_state.proofs.Undone.{insert-insert, remove-insert}
use Rattle.fe_state.proofs.Totals.{total_added, total_removed, total_replaced}
use Rattle.fe_state.specs.Directory.{Directory, IsDirectory, IsArray, creation, word_count, word_in}
use Rattle.fe_state.specs.Effect.{with_word, put_word, MayBeAdded}
use Rattle.fe_state.specs.declared.array.Array.{Array}
use Rattle.fe_state.specs.declared.answer.Answer.TheVariants as answer

-- ---- how many words there are after an array comes or goes

pub come_words : (m : FinMap nat_cmp Array) (id : ℕ) (a : Array) → get m id ≡ None → word_count (insert m id a) ≡ word_count m + length a.words
come_words m id a none = total_added size_of m id a none

pub go_words : (m : FinMap nat_cmp Array) (id : ℕ) (a : Array) → get m id ≡ Some a → word_count (remove m id) + length a.words ≡ word_count m
go_words m id a is = total_removed size_of m id a is

pub put_words : (m : FinMap nat_cmp Array) (id index : ℕ) (w : Word) (a : Array) → get m id ≡ Some a → word_count (insert m id (with_word a index w)) ≡ word_count m
put_words m id index w a is = omega (arith, total_replaced size_of m id (with_word a index w) a is, length-set a.words index w)

-- ---- names

-- an entry after a key has a greater one
below_found : (x q : ℕ) (a : Array) (es : List (ℕ × Array)) → T (below_all nat_cmp x es) → map.find nat_cmp q es ≡ Some a → x < q
below_found x q a [] h is = cc
below_found x q a (e ∷ es) h is = by (nat_cmp x e.0) (nat_cmp q e.0) refl refl h is (λ b f. below_found x q a es b f)
  where
    by : (o t : Ordering) → nat_cmp x e.0 ≡ o → nat_cmp q e.0 ≡ t → T (is_lt o && below_all nat_cmp x es) → cond (is_eq t) (Some e.1) (map.find nat_cmp q es) ≡ Some a → (T (below_all nat_cmp x es) → map.find nat_cmp q es ≡ Some a → x < q) → x < q
    by Less Equal p r b f rest = omega (arith, ranked x e.0 Less (sym p), ranked q e.0 Equal (sym r))
    by Less Less p r b f rest = rest b f
    by Less Greater p r b f rest = rest b f
    by Equal t p r b f rest = absurd b
    by Greater t p r b f rest = absurd b

not_equal : (b : Bool) (P : Type 0) → ((b ≡ true) → P) → ¬ P → b ≡ false
not_equal true P f g = absurd (g (f refl))
not_equal false P f g = refl

-- where no entry has a name, it is not found
none_named : (name : List ℕ) (es : List (ℕ × Array)) → T (is_sorted nat_cmp es) → ((q : ℕ) (a : Array) → map.find nat_cmp q es ≡ Some a → a.name ≢ name) → find (λ e. bytes_eq e.1.name name) es ≡ None
none_named name [] h other = refl
none_named name (e ∷ es) h other =
    let itself : nat_cmp e.0 e.0 ≡ Equal = sym (nat_cmp_is e.0 e.0 Equal refl) in
    let here : map.find nat_cmp e.0 (e ∷ es) ≡ Some e.1 = rw itself refl in
    let apart : bytes_eq e.1.name name ≡ false = not_equal _ _ (bytes_eq-Decides e.1.name name).0 (other e.0 e.1 here) in
    let rest : find (λ p. bytes_eq p.1.name name) es ≡ None = none_named name es (second _ _ h) (λ q a is. other q a (behind q a is)) in
    rw apart rest
  where
    behind : (q : ℕ) (a : Array) → map.find nat_cmp q es ≡ Some a → map.find nat_cmp q (e ∷ es) ≡ Some a
    behind q a is =
        let more : nat_cmp q e.0 ≡ Greater = sym (nat_cmp_is q e.0 Greater (below_found e.0 q a es (first _ _ h) is)) in
        rw more is

-- ---- the limits

pub first_kept : (arrays : FinMap nat_cmp Array) (next_id : ℕ) → arrays ≡ empty → 1 ≤ next_id → IsDirectory (record { arrays = arrays; next_id = next_id }) × (0 ≡ word_count arrays)
first_kept arrays next_id is h = rw is (empty_directory next_id h, sym no_words)

-- an array that comes
pub come_kept : (d : Directory) (id : ℕ) (a : Array) → IsDirectory d → MayBeAdded d id a → IsDirectory (record { arrays = insert d.arrays id a; next_id = d.next_id })
come_kept d id a h c = record {
  next_id = h.next_id;
  few_arrays = rw (len-insert nat_cmp_total, ap is_some c.id_free) (omega (arith, c.few_arrays));
  each = λ q x e. each q x (before q x e);
  names = λ i j x y p q same. apart i j x y (before i x p) (before j y q) same;
  words = omega (arith, come_words d.arrays id a c.id_free, c.few_words);
}
  where
    before : (q : ℕ) (x : Array) → get (insert d.arrays id a) q ≡ Some x → ((q ≡ id) × (x ≡ a)) ⊎ (get d.arrays q ≡ Some x)
    before q x e =
        elim (same_or_other q id) [
          | inl is ↦ let new : get (insert d.arrays id a) q ≡ Some a = rw (is, get_inserted) refl in
              let same : Some x ≡ Some a = sym e ∙ new in
              inl (is, cc)
          | inr ne ↦ inr (sym (get_beside d.arrays id a q ne) ∙ e)
        ]

    each : (q : ℕ) (x : Array) → ((q ≡ id) × (x ≡ a)) ⊎ (get d.arrays q ≡ Some x) → IsArray (record { arrays = insert d.arrays id a; next_id = d.next_id }) q x
    each q x (inl new) = rw (new.0, new.1) (array_in d _ _ id a c.array.older c.array)
    each q x (inr old) = let k = h.each q x old in array_in d _ _ q x k.older k

    other_name : (q : ℕ) (x : Array) → get d.arrays q ≡ Some x → x.name ≢ a.name
    other_name q x here = unnamed a.name (entries d.arrays) q x c.name_free (sym (get-entries d.arrays q) ∙ here)

    apart : (i j : ℕ) (x y : Array) → ((i ≡ id) × (x ≡ a)) ⊎ (get d.arrays i ≡ Some x) → ((j ≡ id) × (y ≡ a)) ⊎ (get d.arrays j ≡ Some y) → x.name ≡ y.name → i ≡ j
    apart i j x y (inl p) (inl q) same = p.0 ∙ sym q.0
    apart i j x y (inl p) (inr q) same = absurd (other_name j y q (sym same ∙ ap (λ (z : Array). z.name) p.1))
    apart i j x y (inr p) (inl q) same = absurd (other_name i x p (same ∙ ap (λ (z : Array). z.name) q.1))
    apart i j x y (inr p) (inr q) same = h.names i j x y p q same

here_before : (m : FinMap nat_cmp Array) (k q : ℕ) (a : Array) → get (remove m k) q ≡ Some a → (q ≢ k) × (get m q ≡ Some a)
here_before m k q a h =
    elim (same_or_other q k) [
      | inl e ↦ let gone : get (remove m k) q ≡ None = rw (e, get_removed) refl in cc
      | inr ne ↦ (ne, sym (get_left m k q ne) ∙ h)
    ]

-- an array that went may come again
pub gone_may_come : (d : Directory) (id : ℕ) (a : Array) → IsDirectory d → get d.arrays id ≡ Some a → MayBeAdded (record { arrays = remove d.arrays id; next_id = d.next_id }) id a
gone_may_come d id a h is = record {
  array = let k = h.each id a is in array_in d _ _ id a k.older k;
  id_free = get_removed d.arrays id;
  name_free = none_named a.name _ (entries_sorted _) (λ q x e. other q x (here_before d.arrays id q x (get-entries _ q ∙ e)));
  few_arrays = rw (len-remove nat_cmp_total, ap is_some is) (omega (arith, h.few_arrays));
  few_words = omega (arith, go_words d.arrays id a is, h.words);
}
  where
    other : (q : ℕ) (x : Array) → (q ≢ id) × (get d.arrays q ≡ Some x) → x.name ≢ a.name
    other q x p same = p.0 (h.names q id x a p.1 is same)

-- the next id may be greater
pub raise_kept : (d : Directory) (next_id : ℕ) → IsDirectory d → d.next_id ≤ next_id → IsDirectory (record { arrays = d.arrays; next_id = next_id })
raise_kept d next_id h up = record {
  next_id = omega (arith, h.next_id);
  few_arrays = h.few_arrays;
  each = λ q a e. let k = h.each q a e in array_in d _ _ q a (omega (arith, k.older)) k;
  names = h.names;
  words = h.words;
}

-- the array made last goes, and its id with it
pub last_kept : (d : Directory) (a : Array) → IsDirectory d → get d.arrays (d.next_id - 1) ≡ Some a → IsDirectory (record { arrays = remove d.arrays (d.next_id - 1); next_id = d.next_id - 1 })
last_kept d a h is =
    let k = remove_kept d (d.next_id - 1) h in
    let last = h.each (d.next_id - 1) a is in
    record {
      next_id = last.made;
      few_arrays = k.few_arrays;
      each = λ q x e. let old = here_before d.arrays (d.next_id - 1) q x e in let it = h.each q x old.1 in array_in d _ _ q x (below q old.0 it.older) it;
      names = k.names;
      words = k.words;
    }
  where
    below : (q : ℕ) → q ≢ d.next_id - 1 → q < d.next_id → q < d.next_id - 1
    below q ne lt = omega arith

-- ---- a creation

-- a creation that is answered with an array gives it the next id
pub creation_id : (d : Directory) (name : List ℕ) (size i n : ℕ) → creation d name size ≡ answer.Array i n → i ≡ d.next_id
creation_id d name size i n e = (creation_passed d name size i n e).1

-- which no array has
pub creation_free : (d : Directory) (name : List ℕ) (size i n : ℕ) → IsDirectory d → creation d name size ≡ answer.Array i n → get d.arrays i ≡ None
creation_free d name size i n h e = rw (creation_id d name size i n e) (fresh (get d.arrays d.next_id) refl)
  where
    fresh : (here : Option Array) → get d.arrays d.next_id ≡ here → here ≡ None
    fresh None e = refl
    fresh (Some x) e = absurd (omega (arith, (h.each d.next_id x e).older))

-- where a creation is answered with an array, one of that name and size may come under any free id
pub creation_may_come : (d : Directory) (name : List ℕ) (size i n next_id id : ℕ) (a : Array) → creation d name size ≡ answer.Array i n → 1 ≤ id → id < next_id → get d.arrays id ≡ None → a.name ≡ name → length a.words ≡ size → MayBeAdded (record { arrays = d.arrays; next_id = next_id }) id a
creation_may_come d name size i n next_id id a e made older none called sized =
    let p = creation_passed d name size i n e in
    record {
      array = record {
        made = made;
        older = older;
        name = rw called p.0.plain;
        some_words = rw sized p.0.least;
        few_words = rw sized p.0.most;
      };
      id_free = none;
      name_free = rw called p.0.new;
      few_arrays = p.0.room;
      few_words = rw sized p.0.words;
    }

-- that of the creation itself comes under the next id
pub creation_comes : (d : Directory) (name : List ℕ) (size i n : ℕ) (a : Array) → IsDirectory d → creation d name size ≡ answer.Array i n → a.name ≡ name → length a.words ≡ size → MayBeAdded (record { arrays = d.arrays; next_id = d.next_id + 1 }) i a
creation_comes d name size i n a h e called sized =
    let is = creation_id d name size i n e in
    creation_may_come d name size i n (d.next_id + 1) i a e (omega (arith, h.next_id)) (omega arith) (creation_free d name size i n h e) called sized

-- the array made last is there to be taken
pub made_last : (m : FinMap nat_cmp Array) (next_id id : ℕ) (a : Array) → id ≡ next_id → IsSome (get (insert m id a) (next_id + 1 - 1))
made_last m next_id id a is =
    let last : next_id + 1 - 1 ≡ id = omega arith in
    rw (last, get_inserted) refl

-- and once it is taken, the directory is as before
pub made_restored : (m : FinMap nat_cmp Array) (next_id id : ℕ) (a : Array) → id ≡ next_id → get m id ≡ None → ◌≡◌ {A = Directory} (record { arrays = remove (insert m id a) (next_id + 1 - 1); next_id = next_id + 1 - 1 }) (record { arrays = m; next_id = next_id })
made_restored m next_id id a is none =
    let last : next_id + 1 - 1 ≡ id = omega arith in
    let same : remove (insert m id a) id ≡ m = remove-insert m id a none in
    rw (last, same, is) refl

-- ---- a word that is written

set_there : (ws : List Word) (i : ℕ) (before after : Word) → slice_get ws i ≡ Some before → slice_get (set ws i after) i ≡ Some after
set_there [] i before after is = cc
set_there (w ∷ ws) zero before after is = refl
set_there (w ∷ ws) (suc i) before after is = set_there ws i before after is

set_back : (ws : List Word) (i : ℕ) (before after : Word) → slice_get ws i ≡ Some before → set (set ws i after) i before ≡ ws
set_back [] i before after is = refl
set_back (w ∷ ws) zero before after is = let one : w ≡ before = cc in rw one refl
set_back (w ∷ ws) (suc i) before after is = ap (λ r. w ∷ r) (set_back ws i before after is)

-- the word that was written is there to be written again
pub written_there : (m : FinMap nat_cmp Array) (id index : ℕ) (before after : Word) (here : Option Array) → get m id ≡ here → word_in here index ≡ Some before → IsSome (word_in (get (put_word m id index after here) id) index)
written_there m id index before after None e is = cc
written_there m id index before after (Some a) e is = rw (get_inserted, set_there a.words index before after is) refl

-- and once it is, the arrays are as before
pub written_back : (m : FinMap nat_cmp Array) (id index : ℕ) (before after : Word) (here : Option Array) → get m id ≡ here → word_in here index ≡ Some before → put_word (put_word m id index after here) id index before (get (put_word m id index after here) id) ≡ m
written_back m id index before after None e is = cc
written_back m id index before after (Some a) e is =
    let new : get (insert m id (with_word a index after)) id ≡ Some (with_word a index after) = get_inserted m id (with_word a index after) in
    let same : with_word (with_word a index after) index before ≡ a = ap (λ ws. record { name = a.name; words = ws }) (set_back a.words index before after is) in
    rw (new, same) (insert-insert m id a (with_word a index after) e)

-- ---- a search through the entries

module _ {X : Type 0} (t : X → Bool) where
  pub found_at : (es : List X) (k : ℕ) (e : X) → slice_get es k ≡ Some e → t e ≡ true → find t (drop k es) ≡ Some e
  found_at [] k e is t_is = cc
  found_at (x ∷ es) zero e is t_is = let one : x ≡ e = cc in rw (one, t_is) refl
  found_at (x ∷ es) (suc k) e is t_is = found_at es k e is t_is

  passed_one : (es : List X) (k : ℕ) (e : X) → slice_get es k ≡ Some e → t e ≡ false → find t (drop (suc k) es) ≡ find t (drop k es)
  passed_one [] k e is t_is = cc
  passed_one (x ∷ es) zero e is t_is = let one : x ≡ e = cc in rw (one, t_is) refl
  passed_one (x ∷ es) (suc k) e is t_is = passed_one es k e is t_is

  pub passed_at : (es : List X) (k : ℕ) (e : X) → slice_get es k ≡ Some e → t e ≡ false → find t (drop (k + 1) es) ≡ find t (drop k es)
  passed_at es k e is t_is = rw add-one (passed_one es k e is t_is)

  pub none_past : (es : List X) (k : ℕ) → length es ≤ k → find t (drop k es) ≡ None
  none_past [] k h = rw (drop-nil {A = X} k) refl
  none_past (x ∷ es) zero h = absurd (omega arith)
  none_past (x ∷ es) (suc k) h = none_past es k (omega arith)

pub there_within : {X Y : Type 0} (f : X → Y) (es : List Y) (k : ℕ) (o : Option X) → k < length es → option_map f o ≡ slice_get es k → IsSome o
there_within f es k (Some x) h is = refl
there_within f [] k None h is = absurd (omega arith)
there_within f (e ∷ es) zero None h is = cc
there_within f (e ∷ es) (suc k) None h is = there_within f es k None (omega arith) is
