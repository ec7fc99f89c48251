-- A request keeps a directory within the limits.
use Rattle.std.proofs.Common.{◌≡◌, ◌≢◌, ℕ, ◌+◌, ◌<◌, ◌≤◌, ◌⊎◌, inl, inr, Option, Some, None, Bool, true, false, not, cond, List, [], ◌∷◌, length, refl, sym, ap, ◌∙◌, arith, length-set}
use Rattle.std.proofs.lemmas.List.{length-replicate}
use Rattle.std.specs.Prelude.{◌&&◌, nat_le, nat_lt, is_some}
use Rattle.std.specs.List.{find}
use Rattle.std.specs.Ordering.{nat_cmp, eq_by_cmp}
use Rattle.std.specs.Cmp.{nat_cmp_total}
use Rattle.std.specs.Str.{bytes_eq}
use Rattle.std.specs.FinMap as map
use Rattle.std.specs.FinMap.{FinMap, entries, get, insert, remove, len, contains_key, get-entries, same_map, nat_cmp-IsAntisymmetric, len-insert, len-remove}
use Rattle.std.proofs.lemmas.Bool.Decides.{nat_tests}
use Rattle.std.proofs.lemmas.Slice.Eq.{bytes_eq-Decides}
use Rattle.fe_words.specs.declared.word.Word.{Word}
use Rattle.fe_words.specs.declared.word.Tag.{Tag}
use Rattle.fe_words.specs.declared.word.Reply.{Reply}
use Rattle.fe_words.specs.Table.{word}
use Rattle.fe_state.proofs.Maps.{get_inserted, get_beside, get_removed, get_left, same_or_other}
use Rattle.fe_state.proofs.Totals.{total_added, total_removed, total_replaced}
use Rattle.fe_state.specs.Name.{is_plain}
use Rattle.fe_state.specs.Directory.{Directory, IsDirectory, IsArray, named, creation, word_count}
use Rattle.fe_state.specs.Effect.{performed, created, operated, put_word, with_word, new_array}
use Rattle.fe_state.specs.declared.array.Array.{Array}
use Rattle.fe_state.specs.declared.answer.Answer.{Answer}
use Rattle.fe_state.specs.declared.answer.Answer.TheVariants as answer
use Rattle.fe_state.specs.declared.request.Request.{Request}
use Rattle.fe_state.specs.declared.request.Request.TheVariants.{Create, Find, Remove, Access}

-- what an array has to be depends on the id that comes next, and on no other array
pub array_in : (d : Directory) (arrays : FinMap nat_cmp Array) (next_id id : ℕ) (a : Array) → id < next_id → IsArray d id a → IsArray (record { arrays = arrays; next_id = next_id }) id a
array_in d arrays next_id id a older h = record {
  made = h.made;
  older = older;
  name = h.name;
  some_words = h.some_words;
  few_words = h.few_words;
}

-- how many words an array has
abbrev pub size_of : Array → ℕ
size_of a = length a.words

removed_here : (m : FinMap nat_cmp Array) (k q : ℕ) (a : Array) → get (remove m k) q ≡ Some a → get m q ≡ Some a
removed_here m k q a h =
    elim (same_or_other q k) [
      | inl e ↦ let gone : get (remove m k) q ≡ None = rw (e, get_removed) refl in cc
      | inr ne ↦ sym (get_left m k q ne) ∙ h
    ]

total_after_removal : (m : FinMap nat_cmp Array) (k : ℕ) → word_count (remove m k) ≤ word_count m
total_after_removal m k = by (get m k) refl
  where
    by : (here : Option Array) → get m k ≡ here → word_count (remove m k) ≤ word_count m
    by (Some a) e = omega (arith, total_removed size_of m k a e)
    by None e =
        let same : remove m k ≡ m = same_map nat_cmp_total nat_cmp-IsAntisymmetric _ _ (λ q. elim (same_or_other q k) [
          | inl is ↦ rw (is, get_removed) (sym e)
          | inr ne ↦ get_left m k q ne
        ]) in
        rw same (omega arith)

-- a removal keeps a directory within the limits
pub remove_kept : (d : Directory) (id : ℕ) → IsDirectory d → IsDirectory (record { arrays = remove d.arrays id; next_id = d.next_id })
remove_kept d id h = record {
  next_id = h.next_id;
  few_arrays = grind (arith, len-remove nat_cmp_total d.arrays id, h.few_arrays);
  each = λ q a e. let k = h.each q a (removed_here d.arrays id q a e) in array_in d _ _ q a k.older k;
  names = λ i j a b p q same. h.names i j a b (removed_here d.arrays id i a p) (removed_here d.arrays id j b q) same;
  words = omega (arith, total_after_removal d.arrays id, h.words);
}

-- an array of that name and size was there
abbrev WasThere : Directory → ℕ → Array → Type 0
WasThere d q x = (y : Array) × (get d.arrays q ≡ Some y) × (x.name ≡ y.name) × (length x.words ≡ length y.words)

-- so does a change of an array's words, as many as before
pub replace_kept : (d : Directory) (id : ℕ) (a b : Array) → IsDirectory d → get d.arrays id ≡ Some a → b.name ≡ a.name → length b.words ≡ length a.words → IsDirectory (record { arrays = insert d.arrays id b; next_id = d.next_id })
replace_kept d id a b h here name size = record {
  next_id = h.next_id;
  few_arrays = let there : contains_key d.arrays id ≡ true = ap is_some here in rw (len-insert nat_cmp_total, there) h.few_arrays;
  each = λ q x e. one q x (before q x e);
  names = λ i j x y p q same. twice i j x y (before i x p) (before j y q) same;
  words = omega (arith, total_replaced size_of d.arrays id b a here, h.words, size);
}
  where
    before : (q : ℕ) (x : Array) → get (insert d.arrays id b) q ≡ Some x → WasThere d q x
    before q x e =
        elim (same_or_other q id) [
          | inl is ↦ let new : get (insert d.arrays id b) q ≡ Some b = rw (is, get_inserted) refl in
              let same : Some x ≡ Some b = sym e ∙ new in
              let one : x ≡ b = cc in
              (a, rw is here, ap (λ (z : Array). z.name) one ∙ name, ap (λ (z : Array). length z.words) one ∙ size)
          | inr ne ↦ (x, sym (get_beside d.arrays id b q ne) ∙ e, refl, refl)
        ]

    one : (q : ℕ) (x : Array) → WasThere d q x → IsArray (record { arrays = insert d.arrays id b; next_id = d.next_id }) q x
    one q x w =
        let old = h.each q w.0 w.1 in
        record {
          made = old.made;
          older = old.older;
          name = rw w.2 old.name;
          some_words = rw w.3 old.some_words;
          few_words = rw w.3 old.few_words;
        }

    twice : (i j : ℕ) (x y : Array) → WasThere d i x → WasThere d j y → x.name ≡ y.name → i ≡ j
    twice i j x y p q same = h.names i j p.0 q.0 p.1 q.1 (sym p.2 ∙ same ∙ q.2)

-- so does a word that is put in the place of another
pub put_word_kept : (d : Directory) (id index : ℕ) (w : Word) (here : Option Array) → IsDirectory d → get d.arrays id ≡ here → IsDirectory (record { arrays = put_word d.arrays id index w here; next_id = d.next_id })
put_word_kept d id index w None h e = h
put_word_kept d id index w (Some a) h e = replace_kept d id a (with_word a index w) h e refl (length-set a.words index w)

operated_kept : (d : Directory) (id index : ℕ) (after : Option (Word × Reply)) → IsDirectory d → IsDirectory (record { arrays = operated d.arrays id index after; next_id = d.next_id })
operated_kept d id index None h = h
operated_kept d id index (Some after) h = put_word_kept d id index after.0 (get d.arrays id) h refl

-- what has no name among the entries is named otherwise
pub unnamed : (name : List ℕ) (es : List (ℕ × Array)) (q : ℕ) (a : Array) → find (λ e. bytes_eq e.1.name name) es ≡ None → map.find nat_cmp q es ≡ Some a → a.name ≢ name
unnamed name [] q a none here same = cc
unnamed name (e ∷ es) q a none here same = by (bytes_eq e.1.name name) (eq_by_cmp nat_cmp q e.0) refl none here (λ n f. unnamed name es q a n f same)
  where
    by : (b t : Bool) → bytes_eq e.1.name name ≡ b → cond b (Some e) (find (λ p. bytes_eq p.1.name name) es) ≡ None → cond t (Some e.1) (map.find nat_cmp q es) ≡ Some a → (find (λ p. bytes_eq p.1.name name) es ≡ None → map.find nat_cmp q es ≡ Some a → ⊥) → ⊥
    by true t is n f rest = cc
    by false true is n f rest =
        let first : e.1 ≡ a = cc in
        let equal = (bytes_eq-Decides e.1.name name).1 (ap (λ (x : Array). x.name) first ∙ same) in cc
    by false false is n f rest = rest n f

-- what has to hold where a creation is answered with an array
pub record IsCreation (d : Directory) (name : List ℕ) (size : ℕ) : Type 0 where
  pub plain : is_plain name ≡ true
  pub least : 1 ≤ size
  pub most : size ≤ 65536
  pub new : named d.arrays name ≡ None
  pub room : len d.arrays < 64
  pub words : word_count d.arrays + size ≤ 65536

-- the tests of a creation, one after another
passed : (plain sized taken full large : Bool) (id size i n : ℕ) → cond (not plain) answer.BadName (cond (not sized) answer.BadLength (cond taken answer.NameTaken (cond full answer.ArrayLimit (cond large answer.WordLimit (answer.Array id size))))) ≡ answer.Array i n → (plain ≡ true) × (sized ≡ true) × (taken ≡ false) × (full ≡ false) × (large ≡ false) × (i ≡ id) × (n ≡ size)
passed false sized taken full large id size i n e = cc
passed true false taken full large id size i n e = cc
passed true true true full large id size i n e = cc
passed true true false true large id size i n e = cc
passed true true false false true id size i n e = cc
passed true true false false false id size i n e = (refl, refl, refl, refl, refl, cc, cc)

-- a creation that is answered with an array gets the next id and its own length, and meets each condition
pub creation_passed : (d : Directory) (name : List ℕ) (size i n : ℕ) → creation d name size ≡ answer.Array i n → IsCreation d name size × (i ≡ d.next_id) × (n ≡ size)
creation_passed d name size i n e =
    let p = passed (is_plain name) (nat_le 1 size && nat_le size 65536) (is_some (named d.arrays name)) (nat_le 64 (len d.arrays)) (nat_lt 65536 (word_count d.arrays + size)) d.next_id size i n e in (
      record {
        plain = p.0;
        least = grind (arith, nat_tests, p.1);
        most = grind (arith, nat_tests, p.1);
        new = none (named d.arrays name) p.2;
        room = grind (arith, nat_tests, p.3);
        words = grind (arith, nat_tests, p.4);
      },
      p.5,
      p.6,
    )
  where
    none : (o : Option (ℕ × Array)) → is_some o ≡ false → o ≡ None
    none None h = refl
    none (Some x) h = cc

-- a creation keeps a directory within the limits
pub create_kept : (d : Directory) (name : List ℕ) (size : ℕ) (tag : Tag) → IsDirectory d → IsCreation d name size → IsDirectory (record { arrays = insert d.arrays d.next_id (new_array name size tag); next_id = d.next_id + 1 })
create_kept d name size tag h c = record {
  next_id = omega (arith, h.next_id);
  few_arrays = rw (len-insert nat_cmp_total, ap is_some absent) (omega (arith, c.room));
  each = each;
  names = λ i j a b p q same. apart i j a b (before i a p) (before j b q) same;
  words = omega (arith, total_added size_of d.arrays d.next_id (new_array name size tag) absent, c.words, length-replicate size (word 0 tag));
}
  where
    fresh : (here : Option Array) → get d.arrays d.next_id ≡ here → here ≡ None
    fresh None e = refl
    fresh (Some a) e = absurd (omega (arith, (h.each d.next_id a e).older))

    absent : get d.arrays d.next_id ≡ None
    absent = fresh (get d.arrays d.next_id) refl

    before : (q : ℕ) (a : Array) → get (insert d.arrays d.next_id (new_array name size tag)) q ≡ Some a → ((q ≡ d.next_id) × (a ≡ new_array name size tag)) ⊎ (get d.arrays q ≡ Some a)
    before q a e =
        elim (same_or_other q d.next_id) [
          | inl is ↦ let new : get (insert d.arrays d.next_id (new_array name size tag)) q ≡ Some (new_array name size tag) = rw (is, get_inserted) refl in
              let same : Some a ≡ Some (new_array name size tag) = sym e ∙ new in
              inl (is, cc)
          | inr ne ↦ inr (sym (get_beside d.arrays d.next_id (new_array name size tag) q ne) ∙ e)
        ]

    new_one : IsArray (record { arrays = insert d.arrays d.next_id (new_array name size tag); next_id = d.next_id + 1 }) d.next_id (new_array name size tag)
    new_one = record {
      made = h.next_id;
      older = omega arith;
      name = c.plain;
      some_words = rw length-replicate c.least;
      few_words = rw length-replicate c.most;
    }

    each : (q : ℕ) (a : Array) → get (insert d.arrays d.next_id (new_array name size tag)) q ≡ Some a → IsArray (record { arrays = insert d.arrays d.next_id (new_array name size tag); next_id = d.next_id + 1 }) q a
    each q a e =
        elim (before q a e) [
          | inl new ↦ rw (new.0, new.1) new_one
          | inr old ↦ let k = h.each q a old in array_in d _ _ q a (omega (arith, k.older)) k
        ]

    other_name : (q : ℕ) (a : Array) → get d.arrays q ≡ Some a → a.name ≢ name
    other_name q a here = unnamed name (entries d.arrays) q a c.new (sym (get-entries d.arrays q) ∙ here)

    apart : (i j : ℕ) (a b : Array) → ((i ≡ d.next_id) × (a ≡ new_array name size tag)) ⊎ (get d.arrays i ≡ Some a) → ((j ≡ d.next_id) × (b ≡ new_array name size tag)) ⊎ (get d.arrays j ≡ Some b) → a.name ≡ b.name → i ≡ j
    apart i j a b (inl p) (inl q) same = p.0 ∙ sym q.0
    apart i j a b (inl p) (inr q) same = absurd (other_name j b q (sym same ∙ ap (λ (x : Array). x.name) p.1))
    apart i j a b (inr p) (inl q) same = absurd (other_name i a p (same ∙ ap (λ (x : Array). x.name) q.1))
    apart i j a b (inr p) (inr q) same = h.names i j a b p q same

created_kept : (d : Directory) (name : List ℕ) (size : ℕ) (tag : Tag) (given : Answer) → creation d name size ≡ given → IsDirectory d → IsDirectory (created d name size tag given)
created_kept d name size tag (answer.Array i n) e h =
    let c = creation_passed d name size i n e in
    rw c.1 (create_kept d name size tag h c.0)
created_kept d name size tag (answer.Value v) e h = h
created_kept d name size tag answer.Done e h = h
created_kept d name size tag answer.NoArray e h = h
created_kept d name size tag answer.BadIndex e h = h
created_kept d name size tag answer.NameTaken e h = h
created_kept d name size tag answer.ArrayLimit e h = h
created_kept d name size tag answer.WordLimit e h = h
created_kept d name size tag answer.BadName e h = h
created_kept d name size tag answer.BadLength e h = h
created_kept d name size tag answer.NotNow e h = h

-- each request keeps a directory within the limits
pub performed_kept : (d : Directory) (request : Request) → IsDirectory d → IsDirectory (performed d request)
performed_kept d (Create name size tag) h = created_kept d name size tag (creation d name size) refl h
performed_kept d (Find name) h = h
performed_kept d (Remove id) h = remove_kept d id h
performed_kept d (Access id index op no_wait) h = operated_kept d id index _ h

-- and gives out one id at the most
created_next : (d : Directory) (name : List ℕ) (size : ℕ) (tag : Tag) (given : Answer) → (created d name size tag given).next_id ≤ d.next_id + 1
created_next d name size tag (answer.Array i n) = omega arith
created_next d name size tag (answer.Value v) = omega arith
created_next d name size tag answer.Done = omega arith
created_next d name size tag answer.NoArray = omega arith
created_next d name size tag answer.BadIndex = omega arith
created_next d name size tag answer.NameTaken = omega arith
created_next d name size tag answer.ArrayLimit = omega arith
created_next d name size tag answer.WordLimit = omega arith
created_next d name size tag answer.BadName = omega arith
created_next d name size tag answer.BadLength = omega arith
created_next d name size tag answer.NotNow = omega arith

pub performed_next : (d : Directory) (request : Request) → (performed d request).next_id ≤ d.next_id + 1
performed_next d (Create name size tag) = created_next d name size tag (creation d name size)
performed_next d (Find name) = omega arith
performed_next d (Remove id) = omega arith
performed_next d (Access id index op no_wait) = omega arith
