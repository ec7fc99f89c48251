-- Arrays of an image that are read were spelled so.
use Rattle.std.proofs.Common.{◌≡◌, ◌≢◌, ℕ, ◌+◌, ◌-◌, ◌^◌, ◌<◌, ◌≤◌, Bool, true, false, cond, List, [], ◌∷◌, ◌++◌, length, Option, Some, None, Result, Ok, refl, sym, ap, subst, ◌∙◌, append_assoc, inl, inr, arith}
use Rattle.std.specs.Prelude.{flat_map, find, is_some, sum_by}
use Rattle.std.specs.List.{AllByRecursion}
use Rattle.std.specs.Str.{bytes_eq}
use Rattle.std.specs.FinMap.{get, insert, entries, entries_sorted, get-entries}
use Rattle.std.proofs.lemmas.List.Sums.{sum_by-cons}
use Rattle.std.proofs.lemmas.Option.{none-some}
use Rattle.std.proofs.lemmas.Slice.Eq.{bytes_eq-Decides}
use Rattle.std.specs.Int.{w32, w64, to_be_bytes}
use Rattle.fe_words.specs.declared.word.Tag.TheVariants.{Empty}
use Rattle.fe_state.proofs.DirectoryLemmas.{come_words}
use Rattle.fe_state.proofs.Maps.{get_inserted, get_beside, same_or_other}
use Rattle.fe_state.specs.Name.{is_plain}
use Rattle.fe_state.specs.Directory.{named, word_count}
use Rattle.fe_state.specs.Effect.{new_array}
use Rattle.fe_state.specs.State.{ServerState, with_arrays, IsWithinLimits}
use Rattle.fe_state.specs.declared.array.Array.{Array}
use Rattle.fe_codes.specs.Reading.{IsBytes}
use Rattle.fe_format.specs.Layout.{name_bytes}
use Rattle.fe_codec.specs.Loading.{HasNoneAfter}
use Rattle.fe_codec.specs.Record.{name_field, IsShort}
use Rattle.fe_codec.specs.Image.{array_spelling, word_spelling, ArrayOfFormat, ArrayFits}
use Rattle.fe_format.specs.declared.format.Format.{Format}
use Rattle.fe_format.specs.declared.format.Format.TheVariants.{One, Two}
use Rattle.fe_codec.specs.FirstFault.{◌followed_by◌, repeated, number_in, is_after, id_at, new_name_at, next_word, next_array, with_new_array}
use Rattle.fe_codec.proofs.InOrder.{Rises, put_all}
use Rattle.fe_codes.proofs.Splits.{Splits, splits_then}
use Rattle.fe_codec.proofs.ImageFields.{bind_ok, ok_is, field32, number_in_takes, goes_from, number_in_again}
use Rattle.fe_codec.proofs.ImageNames.{id_takes, new_name_takes, short_of, plain_most, id_again, new_name_again}
use Rattle.fe_codec.proofs.ImageWords.{insert_twice, loads_words, words_again}
use Rattle.fe_codec.proofs.Loads.{Walk, Loads, load_all}
use Rattle.fe_codec.proofs.LoadingLemmas.{fresh_next}
use Rattle.fe_codec.proofs.Found.{holds_each}

abbrev pub load_array : ServerState → ℕ × Array → ServerState
load_array s e = with_arrays s (insert s.arrays e.0 e.1)

-- arrays that are loaded are put into the map one after the other
pub arrays_loaded : (step : Walk → Result Walk ℕ) (spelled : ℕ × Array → List ℕ) (es : List (ℕ × Array)) (s : ServerState) → load_all step load_array spelled s es ≡ with_arrays s (put_all s.arrays es)
arrays_loaded step spelled [] s = refl
arrays_loaded step spelled (e ∷ es) s = arrays_loaded step spelled es (load_array s e)

-- the format has room for an array, and its words fit
abbrev pub ArrayRead : Format → ℕ × Array → Type 0
ArrayRead format e = ArrayOfFormat format e × ArrayFits e

pub array_loads : (format : Format) (x y : Walk) → IsBytes x.2 → next_array format x ≡ Ok y → Loads (next_array format) load_array (array_spelling format) (ArrayRead format) x y
unfolding next_array
array_loads format x y fits e =
    let s : ServerState = x.1 in
    let a = bind_ok (id_at x.0 s.next_id x.2) (λ id. new_name_at format s.arrays id.1 followed_by λ name. number_in w32 1 (65537 - word_count s.arrays) name.1 followed_by λ size. repeated (next_word id.0) size.0 (0, with_new_array s id.0 name.0 size.0, size.1) followed_by λ words. Ok (Some id.0, words.1, words.2)) y e in
    let id : ℕ = a.0.0 in
    let b = bind_ok (new_name_at format s.arrays a.0.1) (λ name. number_in w32 1 (65537 - word_count s.arrays) name.1 followed_by λ size. repeated (next_word id) size.0 (0, with_new_array s id name.0 size.0, size.1) followed_by λ words. Ok (Some id, words.1, words.2)) y a.2 in
    let name : List ℕ = b.0.0 in
    let c = bind_ok (number_in w32 1 (65537 - word_count s.arrays) b.0.1) (λ size. repeated (next_word id) size.0 (0, with_new_array s id name size.0, size.1) followed_by λ words. Ok (Some id, words.1, words.2)) y b.2 in
    let size : ℕ = c.0.0 in
    let made : ServerState = with_new_array s id name size in
    let d = bind_ok (repeated (next_word id) size (0, made, c.0.1)) (λ words. Ok (Some id, words.1, words.2)) y c.2 in
    let t_id = id_takes x.0 s.next_id x.2 a.0 fits a.1 in
    let t_name = new_name_takes format s.arrays a.0.1 b.0 t_id.0.rest_fits b.1 in
    let t_size = number_in_takes w32 (2 ^ 32) field32 1 (65537 - word_count s.arrays) b.0.1 c.0 t_name.0.rest_fits c.1 in
    let ws = loads_words id name [] size 0 made c.0.1 d.0 t_size.rest_fits refl (get_inserted s.arrays id (new_array name size Empty)) d.1 in
    let entry : ℕ × Array = (id, record { name = name; words = ws.words }) in
    let front : Splits x.2 (to_be_bytes w64 id ++ name_field format name) b.0.1 = splits_then x.2 (to_be_bytes w64 id) a.0.1 (name_field format name) b.0.1 t_id.0 t_name.0 in
    let sized : Splits x.2 (to_be_bytes w64 id ++ name_field format name ++ to_be_bytes w32 size) c.0.1 = splits_then x.2 (to_be_bytes w64 id ++ name_field format name) b.0.1 (to_be_bytes w32 size) c.0.1 front t_size in
    let long : Splits x.2 (to_be_bytes w64 id ++ name_field format name ++ to_be_bytes w32 (length ws.words)) c.0.1 =
    subst (λ (k : ℕ). Splits x.2 (to_be_bytes w64 id ++ name_field format name ++ to_be_bytes w32 k) c.0.1) (sym ws.count) sized in
    let state : d.0.1 ≡ load_array s entry = ws.state ∙ ap (with_arrays s) (insert_twice s.arrays id (new_array name size Empty) entry.1) in
    record {
      entry = entry;
      rest = d.0.2;
      is = sym (ok_is (Some id, d.0.1, d.0.2) y d.2) ∙ ap (λ (z : ServerState). (Some id, z, d.0.2)) state;
      above = t_id.1;
      text = splits_then x.2 (to_be_bytes w64 id ++ name_field format name ++ to_be_bytes w32 (length ws.words)) c.0.1 (flat_map word_spelling ws.words) d.0.2 long ws.text;
      good = (short_of format name t_name.1, ws.values);
    }

-- ---- what was spelled is loaded

-- an array that may come next
pub record CanBeNext (format : Format) (previous : Option ℕ) (s : ServerState) (e : ℕ × Array) : Type 0 where
  pub small : e.0 < 2 ^ 64
  pub above : is_after previous e.0 ≡ true
  pub made : 1 ≤ e.0
  pub older : e.0 < s.next_id
  pub plain : is_plain e.1.name ≡ true
  pub short : length e.1.name ≤ name_bytes format
  pub free : is_some (named s.arrays e.1.name) ≡ false
  pub some_words : 1 ≤ length e.1.words
  pub few_words : word_count s.arrays + length e.1.words ≤ 65536
  pub values : AllByRecursion (λ w. w.value < 2 ^ 64) e.1.words

pub array_again : (format : Format) (previous : Option ℕ) (s : ServerState) (e : ℕ × Array) (rest : List ℕ) → CanBeNext format previous s e → next_array format (previous, s, array_spelling format e ++ rest) ≡ Ok (Some e.0, load_array s e, rest)
unfolding next_array
array_again format previous s e rest may =
    let id : ℕ = e.0 in
    let name : List ℕ = e.1.name in
    let size : ℕ = length e.1.words in
    let made : ServerState = with_new_array s id name size in
    let words : List ℕ = flat_map word_spelling e.1.words ++ rest in
    let sized : List ℕ = to_be_bytes w32 size ++ words in
    let behind : List ℕ = name_field format name ++ sized in
    let grouped : array_spelling format e ++ rest ≡ to_be_bytes w64 id ++ behind = four (to_be_bytes w64 id) (name_field format name) (to_be_bytes w32 size) (flat_map word_spelling e.1.words) rest in
    let k4 : ℕ × ServerState × List ℕ → Result Walk ℕ = λ ws. Ok (Some id, ws.1, ws.2) in
    let k3 : ℕ × List ℕ → Result Walk ℕ = λ n. repeated (next_word id) n.0 (0, with_new_array s id name n.0, n.1) followed_by k4 in
    let k2 : List ℕ × List ℕ → Result Walk ℕ = λ n. number_in w32 1 (65537 - word_count s.arrays) n.1 followed_by λ z. repeated (next_word id) z.0 (0, with_new_array s id n.0 z.0, z.1) followed_by k4 in
    let k1 : ℕ × List ℕ → Result Walk ℕ = λ i. new_name_at format s.arrays i.1 followed_by λ n. number_in w32 1 (65537 - word_count s.arrays) n.1 followed_by λ z. repeated (next_word i.0) z.0 (0, with_new_array s i.0 n.0 z.0, z.1) followed_by λ ws. Ok (Some i.0, ws.1, ws.2) in
    let put : load_array made e ≡ load_array s e = ap (with_arrays s) (insert_twice s.arrays id (new_array name size Empty) e.1) in
    ap (λ (t : List ℕ). id_at previous s.next_id t followed_by k1) grouped
    ∙ goes_from (id_at previous s.next_id (to_be_bytes w64 id ++ behind)) k1 (id, behind) (id_again previous s.next_id id behind may.small may.made may.older may.above)
    ∙ goes_from (new_name_at format s.arrays behind) k2 (name, sized) (new_name_again format s.arrays name sized may.plain may.short may.free)
    ∙ goes_from (number_in w32 1 (65537 - word_count s.arrays) sized) k3 (size, words) (number_in_again w32 (2 ^ 32) field32 1 (65537 - word_count s.arrays) size words (omega (arith, may.few_words)) may.some_words (omega (arith, may.few_words)))
    ∙ goes_from (repeated (next_word id) size (0, made, words)) k4 (0 + size, load_array made e, rest) (words_again id name e.1.words [] 0 made rest may.values refl (get_inserted s.arrays id (new_array name size Empty)))
    ∙ ap (λ (z : ServerState). Ok (Some id, z, rest)) put
  where
    four : (a b c d rest : List ℕ) → (a ++ b ++ c ++ d) ++ rest ≡ a ++ (b ++ (c ++ (d ++ rest)))
    four a b c d rest = simp append_assoc

-- ---- the arrays of a state within the limits

pub not_named : (name : List ℕ) (es : List (ℕ × Array)) → AllByRecursion (λ e. e.1.name ≢ name) es → is_some (find (λ e. bytes_eq e.1.name name) es) ≡ false
not_named name [] h = refl
not_named name (e ∷ es) h =
    let apart : bytes_eq e.1.name name ≡ false = not_so (bytes_eq e.1.name name) (e.1.name ≡ name) (bytes_eq-Decides e.1.name name).0 h.0 in
    ap (λ (b : Bool). is_some (cond b (Some e) (find (λ f. bytes_eq f.1.name name) es))) apart ∙ not_named name es h.1
  where
    not_so : (b : Bool) (P : Type 0) → (b ≡ true → P) → (P → ⊥) → b ≡ false
    not_so true P f g = absurd (g (f refl))
    not_so false P f g = refl

-- arrays that are to come: those of a whole map that were not loaded yet
pub record Remains (format : Format) (whole : ServerState) (previous : Option ℕ) (s : ServerState) (es : List (ℕ × Array)) : Type 0 where
  pub rises : Rises previous es
  pub fresh : HasNoneAfter previous s.arrays
  pub next_id : s.next_id ≡ whole.next_id
  pub loaded : (q : ℕ) (a : Array) → get s.arrays q ≡ Some a → get whole.arrays q ≡ Some a
  pub there : AllByRecursion (λ e. get whole.arrays e.0 ≡ Some e.1) es
  pub room : word_count s.arrays + sum_by (λ e. length e.1.words) es ≤ 65536
  pub short : AllByRecursion (ArrayOfFormat format) es
  pub values : AllByRecursion (λ e. AllByRecursion (λ w. w.value < 2 ^ 64) e.1.words) es

pub row_holds : (format : Format) (name : List ℕ) → is_plain name ≡ true → IsShort format name → length name ≤ name_bytes format
row_holds One name plain short = short
row_holds Two name plain short = plain_most name plain

pub remains_next : (format : Format) (whole : ServerState) → IsWithinLimits whole → (previous : Option ℕ) (s : ServerState) (e : ℕ × Array) (es : List (ℕ × Array)) (rest : List ℕ) → Remains format whole previous s (e ∷ es)
    → (next_array format (previous, s, array_spelling format e ++ rest) ≡ Ok (Some e.0, load_array s e, rest)) × Remains format whole (Some e.0) (load_array s e) es
remains_next format whole limits previous s e es rest h =
    let is = limits.directory.each e.0 e.1 h.there.0 in
    let free : get s.arrays e.0 ≡ None = h.fresh e.0 h.rises.0 in
    let other : (q : ℕ) (a : Array) → get s.arrays q ≡ Some a → a.name ≢ e.1.name = λ q a here same.
    let one : q ≡ e.0 = limits.directory.names q e.0 a e.1 (h.loaded q a here) h.there.0 same in
    none-some a (sym free ∙ ap (get s.arrays) (sym one) ∙ here) in
    let apart : AllByRecursion (λ f. f.1.name ≢ e.1.name) (entries s.arrays) = holds_each (λ f. f.1.name ≢ e.1.name) (entries s.arrays) (entries_sorted s.arrays) (λ q a here. other q a (get-entries s.arrays q ∙ here)) in
    let total : sum_by (λ f. length f.1.words) (e ∷ es) ≡ length e.1.words + sum_by (λ f. length f.1.words) es = sum_by-cons (λ f. length f.1.words) e es in
    let come : word_count (insert s.arrays e.0 e.1) ≡ word_count s.arrays + length e.1.words = come_words s.arrays e.0 e.1 free in (
      array_again format previous s e rest (record {
        small = omega (arith, is.older, limits.next_id, limits.place);
        above = h.rises.0;
        made = is.made;
        older = rw h.next_id is.older;
        plain = is.name;
        short = row_holds format e.1.name is.name h.short.0;
        free = not_named e.1.name (entries s.arrays) apart;
        some_words = is.some_words;
        few_words = omega (arith, h.room, total);
        values = h.values.0;
      }),
      record {
        rises = h.rises.1;
        fresh = fresh_next previous s.arrays e.0 e.1 h.fresh h.rises.0;
        next_id = h.next_id;
        loaded = λ q a here. elim (same_or_other q e.0) [
          | inl at ↦
              let got : Some e.1 ≡ Some a = sym (get_inserted s.arrays e.0 e.1) ∙ ap (get (insert s.arrays e.0 e.1)) (sym at) ∙ here in
              ap (get whole.arrays) at ∙ h.there.0 ∙ got
          | inr ne ↦ h.loaded q a (sym (get_beside s.arrays e.0 e.1 q ne) ∙ here)
        ];
        there = h.there.1;
        room = omega (arith, h.room, total, come);
        short = h.short.1;
        values = h.values.1;
      },
    )
