-- How long images are.
use Rattle.std.proofs.Common.{◌≡◌, ℕ, ◌+◌, ◌*◌, ◌≤◌, List, [], ◌∷◌, ◌++◌, length, Some, Result, Ok, Err, refl, ◌∙◌, arith}
use Rattle.std.specs.Prelude.{flat_map, sum_by, OnOk}
use Rattle.std.specs.List.{AllByRecursion}
use Rattle.std.specs.FinMap.{get, entries, len, len-entries}
use Rattle.std.specs.Int.{w32, w64, to_be_bytes}
use Rattle.std.proofs.Math.Nat.{add-mul}
use Rattle.std.proofs.lemmas.List.{length-append}
use Rattle.std.proofs.lemmas.List.Sums.{sum_by-cons}
use Rattle.fe_words.specs.declared.word.Word.{Word}
use Rattle.fe_state.specs.Sessions.{Session}
use Rattle.fe_state.specs.State.{ServerState}
use Rattle.fe_state.specs.declared.array.Array.{Array}
use Rattle.fe_state.specs.declared.kept.Kept.{Kept}
use Rattle.fe_format.specs.Layout.{name_bytes, record_bytes, longest_image}
use Rattle.fe_codec.specs.Record.{entry_spelling, name_field}
use Rattle.fe_codec.specs.Image.{word_spelling, array_spelling, kept_spelling, session_spelling, image_spelling, entry_of_kept, ArrayOfFormat, FitsImage}
use Rattle.fe_format.specs.declared.format.Format.{Format}
use Rattle.fe_format.specs.declared.format.Format.TheVariants.{One, Two}
use Rattle.fe_codec.proofs.RecordLaws.{length-name_row, length-entry_spelling}
use Rattle.fe_codec.proofs.ImageArrays.{row_holds}
use Rattle.fe_codec.proofs.ImageSessions.{MayKeep, MayHave}
use Rattle.fe_codec.proofs.ImageOnly.{all_both, each_there, sessions_remain}

-- ---- texts one after another

sizes : {X : Type 0} (f : X → List ℕ) (c : ℕ) (g : X → ℕ) (es : List X) → AllByRecursion (λ e. length (f e) ≤ c + 9 * g e) es → length (flat_map f es) ≤ length es * c + 9 * sum_by g es
sizes f c g [] h = omega arith
sizes f c g (e ∷ es) h =
    let more : (length es + 1) * c ≡ length es * c + c = add-mul (length es) 1 c ∙ omega arith in
    omega (arith, sizes f c g es h.1, h.0, length-append (f e) (flat_map f es), sum_by-cons g e es, more)

equal_sizes : {X : Type 0} (f : X → List ℕ) (c : ℕ) (es : List X) → AllByRecursion (λ e. length (f e) ≤ c) es → length (flat_map f es) ≤ length es * c
equal_sizes f c [] h = omega arith
equal_sizes f c (e ∷ es) h =
    let more : (length es + 1) * c ≡ length es * c + c = add-mul (length es) 1 c ∙ omega arith in
    omega (arith, equal_sizes f c es h.1, h.0, length-append (f e) (flat_map f es), more)

-- ---- parts

words_size : (ws : List Word) → length (flat_map word_spelling ws) ≡ 9 * length ws
words_size [] = refl
words_size (w ∷ ws) = omega (arith, words_size ws, length-append (word_spelling w) (flat_map word_spelling ws))

array_size : (format : Format) (e : ℕ × Array) → length e.1.name ≤ name_bytes format → length (array_spelling format e) ≤ 13 + name_bytes format + 9 * length e.1.words
array_size format e short =
    let a : List ℕ = to_be_bytes w64 e.0 in
    let b : List ℕ = name_field format e.1.name in
    let c : List ℕ = to_be_bytes w32 (length e.1.words) in
    let d : List ℕ = flat_map word_spelling e.1.words in
    omega (arith, length-append (a ++ b ++ c) d, length-append (a ++ b) c, length-append a b, length-name_row format e.1.name short, words_size e.1.words)

kept_size : (format : Format) (session floor limit : ℕ) (k : ℕ × Kept) → MayKeep format session floor limit k → length (kept_spelling format session k) ≤ 8 + record_bytes format
kept_size format session floor limit k may = omega (arith, length-append (to_be_bytes w64 k.1.place) (entry_spelling format (entry_of_kept session k)), length-entry_spelling format (entry_of_kept session k) may.fits)

each_kept : (format : Format) (session floor limit : ℕ) (ks : List (ℕ × Kept)) → AllByRecursion (MayKeep format session floor limit) ks → AllByRecursion (λ k. length (kept_spelling format session k) ≤ 8 + record_bytes format) ks
each_kept format session floor limit [] h = tt
each_kept format session floor limit (k ∷ ks) h = (kept_size format session floor limit k h.0, each_kept format session floor limit ks h.1)

session_bytes : Format → ℕ
session_bytes One = 2324
session_bytes Two = 2836

answers_size : (format : Format) (n : ℕ) → n ≤ 32 → 20 + n * (8 + record_bytes format) ≤ session_bytes format
unfolding session_bytes
answers_size One n le = omega arith
answers_size Two n le = omega arith

session_size : (format : Format) (limit : ℕ) (e : ℕ × Session) → MayHave format limit e → length (session_spelling format e) ≤ session_bytes format
session_size format limit e may =
    let a : List ℕ = to_be_bytes w64 e.0 in
    let b : List ℕ = to_be_bytes w64 e.1.floor in
    let c : List ℕ = to_be_bytes w32 (len e.1.kept) in
    let d : List ℕ = flat_map (kept_spelling format e.0) (entries e.1.kept) in
    let n : ℕ = length (entries e.1.kept) in
    let answers : length d ≤ n * (8 + record_bytes format) = equal_sizes (kept_spelling format e.0) (8 + record_bytes format) (entries e.1.kept) (each_kept format e.0 e.1.floor limit (entries e.1.kept) may.each) in
    let few : n ≤ 32 = omega (arith, may.few, len-entries e.1.kept) in
    omega (arith, length-append (a ++ b ++ c) d, length-append (a ++ b) c, length-append a b, answers, answers_size format n few)

each_session : (format : Format) (limit : ℕ) (es : List (ℕ × Session)) → AllByRecursion (MayHave format limit) es → AllByRecursion (λ e. length (session_spelling format e) ≤ session_bytes format) es
each_session format limit [] h = tt
each_session format limit (e ∷ es) h = (session_size format limit e h.0, each_session format limit es h.1)

-- ---- the whole

whole : (format : Format) (n m words a b : ℕ) → n ≤ 64 → m ≤ 64 → words ≤ 65536 → a ≤ n * (13 + name_bytes format) + 9 * words → b ≤ m * session_bytes format → 24 + a + b ≤ longest_image format
unfolding session_bytes
whole One n m words a b few some all x y = omega arith
whole Two n m words a b few some all x y = omega arith

pub record IsSized (format : Format) (text : List ℕ) : Type 0 where
  pub least : 24 ≤ length text
  pub most : length text ≤ longest_image format

pub image_size : (format : Format) (s : ServerState) → FitsImage format s → IsSized format (image_spelling format s)
image_size format s fits =
    let p : List ℕ = to_be_bytes w64 s.place in
    let n : List ℕ = to_be_bytes w64 s.next_id in
    let a : List ℕ = to_be_bytes w32 (len s.arrays) in
    let b : List ℕ = to_be_bytes w32 (len s.sessions) in
    let es = entries s.arrays in
    let fs = entries s.sessions in
    let x : List ℕ = flat_map (array_spelling format) es in
    let y : List ℕ = flat_map (session_spelling format) fs in
    let shorts : AllByRecursion (λ e. length (array_spelling format e) ≤ (13 + name_bytes format) + 9 * length e.1.words) es =
    all_both (λ e. get s.arrays e.0 ≡ Some e.1) (ArrayOfFormat format) (λ e. length (array_spelling format e) ≤ (13 + name_bytes format) + 9 * length e.1.words)
    (λ e here short. array_size format e (row_holds format e.1.name (fits.limits.directory.each e.0 e.1 here).name short)) es (each_there s.arrays) fits.room.arrays in
    let arrays = sizes (array_spelling format) (13 + name_bytes format) (λ e. length e.1.words) es shorts in
    let sessions = equal_sizes (session_spelling format) (session_bytes format) fs (each_session format s.place fs (sessions_remain format s fits s refl).each) in
    let most = whole format (length es) (length fs) (sum_by (λ e. length e.1.words) es) (length x) (length y) (omega (arith, fits.limits.directory.few_arrays, len-entries s.arrays)) (omega (arith, fits.limits.few_sessions, len-entries s.sessions)) fits.limits.directory.words arrays sessions in
    let long : length (p ++ n ++ a ++ b ++ x ++ y) ≡ 24 + length x + length y = omega (arith, length-append (p ++ n ++ a ++ b ++ x) y, length-append (p ++ n ++ a ++ b) x, length-append (p ++ n ++ a) b, length-append (p ++ n) a, length-append p n) in
    record { least = omega (arith, long); most = omega (arith, long, most) }

-- the same of what was put
pub sized_most : {E : Type 0} (format : Format) (s : ServerState) (r : Result (Unit {0}) E) → OnOk r (FitsImage format s) → OnOk r (length (image_spelling format s) ≤ longest_image format)
sized_most format s (Ok x) h = (image_size format s h).most
sized_most format s (Err e) h = tt
