-- A state that is spelled is read from its image.
use Rattle.std.proofs.Common.{◌≡◌, ℕ, ◌+◌, ◌^◌, ◌<◌, ◌≤◌, List, [], ◌∷◌, ◌++◌, length, Some, None, Result, Ok, refl, sym, ap, subst, ◌∙◌, append_assoc, arith}
use Rattle.std.specs.Prelude.{flat_map}
use Rattle.std.specs.List.{AllByRecursion}
use Rattle.std.specs.Ordering.{nat_cmp}
use Rattle.std.specs.FinMap.{FinMap, get, empty, entries, entries_sorted, get-entries, get-empty, len, len-entries}
use Rattle.std.specs.Int.{w32, w64, to_be_bytes}
use Rattle.std.proofs.lemmas.List.{append-nil}
use Rattle.std.proofs.lemmas.Option.{none-some}
use Rattle.fe_state.proofs.Empty.{no_words}
use Rattle.fe_state.specs.Sessions.{Session}
use Rattle.fe_state.specs.State.{ServerState, IsSession, with_arrays, with_sessions}
use Rattle.fe_state.specs.declared.array.Array.{Array}
use Rattle.fe_codec.specs.Record.{FieldsFit}
use Rattle.fe_codec.specs.Image.{array_spelling, session_spelling, image_spelling, entry_of_kept, KeptOfFormat, SessionOfFormat, SessionFits, FitsImage, SpellingIsRead, ImageHasOneSpelling}
use Rattle.fe_codec.specs.Loading.{ImageGives}
use Rattle.fe_codec.specs.declared.fault.ImageFault.{ImageFault}
use Rattle.fe_format.specs.declared.format.Format.{Format}
use Rattle.fe_codec.specs.declared.header.ImageHeader.{ImageHeader}
use Rattle.fe_codec.specs.FirstFault.{◌followed_by◌, repeated, number_in, header_at, starting, next_array, next_session, ended, state_at, error_at_offset, image_at}
use Rattle.fe_codec.proofs.InOrder.{entries-Rises, put_all-entries}
use Rattle.fe_codec.proofs.ImageFields.{ok_is, field32, field64, goes_from, number_in_again}
use Rattle.fe_codec.proofs.ImageArrays.{load_array, arrays_loaded, Remains, remains_next}
use Rattle.fe_codec.proofs.ImageSessions.{load_session, sessions_loaded, MayKeep, MayHave, SessionsRemain, session_next, window_few}
use Rattle.fe_codec.proofs.Loads.{Walk, load_all, last_key, again_all}
use Rattle.fe_codec.proofs.Found.{holds_each}

-- ---- lists of facts

pub all_both : {X : Type 0} (P Q R : X → Type 0) → ((x : X) → P x → Q x → R x) → (xs : List X) → AllByRecursion P xs → AllByRecursion Q xs → AllByRecursion R xs
all_both P Q R f [] p q = tt
all_both P Q R f (x ∷ xs) p q = (f x p.0 q.0, all_both P Q R f xs p.1 q.1)

all_and : {X : Type 0} (P Q : X → Type 0) (xs : List X) → AllByRecursion P xs → AllByRecursion Q xs → AllByRecursion (λ x. P x × Q x) xs
all_and P Q xs p q = all_both P Q (λ x. P x × Q x) (λ x a b. (a, b)) xs p q

-- each entry is found at its key
pub each_there : {X : Type 0} (m : FinMap nat_cmp X) → AllByRecursion (λ e. get m e.0 ≡ Some e.1) (entries m)
each_there m = holds_each (λ e. get m e.0 ≡ Some e.1) (entries m) (entries_sorted m) (λ q x is. get-entries m q ∙ is)

-- ---- the parts of a state that has an image

kept_may : (format : Format) (limit session : ℕ) (x : Session) → IsSession limit x → SessionOfFormat format (session, x) → AllByRecursion (λ k. FieldsFit (entry_of_kept session k)) (entries x.kept)
    → AllByRecursion (MayKeep format session x.floor limit) (entries x.kept)
kept_may format limit session x within room fits =
    all_both (λ k. get x.kept k.0 ≡ Some k.1) (λ k. KeptOfFormat format session k × FieldsFit (entry_of_kept session k)) (MayKeep format session x.floor limit)
    (λ k here both.
    let w = within.kept k.0 k.1 here in
    record {
      not_below = w.0.not_below;
      not_beyond = w.0.not_beyond;
      earlier = w.1;
      fits = record { of_format = both.0; numbered = omega (arith, w.0.not_beyond, within.most); fields = both.1 };
    })
    (entries x.kept) (each_there x.kept) (all_and (KeptOfFormat format session) (λ k. FieldsFit (entry_of_kept session k)) (entries x.kept) room fits)

kept_few : (limit : ℕ) (x : Session) → IsSession limit x → len x.kept ≤ 32
kept_few limit x within =
    let inside : AllByRecursion (λ k. (x.floor ≤ k.0) × (k.0 < x.floor + 32)) (entries x.kept) =
    holds_each (λ k. (x.floor ≤ k.0) × (k.0 < x.floor + 32)) (entries x.kept) (entries_sorted x.kept) (λ q k is. let w = within.kept q k (get-entries x.kept q ∙ is) in (w.0.not_below, w.0.not_beyond)) in
    omega (arith, len-entries x.kept, window_few x.floor (entries x.kept) (entries-Rises x.kept) inside)

session_may : (format : Format) (s : ServerState) → FitsImage format s → (e : ℕ × Session) → get s.sessions e.0 ≡ Some e.1 → SessionOfFormat format e × SessionFits e → MayHave format s.place e
session_may format s fits e here both =
    let within = fits.limits.each e.0 e.1 here in
    record {
      small = both.1.0;
      least = within.floor;
      most = within.most;
      few = kept_few s.place e.1 within;
      each = kept_may format s.place e.0 e.1 within both.0 both.1.1;
    }

pub sessions_remain : (format : Format) (s : ServerState) → FitsImage format s → (before : ServerState) → before.place ≡ s.place → SessionsRemain format s.place None before (entries s.sessions)
sessions_remain format s fits before at = record {
  rises = entries-Rises s.sessions;
  place = at;
  each = all_both (λ e. get s.sessions e.0 ≡ Some e.1) (λ e. SessionOfFormat format e × SessionFits e) (MayHave format s.place) (session_may format s fits) (entries s.sessions) (each_there s.sessions)
      (all_and (SessionOfFormat format) SessionFits (entries s.sessions) fits.room.sessions fits.sessions);
}

header_of : ServerState → ImageHeader
header_of s = record { place = s.place; next_id = s.next_id; arrays = len s.arrays; sessions = len s.sessions }

arrays_remain : (format : Format) (s : ServerState) → FitsImage format s → Remains format s None (record { arrays = empty; sessions = empty; next_id = s.next_id; place = s.place }) (entries s.arrays)
arrays_remain format s fits = record {
  rises = entries-Rises s.arrays;
  fresh = λ q _. get-empty nat_cmp q;
  next_id = refl;
  loaded = λ q a here. absurd (none-some a (sym (get-empty nat_cmp q) ∙ here));
  there = each_there s.arrays;
  room = omega (arith, no_words, fits.limits.directory.words);
  short = fits.room.arrays;
  values = fits.arrays;
}

-- ---- the whole

header_again : (h : ImageHeader) (rest : List ℕ) → h.place < 2 ^ 63 → 1 ≤ h.next_id → h.next_id ≤ h.place + 1 → h.arrays ≤ 64 → h.sessions ≤ 64
    → header_at (to_be_bytes w64 h.place ++ (to_be_bytes w64 h.next_id ++ (to_be_bytes w32 h.arrays ++ (to_be_bytes w32 h.sessions ++ rest)))) ≡ Ok (h, rest)
unfolding header_at
header_again h rest small least most few some =
    let four : List ℕ = to_be_bytes w32 h.sessions ++ rest in
    let three : List ℕ = to_be_bytes w32 h.arrays ++ four in
    let two : List ℕ = to_be_bytes w64 h.next_id ++ three in
    let k4 : ℕ × List ℕ → Result (ImageHeader × List ℕ) ℕ = λ n. Ok (record { place = h.place; next_id = h.next_id; arrays = h.arrays; sessions = n.0 }, n.1) in
    let k3 : ℕ × List ℕ → Result (ImageHeader × List ℕ) ℕ = λ a. number_in w32 0 65 a.1 followed_by λ n. Ok (record { place = h.place; next_id = h.next_id; arrays = a.0; sessions = n.0 }, n.1) in
    let k2 : ℕ × List ℕ → Result (ImageHeader × List ℕ) ℕ = λ i. number_in w32 0 65 i.1 followed_by λ a. number_in w32 0 65 a.1 followed_by λ n. Ok (record { place = h.place; next_id = i.0; arrays = a.0; sessions = n.0 }, n.1) in
    let k1 : ℕ × List ℕ → Result (ImageHeader × List ℕ) ℕ = λ p. number_in w64 1 (p.0 + 2) p.1 followed_by λ i. number_in w32 0 65 i.1 followed_by λ a. number_in w32 0 65 a.1 followed_by λ n. Ok (record { place = p.0; next_id = i.0; arrays = a.0; sessions = n.0 }, n.1) in
    goes_from (number_in w64 0 (2 ^ 63) (to_be_bytes w64 h.place ++ two)) k1 (h.place, two) (number_in_again w64 (2 ^ 64) field64 0 (2 ^ 63) h.place two (omega (arith, small)) (omega arith) small)
    ∙ goes_from (number_in w64 1 (h.place + 2) two) k2 (h.next_id, three) (number_in_again w64 (2 ^ 64) field64 1 (h.place + 2) h.next_id three (omega (arith, small, most)) least (omega (arith, most)))
    ∙ goes_from (number_in w32 0 65 three) k3 (h.arrays, four) (number_in_again w32 (2 ^ 32) field32 0 65 h.arrays four (omega (arith, few)) (omega arith) (omega (arith, few)))
    ∙ goes_from (number_in w32 0 65 four) k4 (h.sessions, rest) (number_in_again w32 (2 ^ 32) field32 0 65 h.sessions rest (omega (arith, some)) (omega arith) (omega (arith, some)))

regrouped : (p n a b x y : List ℕ) → p ++ n ++ a ++ b ++ x ++ y ≡ p ++ (n ++ (a ++ (b ++ (x ++ (y ++ [])))))
regrouped p n a b x y = simp (append_assoc, append-nil)

state_again : (format : Format) (s : ServerState) → FitsImage format s → state_at format (image_spelling format s) ≡ Ok s
unfolding state_at header_of
state_again format s fits =
    let h : ImageHeader = header_of s in
    let es : List (ℕ × Array) = entries s.arrays in
    let fs : List (ℕ × Session) = entries s.sessions in
    let last : List ℕ = flat_map (session_spelling format) fs ++ [] in
    let behind : List ℕ = flat_map (array_spelling format) es ++ last in
    let made : ServerState = starting h in
    let middle : ServerState = with_arrays made s.arrays in
    let k3 : Walk → Result ServerState ℕ = λ x. ended x.1 x.2 in
    let k2 : Walk → Result ServerState ℕ = λ x. repeated (next_session format) h.sessions (None, x.1, x.2) followed_by k3 in
    let k1 : ImageHeader × List ℕ → Result ServerState ℕ = λ x. repeated (next_array format) x.0.arrays (None, starting x.0, x.1) followed_by λ a. repeated (next_session format) x.0.sessions (None, a.1, a.2) followed_by λ b. ended b.1 b.2 in
    let arrays = again_all (next_array format) load_array (array_spelling format) (Remains format s) (remains_next format s fits.limits) es None made last (arrays_remain format s fits) in
    let sessions = again_all (next_session format) load_session (session_spelling format) (SessionsRemain format s.place) (session_next format s.place fits.limits.place) fs None middle [] (sessions_remain format s fits middle refl) in
    let first : load_all (next_array format) load_array (array_spelling format) made es ≡ middle =
    arrays_loaded (next_array format) (array_spelling format) es made ∙ ap (with_arrays made) (put_all-entries s.arrays) in
    let second : load_all (next_session format) load_session (session_spelling format) middle fs ≡ s =
    sessions_loaded (next_session format) (session_spelling format) fs middle ∙ ap (with_sessions middle) (put_all-entries s.sessions) in
    ap (λ (t : List ℕ). header_at t followed_by k1) (regrouped (to_be_bytes w64 s.place) (to_be_bytes w64 s.next_id) (to_be_bytes w32 (len s.arrays)) (to_be_bytes w32 (len s.sessions)) (flat_map (array_spelling format) es) (flat_map (session_spelling format) fs))
    ∙ goes_from (header_at _) k1 (h, behind) (header_again h behind fits.limits.place fits.limits.directory.next_id fits.limits.next_id fits.limits.directory.few_arrays fits.limits.few_sessions)
    ∙ ap (λ (n : ℕ). repeated (next_array format) n (None, made, behind) followed_by k2) (len-entries s.arrays)
    ∙ goes_from (repeated (next_array format) (length es) (None, made, behind)) k2 (last_key (next_array format) load_array (array_spelling format) None es, load_all (next_array format) load_array (array_spelling format) made es, last) arrays
    ∙ ap (λ (z : ServerState). repeated (next_session format) h.sessions (None, z, last) followed_by k3) first
    ∙ ap (λ (n : ℕ). repeated (next_session format) n (None, middle, last) followed_by k3) (len-entries s.sessions)
    ∙ goes_from (repeated (next_session format) (length fs) (None, middle, last)) k3 (last_key (next_session format) load_session (session_spelling format) None fs, load_all (next_session format) load_session (session_spelling format) middle fs, []) sessions
    ∙ ap (λ (z : ServerState). Ok z) second

pub spellings_read : SpellingIsRead
unfolding image_at
spellings_read format s fits = ap (error_at_offset (length (image_spelling format s))) (state_again format s fits)

-- the same of what a reader returned
pub is_only : (format : Format) (bytes : List ℕ) (result : Result ServerState ImageFault) → ImageGives result (image_at format bytes) → (s : ServerState) → FitsImage format s → bytes ≡ image_spelling format s → ImageGives result (Ok s)
is_only format bytes result given s fits same = subst (λ (r : Result ServerState ℕ). ImageGives result r) (ap (image_at format) same ∙ spellings_read format s fits) given

pub one_image : ImageHasOneSpelling
one_image format s t s_fits t_fits same = ok_is s t (sym (spellings_read format s s_fits) ∙ ap (image_at format) same ∙ spellings_read format t t_fits)
