-- A state that is read from an image is spelled so.
use Rattle.std.proofs.Common.{◌≡◌, ℕ, ◌+◌, ◌^◌, List, [], ◌∷◌, ◌++◌, length, None, Result, Ok, Err, refl, sym, ap, subst, ◌∙◌}
use Rattle.std.specs.Prelude.{flat_map, IfOk}
use Rattle.std.specs.List.{AllByRecursion}
use Rattle.std.specs.Ordering.{nat_cmp}
use Rattle.std.specs.FinMap.{FinMap, empty, entries, len}
use Rattle.std.specs.Int.{w32, w64, to_be_bytes}
use Rattle.std.proofs.lemmas.List.{append-nil}
use Rattle.fe_state.specs.Sessions.{Session}
use Rattle.fe_state.specs.State.{ServerState, IsWithinLimits, with_arrays, with_sessions}
use Rattle.fe_state.specs.declared.array.Array.{Array}
use Rattle.fe_codes.specs.Reading.{IsBytes}
use Rattle.fe_codec.specs.Loading.{ImageGives}
use Rattle.fe_codec.specs.Image.{ImageIsSpelled, array_spelling, session_spelling, image_spelling, ArrayOfFormat, SessionOfFormat, HasRoomForState, ArrayFits, SessionFits, FitsImage}
use Rattle.fe_codec.specs.declared.fault.ImageFault.{ImageFault}
use Rattle.fe_format.specs.declared.format.Format.{Format}
use Rattle.fe_codec.specs.declared.header.ImageHeader.{ImageHeader}
use Rattle.fe_codec.specs.FirstFault.{◌followed_by◌, repeated, number_in, header_at, starting, next_array, next_session, ended, state_at, error_at_offset, image_at}
use Rattle.fe_codec.proofs.InOrder.{put_all, entries-in_order, len-in_order}
use Rattle.fe_codes.proofs.Splits.{Splits, splits_then}
use Rattle.fe_codec.proofs.ImageFields.{bind_ok, ok_is, field32, field64, number_in_takes}
use Rattle.fe_codec.proofs.ImageArrays.{ArrayRead, load_array, arrays_loaded, array_loads}
use Rattle.fe_codec.proofs.ImageSessions.{SessionRead, load_session, sessions_loaded, session_loads}
use Rattle.fe_codec.proofs.Loads.{all_so, loads_all}

abbrev header_spelling : ImageHeader → List ℕ
header_spelling h = to_be_bytes w64 h.place ++ to_be_bytes w64 h.next_id ++ to_be_bytes w32 h.arrays ++ to_be_bytes w32 h.sessions

header_takes : (bytes : List ℕ) (x : ImageHeader × List ℕ) → IsBytes bytes → header_at bytes ≡ Ok x → Splits bytes (header_spelling x.0) x.1
unfolding header_at
header_takes bytes x fits e =
    let a = bind_ok (number_in w64 0 (2 ^ 63) bytes) (λ place. number_in w64 1 (place.0 + 2) place.1 followed_by λ next. number_in w32 0 65 next.1 followed_by λ arrays. number_in w32 0 65 arrays.1 followed_by λ sessions. Ok (record { place = place.0; next_id = next.0; arrays = arrays.0; sessions = sessions.0 }, sessions.1)) x e in
    let b = bind_ok (number_in w64 1 (a.0.0 + 2) a.0.1) (λ next. number_in w32 0 65 next.1 followed_by λ arrays. number_in w32 0 65 arrays.1 followed_by λ sessions. Ok (record { place = a.0.0; next_id = next.0; arrays = arrays.0; sessions = sessions.0 }, sessions.1)) x a.2 in
    let c = bind_ok (number_in w32 0 65 b.0.1) (λ arrays. number_in w32 0 65 arrays.1 followed_by λ sessions. Ok (record { place = a.0.0; next_id = b.0.0; arrays = arrays.0; sessions = sessions.0 }, sessions.1)) x b.2 in
    let d = bind_ok (number_in w32 0 65 c.0.1) (λ sessions. Ok (record { place = a.0.0; next_id = b.0.0; arrays = c.0.0; sessions = sessions.0 }, sessions.1)) x c.2 in
    let t_place = number_in_takes w64 (2 ^ 64) field64 0 (2 ^ 63) bytes a.0 fits a.1 in
    let t_next = number_in_takes w64 (2 ^ 64) field64 1 (a.0.0 + 2) a.0.1 b.0 t_place.rest_fits b.1 in
    let t_arrays = number_in_takes w32 (2 ^ 32) field32 0 65 b.0.1 c.0 t_next.rest_fits c.1 in
    let t_sessions = number_in_takes w32 (2 ^ 32) field32 0 65 c.0.1 d.0 t_arrays.rest_fits d.1 in
    let two = splits_then bytes (to_be_bytes w64 a.0.0) a.0.1 (to_be_bytes w64 b.0.0) b.0.1 t_place t_next in
    let three = splits_then bytes (to_be_bytes w64 a.0.0 ++ to_be_bytes w64 b.0.0) b.0.1 (to_be_bytes w32 c.0.0) c.0.1 two t_arrays in
    let four = splits_then bytes (to_be_bytes w64 a.0.0 ++ to_be_bytes w64 b.0.0 ++ to_be_bytes w32 c.0.0) c.0.1 (to_be_bytes w32 d.0.0) d.0.1 three t_sessions in
    let made : ImageHeader × List ℕ = (record { place = a.0.0; next_id = b.0.0; arrays = c.0.0; sessions = d.0.0 }, d.0.1) in
    subst (λ (y : ImageHeader × List ℕ). Splits bytes (header_spelling y.0) y.1) (ok_is made x d.2) four

ended_ok : (s : ServerState) (bytes : List ℕ) (t : ServerState) → ended s bytes ≡ Ok t → (s ≡ t) × (bytes ≡ [])
ended_ok s [] t e = (ok_is s t e, refl)
ended_ok s (b ∷ bytes) t e = absurd cc

-- a state that was put together from a header, arrays and sessions in order is spelled by these
spelled : (format : Format) (h : ImageHeader) (es : List (ℕ × Array)) (fs : List (ℕ × Session)) (arrays : FinMap nat_cmp Array) (sessions : FinMap nat_cmp Session)
    → entries arrays ≡ es → len arrays ≡ h.arrays → entries sessions ≡ fs → len sessions ≡ h.sessions
    → header_spelling h ++ flat_map (array_spelling format) es ++ flat_map (session_spelling format) fs ≡ image_spelling format (record { arrays = arrays; sessions = sessions; next_id = h.next_id; place = h.place })
spelled format h es fs arrays sessions es_is many fs_is some = rw (← es_is, ← many, ← fs_is, ← some) refl

pub record IsFound (format : Format) (bytes : List ℕ) (s : ServerState) : Type 0 where
  pub text : bytes ≡ image_spelling format s
  pub room : HasRoomForState format s
  pub arrays : AllByRecursion ArrayFits (entries s.arrays)
  pub sessions : AllByRecursion SessionFits (entries s.sessions)

state_found : (format : Format) (bytes : List ℕ) (s : ServerState) → IsBytes bytes → state_at format bytes ≡ Ok s → IsFound format bytes s
unfolding state_at
state_found format bytes s fits e =
    let a = bind_ok (header_at bytes) (λ header. repeated (next_array format) header.0.arrays (None, starting header.0, header.1) followed_by λ arrays. repeated (next_session format) header.0.sessions (None, arrays.1, arrays.2) followed_by λ sessions. ended sessions.1 sessions.2) s e in
    let h : ImageHeader = a.0.0 in
    let b = bind_ok (repeated (next_array format) h.arrays (None, starting h, a.0.1)) (λ arrays. repeated (next_session format) h.sessions (None, arrays.1, arrays.2) followed_by λ sessions. ended sessions.1 sessions.2) s a.2 in
    let c = bind_ok (repeated (next_session format) h.sessions (None, b.0.1, b.0.2)) (λ sessions. ended sessions.1 sessions.2) s b.2 in
    let end = ended_ok c.0.1 c.0.2 s c.2 in
    let t_header = header_takes bytes a.0 fits a.1 in
    let es = loads_all (next_array format) load_array (array_spelling format) (ArrayRead format) (array_loads format) h.arrays (None, starting h, a.0.1) b.0 t_header.rest_fits b.1 in
    let fs = loads_all (next_session format) load_session (session_spelling format) (SessionRead format) (session_loads format) h.sessions (None, b.0.1, b.0.2) c.0 es.text.rest_fits c.1 in
    let arrays : FinMap nat_cmp Array = put_all empty es.entries in
    let sessions : FinMap nat_cmp Session = put_all empty fs.entries in
    let whole : ServerState = record { arrays = arrays; sessions = sessions; next_id = h.next_id; place = h.place } in
    let first : b.0.1 ≡ with_arrays (starting h) arrays = es.state ∙ arrays_loaded (next_array format) (array_spelling format) es.entries (starting h) in
    let second : c.0.1 ≡ whole =
    fs.state ∙ sessions_loaded (next_session format) (session_spelling format) fs.entries b.0.1
    ∙ ap (λ (z : ServerState). with_sessions z (put_all z.sessions fs.entries)) first in
    let two = splits_then bytes (header_spelling h) a.0.1 (flat_map (array_spelling format) es.entries) b.0.2 t_header es.text in
    let three = splits_then bytes (header_spelling h ++ flat_map (array_spelling format) es.entries) b.0.2 (flat_map (session_spelling format) fs.entries) c.0.2 two fs.text in
    let e_is = entries-in_order es.entries es.rises in
    let f_is = entries-in_order fs.entries fs.rises in
    let text : bytes ≡ image_spelling format whole =
    three.parts
    ∙ ap (λ (t : List ℕ). (header_spelling h ++ flat_map (array_spelling format) es.entries ++ flat_map (session_spelling format) fs.entries) ++ t) end.1
    ∙ append-nil _
    ∙ spelled format h es.entries fs.entries arrays sessions e_is (len-in_order es.entries es.rises ∙ es.count) f_is (len-in_order fs.entries fs.rises ∙ fs.count) in
    let room : HasRoomForState format whole = record {
      arrays = subst (λ (t : List (ℕ × Array)). AllByRecursion (ArrayOfFormat format) t) (sym e_is) (all_so _ _ (λ e good. good.0) es.entries es.good);
      sessions = subst (λ (t : List (ℕ × Session)). AllByRecursion (SessionOfFormat format) t) (sym f_is) (all_so _ _ (λ f good. good.0) fs.entries fs.good);
    } in
    subst (λ (z : ServerState). IsFound format bytes z) (sym second ∙ end.0) (record {
      text = text;
      room = room;
      arrays = subst (λ (t : List (ℕ × Array)). AllByRecursion ArrayFits t) (sym e_is) (all_so _ _ (λ e good. good.1) es.entries es.good);
      sessions = subst (λ (t : List (ℕ × Session)). AllByRecursion SessionFits t) (sym f_is) (all_so _ _ (λ f good. good.1) fs.entries fs.good);
    })

told : {A : Type 0} (size : ℕ) (r : Result A ℕ) (x : A) → error_at_offset size r ≡ Ok x → r ≡ Ok x
told size (Ok y) x e = e
told size (Err left) x e = absurd cc

pub image_found : (format : Format) (bytes : List ℕ) (s : ServerState) → IsBytes bytes → image_at format bytes ≡ Ok s → IsFound format bytes s
unfolding image_at
image_found format bytes s fits e = state_found format bytes s fits (told (length bytes) (state_at format bytes) s e)

pub images_spelled : ImageIsSpelled
images_spelled format bytes s fits e = let found = image_found format bytes s fits e in (found.room, found.text)

-- the same of what a reader returned
pub is_found : (format : Format) (bytes : List ℕ) (result : Result ServerState ImageFault) → IsBytes bytes → IfOk result IsWithinLimits → ImageGives result (image_at format bytes) → IfOk result (λ s. FitsImage format s × (bytes ≡ image_spelling format s))
is_found format bytes (Ok s) fits limits e =
    let found = image_found format bytes s fits e in
    (record { limits = limits; room = found.room; arrays = found.arrays; sessions = found.sessions }, found.text)
is_found format bytes (Err fault) fits limits e = tt
