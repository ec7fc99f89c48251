-- Sessions of an image that are read were spelled so.
use Rattle.std.proofs.Common.{◌≡◌, ℕ, ◌+◌, ◌-◌, ◌^◌, ◌<◌, ◌≤◌, append_assoc, Bool, true, false, cond, eqb, ◌&&◌, List, [], ◌∷◌, ◌++◌, length, Option, Some, None, Result, Ok, refl, sym, ap, subst, ◌∙◌, arith, rules}
use Rattle.std.specs.Prelude.{flat_map, nat_le, nat_lt}
use Rattle.std.specs.List.{AllByRecursion}
use Rattle.std.specs.Option.{option_map}
use Rattle.std.specs.Ordering.{nat_cmp}
use Rattle.std.specs.Str.{bytes_eq}
use Rattle.std.specs.FinMap.{FinMap, get, insert, empty, entries, len, len-entries}
use Rattle.std.specs.Int.{w32, w64, to_be_bytes}
use Rattle.std.proofs.lemmas.Bool.{eqb-true, ltb-true, le-leb, lt-ltb}
use Rattle.std.proofs.lemmas.Bool.Decides.{nat_tests}
use Rattle.std.proofs.lemmas.Slice.Eq.{bytes_eq-Decides}
use Rattle.fe_state.proofs.Maps.{get_inserted}
use Rattle.fe_state.specs.Sessions.{Session, keeping, put_session}
use Rattle.fe_state.specs.State.{ServerState, with_sessions}
use Rattle.fe_state.specs.declared.kept.Kept.{Kept}
use Rattle.fe_state.specs.declared.entry.Entry.{Entry}
use Rattle.fe_state.specs.declared.entry.Entry.TheVariants.{Attached, Closed, Settled, Finished}
use Rattle.fe_codes.specs.Reading.{IsBytes}
use Rattle.fe_format.specs.Layout.{record_bytes}
use Rattle.fe_codec.specs.Reading as reading
use Rattle.fe_codec.specs.Reading.{record_entry, if_record, is_record, is_numbered, is_of_format}
use Rattle.fe_codec.specs.Record.{entry_spelling, IsOfFormat, IsNumbered, FieldsFit, FitsRecord}
use Rattle.fe_codec.specs.Image.{entry_of_kept, kept_spelling, session_spelling, KeptOfFormat, SessionOfFormat, SessionFits}
use Rattle.fe_format.specs.declared.format.Format.{Format}
use Rattle.fe_format.specs.declared.format.Format.TheVariants.{One, Two}
use Rattle.fe_codec.specs.FirstFault.{◌followed_by◌, or_fault, repeated, row, number_in, is_after, is_next_number, kept_of, kept_at, next_kept, session_at, next_session, with_kept, with_new_session}
use Rattle.fe_codec.proofs.InOrder.{Rises, put_all, entries-in_order, len-in_order, entries-Rises, put_all-entries}
use Rattle.fe_codes.proofs.Splits.{Splits, splits_then}
use Rattle.fe_codec.proofs.ImageFields.{bind_ok, ok_is, given, both_true, field32, field64, number_in_takes, row_takes, row_fits, goes_from, and_true, number_in_again, row_again}
use Rattle.fe_codec.proofs.FieldsRead.{entry_fits}
use Rattle.fe_codec.proofs.RecordLaws.{entry_again, length-entry_spelling}
use Rattle.fe_codec.proofs.ImageNames.{session_takes, session_below, session_again}
use Rattle.fe_codec.proofs.ImageWords.{insert_twice, insert_same}
use Rattle.fe_codec.proofs.Loads.{Walk, Loads, all_so, load_all, loads_all, again_all}

-- ---- records

abbrev some : {A : Type 0} → A → Option A
some x = Some x

some_is : {A : Type 0} (x y : A) → some x ≡ some y → x ≡ y
some_is x y e = cc

if_some : {A : Type 0} (b : Bool) (x y : A) → cond b (some x) None ≡ Some y → (b ≡ true) × (x ≡ y)
if_some true x y e = (refl, some_is x y e)
if_some false x y e = absurd cc

of_format : (format : Format) (entry : Entry) → is_of_format format entry ≡ true → IsOfFormat format entry
of_format One entry e = e
of_format Two entry e = tt

-- an entry that a record has is spelled so
record_is : (format : Format) (bytes : List ℕ) (o : Option Entry) (entry : Entry) → if_record format bytes o ≡ Some entry → (bytes ≡ entry_spelling format entry) × IsOfFormat format entry
record_is format bytes None entry e = absurd cc
record_is format bytes (Some other) entry e =
    let g = if_some (is_record format other bytes) other entry e in
    let b = both_true (is_numbered other && is_of_format format other) (bytes_eq (entry_spelling format other) bytes) g.0 in
    let c = both_true (is_numbered other) (is_of_format format other) b.0 in
    let same : entry_spelling format other ≡ bytes = decided (entry_spelling format other) bytes b.1 in
    subst (λ (x : Entry). (bytes ≡ entry_spelling format x) × IsOfFormat format x) g.1 (sym same, of_format format other c.1)
  where
    decided : (xs ys : List ℕ) → bytes_eq xs ys ≡ true → xs ≡ ys
    decided xs ys e = search (rules, bytes_eq-Decides)

record_found : (format : Format) (bytes : List ℕ) (b : Bool) (o : Option Entry) (entry : Entry) → cond b (if_record format bytes o) None ≡ Some entry → (bytes ≡ entry_spelling format entry) × IsOfFormat format entry
record_found format bytes true o entry e = record_is format bytes o entry e
record_found format bytes false o entry e = absurd cc

entry_found : (format : Format) (bytes : List ℕ) (entry : Entry) → record_entry format bytes ≡ Some entry → (bytes ≡ entry_spelling format entry) × IsOfFormat format entry
unfolding record_entry
entry_found format bytes entry e = record_found format bytes (eqb (length bytes) (record_bytes format)) (reading.entry_of format bytes) entry e

entry_there : (format : Format) (bytes : List ℕ) (o : Option Entry) (entry : Entry) → if_record format bytes o ≡ Some entry → o ≡ Some entry
entry_there format bytes None entry e = absurd cc
entry_there format bytes (Some other) entry e = ap (λ (x : Entry). some x) (if_some (is_record format other bytes) other entry e).1

entry_read : (format : Format) (bytes : List ℕ) (b : Bool) (o : Option Entry) (entry : Entry) → cond b (if_record format bytes o) None ≡ Some entry → o ≡ Some entry
entry_read format bytes true o entry e = entry_there format bytes o entry e
entry_read format bytes false o entry e = absurd cc

record_fits : (format : Format) (bytes : List ℕ) (entry : Entry) → IsBytes bytes → record_entry format bytes ≡ Some entry → FieldsFit entry
unfolding record_entry
record_fits format bytes entry h e = entry_fits format bytes entry h (entry_read format bytes (eqb (length bytes) (record_bytes format)) (reading.entry_of format bytes) entry e)

-- ---- kept answers

-- what is kept is the session's, at its place, and above the number before
record IsKept (session place : ℕ) (previous : Option ℕ) (o : Option Entry) (k : ℕ × Kept) : Type 0 where
  entry : o ≡ Some (entry_of_kept session k)
  place_is : k.1.place ≡ place
  above : is_after previous k.0 ≡ true

kept_is : (session floor : ℕ) (previous : Option ℕ) (place : ℕ) (o : Option Entry) (k : ℕ × Kept) → kept_of session floor previous place o ≡ Some k → IsKept session place previous o k
kept_is session floor previous place None k e = absurd cc
kept_is session floor previous place (Some (Attached other least)) k e = absurd cc
kept_is session floor previous place (Some (Closed other)) k e = absurd cc
kept_is session floor previous place (Some (Settled other least)) k e = absurd cc
kept_is session floor previous place (Some (Finished owner n request answer)) k e =
    let g = if_some (eqb owner session && is_next_number floor previous n) (n, record { request = request; answer = answer; place = place }) k e in
    let b = both_true (eqb owner session) (is_next_number floor previous n) g.0 in
    let c = both_true _ (is_after previous n) b.1 in
    subst (λ (x : ℕ × Kept). IsKept session place previous (Some (Finished owner n request answer)) x) g.1
    (record { entry = ap (λ (t : ℕ). Some (Finished t n request answer)) (eqb-true owner session b.0); place_is = refl; above = c.1 })

abbrev pub load_kept : ℕ → ServerState → ℕ × Kept → ServerState
load_kept session s k = with_kept s session k

-- the format has room for what is kept, and its fields fit
abbrev pub KeptRead : Format → ℕ → ℕ × Kept → Type 0
KeptRead format session k = KeptOfFormat format session k × FieldsFit (entry_of_kept session k)

pub kept_loads : (format : Format) (session floor : ℕ) (x y : Walk) → IsBytes x.2 → next_kept format session floor x ≡ Ok y → Loads (next_kept format session floor) (load_kept session) (kept_spelling format session) (KeptRead format session) x y
unfolding next_kept kept_at
kept_loads format session floor x y fits e =
    let a = bind_ok (kept_at format x.1.place session floor x.0 x.2) (λ kept. Ok (Some kept.0.0, with_kept x.1 session kept.0, kept.1)) y e in
    let b = bind_ok (number_in w64 0 x.1.place x.2) (λ place. row (record_bytes format) place.1 followed_by λ cells. or_fault (length place.1) (kept_of session floor x.0 place.0 (record_entry format cells.0)) followed_by λ kept. Ok (kept, cells.1)) a.0 a.1 in
    let place : ℕ = b.0.0 in
    let c = bind_ok (row (record_bytes format) b.0.1) (λ cells. or_fault (length b.0.1) (kept_of session floor x.0 place (record_entry format cells.0)) followed_by λ kept. Ok (kept, cells.1)) a.0 b.2 in
    let d = bind_ok (or_fault (length b.0.1) (kept_of session floor x.0 place (record_entry format c.0.0))) (λ kept. Ok (kept, c.0.1)) a.0 c.2 in
    let k : ℕ × Kept = d.0 in
    let is = kept_is session floor x.0 place (record_entry format c.0.0) k (given (length b.0.1) _ k d.1) in
    let spelled = entry_found format c.0.0 (entry_of_kept session k) is.entry in
    let t_place = number_in_takes w64 (2 ^ 64) field64 0 x.1.place x.2 b.0 fits b.1 in
    let t_record = row_takes (record_bytes format) b.0.1 c.0 t_place.rest_fits c.1 in
    let cells_fit = row_fits (record_bytes format) b.0.1 c.0 t_place.rest_fits c.1 in
    let both : Splits x.2 (to_be_bytes w64 place ++ c.0.0) c.0.1 = splits_then x.2 (to_be_bytes w64 place) b.0.1 c.0.0 c.0.1 t_place t_record.0 in
    let text : to_be_bytes w64 place ++ c.0.0 ≡ kept_spelling format session k = ap (λ (n : ℕ). to_be_bytes w64 n ++ c.0.0) (sym is.place_is) ∙ ap (λ (t : List ℕ). to_be_bytes w64 k.1.place ++ t) spelled.0 in
    let last : (k, c.0.1) ≡ a.0 = ok_is (k, c.0.1) a.0 d.2 in
    record {
      entry = k;
      rest = c.0.1;
      is = sym (ok_is (Some a.0.0.0, with_kept x.1 session a.0.0, a.0.1) y a.2) ∙ sym (ap (λ (z : (ℕ × Kept) × List ℕ). (Some z.0.0, with_kept x.1 session z.0, z.1)) last);
      above = is.above;
      text = subst (λ (t : List ℕ). Splits x.2 t c.0.1) text both;
      good = (spelled.1, record_fits format c.0.0 (entry_of_kept session k) cells_fit is.entry);
    }

-- ---- sessions

-- answers that are loaded are put into the session's map one after the other
pub kept_loaded : (step : Walk → Result Walk ℕ) (spelled : ℕ × Kept → List ℕ) (session floor : ℕ) (ks : List (ℕ × Kept)) (s : ServerState) (m : FinMap nat_cmp Kept) → get s.sessions session ≡ Some (record { floor = floor; kept = m })
    → load_all step (load_kept session) spelled s ks ≡ with_sessions s (insert s.sessions session (record { floor = floor; kept = put_all m ks }))
kept_loaded step spelled session floor [] s m is = sym (ap (with_sessions s) (insert_same s.sessions session (record { floor = floor; kept = m }) is))
kept_loaded step spelled session floor (k ∷ ks) s m is =
    let more : Session = record { floor = floor; kept = insert m k.0 k.1 } in
    let next : ServerState = with_sessions s (insert s.sessions session more) in
    let one : load_kept session s k ≡ next = ap (λ (o : Option Session). with_sessions s (put_session s.sessions session (option_map (λ x. keeping x k.0 k.1) o))) is in
    ap (λ (z : ServerState). load_all step (load_kept session) spelled z ks) one
    ∙ kept_loaded step spelled session floor ks next (insert m k.0 k.1) (get_inserted s.sessions session more)
    ∙ ap (with_sessions s) (insert_twice s.sessions session more (record { floor = floor; kept = put_all (insert m k.0 k.1) ks }))

abbrev pub load_session : ServerState → ℕ × Session → ServerState
load_session s e = with_sessions s (insert s.sessions e.0 e.1)

pub sessions_loaded : (step : Walk → Result Walk ℕ) (spelled : ℕ × Session → List ℕ) (es : List (ℕ × Session)) (s : ServerState) → load_all step load_session spelled s es ≡ with_sessions s (put_all s.sessions es)
sessions_loaded step spelled [] s = refl
sessions_loaded step spelled (e ∷ es) s = sessions_loaded step spelled es (load_session s e)

-- the format has room for a session, and its fields fit
abbrev pub SessionRead : Format → ℕ × Session → Type 0
SessionRead format e = SessionOfFormat format e × SessionFits e

pub session_loads : (format : Format) (x y : Walk) → IsBytes x.2 → next_session format x ≡ Ok y → Loads (next_session format) load_session (session_spelling format) (SessionRead format) x y
unfolding next_session
session_loads format x y fits e =
    let s : ServerState = x.1 in
    let a = bind_ok (session_at x.0 x.2) (λ session. number_in w64 1 (2 ^ 63 - 31) session.1 followed_by λ floor. number_in w32 0 33 floor.1 followed_by λ count. repeated (next_kept format session.0 floor.0) count.0 (None, with_new_session s session.0 floor.0, count.1) followed_by λ kept. Ok (Some session.0, kept.1, kept.2)) y e in
    let session : ℕ = a.0.0 in
    let b = bind_ok (number_in w64 1 (2 ^ 63 - 31) a.0.1) (λ floor. number_in w32 0 33 floor.1 followed_by λ count. repeated (next_kept format session floor.0) count.0 (None, with_new_session s session floor.0, count.1) followed_by λ kept. Ok (Some session, kept.1, kept.2)) y a.2 in
    let floor : ℕ = b.0.0 in
    let c = bind_ok (number_in w32 0 33 b.0.1) (λ count. repeated (next_kept format session floor) count.0 (None, with_new_session s session floor, count.1) followed_by λ kept. Ok (Some session, kept.1, kept.2)) y b.2 in
    let count : ℕ = c.0.0 in
    let made : ServerState = with_new_session s session floor in
    let d = bind_ok (repeated (next_kept format session floor) count (None, made, c.0.1)) (λ kept. Ok (Some session, kept.1, kept.2)) y c.2 in
    let t_session = session_takes x.0 x.2 a.0 fits a.1 in
    let t_floor = number_in_takes w64 (2 ^ 64) field64 1 (2 ^ 63 - 31) a.0.1 b.0 t_session.0.rest_fits b.1 in
    let t_count = number_in_takes w32 (2 ^ 32) field32 0 33 b.0.1 c.0 t_floor.rest_fits c.1 in
    let ks = loads_all (next_kept format session floor) (load_kept session) (kept_spelling format session) (KeptRead format session) (kept_loads format session floor) count (None, made, c.0.1) d.0 t_count.rest_fits d.1 in
    let kept : FinMap nat_cmp Kept = put_all empty ks.entries in
    let entry : ℕ × Session = (session, record { floor = floor; kept = kept }) in
    let same : entries kept ≡ ks.entries = entries-in_order ks.entries ks.rises in
    let many : len kept ≡ count = len-in_order ks.entries ks.rises ∙ ks.count in
    let front : Splits x.2 (to_be_bytes w64 session ++ to_be_bytes w64 floor) b.0.1 = splits_then x.2 (to_be_bytes w64 session) a.0.1 (to_be_bytes w64 floor) b.0.1 t_session.0 t_floor in
    let counted : Splits x.2 (to_be_bytes w64 session ++ to_be_bytes w64 floor ++ to_be_bytes w32 count) c.0.1 = splits_then x.2 (to_be_bytes w64 session ++ to_be_bytes w64 floor) b.0.1 (to_be_bytes w32 count) c.0.1 front t_count in
    let long : Splits x.2 (to_be_bytes w64 session ++ to_be_bytes w64 floor ++ to_be_bytes w32 (len kept)) c.0.1 =
    subst (λ (k : ℕ). Splits x.2 (to_be_bytes w64 session ++ to_be_bytes w64 floor ++ to_be_bytes w32 k) c.0.1) (sym many) counted in
    let answers : Splits c.0.1 (flat_map (kept_spelling format session) (entries kept)) d.0.2 =
    subst (λ (t : List (ℕ × Kept)). Splits c.0.1 (flat_map (kept_spelling format session) t) d.0.2) (sym same) ks.text in
    let state : d.0.1 ≡ load_session s entry =
    ks.state
    ∙ kept_loaded (next_kept format session floor) (kept_spelling format session) session floor ks.entries made empty (get_inserted s.sessions session (record { floor = floor; kept = empty }))
    ∙ ap (with_sessions s) (insert_twice s.sessions session (record { floor = floor; kept = empty }) entry.1) in
    record {
      entry = entry;
      rest = d.0.2;
      is = sym (ok_is (Some session, d.0.1, d.0.2) y d.2) ∙ ap (λ (z : ServerState). (Some session, z, d.0.2)) state;
      above = t_session.1;
      text = splits_then x.2 (to_be_bytes w64 session ++ to_be_bytes w64 floor ++ to_be_bytes w32 (len kept)) c.0.1 (flat_map (kept_spelling format session) (entries kept)) d.0.2 long answers;
      good = (
        subst (λ (t : List (ℕ × Kept)). AllByRecursion (KeptOfFormat format session) t) (sym same) (all_so _ _ (λ k good. good.0) ks.entries ks.good),
        (session_below x.0 x.2 a.0 fits a.1, subst (λ (t : List (ℕ × Kept)). AllByRecursion (λ k. FieldsFit (entry_of_kept session k)) t) (sym same) (all_so _ _ (λ k good. good.1) ks.entries ks.good)),
      );
    }

-- ---- what was spelled is loaded

numbered : (entry : Entry) → IsNumbered entry → is_numbered entry ≡ true
numbered (Attached session floor) h = lt-ltb floor (2 ^ 63) h
numbered (Closed session) h = refl
numbered (Settled session floor) h = lt-ltb floor (2 ^ 63) h
numbered (Finished session number request answer) h = lt-ltb number (2 ^ 63) h

has_room : (format : Format) (entry : Entry) → IsOfFormat format entry → is_of_format format entry ≡ true
has_room One entry h = h
has_room Two entry h = refl

same_number : (a b : ℕ) → a ≡ b → eqb a b ≡ true
same_number a b is = grind (arith, nat_tests)

record_again : (format : Format) (entry : Entry) → FitsRecord format entry → record_entry format (entry_spelling format entry) ≡ Some entry
unfolding record_entry
record_again format entry fits =
    let bytes : List ℕ = entry_spelling format entry in
    let long : eqb (length bytes) (record_bytes format) ≡ true = same_number _ _ (length-entry_spelling format entry fits) in
    let right : is_record format entry bytes ≡ true =
    and_true (is_numbered entry && is_of_format format entry) (bytes_eq bytes bytes) (and_true (is_numbered entry) (is_of_format format entry) (numbered entry fits.numbered) (has_room format entry fits.of_format)) ((bytes_eq-Decides bytes bytes).1 refl) in
    ap (λ (b : Bool). cond b (if_record format bytes (reading.entry_of format bytes)) None) long
    ∙ ap (if_record format bytes) (entry_again format entry fits)
    ∙ ap (λ (b : Bool). cond b (some entry) None) right

-- an answer that a session may keep, at places below the limit
pub record MayKeep (format : Format) (session floor limit : ℕ) (k : ℕ × Kept) : Type 0 where
  pub not_below : floor ≤ k.0
  pub not_beyond : k.0 < floor + 32
  pub earlier : k.1.place < limit
  pub fits : FitsRecord format (entry_of_kept session k)

kept_of_again : (session floor : ℕ) (previous : Option ℕ) (k : ℕ × Kept) → floor ≤ k.0 → k.0 < floor + 32 → is_after previous k.0 ≡ true → kept_of session floor previous k.1.place (Some (entry_of_kept session k)) ≡ Some k
kept_of_again session floor previous k low high after =
    ap (λ (b : Bool). cond b (some k) None)
    (and_true (eqb session session) (is_next_number floor previous k.0) (same_number session session refl)
    (and_true (nat_le floor k.0 && nat_lt k.0 (floor + 32)) (is_after previous k.0) (and_true (nat_le floor k.0) (nat_lt k.0 (floor + 32)) (le-leb floor k.0 low) (lt-ltb k.0 (floor + 32) high)) after))

kept_again : (format : Format) (session floor limit : ℕ) (previous : Option ℕ) (k : ℕ × Kept) (rest : List ℕ) → limit < 2 ^ 63 → MayKeep format session floor limit k → is_after previous k.0 ≡ true
    → kept_at format limit session floor previous (kept_spelling format session k ++ rest) ≡ Ok (k, rest)
unfolding kept_at
kept_again format session floor limit previous k rest small may after =
    let cells : List ℕ = entry_spelling format (entry_of_kept session k) in
    let behind : List ℕ = cells ++ rest in
    let grouped : kept_spelling format session k ++ rest ≡ to_be_bytes w64 k.1.place ++ behind = append_assoc (to_be_bytes w64 k.1.place) cells rest in
    let k3 : ℕ × Kept → Result ((ℕ × Kept) × List ℕ) ℕ = λ kept. Ok (kept, rest) in
    let k2 : List ℕ × List ℕ → Result ((ℕ × Kept) × List ℕ) ℕ = λ c. or_fault (length behind) (kept_of session floor previous k.1.place (record_entry format c.0)) followed_by λ kept. Ok (kept, c.1) in
    let k1 : ℕ × List ℕ → Result ((ℕ × Kept) × List ℕ) ℕ = λ place. row (record_bytes format) place.1 followed_by λ c. or_fault (length place.1) (kept_of session floor previous place.0 (record_entry format c.0)) followed_by λ kept. Ok (kept, c.1) in
    ap (λ (t : List ℕ). number_in w64 0 limit t followed_by k1) grouped
    ∙ goes_from (number_in w64 0 limit (to_be_bytes w64 k.1.place ++ behind)) k1 (k.1.place, behind) (number_in_again w64 (2 ^ 64) field64 0 limit k.1.place behind (omega (arith, small, may.earlier)) (omega arith) may.earlier)
    ∙ goes_from (row (record_bytes format) behind) k2 (cells, rest) (row_again (record_bytes format) cells rest (length-entry_spelling format (entry_of_kept session k) may.fits))
    ∙ ap (λ (o : Option Entry). or_fault (length behind) (kept_of session floor previous k.1.place o) followed_by k3) (record_again format (entry_of_kept session k) may.fits)
    ∙ ap (λ (o : Option (ℕ × Kept)). or_fault (length behind) o followed_by k3) (kept_of_again session floor previous k may.not_below may.not_beyond after)

-- answers that are to come
pub record KeptRemains (format : Format) (session floor limit : ℕ) (previous : Option ℕ) (s : ServerState) (ks : List (ℕ × Kept)) : Type 0 where
  pub rises : Rises previous ks
  pub place : s.place ≡ limit
  pub each : AllByRecursion (MayKeep format session floor limit) ks

kept_next : (format : Format) (session floor limit : ℕ) → limit < 2 ^ 63 → (previous : Option ℕ) (s : ServerState) (k : ℕ × Kept) (ks : List (ℕ × Kept)) (rest : List ℕ) → KeptRemains format session floor limit previous s (k ∷ ks)
    → (next_kept format session floor (previous, s, kept_spelling format session k ++ rest) ≡ Ok (Some k.0, load_kept session s k, rest)) × KeptRemains format session floor limit (Some k.0) (load_kept session s k) ks
unfolding next_kept
kept_next format session floor limit small previous s k ks rest h =
    let text : List ℕ = kept_spelling format session k ++ rest in
    let go : (ℕ × Kept) × List ℕ → Result Walk ℕ = λ kept. Ok (Some kept.0.0, with_kept s session kept.0, kept.1) in (
      ap (λ (n : ℕ). kept_at format n session floor previous text followed_by go) h.place
          ∙ goes_from (kept_at format limit session floor previous text) go (k, rest) (kept_again format session floor limit previous k rest small h.each.0 h.rises.0),
      record { rises = h.rises.1; place = h.place; each = h.each.1 },
    )

-- keys that rise below a bound are few
rises_few : {X : Type 0} (p b : ℕ) (es : List (ℕ × X)) → p < b → Rises (Some p) es → AllByRecursion (λ e. e.0 < b) es → length es + p < b
rises_few p b [] lt rises below = omega arith
rises_few p b (e ∷ es) lt rises below = omega (arith, rises_few e.0 b es below.0 rises.1 below.1, ltb-true p e.0 rises.0)

pub window_few : {X : Type 0} (floor : ℕ) (es : List (ℕ × X)) → Rises None es → AllByRecursion (λ e. (floor ≤ e.0) × (e.0 < floor + 32)) es → length es ≤ 32
window_few floor [] rises within = omega arith
window_few floor (e ∷ es) rises within = omega (arith, rises_few e.0 (floor + 32) es within.0.1 rises.1 (beyond es within.1), within.0.0)
  where
    beyond : {Y : Type 0} → (es : List (ℕ × Y)) → AllByRecursion (λ e. (floor ≤ e.0) × (e.0 < floor + 32)) es → AllByRecursion (λ e. e.0 < floor + 32) es
    beyond [] h = tt
    beyond (e ∷ es) h = (h.0.1, beyond es h.1)

-- a session that a state may have, at places below the limit
pub record MayHave (format : Format) (limit : ℕ) (e : ℕ × Session) : Type 0 where
  pub small : e.0 < 2 ^ 64
  pub least : 1 ≤ e.1.floor
  pub most : e.1.floor ≤ 2 ^ 63 - 32
  pub few : len e.1.kept ≤ 32
  pub each : AllByRecursion (MayKeep format e.0 e.1.floor limit) (entries e.1.kept)

session_read : (format : Format) (limit : ℕ) → limit < 2 ^ 63 → (previous : Option ℕ) (s : ServerState) (e : ℕ × Session) (rest : List ℕ) → s.place ≡ limit → is_after previous e.0 ≡ true → MayHave format limit e
    → next_session format (previous, s, session_spelling format e ++ rest) ≡ Ok (Some e.0, load_session s e, rest)
unfolding next_session
session_read format limit small previous s e rest at after may =
    let session : ℕ = e.0 in
    let floor : ℕ = e.1.floor in
    let ks : List (ℕ × Kept) = entries e.1.kept in
    let made : ServerState = with_new_session s session floor in
    let answers : List ℕ = flat_map (kept_spelling format session) ks ++ rest in
    let counted : List ℕ = to_be_bytes w32 (len e.1.kept) ++ answers in
    let behind : List ℕ = to_be_bytes w64 floor ++ counted in
    let grouped : session_spelling format e ++ rest ≡ to_be_bytes w64 session ++ behind = four (to_be_bytes w64 session) (to_be_bytes w64 floor) (to_be_bytes w32 (len e.1.kept)) (flat_map (kept_spelling format session) ks) rest in
    let k4 : Walk → Result Walk ℕ = λ x. Ok (Some session, x.1, x.2) in
    let k3 : ℕ × List ℕ → Result Walk ℕ = λ n. repeated (next_kept format session floor) n.0 (None, made, n.1) followed_by k4 in
    let k2 : ℕ × List ℕ → Result Walk ℕ = λ f. number_in w32 0 33 f.1 followed_by λ n. repeated (next_kept format session f.0) n.0 (None, with_new_session s session f.0, n.1) followed_by k4 in
    let k1 : ℕ × List ℕ → Result Walk ℕ = λ i. number_in w64 1 (2 ^ 63 - 31) i.1 followed_by λ f. number_in w32 0 33 f.1 followed_by λ n. repeated (next_kept format i.0 f.0) n.0 (None, with_new_session s i.0 f.0, n.1) followed_by λ x. Ok (Some i.0, x.1, x.2) in
    let remains : KeptRemains format session floor limit None made ks = record { rises = entries-Rises e.1.kept; place = at; each = may.each } in
    let read = again_all (next_kept format session floor) (load_kept session) (kept_spelling format session) (KeptRemains format session floor limit) (kept_next format session floor limit small) ks None made rest remains in
    let blank : Session = record { floor = floor; kept = empty } in
    let loaded : load_all (next_kept format session floor) (load_kept session) (kept_spelling format session) made ks ≡ load_session s e =
    kept_loaded (next_kept format session floor) (kept_spelling format session) session floor ks made empty (get_inserted s.sessions session blank)
    ∙ ap (λ (m : FinMap nat_cmp Kept). with_sessions made (insert made.sessions session (record { floor = floor; kept = m }))) (put_all-entries e.1.kept)
    ∙ ap (with_sessions s) (insert_twice s.sessions session blank e.1) in
    ap (λ (t : List ℕ). session_at previous t followed_by k1) grouped
    ∙ goes_from (session_at previous (to_be_bytes w64 session ++ behind)) k1 (session, behind) (session_again previous session behind may.small after)
    ∙ goes_from (number_in w64 1 (2 ^ 63 - 31) behind) k2 (floor, counted) (number_in_again w64 (2 ^ 64) field64 1 (2 ^ 63 - 31) floor counted (omega (arith, may.most)) may.least (omega (arith, may.most)))
    ∙ goes_from (number_in w32 0 33 counted) k3 (len e.1.kept, answers) (number_in_again w32 (2 ^ 32) field32 0 33 (len e.1.kept) answers (omega (arith, may.few)) (omega arith) (omega (arith, may.few)))
    ∙ ap (λ (n : ℕ). repeated (next_kept format session floor) n (None, made, answers) followed_by k4) (len-entries e.1.kept)
    ∙ goes_from (repeated (next_kept format session floor) (length ks) (None, made, answers)) k4 _ read
    ∙ ap (λ (z : ServerState). Ok (Some session, z, rest)) loaded
  where
    four : (a b c d rest : List ℕ) → (a ++ b ++ c ++ d) ++ rest ≡ a ++ (b ++ (c ++ (d ++ rest)))
    four a b c d rest = simp append_assoc

-- sessions that are to come
pub record SessionsRemain (format : Format) (limit : ℕ) (previous : Option ℕ) (s : ServerState) (es : List (ℕ × Session)) : Type 0 where
  pub rises : Rises previous es
  pub place : s.place ≡ limit
  pub each : AllByRecursion (MayHave format limit) es

pub session_next : (format : Format) (limit : ℕ) → limit < 2 ^ 63 → (previous : Option ℕ) (s : ServerState) (e : ℕ × Session) (es : List (ℕ × Session)) (rest : List ℕ) → SessionsRemain format limit previous s (e ∷ es)
    → (next_session format (previous, s, session_spelling format e ++ rest) ≡ Ok (Some e.0, load_session s e, rest)) × SessionsRemain format limit (Some e.0) (load_session s e) es
session_next format limit small previous s e es rest h =
    (session_read format limit small previous s e rest h.place h.rises.0 h.each.0, record { rises = h.rises.1; place = h.place; each = h.each.1 })
