-- The rule of images: which state an image stands for, or else the offset of its first fault. It goes over
-- the fields in the order of the format (`docs/formats.md`, "Image"). A step returns a value and the bytes
-- after it; or, at the first fault, how many bytes are left from there on. A fault is a field whose value
-- isn't allowed, given those before it; or the end of the bytes, if they end before or inside a field; or the
-- first byte after the last field.
use Rattle.std.specs.Prelude.{ℕ, zero, suc, ◌+◌, ◌-◌, Bool, true, ◌&&◌, List, [], ◌∷◌, length, take, drop}
use Rattle.std.specs.Prelude.{Option, Some, None, is_some, Result, Ok, Err, nat_le, nat_lt, ◌==◌}
use Rattle.std.specs.Prelude.{if◌then◌else◌}
use Rattle.std.specs.List.{list_all}
use Rattle.std.specs.Option.{option_map}
use Rattle.std.specs.Ordering.{nat_cmp}
use Rattle.std.specs.Int.{Width, w32, w64, byte_len, from_be_bytes}
use Rattle.std.specs.FinMap.{FinMap, get, insert, empty}
use Rattle.fe_words.specs.Table.{word}
use Rattle.fe_words.specs.declared.word.Tag.{Tag}
use Rattle.fe_words.specs.declared.word.Tag.TheVariants.{Empty}
use Rattle.fe_words.specs.declared.word.Word.{Word}
use Rattle.fe_state.specs.Name.{is_plain}
use Rattle.fe_state.specs.Limits.{most_arrays, greatest_floor, greatest_place, most_sessions, window_length}
use Rattle.fe_state.specs.Limits.{most_words}
use Rattle.fe_state.specs.Directory.{named, word_count}
use Rattle.fe_state.specs.Effect.{new_array, put_word}
use Rattle.fe_state.specs.Sessions.{keeping, put_session}
use Rattle.fe_state.specs.State.{ServerState, with_arrays, with_sessions}
use Rattle.fe_state.specs.declared.array.Array.{Array}
use Rattle.fe_state.specs.declared.kept.Kept.{Kept}
use Rattle.fe_state.specs.declared.entry.Entry.{Entry}
use Rattle.fe_state.specs.declared.entry.Entry.TheVariants.{Finished}
use Rattle.fe_format.specs.Layout.{name_bytes, record_bytes}
use Rattle.fe_codec.specs.Reading.{record_entry}
use Rattle.fe_codes.specs.Reading.{tag_of}
use Rattle.fe_format.specs.declared.format.Format.{Format}
use Rattle.fe_codec.specs.declared.header.ImageHeader.{ImageHeader}

-- a step, and the one that goes on from its value; nothing after a fault is looked at
infixl 10 ◌followed_by◌
abbrev pub ◌followed_by◌ : {A B : Type 0} → Result A ℕ → (A → Result B ℕ) → Result B ℕ
(Ok x) followed_by f = f x
(Err left) followed_by f = Err left

-- a value that may be missing, which is a fault
abbrev pub or_fault : {A : Type 0} → ℕ → Option A → Result A ℕ
or_fault left (Some x) = Ok x
or_fault left None = Err left

-- the same step this many times
unfoldable pub repeated : {X : Type 0} → (X → Result X ℕ) → ℕ → X → Result X ℕ
repeated step zero x = Ok x
repeated step (suc n) x = step x followed_by repeated step n

-- ---- fields

-- the next n bytes
unfoldable pub row : ℕ → List ℕ → Result (List ℕ × List ℕ) ℕ
row n bytes = if nat_lt (length bytes) n then Err 0 else Ok (take n bytes, drop n bytes)

unfoldable pub number : Width → List ℕ → Result (ℕ × List ℕ) ℕ
number w bytes =
    if nat_lt (length bytes) (byte_len w) then Err 0 else Ok
    (from_be_bytes w (take (byte_len w) bytes), drop (byte_len w) bytes)

-- a number from the least on, and below the limit
unfoldable pub number_in : Width → ℕ → ℕ → List ℕ → Result (ℕ × List ℕ) ℕ
number_in w least limit bytes =
    number w bytes followed_by λ n.
    if nat_le least n.0 && nat_lt n.0 limit then Ok n else Err (length bytes)

-- a number above the previous one, if there is one
abbrev pub is_after : Option ℕ → ℕ → Bool
is_after None n = true
is_after (Some previous) n = nat_lt previous n

-- ---- header

unfoldable pub header_at : List ℕ → Result (ImageHeader × List ℕ) ℕ
header_at bytes =
    number_in w64 0 (greatest_place + 1) bytes followed_by λ place.
    number_in w64 1 (place.0 + 2) place.1 followed_by λ next.
    number_in w32 0 (most_arrays + 1) next.1 followed_by λ arrays.
    number_in w32 0 (most_sessions + 1) arrays.1 followed_by λ sessions.
    Ok (record { place = place.0; next_id = next.0; arrays = arrays.0; sessions = sessions.0 }, sessions.1)

-- the state with the image header's place and next id, and with no arrays and no sessions
abbrev pub starting : ImageHeader → ServerState
starting header = record { arrays = empty; sessions = empty; next_id = header.next_id; place = header.place }

-- ---- arrays

-- an id from 1 on, below the image's next array id, and above that of the previous array
unfoldable pub id_at : Option ℕ → ℕ → List ℕ → Result (ℕ × List ℕ) ℕ
id_at previous next bytes =
    number_in w64 1 next bytes followed_by λ id.
    if is_after previous id.0 then Ok id else Err (length bytes)

-- the length of a name
unfoldable pub name_length_at : Format → List ℕ → Result (ℕ × List ℕ) ℕ
name_length_at format [] = Err 0
name_length_at format (n ∷ bytes) =
    if nat_le 1 n && nat_le n (name_bytes format) then Ok (n, bytes) else Err (length (n ∷ bytes))

-- plain bytes, and zeros after them
abbrev pub is_name_row : ℕ → List ℕ → Bool
is_name_row n cells = is_plain (take n cells) && list_all (λ b. b == 0) (drop n cells)

unfoldable pub name_at : Format → List ℕ → Result (List ℕ × List ℕ) ℕ
name_at format bytes =
    name_length_at format bytes followed_by λ n.
    row (name_bytes format) n.1 followed_by λ cells.
    if is_name_row n.0 cells.0 then Ok (take n.0 cells.0, cells.1) else Err (length n.1)

-- a name that no array has yet; if one has it, the fault is at the name's length
unfoldable pub new_name_at : Format → FinMap nat_cmp Array → List ℕ → Result (List ℕ × List ℕ) ℕ
new_name_at format arrays bytes =
    name_at format bytes followed_by λ name.
    if is_some (named arrays name.0) then Err (length bytes) else Ok name

unfoldable pub tag_at : List ℕ → Result (Tag × List ℕ) ℕ
tag_at [] = Err 0
tag_at (code ∷ bytes) = or_fault (length (code ∷ bytes)) (tag_of code) followed_by λ tag. Ok (tag, bytes)

unfoldable pub word_at : List ℕ → Result (Word × List ℕ) ℕ
word_at bytes =
    tag_at bytes followed_by λ tag.
    number w64 tag.1 followed_by λ value.
    Ok (word value.0 tag.0, value.1)

-- the state with this word at an index of an array
abbrev pub with_word_at : ServerState → ℕ → ℕ → Word → ServerState
with_word_at s array index w = with_arrays s (put_word s.arrays array index w (get s.arrays array))

-- the state with one array more, whose words are read afterwards
abbrev pub with_new_array : ServerState → ℕ → List ℕ → ℕ → ServerState
with_new_array s id name size = with_arrays s (insert s.arrays id (new_array name size Empty))

-- the next word of an array, given its index, the state so far and the bytes that are left
unfoldable pub next_word : ℕ → ℕ × ServerState × List ℕ → Result (ℕ × ServerState × List ℕ) ℕ
next_word array x =
    word_at x.2 followed_by λ w.
    Ok (x.0 + 1, with_word_at x.1 array x.0 w.0, w.1)

-- the next array, given the id of the previous one, the state so far and the bytes that are left
unfoldable pub next_array : Format → Option ℕ × ServerState × List ℕ
    → Result (Option ℕ × ServerState × List ℕ) ℕ
next_array format x =
    id_at x.0 x.1.next_id x.2 followed_by λ id.
    new_name_at format x.1.arrays id.1 followed_by λ name.
    number_in w32 1 (most_words + 1 - word_count x.1.arrays) name.1 followed_by λ size.
    repeated (next_word id.0) size.0 (0, with_new_array x.1 id.0 name.0 size.0, size.1) followed_by λ words.
    Ok (Some id.0, words.1, words.2)

-- ---- sessions

-- a number that may come next among those for which something is kept: in the window, and above the previous
-- one
abbrev pub is_next_number : ℕ → Option ℕ → ℕ → Bool
is_next_number floor previous n = nat_le floor n && nat_lt n (floor + window_length) && is_after previous n

-- the number and what is kept for it, if this entry finished a request of the session under a number that may
-- come next
abbrev pub kept_of : ℕ → ℕ → Option ℕ → ℕ → Option Entry → Option (ℕ × Kept)
kept_of session floor previous place (Some (Finished owner n request answer)) =
    if owner == session && is_next_number floor previous n then Some
    (n, record { request = request; answer = answer; place = place }) else None
kept_of session floor previous place _ = None

-- a place below the image's, and the record of what is kept; a fault in the record is at its first byte
unfoldable pub kept_at : Format → ℕ → ℕ → ℕ → Option ℕ → List ℕ → Result ((ℕ × Kept) × List ℕ) ℕ
kept_at format limit session floor previous bytes =
    number_in w64 0 limit bytes followed_by λ place.
    row (record_bytes format) place.1 followed_by λ cells.
    or_fault (length place.1) (kept_of session floor previous place.0 (record_entry format cells.0))
    followed_by λ kept.
    Ok (kept, cells.1)

-- the state that keeps this answer too
abbrev pub with_kept : ServerState → ℕ → ℕ × Kept → ServerState
with_kept s session k =
    with_sessions s (put_session s.sessions session
    (option_map (λ x. keeping x k.0 k.1) (get s.sessions session)))

-- the state with one session more, whose kept answers are read afterwards
abbrev pub with_new_session : ServerState → ℕ → ℕ → ServerState
with_new_session s session floor =
    with_sessions s (insert s.sessions session (record { floor = floor; kept = empty }))

-- the next kept answer of a session, given the number of the previous one, the state so far and the bytes
-- that are left
unfoldable pub next_kept : Format → ℕ → ℕ → Option ℕ × ServerState × List ℕ
    → Result (Option ℕ × ServerState × List ℕ) ℕ
next_kept format session floor x =
    kept_at format x.1.place session floor x.0 x.2 followed_by λ kept.
    Ok (Some kept.0.0, with_kept x.1 session kept.0, kept.1)

-- a session with a number above the previous one
unfoldable pub session_at : Option ℕ → List ℕ → Result (ℕ × List ℕ) ℕ
session_at previous bytes =
    number w64 bytes followed_by λ session.
    if is_after previous session.0 then Ok session else Err (length bytes)

-- the next session, given the number of the previous one, the state so far and the bytes that are left
unfoldable pub next_session : Format → Option ℕ × ServerState × List ℕ
    → Result (Option ℕ × ServerState × List ℕ) ℕ
next_session format x =
    session_at x.0 x.2 followed_by λ session.
    number_in w64 1 (greatest_floor + 1) session.1 followed_by λ floor.
    number_in w32 0 (window_length + 1) floor.1 followed_by λ count.
    repeated (next_kept format session.0 floor.0) count.0
    (None, with_new_session x.1 session.0 floor.0, count.1) followed_by λ kept.
    Ok (Some session.0, kept.1, kept.2)

-- ---- images

-- the state, if no bytes follow
abbrev pub ended : ServerState → List ℕ → Result ServerState ℕ
ended s [] = Ok s
ended s (b ∷ bytes) = Err (length (b ∷ bytes))

-- the state, or how many bytes are left from the first fault on
unfoldable pub state_at : Format → List ℕ → Result ServerState ℕ
state_at format bytes =
    header_at bytes followed_by λ header.
    repeated (next_array format) header.0.arrays (None, starting header.0, header.1) followed_by λ arrays.
    repeated (next_session format) header.0.sessions (None, arrays.1, arrays.2) followed_by λ sessions.
    ended sessions.1 sessions.2

-- a fault's offset, counted from the first byte of the image, given how many bytes are left from it on
abbrev pub error_at_offset : {A : Type 0} → ℕ → Result A ℕ → Result A ℕ
error_at_offset size (Ok x) = Ok x
error_at_offset size (Err left) = Err (size - left)

-- the state that an image stands for, or the offset of the image's first fault
unfoldable pub image_at : Format → List ℕ → Result ServerState ℕ
image_at format bytes = error_at_offset (length bytes) (state_at format bytes)
