-- The one spelling of each server state as an image, and which states have one in a format
-- (`docs/formats.md`, "Image").
use Rattle.std.specs.Prelude.{ℕ, ◌^◌, ◌<◌, List, ◌∷◌, ◌++◌, length, flat_map, ◌≡◌, Ok}
use Rattle.std.specs.List.{AllByRecursion}
use Rattle.std.specs.Int.{w32, w64, to_be_bytes}
use Rattle.std.specs.FinMap.{entries, len}
use Rattle.fe_words.specs.declared.word.Word.{Word}
use Rattle.fe_state.specs.Sessions.{Session}
use Rattle.fe_state.specs.State.{ServerState, IsWithinLimits}
use Rattle.fe_state.specs.declared.array.Array.{Array}
use Rattle.fe_state.specs.declared.kept.Kept.{Kept}
use Rattle.fe_state.specs.declared.entry.Entry.{Entry}
use Rattle.fe_state.specs.declared.entry.Entry.TheVariants.{Finished}
use Rattle.fe_codes.specs.Codes.{tag_code}
use Rattle.fe_codec.specs.Record.{entry_spelling, name_field, IsShort, IsOfFormat, FieldsFit, group_spelling}
use Rattle.fe_codec.specs.Record.{FitsRecord, FitsGroup}
use Rattle.fe_format.specs.declared.format.Format.{Format}
use Rattle.fe_format.specs.declared.format.Format.TheVariants.{One, Two}
use Rattle.fe_codes.specs.Reading.{IsBytes}
use Rattle.fe_codec.specs.FirstFault.{image_at}

-- the bytes of a word: its tag and its value
abbrev pub word_spelling : Word → List ℕ
word_spelling w = tag_code w.tag ∷ to_be_bytes w64 w.value

-- the bytes of an array: its id, name and length, and its words
abbrev pub array_spelling : Format → ℕ × Array → List ℕ
array_spelling format e =
    to_be_bytes w64 e.0 ++ name_field format e.1.name ++ to_be_bytes w32 (length e.1.words)
    ++ flat_map word_spelling e.1.words

-- the entry that finished the request of a kept answer
abbrev pub entry_of_kept : ℕ → ℕ × Kept → Entry
entry_of_kept session e = Finished session e.0 e.1.request e.1.answer

-- an answer that is kept for a number: the place of its entry, and the entry's record
abbrev pub kept_spelling : Format → ℕ → ℕ × Kept → List ℕ
kept_spelling format session e = to_be_bytes w64 e.1.place ++ entry_spelling format (entry_of_kept session e)

-- the format has room for the record of what is kept
abbrev pub KeptOfFormat : Format → ℕ → ℕ × Kept → Type 0
KeptOfFormat format session e = IsOfFormat format (entry_of_kept session e)

-- the bytes of a session: its number, its floor, how many answers are kept, and these
abbrev pub session_spelling : Format → ℕ × Session → List ℕ
session_spelling format e =
    to_be_bytes w64 e.0 ++ to_be_bytes w64 e.1.floor ++ to_be_bytes w32 (len e.1.kept)
    ++ flat_map (kept_spelling format e.0) (entries e.1.kept)

-- an image: place, next array id, how many arrays and how many sessions there are, and these
abbrev pub image_spelling : Format → ServerState → List ℕ
image_spelling format s =
    to_be_bytes w64 s.place ++ to_be_bytes w64 s.next_id ++ to_be_bytes w32 (len s.arrays)
    ++ to_be_bytes w32 (len s.sessions)
    ++ flat_map (array_spelling format) (entries s.arrays)
    ++ flat_map (session_spelling format) (entries s.sessions)

-- the format has room for an array's name, and for the records of a session
abbrev pub ArrayOfFormat : Format → ℕ × Array → Type 0
ArrayOfFormat format e = IsShort format e.1.name

abbrev pub SessionOfFormat : Format → ℕ × Session → Type 0
SessionOfFormat format e = AllByRecursion (KeptOfFormat format e.0) (entries e.1.kept)

-- the format has room for each array and each session of a state
pub record HasRoomForState (format : Format) (s : ServerState) : Type 0 where
  pub arrays : AllByRecursion (ArrayOfFormat format) (entries s.arrays)
  pub sessions : AllByRecursion (SessionOfFormat format) (entries s.sessions)

-- a state that the format has room for, as format 2 has for every state
abbrev pub StateOfFormat : Format → ServerState → Type 0
StateOfFormat One s = HasRoomForState One s
StateOfFormat Two s = Unit {0}

-- the values of an array's words, and a session's number and the fields of what it keeps, fit into the bytes
-- that an image has for them
abbrev pub ArrayFits : ℕ × Array → Type 0
ArrayFits e = AllByRecursion (λ w. w.value < 2 ^ 64) e.1.words

abbrev pub SessionFits : ℕ × Session → Type 0
SessionFits e = (e.0 < 2 ^ 64) × AllByRecursion (λ k. FieldsFit (entry_of_kept e.0 k)) (entries e.1.kept)

-- a state that has an image in the format
pub record FitsImage (format : Format) (s : ServerState) : Type 0 where
  pub limits : IsWithinLimits s
  pub room : HasRoomForState format s
  pub arrays : AllByRecursion ArrayFits (entries s.arrays)
  pub sessions : AllByRecursion SessionFits (entries s.sessions)

-- ---- laws, cited by public functions (`docs/model.md`, "Records, groups and images")

-- In one format no record begins another, and no two entries have one record.
abbrev pub EntryHasOneSpelling : Type 0
EntryHasOneSpelling = (format : Format) (a b : Entry) (x y : List ℕ) → FitsRecord format a
    → FitsRecord format b → entry_spelling format a ++ x ≡ entry_spelling format b ++ y → (a ≡ b) × (x ≡ y)

-- In one format no two groups of entries have one spelling.
abbrev pub GroupHasOneSpelling : Type 0
GroupHasOneSpelling = (format : Format) (group other : List Entry) → FitsGroup format group
    → FitsGroup format other → group_spelling format group ≡ group_spelling format other → group ≡ other

-- Bytes that stand for a state are the state's spelling, and the format has room for it.
abbrev pub ImageIsSpelled : Type 0
ImageIsSpelled = (format : Format) (bytes : List ℕ) (s : ServerState) → IsBytes bytes
    → image_at format bytes ≡ Ok s → HasRoomForState format s × (bytes ≡ image_spelling format s)

-- The spelling of a state stands for it.
abbrev pub SpellingIsRead : Type 0
SpellingIsRead = (format : Format) (s : ServerState) → FitsImage format s
    → image_at format (image_spelling format s) ≡ Ok s

-- In one format no two states have one image.
abbrev pub ImageHasOneSpelling : Type 0
ImageHasOneSpelling = (format : Format) (s t : ServerState) → FitsImage format s → FitsImage format t
    → image_spelling format s ≡ image_spelling format t → s ≡ t
