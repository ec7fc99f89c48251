-- What the payload of a stored group (the records of its entries) does to a state, and where it does not fit
-- one. See `docs/model.md`, "The replica".
use Rattle.std.specs.Prelude.{◌≡◌, ℕ, ◌≤◌, List, ◌++◌, length, ◌≢◌, ◌+◌, [], ◌∷◌, Contains}
use Rattle.fe_state.specs.State.{ServerState, IsLegal, MakesArray, after, after_all}
use Rattle.fe_state.specs.History.{AreLegal}
use Rattle.fe_state.specs.declared.entry.Entry.{Entry}
use Rattle.fe_codec.specs.Record.{entry_spelling, group_spelling, FitsRecord, FitsGroup}
use Rattle.fe_format.specs.declared.format.Format.{Format}
use Rattle.fe_state.specs.UndoLog.{UndoLog, rewound, IsLogOf}

-- The payload spells entries that are legal one after the other, and they lead to the new state.
pub record Replays (format : Format) (payload : List ℕ) (old new : ServerState) : Type 0 where
  pub entries : List Entry
  pub fits : FitsGroup format entries
  pub spelled : payload ≡ group_spelling format entries
  pub legal : AreLegal old entries
  pub state_is : new ≡ after_all old entries

-- the bytes do not begin with the record of any entry that may come next
abbrev pub NoneFollows : Format → List ℕ → ServerState → Type 0
NoneFollows format bytes s = (e : Entry) (more : List ℕ) → FitsRecord format e
    → bytes ≡ entry_spelling format e ++ more → IsLegal s e → ⊥

-- The first record of a payload that is no entry's, or whose entry is not legal after those before it, begins
-- at this offset.
pub record IsFirstBad (format : Format) (payload : List ℕ) (old : ServerState) (offset : ℕ) : Type 0 where
  pub front : List Entry
  pub rest : List ℕ
  pub fits : FitsGroup format front
  pub spelled : payload ≡ group_spelling format front ++ rest
  pub some : 1 ≤ length rest
  pub legal : AreLegal old front
  pub offset_is : offset ≡ length (group_spelling format front)
  pub bad : NoneFollows format rest (after_all old front)

-- the bytes begin with the record of an entry that may come next, and `behind` follows it
pub record Begins (format : Format) (bytes : List ℕ) (s : ServerState) (entry : Entry)
    (behind : List ℕ) : Type 0 where
  pub fits : FitsRecord format entry
  pub spelled : bytes ≡ entry_spelling format entry ++ behind
  pub legal : IsLegal s entry

-- the first record of the bytes leads from the old state to the new, and `behind` follows it
pub record Steps (format : Format) (bytes : List ℕ) (old : ServerState) (behind : List ℕ)
    (new : ServerState) : Type 0 where
  pub entry : Entry
  pub begins : Begins format bytes old entry behind
  pub state_is : new ≡ after old entry

-- the bytes begin with the record of an entry that may come next and makes an array, whose words take memory
pub record MakesNext (format : Format) (bytes : List ℕ) (s : ServerState) : Type 0 where
  pub entry : Entry
  pub behind : List ℕ
  pub begins : Begins format bytes s entry behind
  pub makes : MakesArray entry

-- a record of the payload makes an array, and may come next after those before it
pub record MakesArrayIn (format : Format) (payload : List ℕ) (old : ServerState) : Type 0 where
  pub front : List Entry
  pub rest : List ℕ
  pub fits : FitsGroup format front
  pub spelled : payload ≡ group_spelling format front ++ rest
  pub legal : AreLegal old front
  pub makes : MakesNext format rest (after_all old front)

-- ---- batches, and the first place at which one does not continue a history

-- The entries continue the history of a state: the first of them has the state's place, there is one at
-- least, and they are legal one after the other.
pub record Continues (s : ServerState) (first : ℕ) (entries : List Entry) : Type 0 where
  pub begins : first ≡ s.place
  pub some : 1 ≤ length entries
  pub legal : AreLegal s entries

-- The first place at which entries do not continue a history: the state's place, if they begin elsewhere or
-- there is none, or else that of the first one that is not legal after those before it.
pub data IsMismatch (s : ServerState) (first : ℕ) (entries : List Entry) (place : ℕ) : Type 0 where
  Elsewhere : first ≢ s.place → place ≡ s.place → IsMismatch s first entries place
  Empty : entries ≡ [] → place ≡ s.place → IsMismatch s first entries place
  Illegal : (front rest : List Entry) (e : Entry) → first ≡ s.place → entries ≡ front ++ e ∷ rest
      → AreLegal s front
      → (IsLegal (after_all s front) e → ⊥) → place ≡ s.place + length front
      → IsMismatch s first entries place

-- one of the entries makes an array, whose words take memory
pub record MakesSomeArray (entries : List Entry) : Type 0 where
  pub entry : Entry
  pub is_one : Contains entries entry
  pub makes : MakesArray entry

-- the state and the log after entries that were carried out one after the other
pub record AreTaken (s : ServerState) (front : List Entry) (new : ServerState) (log : UndoLog) : Type 0 where
  pub legal : AreLegal s front
  pub state_is : new ≡ after_all s front
  pub is_log : IsLogOf log new
  pub beginning : rewound log new ≡ s
  pub each : length log.undos ≡ length front

-- the first of entries that is not legal after those before it, at its place
pub record IsIllegalAt (s : ServerState) (entries : List Entry) (place : ℕ) : Type 0 where
  pub front : List Entry
  pub rest : List Entry
  pub entry : Entry
  pub parts : entries ≡ front ++ entry ∷ rest
  pub legal : AreLegal s front
  pub illegal : IsLegal (after_all s front) entry → ⊥
  pub place_is : place ≡ s.place + length front
