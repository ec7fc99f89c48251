-- The text of a state, as `femem look` prints it (`docs/operating.md`, "What a server says").
use Rattle.std.specs.Prelude.{◌++◌, ℕ, List, Option, codes, length, take}
use Rattle.std.specs.Fmt.{decimal}
use Rattle.std.specs.FinMap.{entries, len}
use Rattle.std.specs.Io.KnownBytes.{Appends}
use Rattle.std.specs.List.{flat_map}
use Rattle.fe_state.specs.Sessions.{Session}
use Rattle.fe_state.specs.State.{ServerState}
use Rattle.fe_state.specs.declared.array.Array.{Array}
use Rattle.fe_keeper.specs.Stands.{StandsFor}

-- the line of a place, the number of entries so far
abbrev pub place_line : ℕ → List ℕ
place_line place = codes "place " ++ (decimal place ++ codes "\n")

-- the line of an array: its id, its name, and its length in words
abbrev pub line_of_array : ℕ → List ℕ → ℕ → List ℕ
line_of_array id name size =
    codes "array " ++ (decimal id ++ (codes " " ++ (name ++ (codes " " ++ (decimal size ++ codes "\n")))))

abbrev pub array_line : ℕ × Array → List ℕ
array_line e = line_of_array e.0 e.1.name (length e.1.words)

-- the line of a session: its number, its floor, and how many answers are kept for it
abbrev pub line_of_session : ℕ → ℕ → ℕ → List ℕ
line_of_session number floor kept =
    codes "session " ++ (decimal number ++ (codes " floor "
    ++ (decimal floor ++ (codes " kept " ++ (decimal kept ++ codes "\n")))))

abbrev pub session_line : ℕ × Session → List ℕ
session_line e = line_of_session e.0 e.1.floor (len e.1.kept)

-- The text of a state: its place, and a line for each array and then for each session, ascending by id and by
-- number.
abbrev pub state_text : ServerState → List ℕ
state_text s = place_line s.place ++ (flat_map array_line (entries s.arrays)
    ++ flat_map session_line (entries s.sessions))

-- the text of some state was written
pub record ShowsSome (before after : Option (List ℕ)) : Type 0 where
  pub state : ServerState
  pub written : Appends before after (state_text state)

-- a front of the text of some state was written, and nothing else
pub record ShowsFront (before after : Option (List ℕ)) : Type 0 where
  pub state : ServerState
  pub count : ℕ
  pub written : Appends before after (take count (state_text state))

-- The image stands for a state, and the text of that state was written.
pub record Shows (image : List ℕ) (before after : Option (List ℕ)) : Type 0 where
  pub state : ServerState
  pub stands : StandsFor image state
  pub written : Appends before after (state_text state)
