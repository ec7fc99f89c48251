-- Worked examples of the definitions of answers, effects and entries, computed by the checker.
-- See `docs/model.md`, "The state of the server".
use Rattle.std.specs.Prelude.{◌≡◌, List, [], ◌∷◌, Some, None, true, false, codes}
use Rattle.std.specs.FinMap.{empty, get, insert, len}
use Rattle.fe_words.specs.Table.{word}
use Rattle.fe_words.specs.declared.word.Word.{Word}
use Rattle.fe_words.specs.declared.word.Tag.TheVariants.{Full, Empty}
use Rattle.fe_words.specs.declared.op.Op.TheVariants.{ReadFe, ReadXx, WriteEf}
use Rattle.fe_state.specs.Directory.{Directory, named, answer_in}
use Rattle.fe_state.specs.Effect.{performed}
use Rattle.fe_state.specs.Sessions.{first_session, raised, keeping}
use Rattle.fe_state.specs.State.{ServerState, first_state, after}
use Rattle.fe_state.specs.declared.array.Array.{Array}
use Rattle.fe_state.specs.declared.kept.Kept.{Kept}
use Rattle.fe_state.specs.declared.answer.Answer.TheVariants as answer
use Rattle.fe_state.specs.declared.request.Request.TheVariants.{Create, Find, Remove, Access}
use Rattle.fe_state.specs.declared.entry.Entry.TheVariants.{Attached, Closed, Settled, Finished}
use Rattle.fe_state.specs.Limits.{most_arrays}

-- two words: the first is empty, the second is full and has value 5
abbrev pub two_words : List Word
two_words = word 0 Empty ∷ word 5 Full ∷ []

-- the array 1, named cells, with these two words
abbrev pub cells : Array
cells = record { name = codes "cells"; words = two_words }

-- a directory that has this array and no other
abbrev pub one_array : Directory
one_array = record { arrays = insert empty 1 cells; next_id = 2 }

-- each answer, and an access that waits
pub record ExampleAnswers : Type 0 where
  pub value : answer_in one_array (Access 1 1 ReadFe false) ≡ Some (answer.Value 5)
  pub done : answer_in one_array (Access 1 0 (WriteEf 42) false) ≡ Some answer.Done
  pub waits : answer_in one_array (Access 1 0 ReadFe false) ≡ None
  pub not_now : answer_in one_array (Access 1 0 ReadFe true) ≡ Some answer.NotNow
  pub now : answer_in one_array (Access 1 1 ReadFe true) ≡ Some (answer.Value 5)
  pub made : answer_in one_array (Create (codes "w") 3 Full) ≡ Some (answer.Array 2 3)
  pub found : answer_in one_array (Find (codes "cells")) ≡ Some (answer.Array 1 2)
  pub removed : answer_in one_array (Remove 1) ≡ Some answer.Done
  pub no_array : answer_in one_array (Access 2 0 ReadXx false) ≡ Some answer.NoArray
  pub bad_index : answer_in one_array (Access 1 2 ReadXx false) ≡ Some answer.BadIndex
  pub bad_name : answer_in one_array (Create (codes "Cells") 1 Full) ≡ Some answer.BadName
  pub bad_length : answer_in one_array (Create (codes "w") 65537 Full) ≡ Some answer.BadLength
  pub name_taken : answer_in one_array (Create (codes "cells") 1 Full) ≡ Some answer.NameTaken
  pub word_limit : answer_in one_array (Create (codes "w") 65535 Full) ≡ Some answer.WordLimit
  pub array_limit : (d : Directory) → len d.arrays ≡ most_arrays → named d.arrays (codes "w") ≡ None
      → answer_in d (Create (codes "w") 1 Full) ≡ Some answer.ArrayLimit

-- the directory after some requests
pub record ExampleEffects : Type 0 where
  pub made : performed one_array (Create (codes "w") 1 Full)
      ≡ record {
        arrays = insert one_array.arrays 2 (record { name = codes "w"; words = word 0 Full ∷ [] });
        next_id = 3;
      }
  pub written : performed one_array (Access 1 0 (WriteEf 42) false)
      ≡ record {
        arrays = insert one_array.arrays 1
            (record { name = codes "cells"; words = word 42 Full ∷ word 5 Full ∷ [] });
        next_id = 2;
      }
  pub taken : performed one_array (Access 1 1 ReadFe false)
      ≡ record {
        arrays = insert one_array.arrays 1
            (record { name = codes "cells"; words = word 0 Empty ∷ word 5 Empty ∷ [] });
        next_id = 2;
      }
  pub waiting : performed one_array (Access 1 0 ReadFe false) ≡ one_array
  pub not_now : performed one_array (Access 1 0 ReadFe true) ≡ one_array

-- the state after session 7 is attached for the first time
abbrev pub attached : ServerState
attached = record { arrays = empty; sessions = insert empty 7 first_session; next_id = 1; place = 1 }

-- what is kept of the request to find an array named a, whose entry has place 1
abbrev pub no_array_a : Kept
no_array_a = record { request = Find (codes "a"); answer = answer.NoArray; place = 1 }

-- each kind of entry
pub record ExampleEntries : Type 0 where
  pub first : after first_state (Attached 7 1) ≡ attached
  pub again : after attached (Attached 7 1)
      ≡ record { arrays = empty; sessions = attached.sessions; next_id = 1; place = 2 }
  pub finished : get (after attached (Finished 7 3 (Find (codes "a")) answer.NoArray)).sessions 7
      ≡ Some (keeping first_session 3 no_array_a)
  pub kept : get (keeping first_session 3 no_array_a).kept 3 ≡ Some no_array_a
  pub settled : get (after attached (Settled 7 5)).sessions 7 ≡ Some (raised first_session 5)
  pub dropped : get (raised (keeping first_session 3 no_array_a) 4).kept 3 ≡ None
  pub closed : get (after attached (Closed 7)).sessions 7 ≡ None
