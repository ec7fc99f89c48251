-- Histories: groups of entries (steps of the server's state), each entry legal after those before it.
-- See `docs/model.md`, "The state of the server".
use Rattle.std.specs.Prelude.{◌≡◌, ◌<◌, ℕ, List, [], ◌∷◌, ◌++◌, length, flat_map, Contains, ◌≤◌, All, Option}
use Rattle.std.specs.Prelude.{Some, None, filter_map}
use Rattle.fe_state.specs.State.{ServerState, IsLegal, IsWithinLimits, after, after_all}
use Rattle.fe_state.specs.declared.answer.Answer.{Answer}
use Rattle.fe_state.specs.declared.request.Request.{Request}
use Rattle.fe_state.specs.declared.entry.Entry.{Entry}
use Rattle.fe_state.specs.declared.entry.Entry.TheVariants.{Closed, Finished}
use Rattle.std.specs.List.Sorted.{IsStrictlyIncreasing}
use Rattle.fe_state.specs.declared.answer.Answer.TheVariants as answer
use Rattle.fe_state.specs.declared.request.Request.TheVariants.{Create}

-- entries that are legal one after another
abbrev pub AreLegal : ServerState → List Entry → Type 0
AreLegal s [] = Unit {0}
AreLegal s (e ∷ es) = IsLegal s e × AreLegal (after s e) es

-- groups of entries, none of them empty, legal entry by entry from the state on
abbrev pub IsHistory : ServerState → List (List Entry) → Type 0
IsHistory s [] = Unit {0}
IsHistory s (group ∷ groups) = (0 < length group) × AreLegal s group × IsHistory (after_all s group) groups

-- the state after whole groups
abbrev pub after_groups : ServerState → List (List Entry) → ServerState
after_groups s [] = s
after_groups s (group ∷ groups) = after_groups (after_all s group) groups

-- a legal entry leads from a state within the limits to one within the limits
abbrev pub KeepsLimits : Type 0
KeepsLimits = (s : ServerState) (e : Entry) → IsWithinLimits s → IsLegal s e → IsWithinLimits (after s e)

-- if a number of a session finishes twice, the session was closed in between
abbrev pub FinishesOnce : Type 0
FinishesOnce = (s : ServerState) (groups : List (List Entry)) → IsHistory s groups
    → (before between behind : List Entry) (session number : ℕ) (first second : Request) (one other : Answer)
    → flat_map (λ group. group) groups ≡ before ++ Finished session number first one ∷ between
    ++ Finished session number second other ∷ behind
    → Contains between (Closed session)

-- two histories one after the other are one, and a history that is cut between groups is two
abbrev pub JoinsAndCuts : Type 0
JoinsAndCuts = (s : ServerState) (front rest : List (List Entry))
    → (IsHistory s front → IsHistory (after_groups s front) rest → IsHistory s (front ++ rest))
    × (IsHistory s (front ++ rest) → IsHistory s front × IsHistory (after_groups s front) rest)

-- ---- the ids of arrays: none is ever given again

-- the id of the array that an entry makes, if it makes one
abbrev pub id_made : Entry → Option ℕ
id_made (Finished session number (Create name size tag) (answer.Array id words)) = Some id
id_made _ = None

-- the ids of the arrays that entries make, in the order of the entries
abbrev pub ids_made : List Entry → List ℕ
ids_made es = filter_map id_made es

-- the ids are new between an old state and a new one: each is above those before it, the first is no less
-- than the next id of the old state, and the last is below the next id of the new one
pub record AreNew (old : ServerState) (ids : List ℕ) (new : ServerState) : Type 0 where
  pub rise : IsStrictlyIncreasing ids
  pub not_before : All (λ id. old.next_id ≤ id) ids
  pub not_after : All (λ id. id < new.next_id) ids
  pub no_lower : old.next_id ≤ new.next_id

-- if each entry is legal after those before it, the ids that the entries give are new
abbrev pub IdsNeverReturn : Type 0
IdsNeverReturn = (s : ServerState) (es : List Entry) → AreLegal s es → AreNew s (ids_made es) (after_all s es)
