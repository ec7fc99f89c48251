-- A store over any number of stops: what each life, from one opening to the next, did, and what stands after
-- all of them. See `docs/headline.md`.
use Rattle.std.specs.Prelude.{◌≡◌, ℕ, ◌≤◌, List, [], ◌∷◌, ◌++◌, length, take, Bool, map, Contains}
use Rattle.std.specs.Prelude.{Option, None, Some}
use Rattle.fe_state.specs.State.{ServerState, IsWithinLimits}
use Rattle.fe_state.specs.History.{IsHistory, after_groups}
use Rattle.fe_state.specs.declared.entry.Entry.{Entry}
use Rattle.std.specs.List.{flat_map, AllByRecursion}
use Rattle.fe_state.specs.declared.answer.Answer.{Answer}
use Rattle.fe_state.specs.declared.entry.Entry.TheVariants.{Closed, Finished}
use Rattle.fe_state.specs.declared.request.Request.{Request}
use Rattle.fe_keeper.specs.Stands.{StandsFor, LeavesPrefix}
use Rattle.fe_desk.specs.Acknowledged.{AnswersStand, IsAcknowledged, stored_groups}
use Rattle.fe_desk.specs.Crash.{DeskState, IsFrom}

-- One life of a store: the groups handed to it, how many of them were stored for sure, and how many the stop
-- kept.
pub record Life : Type 0 where
  pub groups : List (List Entry)
  pub synced : ℕ
  pub kept : ℕ

-- Lives one after the other, from a state on to the state that the last stop left: the groups of each are a
-- history from the state that the stop before it left, and each stop keeps at least the groups that were
-- stored for sure, and at most all.
abbrev pub AreLives : ServerState → List Life → ServerState → Type 0
AreLives begun [] s = s ≡ begun
AreLives begun (life ∷ lives) s =
    IsHistory begun life.groups × (life.synced ≤ life.kept) × (life.kept ≤ length life.groups)
    × AreLives (after_groups begun (take life.kept life.groups)) lives s

-- the groups that the stops kept, joined in order
abbrev pub kept_groups : List Life → List (List Entry)
kept_groups [] = []
kept_groups (life ∷ lives) = take life.kept life.groups ++ kept_groups lives

-- The groups that the stops kept, and then the next ones, are one history from the first state. It leads
-- where the next groups lead from the state that the last stop left.
pub record AreOne (begun : ServerState) (lives : List Life) (s : ServerState)
    (next : List (List Entry)) : Type 0 where
  pub history : IsHistory begun (kept_groups lives ++ next)
  pub leads : after_groups begun (kept_groups lives ++ next) ≡ after_groups s next

-- the law: lives that lead to a state, and then any history from that state, are one history
abbrev pub LivesJoin : Type 0
LivesJoin = (begun s : ServerState) (lives : List Life) (next : List (List Entry)) → AreLives begun lives s
    → IsHistory s next → AreOne begun lives s next

-- ---- stops

-- A life that a stop ended, or the part of one that ended where the trace was cleared: the desk after the
-- steps that answered, whatever they answered; the sessions that each connection's number may ask for in it;
-- the groups that the step under way handed to the store; how many of all groups were stored for sure; and
-- the image that the stop left, or none where the trace was cleared.
pub record Stop (D : Type 0) : Type 0 where
  pub last : DeskState D
  pub asked : ℕ → ℕ → Bool
  pub under_way : List (List Entry)
  pub synced : ℕ
  pub image : Option (List ℕ)

-- all groups that were handed to the store
abbrev pub all_groups : {D : Type 0} → Stop D → List (List Entry)
all_groups x = x.last.run_state.groups ++ x.under_way

-- The life is one of a desk over the state that was opened. Its groups, with those of the step under way, are
-- a history.
pub record IsStopOf {D : Type 0} (begun : ServerState) (x : Stop D) : Type 0 where
  pub lived : IsAcknowledged begun x.asked x.last
  pub history : IsHistory begun (all_groups x)
  pub few : x.last.synced ≤ length x.last.run_state.groups
  pub stored : x.last.synced ≤ x.synced

-- The image that the stop left is a prefix of the life's groups that has all stored ones, and stands for this
-- state.
pub record IsLeft {D : Type 0} (begun : ServerState) (x : Stop D) (image : List ℕ)
    (opened : ServerState) : Type 0 where
  pub leaves : LeavesPrefix begun (all_groups x) x.synced image
  pub stands : StandsFor image opened

-- No stop came: no step was under way where the trace was cleared, and the keeper has this state.
pub record WasCleared {D : Type 0} (begun : ServerState) (x : Stop D) (now : ServerState) : Type 0 where
  pub from : IsFrom begun x.last
  pub idle : x.under_way ≡ []
  pub synced : x.synced ≡ x.last.synced
  pub keeper : x.last.keeper.state ≡ now

-- what comes after the life begins with this state
abbrev pub LeadsTo : {D : Type 0} → ServerState → Stop D → Option (List ℕ) → ServerState → Type 0
LeadsTo begun x None next = WasCleared begun x next
LeadsTo begun x (Some image) next = IsLeft begun x image next

-- stops one after the other, each in a life over the state that the one before leads to; the last one leads
-- to this state
abbrev pub AreStops : {D : Type 0} → ServerState → List (Stop D) → ServerState → Type 0
AreStops begun [] s = s ≡ begun
AreStops begun (x ∷ xs) s =
    IsStopOf begun x × ((next : ServerState) × LeadsTo begun x x.image next × AreStops next xs s)

-- ---- what stands after them

-- if a number of a session finishes twice in the groups, the session was closed in between
abbrev pub FinishOnceIn : List (List Entry) → Type 0
FinishOnceIn groups =
    (before between behind : List Entry) (session number : ℕ) (first second : Request) (one other : Answer)
    → flat_map (λ group. group) groups ≡ before ++ Finished session number first one ∷ between
    ++ Finished session number second other ∷ behind
    → Contains between (Closed session)

-- The groups that the stops kept are one history, with any groups that go on from the last image. In it a
-- session's number finishes at most once until the session is closed, and all mails that were written in any
-- life, or are in one that goes on, stand on it.
pub record AreOneStore {D : Type 0} (begun : ServerState) (stops : List (Stop D))
    (s : ServerState) : Type 0 where
  pub lives : List Life
  pub groups : map (λ life. life.groups) lives ≡ map all_groups stops
  pub synced : map (λ life. life.synced) lives ≡ map (λ x. x.synced) stops
  pub are : AreLives begun lives s
  pub one : (next : List (List Entry)) → IsHistory s next → AreOne begun lives s next
  pub once : (next : List (List Entry)) → IsHistory s next → FinishOnceIn (kept_groups lives ++ next)
  pub answers : AllByRecursion (λ x. AnswersStand begun (kept_groups lives) x.asked x.last.run_state) stops
  pub later : (asked : ℕ → ℕ → Bool) (d : DeskState D) → IsAcknowledged s asked d
      → AnswersStand begun (kept_groups lives ++ stored_groups d) asked d.run_state

-- the law: stops one after the other are one store
abbrev pub StopsAreLives : Type 0 → Type 0
StopsAreLives D = (begun s : ServerState) (stops : List (Stop D)) → IsWithinLimits begun
    → AreStops begun stops s → AreOneStore begun stops s
