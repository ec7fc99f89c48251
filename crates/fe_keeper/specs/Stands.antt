-- What an image of a device, all of its bytes, stands for: a state of the server. No reader runs in the
-- definition. `docs/store.md` says what slots, groups and generations are.
use Rattle.std.specs.Prelude.{◌≡◌, ◌⊎◌, ℕ, ◌+◌, ◌≤◌, List, [], ◌∷◌, length, take}
use Rattle.fe_state.specs.State.{ServerState}
use Rattle.fe_state.specs.History.{IsHistory, after_groups}
use Rattle.fe_state.specs.declared.entry.Entry.{Entry}
use Rattle.fe_codec.specs.Record.{IsGroupOf}
use Rattle.fe_codec.specs.Image.{image_spelling, FitsImage}
use Rattle.fe_journal.specs.Contents.{Contents, Holds}
use Rattle.fe_format.specs.declared.format.Format.{Format}
use Rattle.fe_format.specs.declared.format.Format.TheVariants.{One, Two}
use Rattle.fe_disk.specs.declared.disk.Disk.{Ghosts}

-- the greatest generation of a slot whose image is of a state at this place
abbrev pub greatest_generation : Format → ℕ → ℕ
greatest_generation One place = place + 1
greatest_generation Two place = place + 2

-- the payloads spell the groups, one for one
abbrev pub AreGroups : Format → List (List Entry) → List (List ℕ) → Type 0
AreGroups format [] [] = Unit {0}
AreGroups format [] (payload ∷ payloads) = ⊥
AreGroups format (group ∷ groups) [] = ⊥
AreGroups format (group ∷ groups) (payload ∷ payloads) =
    IsGroupOf format group payload × AreGroups format groups payloads

-- What a slot stands for: its image is the spelling of a state, its generation is one that this image may
-- have, its groups spell a history from that state on, and the slot stands for the state after them.
pub record Stands (c : Contents) (s : ServerState) : Type 0 where
  pub base : ServerState
  pub groups : List (List Entry)
  pub fits : FitsImage c.format base
  pub image_is : c.image ≡ image_spelling c.format base
  pub numbered : c.generation ≤ greatest_generation c.format base.place
  pub groups_are : AreGroups c.format groups c.groups
  pub legal : IsHistory base groups
  pub state_is : s ≡ after_groups base groups

-- An image of a device stands for what the slot that counts in it stands for.
pub record StandsFor (image : List ℕ) (s : ServerState) : Type 0 where
  pub contents : Contents
  pub holds : Holds contents image
  pub stands : Stands contents s

-- an image that stands for one state or the other
abbrev pub StandsForEither : ServerState → ServerState → List ℕ → Type 0
StandsForEither before after image = StandsFor image before ⊎ StandsFor image after

-- each image that a stop may leave now stands for the state
abbrev pub EachStandsFor : {D : Type 0} → Ghosts D → D → ServerState → Type 0
EachStandsFor model disk s = (image : List ℕ) → model.may_leave disk image → StandsFor image s

-- ---- what a stop may leave of a history: the state after whole groups from its front
-- (`docs/model.md`, "The keeper")

-- The state is that after some groups from the front of the history, at least k of them, with none skipped.
pub record IsCrashPrefix (beginning : ServerState) (history : List (List Entry)) (k : ℕ)
    (s : ServerState) : Type 0 where
  pub kept : ℕ
  pub least : k ≤ kept
  pub most : kept ≤ length history
  pub state_is : s ≡ after_groups beginning (take kept history)

-- The image stands for a state that a stop may leave of the history.
pub record LeavesPrefix (beginning : ServerState) (history : List (List Entry)) (k : ℕ)
    (image : List ℕ) : Type 0 where
  pub state : ServerState
  pub stands : StandsFor image state
  pub prefix : IsCrashPrefix beginning history k state
