-- What the calls of a disk do to its bytes, and what a stop leaves of them. An image is the list of all bytes
-- of a disk. See `docs/model.md`, "The disk".
use Rattle.std.specs.Prelude.{◌≡◌, ◌⊎◌, ℕ, ◌+◌, ◌-◌, ◌^◌, ◌<◌, ◌≤◌, List, ◌++◌, length, take, drop}
use Rattle.std.specs.Prelude.{slice_index, ◌↔◌, Result, IsErr, OnOk}
use Rattle.fe_disk.specs.declared.calls.Calls.{Calls}

-- an image of a disk: this many bytes
pub record IsImage (size : ℕ) (image : List ℕ) : Type 0 where
  pub whole : length image ≡ size
  pub bytes : (i : ℕ) → slice_index image i < 2 ^ 8

-- the n bytes from `at` on
abbrev pub bytes_at : List ℕ → ℕ → ℕ → List ℕ
bytes_at image at n = take n (drop at image)

-- the image with these bytes instead of those from `at` on
abbrev pub after_write : List ℕ → ℕ → List ℕ → List ℕ
after_write image at bytes = take at image ++ (bytes ++ drop (at + length bytes) image)

-- any bytes at the n offsets from `at` on, and the same byte at each other offset
pub record IsTorn (at n : ℕ) (old new : List ℕ) : Type 0 where
  pub whole : length new ≡ length old
  pub below : (i : ℕ) → i < at → slice_index new i ≡ slice_index old i
  pub above : (i : ℕ) → at + n ≤ i → slice_index new i ≡ slice_index old i

-- each image that may be left after a call comes, by this step, from one that might have been left before it
abbrev pub Follows : (List ℕ → List ℕ → Type 0) → (List ℕ → Type 0) → (List ℕ → Type 0) → Type 0
Follows step old new = (image : List ℕ) → new image → (was : List ℕ) × old was × step was image

-- a call adds no image to those that may be left
abbrev pub AddsNone : (List ℕ → Type 0) → (List ℕ → Type 0) → Type 0
AddsNone old new = (image : List ℕ) → new image → old image

-- this image may be left and no other
abbrev pub LeavesJust : List ℕ → (List ℕ → Type 0) → Type 0
LeavesJust image may_leave = (left : List ℕ) → may_leave left → left ≡ image

-- Time goes on through a call: what a stop since a moment before it may have left is all that it might have
-- left then already, and otherwise only what a stop may leave now.
pub record Elapses {D : Type 0} (moment : D → ℕ) (left_since : D → ℕ → List ℕ → Type 0)
    (may_leave : D → List ℕ → Type 0) (old new : D) : Type 0 where
  pub later : moment old ≤ moment new
  pub nothing_else : (t : ℕ) (image : List ℕ) → t ≤ moment old → left_since new t image
      → left_since old t image ⊎ may_leave new image
  pub keeps : (t : ℕ) (image : List ℕ) → t ≤ moment old → left_since old t image → left_since new t image

-- A count of faults rose in a call. At the top of a `u64` it stays as it is, and that counts as a rise.
abbrev pub Rises : ℕ → ℕ → Type 0
Rises before now = (before < now) ⊎ ((before ≡ 2 ^ 64 - 1) × (now ≡ before))

-- a count went up by this many or fewer
abbrev pub RisesAtMost : ℕ → ℕ → ℕ → Type 0
RisesAtMost most before now = (before ≤ now) × (now ≤ before + most)

-- This many reads, writes and syncs, or fewer, were made between two counts.
abbrev pub MakesAtMost : ℕ → ℕ → ℕ → Calls → Calls → Type 0
MakesAtMost reads writes syncs before now =
    RisesAtMost reads before.reads now.reads × RisesAtMost writes before.writes now.writes
    × RisesAtMost syncs before.syncs now.syncs

-- Exactly this many reads, writes and syncs were made between two counts.
abbrev pub MakesJust : ℕ → ℕ → ℕ → Calls → Calls → Type 0
MakesJust reads writes syncs before now =
    (now.reads ≡ before.reads + reads) × (now.writes ≡ before.writes + writes)
    × (now.syncs ≡ before.syncs + syncs)

-- ---- how a call ends

-- A call counts as exactly this many reads, writes and syncs if it succeeds, and as at most this many if it
-- fails. It fails exactly if the count of faults rises, by one at most. Size and honesty stay. The parameters
-- are members of the trait `Disk`, since the trait's own clauses can't name the record that has them all.
pub record EndsCall {D T E : Type 0} (size failures : D → ℕ) (calls : D → Calls) (honest : D → Type 0)
    (reads writes syncs : ℕ) (result : Result T E) (old new : D) : Type 0 where
  pub fault : IsErr result ↔ Rises (failures old) (failures new)
  pub still : OnOk result (failures new ≡ failures old)
  pub one_fault : failures new ≤ failures old + 1
  pub made : OnOk result (MakesJust reads writes syncs (calls old) (calls new))
  pub most : MakesAtMost reads writes syncs (calls old) (calls new)
  pub honesty : honest new ↔ honest old
  pub same_size : size new ≡ size old

-- No call was made: the counts, size and honesty stay.
pub record MakesNoCall {D : Type 0} (size failures : D → ℕ) (calls : D → Calls) (honest : D → Type 0)
    (old new : D) : Type 0 where
  pub still : failures new ≡ failures old
  pub none : calls new ≡ calls old
  pub honesty : honest new ↔ honest old
  pub same_size : size new ≡ size old
