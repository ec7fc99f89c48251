-- A journal as its callers see it, and what it says of the images that its disk may leave. A draft is the
-- other slot while it is made (a checkpoint). A catch-up is the group that goes into it for what was appended
-- meanwhile. See `docs/model.md`, "The journal".
use Rattle.std.specs.Prelude.{◌≡◌, ◌↔◌, ◌+◌, ◌≤◌, ℕ, Bool, List, [], ◌∷◌, ◌++◌, length, Option, Some, None}
use Rattle.std.specs.Prelude.{IsSome, Result, IsTrue, IsErrOf, OnOk, OnErr, false, true, ◌⊎◌, take, ◌≢◌, Ok}
use Rattle.std.specs.Prelude.{Err, IfErr}
use Rattle.fe_disk.specs.Disk.{bytes_at, LeavesJust, Rises, MakesAtMost, IsTorn, AddsNone, MakesJust}
use Rattle.fe_disk.specs.Disk.{after_write}
use Rattle.fe_journal.specs.Layout.{header_of, gate_of, image_of, other_than, number_at, IsGateShut}
use Rattle.fe_journal.specs.Layout.{IsGateOpen, header_bytes, device_bytes}
use Rattle.fe_format.specs.Layout.{magic_of, IsImageLength, IsPayloadLength}
use Rattle.fe_journal.specs.Contents.{end_of_groups, after_gate, Contents, Holds, generation_at}
use Rattle.fe_journal.specs.Contents.{image_length_at, empty_image}
use Rattle.fe_format.specs.declared.format.Format.{Format}
use Rattle.fe_journal.specs.declared.begun.Begun.{Begun}
use Rattle.fe_journal.specs.declared.fault.JournalFault.{JournalFault}
use Rattle.fe_journal.specs.declared.fault.JournalFault.TheVariants.{Device, Failed}
use Rattle.fe_disk.specs.declared.disk.Disk.{Ghosts}
use Rattle.byteorder.specs.Endian.{big_bytes}
use Rattle.fe_disk.specs.Runs.{LeavesOnly}
use Rattle.fe_disk.specs.declared.calls.Calls.{Calls}
use Rattle.fe_journal.specs.declared.fault.StoreFault.{StoreFault}

-- a journal's disk and what it knows of the slot that counts, of the slot begun, and whether its disk has
-- failed
pub record JournalState (D : Type 0) : Type 0 where
  pub disk : D
  pub slot : ℕ
  pub format : Format
  pub generation : ℕ
  pub used : ℕ
  pub begun : Option Begun
  pub has_failed : Bool

-- the journal of a new store
abbrev pub new_journal : {D : Type 0} → Format → D → JournalState D
new_journal format disk = record {
  disk = disk;
  slot = 0;
  format = format;
  generation = 1;
  used = 0;
  begun = None;
  has_failed = false;
}

-- no slot is begun, and no call of the device has failed
pub record IsIdle {D : Type 0} (journal : JournalState D) : Type 0 where
  pub none_begun : journal.begun ≡ None
  pub works : journal.has_failed ≡ false

-- How a call of a journal ends that makes at most this many device calls: if one of them fails, the journal
-- has failed; and a journal that had failed does nothing.
pub record CallEnds {D T : Type 0} (model : Ghosts D) (reads writes syncs : ℕ)
    (result : Result T JournalFault) (old new : JournalState D) : Type 0 where
  pub device : old.has_failed ≡ false → (IsErrOf result Device
      ↔ Rises (model.failures old.disk) (model.failures new.disk))
  pub still : OnOk result (model.failures new.disk ≡ model.failures old.disk)
  pub failed : IsErrOf result Failed ↔ IsTrue old.has_failed
  pub untouched : IsErrOf result Failed → new ≡ old
  pub failing : OnErr result (new ≡ record old { disk = new.disk; has_failed = true })
  pub most : MakesAtMost reads writes syncs (model.calls old.disk) (model.calls new.disk)
  pub honesty : model.honest new.disk ↔ model.honest old.disk

-- a slot begun and not finished, with the bytes of its image that were written so far
pub record Draft : Type 0 where
  pub format : Format
  pub generation : ℕ
  pub image_length : ℕ
  pub bytes : List ℕ

-- how much of a draft the journal itself knows
abbrev pub begun_of : Option Draft → Option Begun
begun_of None = None
begun_of (Some draft) = Some (record {
  format = draft.format;
  generation = draft.generation;
  image_length = draft.image_length;
  written = length draft.bytes;
})

-- the image has the draft's fields in the slot's header, and its bytes so far as the slot's state image
pub record IsDraft (slot : ℕ) (draft : Draft) (image : List ℕ) : Type 0 where
  pub magic : number_at image (header_of slot) 8 ≡ magic_of draft.format
  pub generation_is : generation_at image slot ≡ draft.generation
  pub length_is : image_length_at image slot ≡ draft.image_length
  pub length_fits : IsImageLength draft.format draft.image_length
  pub bytes_are : bytes_at image (image_of slot) (length draft.bytes) ≡ draft.bytes
  pub within : length draft.bytes ≤ draft.image_length

-- An image that a stop leaves holds the contents, and if a draft is begun, its gate is closed.
pub record IsLeft (c : Contents) (draft : Option Draft) (image : List ℕ) : Type 0 where
  pub holds : Holds c image
  pub shut : IsSome draft → IsGateShut image (gate_of (other_than c.slot))

-- The journal knows the slot that counts and what was begun, and each image that a stop may leave now holds
-- these contents. If there is a draft, its generation is one above theirs, and reads give it in the other
-- slot. If there is none, all that was written is synced.
pub record KeepsContents {D : Type 0} (model : Ghosts D) (journal : JournalState D) (c : Contents)
    (draft : Option Draft) : Type 0 where
  pub slot_is : journal.slot ≡ c.slot
  pub format_is : journal.format ≡ c.format
  pub generation_is : journal.generation ≡ c.generation
  pub used_is : journal.used ≡ end_of_groups c.groups
  pub begun_is : journal.begun ≡ begun_of draft
  pub left : (image : List ℕ) → model.may_leave journal.disk image → IsLeft c draft image
  pub drafted : (d : Draft) → draft ≡ Some d
      → IsDraft (other_than c.slot) d (model.seen journal.disk) × (d.generation ≡ c.generation + 1)
  pub settled : draft ≡ None → LeavesJust (model.seen journal.disk) (model.may_leave journal.disk)

-- the draft that `slot_close` begins
abbrev pub new_draft : Format → ℕ → ℕ → Draft
new_draft format generation image_length =
    record { format = format; generation = generation; image_length = image_length; bytes = [] }

-- the draft with one slice more
abbrev pub with_slice : Draft → List ℕ → Draft
with_slice d slice = record {
  format = d.format;
  generation = d.generation;
  image_length = d.image_length;
  bytes = d.bytes ++ slice;
}

-- the groups that a catch-up makes: none if it has no bytes, else one
abbrev pub catch_up_groups : List ℕ → List (List ℕ)
catch_up_groups [] = []
catch_up_groups (byte ∷ bytes) = (byte ∷ bytes) ∷ []

-- a catch-up has no bytes, or is a payload
abbrev pub IsCatchUp : Format → List ℕ → Type 0
IsCatchUp format [] = Unit {0}
IsCatchUp format (byte ∷ bytes) = IsPayloadLength format (length (byte ∷ bytes))

-- the contents once the draft is finished, with the catch-up as a group
abbrev pub with_draft : Contents → Draft → List ℕ → Contents
with_draft c d catch_up = record {
  slot = other_than c.slot;
  format = d.format;
  generation = d.generation;
  image = d.bytes;
  groups = catch_up_groups catch_up;
}

-- ---- what single steps write, byte by byte: a commit writes bytes and then opens a gate
-- (`docs/store.md`, "Gates")

-- the bytes of a header's fields
abbrev pub header_fields : Format → ℕ → ℕ → List ℕ
header_fields format generation image_length =
    big_bytes 8 (magic_of format) ++ (big_bytes 8 generation ++ big_bytes 4 image_length)

-- how a new journal area begins: with the catch-up (all that came since the slot was begun) as an open group,
-- or, if it is empty, with a closed gate
abbrev pub area_start : List ℕ → List ℕ
area_start [] = 0 ∷ []
area_start (byte ∷ bytes) = 1 ∷ after_gate (byte ∷ bytes)

-- The disk was only read or synced: reads give what they gave, and no stop leaves what could not be left
-- before.
pub record OnlyReads {D : Type 0} (model : Ghosts D) (old new : D) : Type 0 where
  pub same : model.seen new ≡ model.seen old
  pub adds_none : AddsNone (model.may_leave old) (model.may_leave new)
  pub run : LeavesOnly model old new (model.may_leave old)

-- The first `count` bytes of a buffer were written, and are these; it is as long as before.
pub record BeginsWith (count : ℕ) (bytes old new : List ℕ) : Type 0 where
  pub bytes_are : take count new ≡ bytes
  pub same : length new ≡ length old

-- the image after a whole commit: the bytes, and the gate open
abbrev pub after_commit : List ℕ → ℕ → List ℕ → ℕ → List ℕ
after_commit seen at bytes gate = after_write (after_write seen at bytes) gate (1 ∷ [])

-- What a stop leaves of a commit: an image left before it with the bytes torn, or all of the bytes with the
-- gate torn.
abbrev pub IsLeftInCommit : (List ℕ → Type 0) → List ℕ → ℕ → List ℕ → ℕ → List ℕ → Type 0
IsLeftInCommit before seen at bytes gate image =
    ((was : List ℕ) × before was × IsTorn at (length bytes) was image)
    ⊎ IsTorn gate 1 (after_write seen at bytes) image

-- What a stop leaves while a gate is being closed: nothing but the gate differs, and a gate that was closed
-- before is not open.
pub record IsLeftInShutting (seen : List ℕ) (gate : ℕ) (image : List ℕ) : Type 0 where
  pub torn : IsTorn gate 1 seen image
  pub opens_none : IsGateOpen image gate → IsGateOpen seen gate

-- the device calls that close a gate, with this many writes after that: a read, and if it was open a write
-- and a sync
pub record Shuts (seen : List ℕ) (gate writes : ℕ) (before now : Calls) : Type 0 where
  pub opened : IsGateOpen seen gate → MakesJust 1 (writes + 1) 1 before now
  pub closed : IsGateShut seen gate → MakesJust 1 writes 0 before now

-- the slot's gate is closed, and nothing outside its header has changed
pub record IsHeaderTorn (seen : List ℕ) (slot : ℕ) (image : List ℕ) : Type 0 where
  pub torn : IsTorn (header_of slot) header_bytes seen image
  pub shut : IsGateShut image (gate_of slot)

-- what a stop leaves while a slot is begun: its gate is being closed, or it is closed and the header is being
-- written
abbrev pub IsLeftInBeginning : List ℕ → ℕ → List ℕ → Type 0
IsLeftInBeginning seen slot image = IsLeftInShutting seen (gate_of slot) image ⊎ IsHeaderTorn seen slot image

-- the slot's gate is closed, its header has these fields, and nothing outside its header has changed
pub record IsSlotBegun (seen : List ℕ) (slot : ℕ) (fields : List ℕ) (image : List ℕ) : Type 0 where
  pub header : IsHeaderTorn seen slot image
  pub fields_are : bytes_at image (header_of slot) (length fields) ≡ fields

-- both header gates are closed
pub record IsCleared (image : List ℕ) : Type 0 where
  pub first : IsGateShut image (gate_of 0)
  pub second : IsGateShut image (gate_of 1)

-- both gates are closed, and the first slot has a header with generation 1 and the empty image
pub record IsFirstSlot (format : Format) (image : List ℕ) : Type 0 where
  pub cleared : IsCleared image
  pub fields_are : bytes_at image (header_of 0) 20 ≡ header_fields format 1 24
  pub image_is : bytes_at image (image_of 0) 24 ≡ empty_image

-- ---- formatting, which makes a new store on a disk (`docs/store.md`, "Formatting")

-- Six writes and three syncs make a store, and more are never made. The fault is `unformatted` exactly if the
-- disk doesn't have the size of a store, and `device` only if a call of the disk failed. With another fault
-- than `device` nothing was done to the disk. The three faults are parameters, since journal and keeper have
-- each their own type of faults.
pub record Formats {D T E : Type 0} (model : Ghosts D) (unformatted device memory : E) (result : Result T E)
    (old new : D) : Type 0 where
  pub wrong_size : IfErr result (λ fault. (fault ≡ unformatted) ↔ (model.size old ≢ device_bytes))
  pub faults : IfErr result (λ fault. (fault ≡ device) ⊎ ((fault ≡ unformatted) ⊎ (fault ≡ memory)))
  pub fault : IfErr result (λ fault. fault ≡ device → Rises (model.failures old) (model.failures new))
  pub untouched : IfErr result (λ fault. fault ≢ device → new ≡ old)
  pub still : OnOk result (model.failures new ≡ model.failures old)
  pub made : OnOk result (MakesJust 0 6 3 (model.calls old) (model.calls new))
  pub most : MakesAtMost 0 6 3 (model.calls old) (model.calls new)
  pub honesty : model.honest new ↔ model.honest old
  pub same_size : model.size new ≡ model.size old

-- the disk after formatting: the journal's, or the one given back beside the fault
abbrev pub disk_left : {D : Type 0} → Result (JournalState D) (StoreFault × D) → D
disk_left (Ok journal) = journal.disk
disk_left (Err refused) = refused.1
