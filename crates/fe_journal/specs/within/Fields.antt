-- How the fields of a `Journal` give what its callers see, and what holds of them (`docs/model.md`, "The
-- journal").
use Rattle.std.specs.Prelude.{◌≡◌, ◌≤◌, ◌<◌, vec_len}
use Rattle.std.specs.Option.{ForSome}
use Rattle.fe_journal.specs.Journal.{JournalState}
use Rattle.fe_journal.specs.Layout.{device_bytes, area_bytes}
use Rattle.fe_format.specs.Layout.{IsImageLength}
use Rattle.fe_journal.specs.declared.journal.Journal.TheInside.{Inside}
use Rattle.fe_disk.specs.declared.disk.Disk.{Ghosts}

abbrev pub state_of : {D : Type 0} → Inside D → JournalState D
state_of j = record {
  disk = j.disk;
  slot = j.slot;
  format = j.format;
  generation = j.generation;
  used = j.used;
  begun = j.begun;
  has_failed = j.has_failed;
}

-- the disk has a store's size, the buffer an area's, the gate after the groups lies in the area, and of a
-- slot begun no more is written than its image's length, which its format allows
pub record IsJournal {D : Type 0} (model : Ghosts D) (j : Inside D) : Type 0 where
  pub device : model.size j.disk ≡ device_bytes
  pub buffer : vec_len j.buffer ≡ area_bytes
  pub is_slot : j.slot < 2
  pub within : j.used < area_bytes
  pub begun_within : ForSome j.begun (λ b. (b.written ≤ b.image_length)
      × IsImageLength b.format b.image_length)
