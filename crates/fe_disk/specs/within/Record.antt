-- How the fields of a `Record` give the writes and syncs that callers see (`docs/model.md`, "The disk").
use Rattle.std.specs.Prelude.{◌≡◌, List, [], ◌∷◌, map, reverse}
use Rattle.fe_disk.specs.Memory.{DiskEvent, Write, Sync}
use Rattle.fe_disk.specs.declared.record.Replaced.{Replaced}
use Rattle.fe_disk.specs.declared.record.Past.{Past}
use Rattle.fe_disk.specs.declared.record.Past.TheOpen as shape
use Rattle.fe_disk.specs.declared.record.Past.TheFolds.{fold-Past}
use Rattle.fe_disk.specs.declared.record.Record.TheInside.{Inside}

-- the event of a write; `before` is the bytes that it replaced
abbrev pub event_of : Replaced → DiskEvent
event_of replaced = Write replaced.at replaced.before.items

-- the events of these writes, the latest first; the writes come in the order in which they were made
abbrev pub newest_first : List Replaced → List DiskEvent
newest_first writes = reverse (map event_of writes)

abbrev one_more : shape.Past-F (List DiskEvent) → List DiskEvent
one_more shape.None = []
one_more (shape.Wrote earlier replaced) = event_of replaced.value ∷ earlier.value
one_more (shape.Synced earlier) = Sync ∷ earlier.value

-- the writes and syncs, the latest first
abbrev pub events_in : Past → List DiskEvent
events_in past = fold-Past (List DiskEvent) one_more past

-- the writes since the last sync, the latest first
abbrev pub since_sync : List DiskEvent → List DiskEvent
since_sync [] = []
since_sync (Sync ∷ earlier) = []
since_sync (Write at before ∷ earlier) = Write at before ∷ since_sync earlier

abbrev pub events_of : Inside → List DiskEvent
events_of kept = events_in kept.past

-- what the code keeps are the writes since the last sync
abbrev pub IsUnsynced : Inside → Type 0
IsUnsynced kept = since_sync (events_in kept.past) ≡ newest_first kept.unsynced.items
