-- Of all writes and syncs, those that a stop still reaches: the writes since the last sync.
use Rattle.std.proofs.Common.{refl, ◌≡◌, ℕ, List, [], ◌∷◌}
use Rattle.fe_disk.specs.declared.memory_disk.Torn.{Torn}
use Rattle.fe_disk.specs.Memory.{DiskEvent, Write, Sync, AreWithin, image_with_tear, image_with_tears}
use Rattle.fe_disk.specs.within.Record.{since_sync}

pub tears_since : (torn : Torn) (image : List ℕ) (events : List DiskEvent) → image_with_tears torn image (since_sync events) ≡ image_with_tears torn image events
tears_since torn image [] = refl
tears_since torn image (Sync ∷ earlier) = refl
tears_since torn image (Write at before ∷ earlier) = tears_since torn (image_with_tear torn image at before) earlier

pub within_since : (size : ℕ) (events : List DiskEvent) → AreWithin size events → AreWithin size (since_sync events)
within_since size [] within = tt
within_since size (Sync ∷ earlier) within = tt
within_since size (Write at before ∷ earlier) within = (within.0, within_since size earlier within.1)
