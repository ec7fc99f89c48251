-- Whom a hold of a hall's lock owes the ring of a bell, a condition variable, since what it did may be what
-- they wait for. See `docs/model.md`, "The hall".
use Rattle.std.specs.Prelude.{ℕ, Bool, not, ◌&&◌, ◌==◌, if◌then◌else◌, Option, Some}
use Rattle.fe_shared.specs.declared.bells.Whom.{Whom}
use Rattle.fe_shared.specs.declared.bells.Whom.TheVariants.{Nobody, Committing, Sides, CommittingAndSides}
use Rattle.fe_shared.specs.declared.bells.Whom.TheVariants.{Room}
use Rattle.fe_shared.specs.declared.shared.batches.CutOutcome.{CutOutcome}
use Rattle.fe_shared.specs.declared.shared.batches.CutOutcome.TheVariants as cutting
use Rattle.fe_shared.specs.declared.taking.Taking.{Taking}
use Rattle.fe_shared.specs.declared.taking.Taking.TheVariants as taking

-- A message of a connection was handled: the committing side, since entries may be pending; and the
-- connection's sides, if mails were made.
abbrev pub owed_by_message : ℕ → ℕ → ℕ → Whom
owed_by_message conn before after = if before == after then Committing else CommittingAndSides conn

-- the sides of a connection, if so
abbrev pub sides_if : Bool → ℕ → Whom
sides_if concerns conn = if concerns then Sides conn else Nobody

-- The last mail was taken out of a connection's box: its read side, if that waits for its box.
abbrev pub owed_by_look : ℕ → Bool → Option Taking → Whom
owed_by_look conn watched (Some (taking.Mail mail more)) = sides_if (not more && watched) conn
owed_by_look conn watched _ = Nobody

-- A batch was cut: those who wait for room.
abbrev pub owed_by_cut : Option CutOutcome → Whom
owed_by_cut (Some (cutting.Batch cut)) = Room
owed_by_cut _ = Nobody
