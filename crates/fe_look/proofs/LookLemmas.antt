-- What a look writes where no store is opened, and what a look at a copy says of the store.
use Rattle.std.proofs.Common.{ℕ, List, Option, ◌∙◌, sym}
use Rattle.std.proofs.KnownBytes.{Appends-nil}
use Rattle.fe_state.specs.State.{ServerState, first_state}
use Rattle.fe_keeper.specs.Damage.{IsDamagedAt, InSlot, InContents}
use Rattle.fe_keeper.specs.Stands.{StandsFor}
use Rattle.fe_store.specs.Opening.{IsReason, TellsImage}
use Rattle.fe_store.specs.declared.fault.OpenFault.{OpenFault}
use Rattle.fe_store.specs.declared.fault.OpenFault.TheVariants.{Device, Memory, Size, Unformatted, Damaged}
use Rattle.fe_look.specs.Reading.{IsCopyOf}
use Rattle.fe_look.specs.Look.{Shows, ShowsFront}

-- nothing is written
pub shows_nothing : (o : Option (List ℕ)) → ShowsFront o o
shows_nothing o = record { state = first_state; count = 0; written = Appends-nil o }

module _ (image copy : List ℕ) (is : IsCopyOf image copy) where
  pub stands_in_copy : (s : ServerState) → StandsFor image s → StandsFor copy s
  stands_in_copy s stands = record { contents = stands.contents; holds = (is.holds stands.contents).0 stands.holds; stands = stands.stands }

  pub stands_in_store : (s : ServerState) → StandsFor copy s → StandsFor image s
  stands_in_store s stands = record { contents = stands.contents; holds = (is.holds stands.contents).1 stands.holds; stands = stands.stands }

  pub shows_store : (before after : Option (List ℕ)) → Shows copy before after → Shows image before after
  shows_store before after shows = record { state = shows.state; stands = stands_in_store shows.state shows.stands; written = shows.written }

  damaged_in_store : (offset : ℕ) → IsDamagedAt copy offset → IsDamagedAt image offset
  damaged_in_store offset (InSlot whole damaged) = InSlot (sym is.whole ∙ whole) ((is.damaged offset).1 damaged)
  damaged_in_store offset (InContents c holds wrong) = InContents c ((is.holds c).1 holds) wrong

  tells_store : (why : OpenFault) → TellsImage why copy → TellsImage why image
  tells_store Unformatted tells = is.unformatted.1 tells
  tells_store (Damaged offset) tells = damaged_in_store offset tells
  tells_store Device tells = tt
  tells_store (Memory error) tells = tt
  tells_store (Size found) tells = tt

  pub reason_of_store : (why : OpenFault) → IsReason copy why → IsReason image why
  reason_of_store why reason = record { tells = tells_store why reason.tells; valid = λ s stands. reason.valid s (stands_in_copy s stands) }
