-- What holds as the slices that are left are written.
use Rattle.std.proofs.Common.{◌≡◌, ◌↔◌, ℕ, ◌+◌, ◌-◌, ◌<◌, ◌≤◌, Option, Some, None, Bool, true, false, not, nat_le, if◌then◌else◌, ◌∙◌, ap, subst, refl, sym, arith, inl, inr}
use Rattle.std.proofs.lemmas.Bool.{cases_lt}
use Rattle.std.proofs.lemmas.Bool.Decides.{nat_tests}
use Rattle.std.specs.Option.{option_map_or}
use Rattle.std.specs.Prelude.{Result, Ok}
use Rattle.fe_journal.specs.Layout.{slice_bytes}
use Rattle.fe_journal.specs.declared.fault.JournalFault.{JournalFault}
use Rattle.fe_disk.specs.Disk.{MakesAtMost}
use Rattle.fe_disk.specs.Runs.{LeavesOnly}
use Rattle.fe_disk.proofs.Moments.{joined}
use Rattle.fe_state.specs.State.{ServerState}
use Rattle.fe_format.specs.declared.format.Format.{Format}
use Rattle.fe_keeper.specs.Keeper.{Progress, StoreState, stepped, finished, has_slices, slices_of, slices_left}
use Rattle.fe_keeper.specs.Stands.{StandsFor}
use Rattle.fe_keeper.specs.within.Ends.{StoreEnds, StaysSound, Carries, HasCheckpoint}
use Rattle.fe_keeper.specs.within.Upholds.{Upholds, store_of}
use Rattle.fe_keeper.specs.declared.keeper_store.KeeperStore.{KeeperStore}
use Rattle.fe_keeper.proofs.Checkpoints.{stays}
use Rattle.fe_disk.specs.declared.disk.Disk.{Ghosts}

-- how many bytes of the image are left
abbrev pub bytes_left : Option Progress → ℕ
bytes_left checkpoint = option_map_or (λ p. p.size - p.written) checkpoint 0

-- Over an honest disk: what stops leave stands for the state, and the store upholds it still.
pub record GoesOn {D : Type 0} (model : Ghosts D) (old now : KeeperStore D) (s : ServerState) : Type 0 where
  pub run : LeavesOnly model old.journal.disk now.journal.disk (λ image. StandsFor image s)
  pub upheld : Upholds model now s

-- What slices leave of a store: nothing that a finish takes is changed.
pub record IsWriting {D : Type 0} (model : Ghosts D) (old now : KeeperStore D) : Type 0 where
  pub ready : HasCheckpoint now
  pub goes_on : model.honest old.journal.disk → (s : ServerState) → Upholds model old s → GoesOn model old now s
  pub value : finished (store_of now) ≡ record (finished (store_of old)) { disk = now.journal.disk }
  pub still : model.failures now.journal.disk ≡ model.failures old.journal.disk
  pub place : now.place ≡ old.place
  pub reads : (model.calls now.journal.disk).reads ≡ (model.calls old.journal.disk).reads
  pub more : (model.calls old.journal.disk).writes ≤ (model.calls now.journal.disk).writes
  pub writes : (model.calls now.journal.disk).writes + slices_left (store_of now).checkpoint ≤ (model.calls old.journal.disk).writes + slices_left (store_of old).checkpoint
  pub syncs : (model.calls now.journal.disk).syncs ≡ (model.calls old.journal.disk).syncs
  pub honesty : model.honest now.journal.disk ↔ model.honest old.journal.disk

-- what a store has of each of its parts
abbrev of_parts : {D : Type 0} → D → ℕ → Format → ℕ → Bool → Option Progress → StoreState D
of_parts disk place format used failed checkpoint = record { disk = disk; place = place; format = format; used = used; checkpoint = checkpoint; has_failed = failed }

stepped_parts : {D : Type 0} (disk new : D) (place : ℕ) (format : Format) (used : ℕ) (failed : Bool) (checkpoint : Option Progress)
    → finished (record (stepped (of_parts disk place format used failed checkpoint)) { disk = new }) ≡ record (finished (of_parts disk place format used failed checkpoint)) { disk = new }
stepped_parts disk new place format used failed None = refl
stepped_parts disk new place format used failed (Some p) = refl

above : (a b : ℕ) → not (nat_le a b) ≡ true → b < a
above a b is = grind (arith, nat_tests)

below : (a b : ℕ) → a ≤ b → not (nat_le a b) ≡ false
below a b is = grind (arith, nat_tests)

slices_fewer : (size written : ℕ) (short : Bool) → nat_le (size - written) slice_bytes ≡ short → written < size → slices_of (size - (written + (if short then size - written else slice_bytes))) + 1 ≤ slices_of (size - written)
slices_fewer size written true is less = omega arith
slices_fewer size written false is less = let long = above (size - written) slice_bytes (ap not is) in omega (arith, long)

no_more : (size written n : ℕ) → size ≤ written → slices_of (size - (written + n)) ≤ slices_of (size - written)
no_more size written n is = let none : size - (written + n) ≡ size - written = omega arith in subst (λ (k : ℕ). slices_of k ≤ slices_of (size - written)) (sym none) (omega arith)

counted_parts : {D : Type 0} (disk : D) (place : ℕ) (format : Format) (used : ℕ) (failed : Bool) (checkpoint : Option Progress) (before after : ℕ)
    → after ≤ before + 1 → (has_slices checkpoint ≡ false → after ≡ before) → after + slices_left (stepped (of_parts disk place format used failed checkpoint)).checkpoint ≤ before + slices_left checkpoint
counted_parts disk place format used failed None before after one rests = let same = rests refl in omega (arith, same)
counted_parts disk place format used failed (Some p) before after one rests = elim (cases_lt p.written p.size) [
  | inl less ↦ let fewer = slices_fewer p.size p.written (nat_le (p.size - p.written) slice_bytes) refl less in omega (arith, fewer, one)
  | inr whole ↦
      let same = rests (below p.size p.written whole) in
      let fewer = no_more p.size p.written (if nat_le (p.size - p.written) slice_bytes then p.size - p.written else slice_bytes) whole in
      omega (arith, same, fewer)
]

-- with a slice written one fewer is left
counted : {D : Type 0} (store new : StoreState D) (disk : D) (before after : ℕ) → new ≡ record (stepped store) { disk = disk } → after ≤ before + 1 → (has_slices store.checkpoint ≡ false → after ≡ before)
    → after + slices_left new.checkpoint ≤ before + slices_left store.checkpoint
counted {D = D} store new disk before after is one rests =
    let same : new.checkpoint ≡ (stepped store).checkpoint = ap (λ (t : StoreState D). t.checkpoint) is in
    subst (λ (o : Option Progress). after + slices_left o ≤ before + slices_left store.checkpoint) (sym same)
    (counted_parts store.disk store.place store.format store.used store.has_failed store.checkpoint before after one rests)

module _ {D : Type 0} (model : Ghosts D) where
  -- a run that went on by one call
  pub moments_more : {T : Type 0} (result : Result T JournalFault) (old now new : KeeperStore D) → IsWriting model old now
      → (model.honest now.journal.disk → (s : ServerState) → Upholds model now s → Carries model result now new s)
      → model.honest old.journal.disk → (s : ServerState) → Upholds model old s → LeavesOnly model old.journal.disk new.journal.disk (λ image. StandsFor image s)
  moments_more result old now new so_far carries is s upholds =
      let on = so_far.goes_on is s upholds in
      joined model old.journal.disk now.journal.disk new.journal.disk (λ image. StandsFor image s) on.run (carries (so_far.honesty.1 is) s on.upheld).any_moment

  -- a slice more
  pub one_more : (more : Bool) (old now new : KeeperStore D) → IsWriting model old now → StaysSound now new → HasCheckpoint new
      → (model.honest now.journal.disk → (s : ServerState) → Upholds model now s → Carries model (Ok more) now new s)
      → store_of new ≡ record (stepped (store_of now)) { disk = new.journal.disk } → StoreEnds model (Ok more) now.journal new.journal
      → MakesAtMost 0 1 0 (model.calls now.journal.disk) (model.calls new.journal.disk) → (has_slices (store_of now).checkpoint ≡ false → new ≡ now)
      → IsWriting model old new
  one_more more old now new so_far stays ready carries value ends made rests =
      let finishes = ap (λ (t : StoreState D). finished t) value ∙ stepped_parts now.journal.disk new.journal.disk now.place now.journal.format now.journal.used now.journal.has_failed (store_of now).checkpoint in
      let taken : StoreState D → StoreState D = λ t. record t { disk = new.journal.disk } in
      let again = ap taken so_far.value in
      let fewer = counted (store_of now) (store_of new) new.journal.disk (model.calls now.journal.disk).writes (model.calls new.journal.disk).writes value made.1.1
      (λ none. ap (λ (t : KeeperStore D). (model.calls t.journal.disk).writes) (rests none)) in
      record {
        ready = ready;
        goes_on = λ is s upholds. record {
          run = moments_more (Ok more) old now new so_far carries is s upholds;
          upheld = (carries (so_far.honesty.1 is) s (so_far.goes_on is s upholds).upheld).upheld;
        };
        value = finishes ∙ again;
        still = ends.outcome.still ∙ so_far.still;
        place = stays.place ∙ so_far.place;
        reads = omega (arith, made.0.0, made.0.1, so_far.reads);
        more = omega (arith, made.1.0, so_far.more);
        writes = omega (arith, fewer, so_far.writes);
        syncs = omega (arith, made.2.0, made.2.1, so_far.syncs);
        honesty = (λ is. so_far.honesty.0 (ends.honesty.0 is), λ is. ends.honesty.1 (so_far.honesty.1 is));
      }
