-- What the calls of a `MemoryDisk` do to the images that a stop may leave.
use Rattle.std.proofs.Common.{refl, ◌≡◌, ◌⊎◌, ℕ, ◌+◌, ◌-◌, ◌^◌, ◌<◌, ◌≤◌, List, ◌∷◌, length, get_or, inl, inr, ⊎_elim, sym, ◌∙◌, ap, subst, arith, Result, OnOk, OnErr}
use Rattle.std.proofs.lemmas.Bool.{cases_lt}
use Rattle.fe_disk.specs.Disk.{IsImage, IsTorn, Follows, Elapses, bytes_at, after_write}
use Rattle.fe_disk.specs.Memory.{DiskEvent, Write, MemoryState, MayLeave, LeftSince, LeavesNow, LeavesSince, moment_of, image_before, disk_after_write, disk_after_fault, AreWithin}
use Rattle.fe_disk.specs.declared.calls.Calls.{Calls}
use Rattle.fe_disk.proofs.Outcomes.{either}
use Rattle.fe_disk.proofs.Images.{length-bytes_at, get_or-bytes_at, length-after_write, after_write_below, after_write_inside, after_write_above, written_back, IsImage-after_write, small_at, IsTorn-same, IsTorn-back, IsTorn-after_write}

-- a write keeps what is true of every disk in memory
pub put_keeps : (old new : List ℕ) (events later : List DiskEvent) (at : ℕ) (bytes : List ℕ) → at + length bytes ≤ length old → ((i : ℕ) → get_or bytes i 0 < 2 ^ 8) → IsImage (length old) old
    → AreWithin (length old) events → new ≡ after_write old at bytes → later ≡ Write at (bytes_at old at (length bytes)) ∷ events → IsImage (length new) new × AreWithin (length new) later
put_keeps old new events later at bytes fits small is within now then =
    let same : length new ≡ length old = ap length now ∙ length-after_write old at bytes fits in
    let wrote = subst (λ (l : List ℕ). IsImage (length old) l) (sym now) (IsImage-after_write old at bytes fits small is) in
    let lies : AreWithin (length old) (Write at (bytes_at old at (length bytes)) ∷ events) = (omega (arith, length-bytes_at old at (length bytes) fits), within) in (
      subst (λ (n : ℕ). IsImage n new) (sym same) wrote,
      subst (λ (n : ℕ). AreWithin n later) (sym same) (subst (λ (l : List DiskEvent). AreWithin (length old) l) (sym then) lies),
    )

-- the step back in time that a new call adds
elapses_push : (old : MemoryState) (image : List ℕ) (event : DiskEvent) (calls : Calls) → length image ≡ length old.image → image_before event image ≡ old.image
    → Elapses moment_of LeavesSince LeavesNow old (record { image = image; events = event ∷ old.events; calls = calls; failures = old.failures })
elapses_push old image event calls whole back =
    record {
      later = omega arith;
      nothing_else = λ t left le since. ⊎_elim (λ now. inr now.1) (λ before. inl (subst (λ (n : ℕ). LeftSince n old.image old.events t left) whole (subst (λ (l : List ℕ). LeftSince (length image) l old.events t left) back before))) since;
      keeps = λ t left le past. inr (subst (λ (l : List ℕ). LeftSince (length image) l old.events t left) (sym back) (subst (λ (n : ℕ). LeftSince n old.image old.events t left) (sym whole) past));
    }

elapses_same : (old : MemoryState) (calls : Calls) (failures : ℕ)
    → Elapses moment_of LeavesSince LeavesNow old (record { image = old.image; events = old.events; calls = calls; failures = failures })
elapses_same old calls failures = record { later = omega arith; nothing_else = λ t left le since. inl since; keeps = λ t left le past. past }

module _ (old : MemoryState) (at : ℕ) (bytes : List ℕ) (fits : at + length bytes ≤ length old.image) (honest : IsImage (length old.image) old.image) where
  pub written_time : Elapses moment_of LeavesSince LeavesNow old (disk_after_write old at bytes)
  written_time = elapses_push old (after_write old.image at bytes) (Write at (bytes_at old.image at (length bytes))) (disk_after_write old at bytes).calls (length-after_write old.image at bytes fits) (written_back old.image at bytes fits)

  -- an image that may be left after the write, with the bytes from before the write in its range, might have been left before it
  was_left : (left : List ℕ) → MayLeave (length old.image) (disk_after_write old at bytes).image (disk_after_write old at bytes).events left
      → MayLeave (length old.image) old.image old.events (after_write left at (bytes_at old.image at (length bytes)))
  was_left left may =
      let long : length (bytes_at old.image at (length bytes)) ≡ length bytes = length-bytes_at old.image at (length bytes) fits in
      let whole : length left ≡ length old.image = may.bytes.whole in
      let fits_left : at + length (bytes_at old.image at (length bytes)) ≤ length left = omega (arith, long, whole) in
      let small : (i : ℕ) → get_or (bytes_at old.image at (length bytes)) i 0 < 2 ^ 8 = small_at old.image at (length bytes) honest in
      let is : IsImage (length left) left = subst (λ (k : ℕ). IsImage k left) (sym whole) may.bytes in
      let was = after_write left at (bytes_at old.image at (length bytes)) in
      record {
        bytes = subst (λ (k : ℕ). IsImage k was) whole (IsImage-after_write left at (bytes_at old.image at (length bytes)) fits_left small is);
        elsewhere = λ i settled. elim (cases_lt i at) [
          | inl low ↦
              after_write_below left at (bytes_at old.image at (length bytes)) fits_left i low
              ∙ may.elsewhere i (inl low, settled) ∙ after_write_below old.image at bytes fits i low
          | inr high ↦ elim (cases_lt i (at + length bytes)) [
            | inl inside ↦
                let there : at + (i - at) ≡ i = omega arith in
                let step : get_or was (at + (i - at)) 0 ≡ get_or old.image (at + (i - at)) 0 =
                after_write_inside left at (bytes_at old.image at (length bytes)) fits_left (i - at) (omega (arith, long)) ∙ get_or-bytes_at old.image at (length bytes) (i - at) (omega arith) in
                subst (λ (k : ℕ). get_or was k 0 ≡ get_or old.image k 0) there step
            | inr past ↦
                after_write_above left at (bytes_at old.image at (length bytes)) fits_left i (omega (arith, long))
                ∙ may.elsewhere i (inr (omega (arith, long)), settled) ∙ after_write_above old.image at bytes fits i past
          ]
        ];
      }

  pub written_stop : Follows (IsTorn at (length bytes)) (MayLeave (length old.image) old.image old.events)
      (MayLeave (length old.image) (disk_after_write old at bytes).image (disk_after_write old at bytes).events)
  written_stop = λ left may.
      let long : length (bytes_at old.image at (length bytes)) ≡ length bytes = length-bytes_at old.image at (length bytes) fits in
      let whole : length left ≡ length old.image = may.bytes.whole in
      let fits_left : at + length (bytes_at old.image at (length bytes)) ≤ length left = omega (arith, long, whole) in
      let torn : IsTorn at (length bytes) left (after_write left at (bytes_at old.image at (length bytes))) =
      subst (λ (k : ℕ). IsTorn at k left (after_write left at (bytes_at old.image at (length bytes)))) long (IsTorn-after_write left at (bytes_at old.image at (length bytes)) fits_left) in
      (after_write left at (bytes_at old.image at (length bytes)), was_left left may, IsTorn-back torn)

module _ {T E : Type 0} (result : Result T E) (old new : MemoryState) (at : ℕ) (bytes : List ℕ) (fits : at + length bytes ≤ length old.image) where
  -- which of the two a write has left
  left_by_write : OnOk result (new ≡ disk_after_write old at bytes) → OnErr result (new ≡ disk_after_fault old) → (new ≡ disk_after_write old at bytes) ⊎ (new ≡ disk_after_fault old)
  left_by_write ok err = either result ok err

  after_either : (P : MemoryState → Type 0) → OnOk result (new ≡ disk_after_write old at bytes) → OnErr result (new ≡ disk_after_fault old) → P (disk_after_write old at bytes) → P (disk_after_fault old) → P new
  after_either P ok err done refused = ⊎_elim (λ is. subst P (sym is) done) (λ is. subst P (sym is) refused) (left_by_write ok err)

  pub put_stop : OnOk result (new ≡ disk_after_write old at bytes) → OnErr result (new ≡ disk_after_fault old) → IsImage (length old.image) old.image
      → Follows (IsTorn at (length bytes)) (MayLeave (length old.image) old.image old.events) (MayLeave (length new.image) new.image new.events)
  put_stop ok err honest =
      after_either (λ s. Follows (IsTorn at (length bytes)) (MayLeave (length old.image) old.image old.events) (MayLeave (length s.image) s.image s.events)) ok err
      (subst (λ (k : ℕ). Follows (IsTorn at (length bytes)) (MayLeave (length old.image) old.image old.events) (MayLeave k (disk_after_write old at bytes).image (disk_after_write old at bytes).events))
      (sym (length-after_write old.image at bytes fits)) (written_stop old at bytes fits honest))
      (λ left may. (left, may, IsTorn-same at (length bytes) left))

  pub put_time : OnOk result (new ≡ disk_after_write old at bytes) → OnErr result (new ≡ disk_after_fault old) → IsImage (length old.image) old.image → Elapses moment_of LeavesSince LeavesNow old new
  put_time ok err honest =
      after_either (λ s. Elapses moment_of LeavesSince LeavesNow old s) ok err (written_time old at bytes fits honest)
      (elapses_same old (disk_after_fault old).calls (disk_after_fault old).failures)

  pub put_honest : OnOk result (new ≡ disk_after_write old at bytes) → OnErr result (new ≡ disk_after_fault old) → ((i : ℕ) → get_or bytes i 0 < 2 ^ 8) → IsImage (length old.image) old.image → IsImage (length new.image) new.image
  put_honest ok err small honest =
      after_either (λ s. IsImage (length s.image) s.image) ok err
      (subst (λ (k : ℕ). IsImage k (disk_after_write old at bytes).image) (sym (length-after_write old.image at bytes fits)) (IsImage-after_write old.image at bytes fits small honest))
      honest

  pub put_size : OnOk result (new ≡ disk_after_write old at bytes) → OnErr result (new ≡ disk_after_fault old) → length new.image ≡ length old.image
  put_size ok err = after_either (λ s. length s.image ≡ length old.image) ok err (length-after_write old.image at bytes fits) refl
