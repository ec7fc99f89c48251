-- What the calls of a journal keep, from what each step left.
use Rattle.std.proofs.Common.{◌≡◌, ℕ, ◌+◌, Bool, List, length, Option, sym, ◌∙◌, ap, subst, refl, arith}
use Rattle.fe_disk.specs.Disk.{LeavesJust}
use Rattle.fe_disk.specs.Runs.{LeavesOnly}
use Rattle.fe_disk.proofs.Moments.{started, weaker}
use Rattle.fe_journal.specs.Layout.{header_of, gate_of, image_of, area_of, other_than}
use Rattle.fe_journal.specs.Contents.{GroupFits, end_of_groups, after_gate, Contents, Holds, HoldsEither, with_group}
use Rattle.fe_journal.specs.Journal.{JournalState, Draft, IsDraft, IsLeft, KeepsContents, IsLeftInCommit, after_commit}
use Rattle.fe_journal.specs.within.Fields.{state_of}
use Rattle.fe_journal.specs.declared.journal.Journal.TheInside.{Inside}
use Rattle.fe_format.specs.declared.format.Format.{Format}
use Rattle.fe_journal.proofs.Bytes.{same_part, same_byte}
use Rattle.fe_journal.proofs.Frames.{draft_same, end_of_groups-more, image_short}
use Rattle.fe_journal.proofs.Appends.{left_in_append, appended_holds, appended_other}
use Rattle.fe_disk.specs.declared.disk.Disk.{Ghosts}

module _ {D : Type 0} (model : Ghosts D) where
  -- a call that does nothing
  pub nothing_done : (j : JournalState D) (c : Contents) (draft : Option Draft) (P : List ℕ → Type 0) → KeepsContents model j c draft → ((image : List ℕ) → model.left_since j.disk (model.moment j.disk) image → model.may_leave j.disk image)
      → ((image : List ℕ) → Holds c image → P image) → LeavesOnly model j.disk j.disk P
  nothing_done j c draft P keeps only_now has = started model j.disk P (λ image left. has image (keeps.left image (only_now image left)).holds)

  module _ (j : JournalState D) (c : Contents) (draft : Option Draft) (payload bytes : List ℕ) (gate : ℕ) (keeps : KeepsContents model j c draft) (stays : model.may_leave j.disk (model.seen j.disk))
      (at_gate : gate ≡ area_of j.slot + j.used) (fits : GroupFits j.format j.used (length payload)) (bytes_are : bytes ≡ after_gate payload) where
    gate_there : gate ≡ area_of c.slot + end_of_groups c.groups
    gate_there = let s : j.slot ≡ c.slot = keeps.slot_is in let u : j.used ≡ end_of_groups c.groups = keeps.used_is in omega arith

    fits_there : GroupFits c.format (end_of_groups c.groups) (length payload)
    fits_there = subst (λ (f : Format). GroupFits f (end_of_groups c.groups) (length payload)) keeps.format_is (subst (λ (k : ℕ). GroupFits j.format k (length payload)) keeps.used_is fits)

    holds_seen : Holds c (model.seen j.disk)
    holds_seen = (keeps.left (model.seen j.disk) stays).holds

    pub append_moments : (new : D) → LeavesOnly model j.disk new (IsLeftInCommit (model.may_leave j.disk) (model.seen j.disk) (gate + 1) bytes gate) → LeavesOnly model j.disk new (HoldsEither c (with_group c payload))
    append_moments new run =
        weaker model j.disk new (IsLeftInCommit (model.may_leave j.disk) (model.seen j.disk) (gate + 1) bytes gate) (HoldsEither c (with_group c payload))
        (left_in_append c payload bytes gate gate_there fits_there bytes_are (model.may_leave j.disk) (model.seen j.disk) (λ image left. (keeps.left image left).holds) holds_seen) run

    pub append_keeps : (new : D) (failed : Bool) (used : ℕ) → used ≡ j.used + (5 + length payload) → model.seen new ≡ after_commit (model.seen j.disk) (gate + 1) bytes gate → LeavesJust (model.seen new) (model.may_leave new)
        → KeepsContents model (record { disk = new; slot = j.slot; format = j.format; generation = j.generation; used = used; begun = j.begun; has_failed = failed }) (with_group c payload) draft
    append_keeps new failed used used_now committed just =
        let after = after_commit (model.seen j.disk) (gate + 1) bytes gate in
        let holds = appended_holds c payload bytes gate gate_there fits_there bytes_are (model.seen j.disk) holds_seen in
        let other = appended_other c payload bytes gate gate_there fits_there bytes_are (model.seen j.disk) holds_seen in
        let was : j.used ≡ end_of_groups c.groups = keeps.used_is in
        record {
          slot_is = keeps.slot_is;
          format_is = keeps.format_is;
          generation_is = keeps.generation_is;
          used_is = omega (arith, end_of_groups-more c.groups payload);
          begun_is = keeps.begun_is;
          left = λ image left. subst (λ (l : List ℕ). IsLeft (with_group c payload) draft l) (sym (just image left ∙ committed)) (record {
            holds = holds;
            shut = λ is_some is_open. (keeps.left (model.seen j.disk) stays).shut is_some (same_byte other 4095 (gate_of (other_than c.slot)) (gate_of (other_than c.slot)) (omega arith) refl refl ∙ is_open);
          });
          drafted = λ d is.
              let before = keeps.drafted d is in (
                subst (λ (l : List ℕ). IsDraft (other_than c.slot) d l) (sym committed) (draft_same (other_than c.slot) d (model.seen j.disk) after
                    (same_part other 0 20 (header_of (other_than c.slot)) (header_of (other_than c.slot)) (omega arith) (omega arith) (omega arith))
                    (same_part other 4096 (length d.bytes) (image_of (other_than c.slot)) (image_of (other_than c.slot)) (let w = before.0.within in omega (arith, image_short d.format d.image_length before.0.length_fits)) refl refl) before.0),
                before.1,
              );
          settled = λ _. just;
        }

  -- the same of the journal's own fields, which its callers see as j
  module _ (inside : Inside D) (j : JournalState D) (payload bytes : List ℕ) (area : ℕ) (same : state_of inside ≡ j) (stays : model.honest inside.disk → model.may_leave inside.disk (model.seen inside.disk))
      (area_is : area ≡ area_of inside.slot) (fits : GroupFits j.format j.used (length payload)) (bytes_are : bytes ≡ after_gate payload) where
    fits_inside : GroupFits inside.format inside.used (length payload)
    fits_inside = subst (λ (s : JournalState D). GroupFits s.format s.used (length payload)) (sym same) fits

    gate_inside : area + inside.used ≡ area_of inside.slot + inside.used
    gate_inside = ap (λ (k : ℕ). k + inside.used) area_is

    pub append_run : (new : D) → (model.honest inside.disk → LeavesOnly model inside.disk new (IsLeftInCommit (model.may_leave inside.disk) (model.seen inside.disk) (area + inside.used + 1) bytes (area + inside.used)))
        → model.honest j.disk → (c : Contents) (draft : Option Draft) → KeepsContents model j c draft → LeavesOnly model j.disk new (HoldsEither c (with_group c payload))
    append_run new run =
        subst (λ (s : JournalState D). model.honest s.disk → (c : Contents) (draft : Option Draft) → KeepsContents model s c draft → LeavesOnly model s.disk new (HoldsEither c (with_group c payload))) same
        (λ is c draft keeps. append_moments (state_of inside) c draft payload bytes (area + inside.used) keeps (stays is) gate_inside fits_inside bytes_are new (run is))

    pub append_kept : (new : D) → (model.honest inside.disk → model.seen new ≡ after_commit (model.seen inside.disk) (area + inside.used + 1) bytes (area + inside.used)) → (model.honest inside.disk → LeavesJust (model.seen new) (model.may_leave new))
        → model.honest j.disk → (c : Contents) (draft : Option Draft) → KeepsContents model j c draft
        → KeepsContents model (record (state_of inside) { disk = new; used = inside.used + (5 + length payload) }) (with_group c payload) draft
    append_kept new committed just =
        subst (λ (s : JournalState D). model.honest s.disk → (c : Contents) (draft : Option Draft) → KeepsContents model s c draft → KeepsContents model (record (state_of inside) { disk = new; used = inside.used + (5 + length payload) }) (with_group c payload) draft) same
        (λ is c draft keeps. append_keeps (state_of inside) c draft payload bytes (area + inside.used) keeps (stays is) gate_inside fits_inside bytes_are new inside.has_failed (inside.used + (5 + length payload)) refl (committed is) (just is))
