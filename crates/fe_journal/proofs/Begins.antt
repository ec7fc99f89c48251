-- What the calls that make the other slot ready keep.
use Rattle.std.proofs.Common.{◌≡◌, ℕ, ◌+◌, ◌-◌, ◌<◌, ◌≤◌, ◌^◌, Bool, List, ◌++◌, length, length-append, Option, Some, None, IsSomeAnd, inl, inr, sym, ◌∙◌, ap, subst, refl, arith}
use Rattle.std.specs.Option.{ForSome}
use Rattle.fe_disk.specs.Disk.{IsTorn, Follows, LeavesJust, after_write, bytes_at}
use Rattle.fe_disk.specs.Runs.{HasElapsed, LeavesOnly}
use Rattle.fe_disk.proofs.Images.{length-after_write, IsTorn-after_write}
use Rattle.fe_disk.proofs.Moments.{goes_on, weaker}
use Rattle.fe_journal.specs.Layout.{header_of, gate_of, image_of, area_of, other_than}
use Rattle.fe_format.specs.Layout.{IsImageLength}
use Rattle.fe_journal.specs.Contents.{end_of_groups, Contents, Holds, HoldsEither}
use Rattle.fe_journal.specs.Journal.{JournalState, Draft, IsDraft, IsLeft, KeepsContents, IsCatchUp, catch_up_groups, new_draft, with_slice, with_draft, header_fields, area_start, IsLeftInCommit, IsLeftInBeginning, IsHeaderTorn, IsSlotBegun, after_commit}
use Rattle.fe_journal.specs.within.Fields.{state_of}
use Rattle.fe_journal.specs.declared.journal.Journal.TheInside.{Inside}
use Rattle.fe_format.specs.declared.format.Format.{Format}
use Rattle.fe_journal.specs.declared.begun.Begun.{Begun}
use Rattle.fe_journal.proofs.Bytes.{SameBytes, same_bytes_at, torn_same, written_same, joined_same, known_same}
use Rattle.fe_journal.proofs.Frames.{draft_same, image_short}
use Rattle.fe_journal.proofs.Spelled.{fields_spelled, bytes_whole, length-header_fields}
use Rattle.fe_journal.proofs.Slots.{begin_holds, slice_left, left_in_finish, finished_last}
use Rattle.fe_journal.proofs.Journals.{nothing_done}
use Rattle.fe_disk.specs.declared.disk.Disk.{Ghosts}

begun_same : (b e : Begun) → Some b ≡ Some e → b ≡ e
begun_same b e is = cc

-- a slice more stays within the image
pub within_more : (b : Begun) (n : ℕ) → b.written + n ≤ b.image_length → IsImageLength b.format b.image_length
    → ForSome {T = Begun} (Some (record { format = b.format; generation = b.generation; image_length = b.image_length; written = b.written + n })) (λ e. (e.written ≤ e.image_length) × IsImageLength e.format e.image_length)
within_more b n fits length_fits =
    let next : Begun = record { format = b.format; generation = b.generation; image_length = b.image_length; written = b.written + n } in
    λ e is. subst (λ (x : Begun). (x.written ≤ x.image_length) × IsImageLength x.format x.image_length) (begun_same next e is) (fits, length_fits)

-- what holds of the slot begun, as what holds of each that is begun
each_begun : (begun : Option Begun) (P : Begun → Type 0) → IsSomeAnd begun P → ForSome begun P
each_begun None P held = absurd held
each_begun (Some b) P held = λ e is. subst P (begun_same b e is) held

pub each_fits : (begun : Option Begun) (n : ℕ) → IsSomeAnd begun (λ b. b.written + n ≤ b.image_length) → ForSome begun (λ b. b.written + n ≤ b.image_length)
each_fits begun n held = each_begun begun (λ (b : Begun). b.written + n ≤ b.image_length) held

pub each_whole : (begun : Option Begun) (catch_up : List ℕ) → IsSomeAnd begun (λ b. (b.written ≡ b.image_length) × IsCatchUp b.format catch_up)
    → ForSome begun (λ b. (b.written ≡ b.image_length) × IsCatchUp b.format catch_up)
each_whole begun catch_up held = each_begun begun (λ (b : Begun). (b.written ≡ b.image_length) × IsCatchUp b.format catch_up) held

-- what a slice more makes of a draft
begun_more : (b : Begun) (d : Draft) (slice : List ℕ) → b ≡ record { format = d.format; generation = d.generation; image_length = d.image_length; written = length d.bytes }
    → ◌≡◌ {A = Option Begun} (Some (record { format = b.format; generation = b.generation; image_length = b.image_length; written = b.written + length slice }))
    (Some (record { format = d.format; generation = d.generation; image_length = d.image_length; written = length (d.bytes ++ slice) }))
begun_more b d slice same =
    let more : Begun → Option Begun = λ e. Some (record { format = e.format; generation = e.generation; image_length = e.image_length; written = e.written + length slice }) in
    let so_far : ℕ → Option Begun = λ n. Some (record { format = d.format; generation = d.generation; image_length = d.image_length; written = n }) in
    ap more same ∙ ap so_far (sym (length-append d.bytes slice))

module _ {D : Type 0} (model : Ghosts D) where
  module _ (j : JournalState D) (c : Contents) (d : Draft) (catch_up bytes : List ℕ) (at gate : ℕ) (keeps : KeepsContents model j c (Some d)) (stays : model.may_leave j.disk (model.seen j.disk))
      (at_is : at ≡ area_of (1 - j.slot)) (gate_is : gate ≡ gate_of (1 - j.slot)) (bytes_are : bytes ≡ area_start catch_up)
      (ready : ForSome j.begun (λ b. (b.written ≡ b.image_length) × IsCatchUp b.format catch_up)) where
    whole : (length d.bytes ≡ d.image_length) × IsCatchUp d.format catch_up
    whole = ready (record { format = d.format; generation = d.generation; image_length = d.image_length; written = length d.bytes }) keeps.begun_is

    at_there : at ≡ area_of (other_than c.slot)
    at_there = let s : j.slot ≡ c.slot = keeps.slot_is in omega arith

    gate_there : gate ≡ gate_of (other_than c.slot)
    gate_there = let s : j.slot ≡ c.slot = keeps.slot_is in omega arith

    pub finish_moments : (new : D) → LeavesOnly model j.disk new (IsLeftInCommit (model.may_leave j.disk) (model.seen j.disk) at bytes gate) → LeavesOnly model j.disk new (HoldsEither c (with_draft c d catch_up))
    finish_moments new run =
        weaker model j.disk new (IsLeftInCommit (model.may_leave j.disk) (model.seen j.disk) (area_of (other_than c.slot)) bytes (gate_of (other_than c.slot))) (HoldsEither c (with_draft c d catch_up))
        (left_in_finish c d catch_up bytes bytes_are (keeps.drafted d refl).1 whole.0 whole.1 (model.may_leave j.disk) (model.seen j.disk) keeps.left (keeps.left (model.seen j.disk) stays) (keeps.drafted d refl).0)
        (subst (λ (k : ℕ). LeavesOnly model j.disk new (IsLeftInCommit (model.may_leave j.disk) (model.seen j.disk) (area_of (other_than c.slot)) bytes k)) gate_there
        (subst (λ (k : ℕ). LeavesOnly model j.disk new (IsLeftInCommit (model.may_leave j.disk) (model.seen j.disk) k bytes gate)) at_there run))

    pub finish_keeps : (new : D) (b : Begun) (used : ℕ) (failed : Bool) → j.begun ≡ Some b → used ≡ end_of_groups (catch_up_groups catch_up) → model.seen new ≡ after_commit (model.seen j.disk) at bytes gate → LeavesJust (model.seen new) (model.may_leave new)
        → KeepsContents model (record { disk = new; slot = 1 - j.slot; format = b.format; generation = b.generation; used = used; begun = None; has_failed = failed }) (with_draft c d catch_up) None
    finish_keeps new b used failed begun used_is committed just =
        let same = begun_same b (record { format = d.format; generation = d.generation; image_length = d.image_length; written = length d.bytes }) (sym begun ∙ keeps.begun_is) in
        let there = committed ∙ ap (λ (k : ℕ). after_commit (model.seen j.disk) k bytes gate) at_there ∙ ap (λ (k : ℕ). after_commit (model.seen j.disk) (area_of (other_than c.slot)) bytes k) gate_there in
        let holds = finished_last c d catch_up bytes bytes_are (keeps.drafted d refl).1 whole.0 whole.1 (model.seen j.disk) (keeps.left (model.seen j.disk) stays) (keeps.drafted d refl).0 in
        record {
          slot_is = let s : j.slot ≡ c.slot = keeps.slot_is in ap (λ (k : ℕ). 1 - k) s;
          format_is = ap (λ (e : Begun). e.format) same;
          generation_is = ap (λ (e : Begun). e.generation) same;
          used_is = used_is;
          begun_is = refl;
          left = λ image left. record { holds = subst (λ (l : List ℕ). Holds (with_draft c d catch_up) l) (sym (just image left ∙ there)) holds; shut = λ is. cc };
          drafted = λ e is. cc;
          settled = λ _. just;
        }

  module _ (j : JournalState D) (c : Contents) (d : Draft) (slice : List ℕ) (at : ℕ) (b : Begun) (keeps : KeepsContents model j c (Some d)) (stays : model.may_leave j.disk (model.seen j.disk))
      (begun : j.begun ≡ Some b) (at_is : at ≡ image_of (1 - j.slot) + b.written) (fits : b.written + length slice ≤ b.image_length) where
    same : b ≡ record { format = d.format; generation = d.generation; image_length = d.image_length; written = length d.bytes }
    same = begun_same b (record { format = d.format; generation = d.generation; image_length = d.image_length; written = length d.bytes }) (sym begun ∙ keeps.begun_is)

    written : b.written ≡ length d.bytes
    written = ap (λ (e : Begun). e.written) same

    there : at ≡ image_of (other_than c.slot) + length d.bytes
    there = let s : j.slot ≡ c.slot = keeps.slot_is in omega (arith, written)

    within : length d.bytes + length slice ≤ d.image_length
    within = omega (arith, fits, written, ap (λ (e : Begun). e.image_length) same)

    short : d.image_length ≤ 774232
    short = image_short d.format d.image_length (keeps.drafted d refl).0.length_fits

    slice_leaves : (draft : Option Draft) (was image : List ℕ) → IsTorn at (length slice) was image → IsLeft c (Some d) was → IsLeft c draft image
    slice_leaves draft was image torn left = slice_left c draft d was image at (length slice) (omega (arith, there)) (omega (arith, there, within, short)) torn left

    pub write_moments : (new : D) → ((image : List ℕ) → model.left_since j.disk (model.moment j.disk) image → model.may_leave j.disk image) → Follows (IsTorn at (length slice)) (model.may_leave j.disk) (model.may_leave new)
        → HasElapsed model j.disk new → LeavesOnly model j.disk new (Holds c)
    write_moments new only_now follows time =
        goes_on model j.disk j.disk new (Holds c) (nothing_done model j c (Some d) (Holds c) keeps only_now (λ image holds. holds)) time
        (λ image now. let from = follows image now in (slice_leaves (Some d) from.0 image from.2 (keeps.left from.0 from.1)).holds)

    pub write_keeps : (new : D) (failed : Bool) → Follows (IsTorn at (length slice)) (model.may_leave j.disk) (model.may_leave new) → model.seen new ≡ after_write (model.seen j.disk) at slice
        → KeepsContents model (record { disk = new; slot = j.slot; format = j.format; generation = j.generation; used = j.used; begun = Some (record { format = b.format; generation = b.generation; image_length = b.image_length; written = b.written + length slice }); has_failed = failed }) c (Some (with_slice d slice))
    write_keeps new failed follows wrote =
        let old = model.seen j.disk in
        let left = keeps.left old stays in
        let is = (keeps.drafted d refl).0 in
        let is_slot : c.slot < 2 = left.holds.counts.is_slot in
        let size : length old ≡ 4202496 = left.holds.whole in
        let room : at + length slice ≤ length old = omega (arith, there, within, short) in
        let torn = IsTorn-after_write old at slice room in
        let image = after_write old at slice in
        let fields = torn_same at (length slice) old image torn (header_of (other_than c.slot)) 20 (inl (omega (arith, there))) (omega arith) in
        let before = torn_same at (length slice) old image torn (image_of (other_than c.slot)) (length d.bytes) (inl (omega (arith, there))) (omega (arith, there, room)) in
        let same_draft = draft_same (other_than c.slot) d old image fields before is in
        let long = length-after_write old at slice room in
        let known = known_same image (image_of (other_than c.slot)) (length d.bytes) d.bytes (omega (arith, there, room, long)) same_draft.bytes_are in
        let new_bytes = subst (λ (k : ℕ). SameBytes image k slice 0 (length slice)) there (written_same old at slice room) in
        let all = joined_same image (image_of (other_than c.slot)) d.bytes slice (length d.bytes) (length slice) refl refl known new_bytes in
        let count = length-append d.bytes slice in
        let whole = same_bytes_at all ∙ bytes_whole (d.bytes ++ slice) (length d.bytes + length slice) count in
        record {
          slot_is = keeps.slot_is;
          format_is = keeps.format_is;
          generation_is = keeps.generation_is;
          used_is = keeps.used_is;
          begun_is = begun_more b d slice same;
          left = λ l may. let from = follows l may in slice_leaves (Some (with_slice d slice)) from.0 l from.2 (keeps.left from.0 from.1);
          drafted = λ e e_is. subst (λ (x : Draft). IsDraft (other_than c.slot) x (model.seen new) × (x.generation ≡ c.generation + 1)) (draft_is e e_is) (
            subst (λ (l : List ℕ). IsDraft (other_than c.slot) (with_slice d slice) l) (sym wrote) (record {
              magic = same_draft.magic;
              generation_is = same_draft.generation_is;
              length_is = same_draft.length_is;
              length_fits = same_draft.length_fits;
              bytes_are = subst (λ (n : ℕ). bytes_at image (image_of (other_than c.slot)) n ≡ d.bytes ++ slice) (sym count) whole;
              within = omega (arith, count, within);
            }),
            (keeps.drafted d refl).1,
          );
          settled = λ is_none. cc;
        }
      where
        draft_is : (e : Draft) → Some (with_slice d slice) ≡ Some e → with_slice d slice ≡ e
        draft_is e is = cc

  module _ (j : JournalState D) (c : Contents) (format : Format) (generation image_length slot : ℕ) (keeps : KeepsContents model j c None) (stays : model.may_leave j.disk (model.seen j.disk))
      (slot_is : slot ≡ 1 - j.slot) (next : generation ≡ j.generation + 1) (small : generation < 256 ^ 8) (allowed : IsImageLength format image_length) where
    slot_there : slot ≡ other_than c.slot
    slot_there = let s : j.slot ≡ c.slot = keeps.slot_is in omega arith

    pub begin_moments : (new : D) → LeavesOnly model j.disk new (IsLeftInBeginning (model.seen j.disk) slot) → LeavesOnly model j.disk new (Holds c)
    begin_moments new run =
        weaker model j.disk new (IsLeftInBeginning (model.seen j.disk) (other_than c.slot)) (Holds c)
        (λ image left. begin_holds c (model.seen j.disk) image (keeps.left (model.seen j.disk) stays).holds left)
        (subst (λ (k : ℕ). LeavesOnly model j.disk new (IsLeftInBeginning (model.seen j.disk) k)) slot_there run)

    pub begin_keeps : (new : D) (failed : Bool) → ((image : List ℕ) → model.may_leave new image → IsHeaderTorn (model.seen j.disk) slot image) → IsSlotBegun (model.seen j.disk) slot (header_fields format generation image_length) (model.seen new)
        → KeepsContents model (record { disk = new; slot = j.slot; format = j.format; generation = j.generation; used = j.used; begun = Some (record { format = format; generation = generation; image_length = image_length; written = 0 }); has_failed = failed }) c (Some (new_draft format generation image_length))
    begin_keeps new failed lefts begun =
        let old = model.seen j.disk in
        let holds = (keeps.left old stays).holds in
        let is_slot : c.slot < 2 = holds.counts.is_slot in
        let size : length old ≡ 4202496 = holds.whole in
        let twenty = length-header_fields format generation image_length in
        let short = image_short format image_length allowed in
        let new_long : length (model.seen new) ≡ length old = begun.header.torn.whole in
        let fields = fields_spelled (model.seen new) (header_of (other_than c.slot)) format generation image_length small (omega arith)
        (subst (λ (k : ℕ). SameBytes (model.seen new) (header_of k) (header_fields format generation image_length) 0 20) slot_there
        (known_same (model.seen new) (header_of slot) 20 (header_fields format generation image_length) (omega (arith, slot_there)) (subst (λ (n : ℕ). bytes_at (model.seen new) (header_of slot) n ≡ header_fields format generation image_length) twenty begun.fields_are))) in
        record {
          slot_is = keeps.slot_is;
          format_is = keeps.format_is;
          generation_is = keeps.generation_is;
          used_is = keeps.used_is;
          begun_is = refl;
          left = λ image may.
              let torn = subst (λ (k : ℕ). IsHeaderTorn old k image) slot_there (lefts image may) in
              record { holds = begin_holds c old image holds (inr torn); shut = λ _. torn.shut };
          drafted = λ e e_is. subst (λ (x : Draft). IsDraft (other_than c.slot) x (model.seen new) × (x.generation ≡ c.generation + 1)) (draft_is e e_is) (
            record {
              magic = fields.magic;
              generation_is = fields.generation_is;
              length_is = fields.length_is;
              length_fits = allowed;
              bytes_are = refl;
              within = omega arith;
            },
            omega (arith, next, keeps.generation_is),
          );
          settled = λ is_none. cc;
        }
      where
        draft_is : (e : Draft) → Some (new_draft format generation image_length) ≡ Some e → new_draft format generation image_length ≡ e
        draft_is e is = cc

-- ---- the same of the journal's own fields, which its callers see as j

module _ {D : Type 0} (model : Ghosts D) (inside : Inside D) (j : JournalState D)
    (same : state_of inside ≡ j) (stays : model.honest inside.disk → model.may_leave inside.disk (model.seen inside.disk)) where
  module _ (catch_up bytes : List ℕ) (at gate : ℕ) (at_is : at ≡ area_of (1 - inside.slot)) (gate_is : gate ≡ gate_of (1 - inside.slot)) (bytes_are : bytes ≡ area_start catch_up)
      (ready : ForSome j.begun (λ b. (b.written ≡ b.image_length) × IsCatchUp b.format catch_up)) where
    ready_inside : ForSome inside.begun (λ b. (b.written ≡ b.image_length) × IsCatchUp b.format catch_up)
    ready_inside = subst (λ (s : JournalState D). ForSome s.begun (λ b. (b.written ≡ b.image_length) × IsCatchUp b.format catch_up)) (sym same) ready

    pub finish_run : (new : D) → (model.honest inside.disk → LeavesOnly model inside.disk new (IsLeftInCommit (model.may_leave inside.disk) (model.seen inside.disk) at bytes gate))
        → model.honest j.disk → (c : Contents) (d : Draft) → KeepsContents model j c (Some d) → LeavesOnly model j.disk new (HoldsEither c (with_draft c d catch_up))
    finish_run new run =
        subst (λ (s : JournalState D). model.honest s.disk → (c : Contents) (d : Draft) → KeepsContents model s c (Some d) → LeavesOnly model s.disk new (HoldsEither c (with_draft c d catch_up))) same
        (λ is c d keeps. finish_moments model (state_of inside) c d catch_up bytes at gate keeps (stays is) at_is gate_is bytes_are ready_inside new (run is))

    pub finish_kept : (new : D) (b : Begun) (used : ℕ) → inside.begun ≡ Some b → used ≡ end_of_groups (catch_up_groups catch_up) → (model.honest inside.disk → model.seen new ≡ after_commit (model.seen inside.disk) at bytes gate) → (model.honest inside.disk → LeavesJust (model.seen new) (model.may_leave new))
        → model.honest j.disk → (c : Contents) (d : Draft) → KeepsContents model j c (Some d)
        → KeepsContents model (record { disk = new; slot = 1 - inside.slot; format = b.format; generation = b.generation; used = used; begun = None; has_failed = inside.has_failed }) (with_draft c d catch_up) None
    finish_kept new b used begun end committed just =
        subst (λ (s : JournalState D). model.honest s.disk → (c : Contents) (d : Draft) → KeepsContents model s c (Some d)
        → KeepsContents model (record { disk = new; slot = 1 - inside.slot; format = b.format; generation = b.generation; used = used; begun = None; has_failed = inside.has_failed }) (with_draft c d catch_up) None) same
        (λ is c d keeps. finish_keeps model (state_of inside) c d catch_up bytes at gate keeps (stays is) at_is gate_is bytes_are ready_inside new b used inside.has_failed begun end (committed is) (just is))

  module _ (slice : List ℕ) (at : ℕ) (b : Begun) (begun : inside.begun ≡ Some b) (at_is : at ≡ image_of (1 - inside.slot) + b.written) (fits : b.written + length slice ≤ b.image_length) where
    pub write_run : (new : D) → (model.honest inside.disk → (image : List ℕ) → model.left_since inside.disk (model.moment inside.disk) image → model.may_leave inside.disk image)
        → (model.honest inside.disk → Follows (IsTorn at (length slice)) (model.may_leave inside.disk) (model.may_leave new)) → (model.honest inside.disk → HasElapsed model inside.disk new)
        → model.honest j.disk → (c : Contents) (d : Draft) → KeepsContents model j c (Some d) → LeavesOnly model j.disk new (Holds c)
    write_run new only_now follows time =
        subst (λ (s : JournalState D). model.honest s.disk → (c : Contents) (d : Draft) → KeepsContents model s c (Some d) → LeavesOnly model s.disk new (Holds c)) same
        (λ is c d keeps. write_moments model (state_of inside) c d slice at b keeps (stays is) begun at_is fits new (only_now is) (follows is) (time is))

    pub write_kept : (new : D) → (model.honest inside.disk → Follows (IsTorn at (length slice)) (model.may_leave inside.disk) (model.may_leave new)) → (model.honest inside.disk → model.seen new ≡ after_write (model.seen inside.disk) at slice)
        → model.honest j.disk → (c : Contents) (d : Draft) → KeepsContents model j c (Some d)
        → KeepsContents model (record (state_of inside) { disk = new; begun = Some (record b { written = b.written + length slice }) }) c (Some (with_slice d slice))
    write_kept new follows wrote =
        subst (λ (s : JournalState D). model.honest s.disk → (c : Contents) (d : Draft) → KeepsContents model s c (Some d)
        → KeepsContents model (record (state_of inside) { disk = new; begun = Some (record b { written = b.written + length slice }) }) c (Some (with_slice d slice))) same
        (λ is c d keeps. write_keeps model (state_of inside) c d slice at b keeps (stays is) begun at_is fits new inside.has_failed (follows is) (wrote is))

  module _ (format : Format) (generation image_length slot : ℕ) (slot_is : slot ≡ 1 - inside.slot) (next : generation ≡ j.generation + 1) (small : generation < 256 ^ 8) (allowed : IsImageLength format image_length) where
    next_inside : generation ≡ inside.generation + 1
    next_inside = next ∙ ap (λ (s : JournalState D). s.generation + 1) (sym same)

    pub begin_run : (new : D) → (model.honest inside.disk → LeavesJust (model.seen inside.disk) (model.may_leave inside.disk) → LeavesOnly model inside.disk new (IsLeftInBeginning (model.seen inside.disk) slot))
        → model.honest j.disk → (c : Contents) → KeepsContents model j c None → LeavesOnly model j.disk new (Holds c)
    begin_run new run =
        subst (λ (s : JournalState D). model.honest s.disk → (c : Contents) → KeepsContents model s c None → LeavesOnly model s.disk new (Holds c)) same
        (λ is c keeps. begin_moments model (state_of inside) c format generation image_length slot keeps (stays is) slot_is next_inside small allowed new (run is (keeps.settled refl)))

    pub begin_kept : (new : D) → (model.honest inside.disk → LeavesJust (model.seen inside.disk) (model.may_leave inside.disk) → (image : List ℕ) → model.may_leave new image → IsHeaderTorn (model.seen inside.disk) slot image)
        → (model.honest inside.disk → IsSlotBegun (model.seen inside.disk) slot (header_fields format generation image_length) (model.seen new))
        → model.honest j.disk → (c : Contents) → KeepsContents model j c None
        → KeepsContents model (record (state_of inside) { disk = new; begun = Some (record { format = format; generation = generation; image_length = image_length; written = 0 }) }) c (Some (new_draft format generation image_length))
    begin_kept new lefts begun =
        subst (λ (s : JournalState D). model.honest s.disk → (c : Contents) → KeepsContents model s c None
        → KeepsContents model (record (state_of inside) { disk = new; begun = Some (record { format = format; generation = generation; image_length = image_length; written = 0 }) }) c (Some (new_draft format generation image_length))) same
        (λ is c keeps. begin_keeps model (state_of inside) c format generation image_length slot keeps (stays is) slot_is next_inside small allowed new inside.has_failed (lefts is (keeps.settled refl)) (begun is))
