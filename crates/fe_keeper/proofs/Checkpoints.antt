-- What the calls that begin a checkpoint and write its slices keep, over an honest disk.
use Rattle.std.proofs.Common.{◌≡◌, ℕ, ◌+◌, ◌-◌, ◌≤◌, List, [], ◌++◌, take, drop, Option, Some, None, Bool, IsTrue, is_none, ◌&&◌, sym, ◌∙◌, ap, subst, refl, arith}
use Rattle.std.proofs.Math.Seq.{take-add}
use Rattle.std.specs.Option.{option_map}
use Rattle.fe_disk.specs.Runs.{LeavesOnly}
use Rattle.fe_disk.proofs.Moments.{started, weaker}
use Rattle.fe_state.specs.State.{ServerState}
use Rattle.fe_codec.specs.Image.{image_spelling, FitsImage}
use Rattle.fe_format.specs.declared.format.Format.TheVariants.{Two}
use Rattle.fe_journal.specs.Contents.{Contents, Holds}
use Rattle.fe_journal.specs.Journal.{JournalState, Draft, KeepsContents, new_draft, with_slice}
use Rattle.fe_keeper.specs.Stands.{Stands, StandsFor}
use Rattle.fe_keeper.specs.within.Upholds.{IsDraftOf, IsDrafted, Upholds, progress_of, KeepsDraft}
use Rattle.fe_keeper.specs.declared.checkpoint.Checkpoint.{Checkpoint}
use Rattle.fe_keeper.specs.declared.keeper_store.KeeperStore.{KeeperStore}
use Rattle.fe_disk.specs.declared.disk.Disk.{Ghosts}

-- an image that holds what stands for a state stands for it
pub holds_stand : (c : Contents) (s : ServerState) → Stands c s → (image : List ℕ) → Holds c image → StandsFor image s
holds_stand c s stands image holds = record { contents = c; holds = holds; stands = stands }

-- with no checkpoint under way there is no draft, and with one there is
drafted_none : (draft : Option Draft) (s : ServerState) → IsDrafted None draft s → draft ≡ None
drafted_none None s is = refl
drafted_none (Some d) s is = absurd is

drafted_some : (c : Checkpoint) (draft : Option Draft) (s : ServerState) → IsDrafted (Some c) draft s → (d : Draft) × (draft ≡ Some d) × IsDraftOf c d s
drafted_some c None s is = absurd is
drafted_some c (Some d) s is = (d, refl, is)

-- where a checkpoint can be begun, none is under way
pub none_under_way : (checkpoint : Option Checkpoint) (behind : Bool) → IsTrue (is_none (option_map progress_of checkpoint) && behind) → checkpoint ≡ None
none_under_way None behind is = refl
none_under_way (Some c) behind is = cc

-- the draft of a checkpoint of which nothing is written
new_is_draft : (c : Checkpoint) (s : ServerState) (generation n : ℕ) → FitsImage Two s → c.image.items ≡ image_spelling Two s → c.written ≡ 0 → c.place ≡ s.place → c.catch_up.items ≡ []
    → IsDraftOf c (new_draft Two generation n) s
new_is_draft c s generation n fits image_is written place empty =
    record {
      base = s;
      entries = [];
      fits = fits;
      image_is = image_is;
      written_is = sym (ap (λ (k : ℕ). take k c.image.items) written);
      place_is = place;
      caught_up = empty;
      group = tt;
      legal = tt;
      state_is = refl;
    }

-- the draft with a slice more is that of the checkpoint that has written it
slice_is_draft : (c : Checkpoint) (d : Draft) (s : ServerState) (end : ℕ) (slice : List ℕ) → c.written ≤ end → slice ≡ take (end - c.written) (drop c.written c.image.items) → IsDraftOf c d s
    → IsDraftOf (record c { written = end }) (with_slice d slice) s
slice_is_draft c d s end slice more slice_is is =
    let ends : c.written + (end - c.written) ≡ end = omega arith in
    record {
      base = is.base;
      entries = is.entries;
      fits = is.fits;
      image_is = is.image_is;
      written_is = ap (λ (l : List ℕ). l ++ slice) is.written_is ∙ ap (λ (l : List ℕ). take c.written c.image.items ++ l) slice_is ∙ sym (take-add c.written (end - c.written) c.image.items)
          ∙ ap (λ (k : ℕ). take k c.image.items) ends;
      place_is = is.place_is;
      caught_up = is.caught_up;
      group = is.group;
      legal = is.legal;
      state_is = is.state_is;
    }

module _ {D : Type 0} (model : Ghosts D) where
  settled : (store : KeeperStore D) (s : ServerState) → store.checkpoint ≡ None → (u : Upholds model store s) → KeepsContents model store.journal u.contents None
  settled store s none u =
      let drafted : IsDrafted None u.draft s = subst (λ (o : Option Checkpoint). IsDrafted o u.draft s) none u.drafted in
      subst (λ (o : Option Draft). KeepsContents model store.journal u.contents o) (drafted_none u.draft s drafted) u.keeps

  -- a store that does nothing
  pub stays : (store : KeeperStore D) (s : ServerState) → ((image : List ℕ) → model.left_since store.journal.disk (model.moment store.journal.disk) image → model.may_leave store.journal.disk image) → Upholds model store s
      → LeavesOnly model store.journal.disk store.journal.disk (λ image. StandsFor image s)
  stays store s only_now u =
      started model store.journal.disk (λ image. StandsFor image s) (λ image left. holds_stand u.contents s u.stands image (u.keeps.left image (only_now image left)).holds)

  pub begin_moments : (store : KeeperStore D) (s : ServerState) (new : D) → store.checkpoint ≡ None → Upholds model store s
      → ((c : Contents) → KeepsContents model store.journal c None → LeavesOnly model store.journal.disk new (Holds c))
      → LeavesOnly model store.journal.disk new (λ image. StandsFor image s)
  begin_moments store s new none u run =
      weaker model store.journal.disk new (Holds u.contents) (λ image. StandsFor image s) (holds_stand u.contents s u.stands) (run u.contents (settled store s none u))

  pub begin_upheld : (store : KeeperStore D) (s : ServerState) (j : JournalState D) (c : Checkpoint) (generation n : ℕ) → store.checkpoint ≡ None → Upholds model store s
      → ((k : Contents) → KeepsContents model store.journal k None → KeepsContents model j k (Some (new_draft Two generation n)))
      → FitsImage Two s → c.image.items ≡ image_spelling Two s → c.written ≡ 0 → c.place ≡ s.place → c.catch_up.items ≡ []
      → Upholds model (record { journal = j; group = store.group; place = store.place; checkpoint = Some c }) s
  begin_upheld store s j c generation n none u closed fits image_is written place empty =
      record {
        contents = u.contents;
        draft = Some (new_draft Two generation n);
        keeps = closed u.contents (settled store s none u);
        stands = u.stands;
        drafted = new_is_draft c s generation n fits image_is written place empty;
      }

  -- the draft of the checkpoint under way
  pub draft_kept : (store : KeeperStore D) (s : ServerState) (c : Checkpoint) → store.checkpoint ≡ Some c → (u : Upholds model store s) → KeepsDraft model store.journal u.contents c s
  draft_kept store s c some u =
      let drafted : IsDrafted (Some c) u.draft s = subst (λ (o : Option Checkpoint). IsDrafted o u.draft s) some u.drafted in
      let found = drafted_some c u.draft s drafted in
      record { draft = found.0; keeps = subst (λ (o : Option Draft). KeepsContents model store.journal u.contents o) found.1 u.keeps; is_draft = found.2 }

  pub step_moments : (store : KeeperStore D) (s : ServerState) (c : Checkpoint) (new : D) → store.checkpoint ≡ Some c → Upholds model store s
      → ((k : Contents) → KeepsDraft model store.journal k c s → LeavesOnly model store.journal.disk new (Holds k))
      → LeavesOnly model store.journal.disk new (λ image. StandsFor image s)
  step_moments store s c new some u run =
      weaker model store.journal.disk new (Holds u.contents) (λ image. StandsFor image s) (holds_stand u.contents s u.stands) (run u.contents (draft_kept store s c some u))

  -- where no slice is left
  pub none_written : (j : JournalState D) (k : Contents) (c : Checkpoint) (s : ServerState) → ((image : List ℕ) → model.left_since j.disk (model.moment j.disk) image → model.may_leave j.disk image) → KeepsDraft model j k c s
      → LeavesOnly model j.disk j.disk (Holds k)
  none_written j k c s only_now kept = started model j.disk (Holds k) (λ image left. (kept.keeps.left image (only_now image left)).holds)

  pub slice_kept : (j new : JournalState D) (k : Contents) (c : Checkpoint) (s : ServerState) (end : ℕ) (slice : List ℕ) → c.written ≤ end → slice ≡ take (end - c.written) (drop c.written c.image.items)
      → KeepsDraft model j k c s → ((d : Draft) → KeepsContents model j k (Some d) → KeepsContents model new k (Some (with_slice d slice)))
      → KeepsDraft model new k (record c { written = end }) s
  slice_kept j new k c s end slice more slice_is kept wrote =
      record { draft = with_slice kept.draft slice; keeps = wrote kept.draft kept.keeps; is_draft = slice_is_draft c kept.draft s end slice more slice_is kept.is_draft }
