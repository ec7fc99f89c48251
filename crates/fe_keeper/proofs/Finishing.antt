-- What the finish of a checkpoint keeps: the new slot stands for the state that the old one stands for.
use Rattle.std.proofs.Common.{◌≡◌, ⊎_elim, ℕ, ◌+◌, ◌*◌, ◌≤◌, List, [], ◌∷◌, length, Option, Some, None, false, not, nat_le, sym, ◌∙◌, ap, subst, refl, arith, vec_len}
use Rattle.std.proofs.lemmas.List.{take_all}
use Rattle.std.proofs.lemmas.Bool.Decides.{nat_tests}
use Rattle.std.specs.Option.{option_map}
use Rattle.fe_disk.specs.Runs.{LeavesOnly}
use Rattle.fe_disk.proofs.Moments.{weaker}
use Rattle.fe_state.specs.State.{ServerState, after_all}
use Rattle.fe_state.specs.History.{AreLegal, IsHistory, after_groups}
use Rattle.fe_state.specs.declared.entry.Entry.{Entry}
use Rattle.fe_codec.specs.Record.{group_spelling, FitsGroup}
use Rattle.fe_codec.specs.Image.{image_spelling, FitsImage}
use Rattle.fe_codec.proofs.GroupLaws.{not_empty}
use Rattle.fe_format.specs.Layout.{record_bytes, longest_payload}
use Rattle.fe_format.specs.declared.format.Format.{Format}
use Rattle.fe_format.specs.declared.format.Format.TheVariants.{Two}
use Rattle.fe_journal.specs.Contents.{Contents, HoldsEither}
use Rattle.fe_journal.specs.Journal.{JournalState, Draft, KeepsContents, begun_of, catch_up_groups, with_draft}
use Rattle.fe_journal.specs.declared.begun.Begun.{Begun}
use Rattle.fe_keeper.specs.Stands.{Stands, StandsFor, AreGroups, greatest_generation}
use Rattle.fe_keeper.specs.within.Upholds.{IsDraftOf, IsUnderWay, IsCheckpoint, IsStore, Upholds, progress_of, KeepsDraft}
use Rattle.fe_keeper.specs.Keeper.{has_slices}
use Rattle.fe_keeper.specs.declared.checkpoint.Checkpoint.{Checkpoint}
use Rattle.fe_keeper.specs.declared.keeper_store.KeeperStore.{KeeperStore}
use Rattle.fe_keeper.proofs.Appending.{length-group}
use Rattle.fe_keeper.proofs.Checkpoints.{holds_stand, draft_kept}
use Rattle.fe_disk.specs.declared.disk.Disk.{Ghosts}

-- where no slices are left, the whole image is written
pub whole_there : (checkpoint : Option Checkpoint) (c : Checkpoint) → checkpoint ≡ Some c → has_slices (option_map progress_of checkpoint) ≡ false → vec_len c.image ≤ c.written
whole_there None c some none = cc
whole_there (Some found) c some none =
    let same : found ≡ c = cc in
    subst (λ (k : Checkpoint). vec_len k.image ≤ k.written) same (within (vec_len found.image) found.written none)
  where
    within : (size written : ℕ) → not (nat_le size written) ≡ false → size ≤ written
    within size written none = grind (arith, nat_tests)

under_way_there : {D : Type 0} (place : ℕ) (j : JournalState D) (checkpoint : Option Checkpoint) (c : Checkpoint) → checkpoint ≡ Some c → IsCheckpoint place j checkpoint → IsUnderWay place j c
under_way_there place j checkpoint c some is = subst (λ (o : Option Checkpoint). IsCheckpoint place j o) some is

-- entries as one group, and none as none
one_group : List Entry → List (List Entry)
one_group [] = []
one_group (entry ∷ entries) = (entry ∷ entries) ∷ []

history_of_one : (s : ServerState) (entries : List Entry) → AreLegal s entries → IsHistory s (one_group entries)
unfolding one_group
history_of_one s [] legal = tt
history_of_one s (entry ∷ entries) legal = (omega arith, legal, tt)

after_one : (s : ServerState) (entries : List Entry) → after_groups s (one_group entries) ≡ after_all s entries
unfolding one_group
after_one s [] = refl
after_one s (entry ∷ entries) = refl

spelled_as_one : (entries : List Entry) (bytes : List ℕ) → bytes ≡ group_spelling Two entries → FitsGroup Two entries → length bytes ≤ longest_payload Two → AreGroups Two (one_group entries) (catch_up_groups bytes)
unfolding one_group
spelled_as_one [] [] is fits short = tt
spelled_as_one [] (byte ∷ bytes) is fits short = cc
spelled_as_one (entry ∷ entries) [] is fits short = absurd (not_empty Two entry entries fits.0 (sym is))
spelled_as_one (entry ∷ entries) (byte ∷ bytes) is fits short =
    let long = length-group Two (entry ∷ entries) fits in
    let size : length (byte ∷ bytes) ≡ length (entry ∷ entries) * record_bytes Two = ap length is ∙ long in
    (record { least = omega arith; most = omega (arith, size, short); fits = fits; spelled = is }, tt)

-- what a finished draft stands for
pub finished_stands : (contents : Contents) (d : Draft) (c : Checkpoint) (s : ServerState) (bytes : List ℕ) → bytes ≡ c.catch_up.items → IsDraftOf c d s → d.format ≡ Two → d.generation ≤ c.place + 2 → vec_len c.image ≤ c.written
    → length bytes ≤ longest_payload Two → Stands (with_draft contents d bytes) s
finished_stands contents d c s bytes bytes_are is format generation whole short =
    let base_place = is.place_is in
    record {
      base = is.base;
      groups = one_group is.entries;
      fits = subst (λ (f : Format). FitsImage f is.base) (sym format) is.fits;
      image_is = is.written_is ∙ take_all c.written c.image.items (omega (arith, c.image.ok.0)) ∙ is.image_is ∙ ap (λ (f : Format). image_spelling f is.base) (sym format);
      numbered = subst (λ (f : Format). d.generation ≤ greatest_generation f is.base.place) (sym format) (omega arith);
      groups_are = subst (λ (f : Format). AreGroups f (one_group is.entries) (catch_up_groups bytes)) (sym format) (spelled_as_one is.entries bytes (bytes_are ∙ is.caught_up) is.group short);
      legal = history_of_one is.base is.entries is.legal;
      state_is = is.state_is ∙ sym (after_one is.base is.entries);
    }

-- the draft is of format 2, and has the next generation
begun_format : {D : Type 0} (j : JournalState D) (d : Draft) (generation n written : ℕ) → j.begun ≡ begun_of (Some d) → j.begun ≡ Some (record { format = Two; generation = generation; image_length = n; written = written })
    → (d.format ≡ Two) × (d.generation ≡ generation)
begun_format j d generation n written of_draft of_checkpoint =
    let mine : Begun = record { format = d.format; generation = d.generation; image_length = d.image_length; written = length d.bytes } in
    let theirs : Begun = record { format = Two; generation = generation; image_length = n; written = written } in
    let both : Some mine ≡ Some theirs = sym of_draft ∙ of_checkpoint in
    let same : mine ≡ theirs = cc in
    (ap (λ (b : Begun). b.format) same, ap (λ (b : Begun). b.generation) same)

module _ {D : Type 0} (model : Ghosts D) where
  module _ (store : KeeperStore D) (s : ServerState) (c : Checkpoint) (bytes : List ℕ) (bytes_are : bytes ≡ c.catch_up.items) (some : store.checkpoint ≡ Some c) (sound : IsStore store)
      (none_left : has_slices (option_map progress_of store.checkpoint) ≡ false) where
    under_way : IsUnderWay store.place store.journal c
    under_way = under_way_there store.place store.journal store.checkpoint c some sound.checkpoint

    whole : vec_len c.image ≤ c.written
    whole = whole_there store.checkpoint c some none_left

    new_stands : (contents : Contents) (kept : KeepsDraft model store.journal contents c s) → Stands (with_draft contents kept.draft bytes) s
    new_stands contents kept =
        let begun = begun_format store.journal kept.draft (store.journal.generation + 1) (vec_len c.image) c.written kept.keeps.begun_is under_way.begun in
        finished_stands contents kept.draft c s bytes bytes_are kept.is_draft begun.0 (omega (arith, begun.1, under_way.numbered)) whole (omega (arith, ap length bytes_are, c.catch_up.ok.0, under_way.caught_up, under_way.few))

    pub finish_moments : (new : D) → Upholds model store s
        → ((k : Contents) (d : Draft) → KeepsContents model store.journal k (Some d) → LeavesOnly model store.journal.disk new (HoldsEither k (with_draft k d bytes)))
        → LeavesOnly model store.journal.disk new (λ image. StandsFor image s)
    finish_moments new u run =
        let kept = draft_kept model store s c some u in
        let next = with_draft u.contents kept.draft bytes in
        weaker model store.journal.disk new (HoldsEither u.contents next) (λ image. StandsFor image s)
        (λ image either. ⊎_elim (holds_stand u.contents s u.stands image) (holds_stand next s (new_stands u.contents kept) image) either) (run u.contents kept.draft kept.keeps)

    pub finish_upheld : (j : JournalState D) → Upholds model store s
        → ((k : Contents) (d : Draft) → KeepsContents model store.journal k (Some d) → KeepsContents model j (with_draft k d bytes) None)
        → Upholds model (record { journal = j; group = store.group; place = store.place; checkpoint = None }) s
    finish_upheld j u goes =
        let kept = draft_kept model store s c some u in
        record {
          contents = with_draft u.contents kept.draft bytes;
          draft = None;
          keeps = goes u.contents kept.draft kept.keeps;
          stands = new_stands u.contents kept;
          drafted = tt;
        }
