-- A batch that is appended to what a store keeps.
use Rattle.std.proofs.Common.{◌≡◌, ◌&&◌, nat_le, inl, inr, ⊎_elim, ℕ, ◌+◌, ◌-◌, ◌*◌, ◌≤◌, Option, Some, None, Bool, true, false, List, [], ◌∷◌, ◌++◌, length, refl, sym, ap, subst, ◌∙◌, arith}
use Rattle.std.specs.List.{AllByRecursion, list_all}
use Rattle.std.proofs.lemmas.Grind.{flat_map-append}
use Rattle.std.proofs.lemmas.List.{length-append}
use Rattle.std.proofs.lemmas.Bool.{leb-true}
use Rattle.std.proofs.Math.Nat.{add-mul}
use Rattle.fe_disk.specs.Runs.{LeavesOnly}
use Rattle.fe_disk.proofs.Moments.{weaker}
use Rattle.fe_state.specs.State.{ServerState, after_all}
use Rattle.fe_state.specs.Format.{entry_fits_format_1}
use Rattle.fe_state.specs.History.{AreLegal, after_groups}
use Rattle.fe_state.specs.Limits.{most_batch_entries, greatest_place}
use Rattle.fe_state.specs.declared.entry.Entry.{Entry}
use Rattle.fe_state.proofs.Histories.{legal-append, after-append, history-append}
use Rattle.fe_codec.specs.Record.{entry_spelling, group_spelling, FitsGroup, IsGroupOf, CanPut}
use Rattle.fe_codec.proofs.RecordLaws.{length-entry_spelling}
use Rattle.fe_format.specs.Layout.{record_bytes, group_records, longest_payload, IsPayloadLength, IsImageLength}
use Rattle.fe_format.specs.declared.format.Format.{Format}
use Rattle.fe_format.specs.declared.format.Format.TheVariants.{One, Two}
use Rattle.fe_journal.specs.Contents.{Contents, Holds, HoldsEither, with_group, room_at}
use Rattle.fe_journal.specs.Journal.{JournalState, Draft, KeepsContents}
use Rattle.fe_keeper.specs.within.Upholds.{batch_bytes, HasRoomFor, HasMoreToCatchUp, CatchesUp, IsDraftOf, IsDrafted, Upholds, IsCheckpoint, IsStore, progress_of, store_of}
use Rattle.fe_keeper.specs.Keeper.{StoreState, is_spellable, catches_up, fits, appended}
use Rattle.fe_keeper.specs.Stands.{AreGroups, Stands, StandsForEither}
use Rattle.std.specs.Option.{option_map}
use Rattle.std.specs.Prelude.{vec_len, vec_capacity}
use Rattle.fe_keeper.specs.declared.checkpoint.Checkpoint.{Checkpoint}
use Rattle.fe_keeper.specs.declared.keeper_store.KeeperStore.{KeeperStore}
use Rattle.fe_disk.specs.declared.disk.Disk.{Ghosts}

-- ---- groups after groups

fits-append : (format : Format) (xs ys : List Entry) → FitsGroup format xs → FitsGroup format ys → FitsGroup format (xs ++ ys)
fits-append format [] ys h k = k
fits-append format (x ∷ xs) ys h k = (h.0, fits-append format xs ys h.1 k)

after_groups_then : (s : ServerState) (groups : List (List Entry)) (group : List Entry) → after_groups s (groups ++ group ∷ []) ≡ after_all (after_groups s groups) group
after_groups_then s [] group = refl
after_groups_then s (g ∷ gs) group = after_groups_then (after_all s g) gs group

groups_then : (format : Format) (groups : List (List Entry)) (payloads : List (List ℕ)) (group : List Entry) (payload : List ℕ)
    → AreGroups format groups payloads → IsGroupOf format group payload → AreGroups format (groups ++ group ∷ []) (payloads ++ payload ∷ [])
groups_then format [] [] group payload h is = (is, tt)
groups_then format [] (p ∷ ps) group payload h is = absurd h
groups_then format (g ∷ gs) [] group payload h is = absurd h
groups_then format (g ∷ gs) (p ∷ ps) group payload h is = (h.0, groups_then format gs ps group payload h.1 is)

-- ---- what stands

-- contents with one group more stand for the state after it
pub stands_then : (c : Contents) (s : ServerState) (entries : List Entry) (payload : List ℕ) → Stands c s → IsGroupOf c.format entries payload → AreLegal s entries → Stands (with_group c payload) (after_all s entries)
stands_then c s entries payload h is legal =
    let next : AreLegal (after_groups h.base h.groups) entries = subst (λ (t : ServerState). AreLegal t entries) h.state_is legal in
    record {
      base = h.base;
      groups = h.groups ++ entries ∷ [];
      fits = h.fits;
      image_is = h.image_is;
      numbered = h.numbered;
      groups_are = groups_then c.format h.groups c.groups entries payload h.groups_are is;
      legal = history-append h.base h.groups (entries ∷ []) h.legal (is.least, next, tt);
      state_is = ap (λ (t : ServerState). after_all t entries) h.state_is ∙ sym (after_groups_then h.base h.groups entries);
    }

-- a checkpoint under way that catches up with entries leads to the state after them
pub draft_then : (old new : Checkpoint) (d : Draft) (s : ServerState) (entries : List Entry) → IsDraftOf old d s → HasMoreToCatchUp entries old new → AreLegal s entries → IsDraftOf new d (after_all s entries)
draft_then old new d s entries h more legal =
    let next : AreLegal (after_all h.base h.entries) entries = subst (λ (t : ServerState). AreLegal t entries) h.state_is legal in
    let same : new.image.items ≡ old.image.items = cc more.image in
    record {
      base = h.base;
      entries = h.entries ++ entries;
      fits = h.fits;
      image_is = same ∙ h.image_is;
      written_is = let w = h.written_is in let k = more.written in cc;
      place_is = more.place ∙ h.place_is;
      caught_up = more.records ∙ ap (λ (t : List ℕ). t ++ group_spelling Two entries) h.caught_up ∙ sym (flat_map-append (entry_spelling Two) h.entries entries);
      group = fits-append Two h.entries entries h.group more.fits;
      legal = legal-append h.base h.entries entries h.legal next;
      state_is = ap (λ (t : ServerState). after_all t entries) h.state_is ∙ sym (after-append h.base h.entries entries);
    }

pub drafted_then : (old new : Option Checkpoint) (draft : Option Draft) (s : ServerState) (entries : List Entry) → IsDrafted old draft s → CatchesUp entries old new → AreLegal s entries → IsDrafted new draft (after_all s entries)
drafted_then None None None s entries h more legal = tt
drafted_then None None (Some d) s entries h more legal = absurd h
drafted_then None (Some c) draft s entries h more legal = absurd more
drafted_then (Some c) None draft s entries h more legal = absurd more
drafted_then (Some old) (Some new) None s entries h more legal = absurd h
drafted_then (Some old) (Some new) (Some d) s entries h more legal = draft_then old new d s entries h more legal

-- ---- over the moments of a call

module _ {D : Type 0} (model : Ghosts D) where
  -- the group is of the format of the contents
  group_there : (old : KeeperStore D) (s : ServerState) (entries : List Entry) (payload : List ℕ) → (u : Upholds model old s) → IsGroupOf old.journal.format entries payload → IsGroupOf u.contents.format entries payload
  group_there old s entries payload u is = subst (λ (f : Format). IsGroupOf f entries payload) u.keeps.format_is is

  -- a stop leaves the state before, or that with the whole group
  pub append_leaves : (old : KeeperStore D) (new : D) (s : ServerState) (entries : List Entry) (payload : List ℕ) → Upholds model old s → IsGroupOf old.journal.format entries payload → AreLegal s entries
      → ((c : Contents) (draft : Option Draft) → KeepsContents model old.journal c draft → LeavesOnly model old.journal.disk new (HoldsEither c (with_group c payload)))
      → LeavesOnly model old.journal.disk new (StandsForEither s (after_all s entries))
  append_leaves old new s entries payload u is legal run =
      let stands = stands_then u.contents s entries payload u.stands (group_there old s entries payload u is) legal in
      weaker model old.journal.disk new (HoldsEither u.contents (with_group u.contents payload)) (StandsForEither s (after_all s entries))
      (λ image. ⊎_elim (λ (h : Holds u.contents image). inl (record { contents = u.contents; holds = h; stands = u.stands }))
      (λ (h : Holds (with_group u.contents payload) image). inr (record { contents = with_group u.contents payload; holds = h; stands = stands })))
      (run u.contents u.draft u.keeps)

  -- and after it the store upholds the state after the batch
  pub append_upholds : (old new : KeeperStore D) (s : ServerState) (entries : List Entry) (payload : List ℕ) → Upholds model old s → IsGroupOf old.journal.format entries payload → AreLegal s entries
      → ((c : Contents) (draft : Option Draft) → KeepsContents model old.journal c draft → KeepsContents model new.journal (with_group c payload) draft)
      → CatchesUp entries old.checkpoint new.checkpoint → Upholds model new (after_all s entries)
  append_upholds old new s entries payload u is legal kept caught = record {
    contents = with_group u.contents payload;
    draft = u.draft;
    keeps = kept u.contents u.draft u.keeps;
    stands = stands_then u.contents s entries payload u.stands (group_there old s entries payload u is) legal;
    drafted = drafted_then old.checkpoint new.checkpoint u.draft s entries u.drafted caught legal;
  }

-- ---- spellings

-- the records of a group are of one size
pub length-group : (format : Format) (entries : List Entry) → FitsGroup format entries → length (group_spelling format entries) ≡ length entries * record_bytes format
length-group format [] fits = omega arith
length-group format (e ∷ es) fits =
    let more : (length es + 1) * record_bytes format ≡ length es * record_bytes format + record_bytes format = add-mul (length es) 1 (record_bytes format) ∙ omega arith in
    omega (arith, length-append (entry_spelling format e) (group_spelling format es), length-entry_spelling format e fits.0, length-group format es fits.1, more)

-- a batch is a payload
pub batch_is_payload : (format : Format) (n : ℕ) → 1 ≤ n → n ≤ most_batch_entries → IsPayloadLength format (n * record_bytes format)
batch_is_payload One n some few = record { some = omega arith; within = omega arith; whole = omega arith }
batch_is_payload Two n some few = record { some = omega arith; within = omega arith; whole = omega arith }

both : (a b : Bool) → (a && b) ≡ true → (a ≡ true) × (b ≡ true)
both true b is = (refl, is)
both false b is = absurd cc

-- entries that can be put in format 2 can be put in a format that has a record for each
put_each : (es : List Entry) → list_all entry_fits_format_1 es ≡ true → AllByRecursion (CanPut Two) es → AllByRecursion (CanPut One) es
put_each [] fit h = tt
put_each (e ∷ es) fit h =
    let each = both (entry_fits_format_1 e) (list_all entry_fits_format_1 es) fit in
    (record { of_format = each.0; numbered = h.0.numbered }, put_each es each.1 h.1)

pub put_in : (format : Format) (es : List Entry) → is_spellable format es ≡ true → AllByRecursion (CanPut Two) es → AllByRecursion (CanPut format) es
put_in One es fit h = put_each es fit h
put_in Two es fit h = h

-- what fits, in its three parts
pub record FitsParts {D : Type 0} (store : StoreState D) (entries : List Entry) : Type 0 where
  pub spellable : is_spellable store.format entries ≡ true
  pub room : length entries * record_bytes store.format ≤ room_at store.used
  pub catches_up : catches_up store.place (length entries) store.checkpoint ≡ true

pub fits_parts : {D : Type 0} (store : StoreState D) (entries : List Entry) → fits store entries ≡ true → FitsParts store entries
fits_parts store entries is =
    let first = both (is_spellable store.format entries && nat_le (length entries * record_bytes store.format) (room_at store.used)) (catches_up store.place (length entries) store.checkpoint) is in
    let second = both (is_spellable store.format entries) (nat_le (length entries * record_bytes store.format) (room_at store.used)) first.0 in
    record { spellable = second.0; room = leb-true _ _ second.1; catches_up = first.1 }

-- ---- the store after a batch

-- to callers a checkpoint that caught up is what it was
pub same_progress : (entries : List Entry) (old new : Option Checkpoint) → CatchesUp entries old new → option_map progress_of new ≡ option_map progress_of old
same_progress entries None None more = refl
same_progress entries None (Some new) more = absurd more
same_progress entries (Some old) None more = absurd more
same_progress entries (Some old) (Some new) more = let i = more.image in let w = more.written in let p = more.place in cc

-- there is room in the catch-up of a checkpoint under way
pub room_to_catch_up : {D : Type 0} (place n : ℕ) (j : JournalState D) (c : Option Checkpoint) → IsCheckpoint place j c → catches_up place n (option_map progress_of c) ≡ true → HasRoomFor c n
room_to_catch_up place n j None h fit = tt
room_to_catch_up place n j (Some c) h fit =
    let few : (place - c.place) + n ≤ group_records Two = leb-true _ _ fit in
    let room : longest_payload Two ≤ vec_capacity c.catch_up = h.room in
    let caught : vec_len c.catch_up ≡ (place - c.place) * record_bytes Two = h.caught_up in
    omega arith

-- a checkpoint under way is still one after entries that it caught up with
under_way_then : {D : Type 0} (place n : ℕ) (j k : JournalState D) (entries : List Entry) (old new : Option Checkpoint) → IsCheckpoint place j old → catches_up place (length entries) (option_map progress_of old) ≡ true
    → k.begun ≡ j.begun → k.generation ≡ j.generation → CatchesUp entries old new → IsCheckpoint (place + length entries) k new
under_way_then place n j k entries None None h fit begun generation more = begun ∙ h
under_way_then place n j k entries None (Some new) h fit begun generation more = absurd more
under_way_then place n j k entries (Some old) None h fit begun generation more = absurd more
under_way_then place n j k entries (Some old) (Some new) h fit begun generation more =
    let few : (place - old.place) + length entries ≤ group_records Two = leb-true _ _ fit in
    let image : vec_len new.image ≡ vec_len old.image = ap (λ (v : _). vec_len v) more.image in
    let earlier : old.place ≤ place = h.earlier in
    let caught : vec_len old.catch_up ≡ (place - old.place) * record_bytes Two = h.caught_up in
    record {
      begun = let b = h.begun in let w = more.written in cc;
      allowed = subst (IsImageLength Two) (sym image) h.allowed;
      written = omega (arith, h.written, image, more.written);
      numbered = omega (arith, h.numbered, generation, more.place);
      earlier = omega (arith, more.place);
      caught_up = omega (arith, more.count, more.place);
      few = omega (arith, more.place);
      room = omega (arith, more.room, h.room);
    }

-- a batch that is spelled is a group
few_records : (format : Format) (n : ℕ) → n ≤ most_batch_entries → n ≤ group_records format
few_records One n few = omega arith
few_records Two n few = omega arith

pub batch_group : (f format : Format) (entries : List Entry) (payload group : List ℕ) → payload ≡ group → group ≡ group_spelling f entries → FitsGroup f entries → f ≡ format → 1 ≤ length entries → length entries ≤ most_batch_entries
    → IsGroupOf format entries payload
batch_group f format entries payload group same spelled fits is some few =
    subst (λ (k : Format). IsGroupOf k entries payload) is (record { least = some; most = few_records f (length entries) few; fits = fits; spelled = same ∙ spelled })

pub group_size : (format : Format) (entries : List Entry) (payload : List ℕ) → IsGroupOf format entries payload → length payload ≡ length entries * record_bytes format
group_size format entries payload is = ap length is.spelled ∙ length-group format entries is.fits

-- what is always true of a store is true of it after a batch
pub sound_then : {D : Type 0} (old new : KeeperStore D) (entries : List Entry) (disk : D) (used : ℕ) → IsStore old → fits (store_of old) entries ≡ true → new.journal ≡ record old.journal { disk = disk; used = used }
    → 1 ≤ length entries → new.place ≡ old.place + length entries → new.place ≤ greatest_place → batch_bytes ≤ vec_capacity new.group → CatchesUp entries old.checkpoint new.checkpoint → IsStore new
sound_then {D} old new entries disk used h fit journal some place low group more =
    let parts = fits_parts (store_of old) entries fit in
    let generation : new.journal.generation ≡ old.journal.generation = ap (λ (j : JournalState D). j.generation) journal in
    let begun = ap (λ (j : JournalState D). j.begun) journal in
    record {
      place = low;
      numbered = inl (⊎_elim (λ (k : old.journal.generation ≤ old.place + 1). omega arith) (λ (k : (old.journal.generation ≤ old.place + 2) × (old.journal.used ≡ 0) × (old.journal.format ≡ Two)). omega (arith, k.0)) h.numbered);
      group = group;
      checkpoint = subst (λ (p : ℕ). IsCheckpoint p new.journal new.checkpoint) (sym place) (under_way_then old.place 0 old.journal new.journal entries old.checkpoint new.checkpoint h.checkpoint parts.catches_up begun generation more);
    }

-- and what callers see of it
pub value_then : {D : Type 0} (old new : KeeperStore D) (entries : List Entry) (disk : D) (size : ℕ) → new.journal ≡ record old.journal { disk = disk; used = old.journal.used + (5 + size) } → size ≡ length entries * record_bytes old.journal.format
    → new.place ≡ old.place + length entries → CatchesUp entries old.checkpoint new.checkpoint → store_of new ≡ record (appended (store_of old) entries) { disk = disk }
value_then {D} old new entries disk size journal is place more =
    let d : new.journal.disk ≡ disk = ap (λ (j : JournalState D). j.disk) journal in
    let f : new.journal.format ≡ old.journal.format = ap (λ (j : JournalState D). j.format) journal in
    let u : new.journal.used ≡ old.journal.used + (5 + size) = ap (λ (j : JournalState D). j.used) journal in
    let n : new.journal.has_failed ≡ old.journal.has_failed = ap (λ (j : JournalState D). j.has_failed) journal in
    let c = same_progress entries old.checkpoint new.checkpoint more in
    cc
