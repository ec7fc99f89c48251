-- A keeper as its callers see it, and what its calls leave of it. A checkpoint is an image of the state that
-- is written, slice by slice, into the slot that does not count; then that slot counts. A place is a number
-- of entries. See `docs/model.md`, "The keeper".
use Rattle.std.specs.Prelude.{ℕ, zero, suc, ◌+◌, ◌-◌, ◌*◌, ◌/◌, Bool, true, false, ◌&&◌, nat_le}
use Rattle.std.specs.Prelude.{if◌then◌else◌, List, length, Option, Some, None, is_none, not}
use Rattle.std.specs.Option.{option_map_or}
use Rattle.std.specs.List.{list_all}
use Rattle.fe_state.specs.State.{ServerState}
use Rattle.fe_state.specs.Format.{entry_fits_format_1}
use Rattle.fe_state.specs.declared.entry.Entry.{Entry}
use Rattle.fe_format.specs.Layout.{record_bytes, group_records}
use Rattle.fe_format.specs.declared.format.Format.{Format}
use Rattle.fe_format.specs.declared.format.Format.TheVariants.{One, Two}
use Rattle.fe_journal.specs.Contents.{room_at}
use Rattle.fe_journal.specs.Layout.{slice_bytes}

-- a checkpoint under way: how many bytes its image has, how many of them are written, and the place of the
-- image's state
pub record Progress : Type 0 where
  pub size : ℕ
  pub written : ℕ
  pub place : ℕ

-- what a keeper knows of its store: the disk, how many entries are stored, the format of the slot that counts
-- and where its groups end, the checkpoint under way, and whether the disk has failed
pub record StoreState (D : Type 0) : Type 0 where
  pub disk : D
  pub place : ℕ
  pub format : Format
  pub used : ℕ
  pub checkpoint : Option Progress
  pub has_failed : Bool

-- a keeper: its replica of the state, and its store
pub record KeeperState (D : Type 0) : Type 0 where
  pub state : ServerState
  pub store : StoreState D

-- the store that formatting leaves
abbrev pub first_store : {D : Type 0} → D → StoreState D
first_store disk =
    record { disk = disk; place = 0; format = Two; used = 0; checkpoint = None; has_failed = false }

-- ---- what fits

-- whether the format has a record for each entry
abbrev pub is_spellable : Format → List Entry → Bool
is_spellable One entries = list_all entry_fits_format_1 entries
is_spellable Two entries = true

-- whether n more entries fit into one group with those that came since the checkpoint under way was begun
abbrev pub catches_up : ℕ → ℕ → Option Progress → Bool
catches_up place n checkpoint =
    option_map_or (λ p. nat_le (place - p.place + n) (group_records Two)) checkpoint true

-- whether a batch can be appended without a checkpoint first
abbrev pub fits : {D : Type 0} → StoreState D → List Entry → Bool
fits store entries =
    is_spellable store.format entries && nat_le (length entries * record_bytes store.format)
    (room_at store.used) && catches_up store.place (length entries) store.checkpoint

-- ---- what calls leave

-- how many bytes this many entries take as a group of format 2, with its gate and length; no entries are no
-- group
abbrev pub caught_up_bytes : ℕ → ℕ
caught_up_bytes zero = 0
caught_up_bytes (suc n) = 5 + suc n * record_bytes Two

-- whether a checkpoint can be begun: none is under way, and an entry came since the image or the slot is of
-- format 1
abbrev pub is_behind : Format → ℕ → Bool
is_behind One used = true
is_behind Two zero = false
is_behind Two (suc used) = true

abbrev pub can_begin : {D : Type 0} → StoreState D → Bool
can_begin store = is_none store.checkpoint && is_behind store.format store.used

-- the store once a checkpoint was begun whose image has this many bytes
abbrev pub begun : {D : Type 0} → StoreState D → ℕ → StoreState D
begun store size =
    record store { checkpoint = Some (record { size = size; written = 0; place = store.place }) }

-- how many bytes the next slice has
abbrev pub slice_size : Progress → ℕ
slice_size p = if nat_le (p.size - p.written) slice_bytes then p.size - p.written else slice_bytes

-- the store once one slice more is written
abbrev pub stepped_by : {D : Type 0} → StoreState D → Progress → StoreState D
stepped_by store p = record store { checkpoint = Some (record p { written = p.written + slice_size p }) }

abbrev pub stepped : {D : Type 0} → StoreState D → StoreState D
stepped store = option_map_or (stepped_by store) store.checkpoint store

-- whether slices are left to be written
abbrev pub has_slices : Option Progress → Bool
has_slices checkpoint = option_map_or (λ p. not (nat_le p.size p.written)) checkpoint false

-- how many slices this many bytes take
abbrev pub slices_of : ℕ → ℕ
slices_of bytes = (bytes + (slice_bytes - 1)) / slice_bytes

-- how many slices of a checkpoint under way are left
abbrev pub slices_left : Option Progress → ℕ
slices_left checkpoint = option_map_or (λ p. slices_of (p.size - p.written)) checkpoint 0

-- the store once the checkpoint under way is finished: its slot counts, with what came since its beginning as
-- the first group
abbrev pub finished_by : {D : Type 0} → StoreState D → Progress → StoreState D
finished_by store p =
    record store { format = Two; used = caught_up_bytes (store.place - p.place); checkpoint = None }

abbrev pub finished : {D : Type 0} → StoreState D → StoreState D
finished store = option_map_or (finished_by store) store.checkpoint store

-- the store once a whole checkpoint was made
abbrev pub renewed : {D : Type 0} → StoreState D → StoreState D
renewed store = record store { format = Two; used = 0; checkpoint = None }

-- the store before a batch is appended: if the batch does not fit, the checkpoint under way is finished first
abbrev pub prepared : {D : Type 0} → StoreState D → List Entry → StoreState D
prepared store entries = if fits store entries then store else finished store

-- whether a batch does not fit even then, so that a whole checkpoint is made
abbrev pub must_begin : {D : Type 0} → StoreState D → List Entry → Bool
must_begin store entries = not (fits (prepared store entries) entries)

abbrev pub made_room : {D : Type 0} → StoreState D → List Entry → StoreState D
made_room store entries = if must_begin store entries then renewed store else prepared store entries

-- the store once a batch that fits is appended
abbrev pub appended : {D : Type 0} → StoreState D → List Entry → StoreState D
appended store entries =
    record store {
      place = store.place + length entries;
      used = store.used + (5 + length entries * record_bytes store.format);
    }
