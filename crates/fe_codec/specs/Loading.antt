-- What loading a part of an image, the bytes of a server state, keeps and what it may add (`docs/model.md`,
-- "Records, groups and images").
use Rattle.std.specs.Prelude.{◌≡◌, ℕ, ◌+◌, ◌≤◌, Option, Some, None, IsSome, true, ◌<◌, List, Result, Ok, Err}
use Rattle.std.specs.Prelude.{IfOk}
use Rattle.std.specs.Ordering.{nat_cmp}
use Rattle.std.specs.FinMap.{FinMap, get, len}
use Rattle.fe_state.specs.Directory.{word_in}
use Rattle.fe_state.specs.State.{ServerState}
use Rattle.fe_state.specs.declared.array.Array.{Array}
use Rattle.fe_codec.specs.FirstFault.{is_after, number_in}
use Rattle.std.specs.Borrow.{Bor}
use Rattle.std.specs.Int.{Width}
use Rattle.fe_codec.specs.declared.fault.Fault.{Fault}
use Rattle.fe_codec.specs.declared.fault.Fault.TheVariants.{Left, NoMemory}
use Rattle.fe_codec.specs.declared.fault.ImageFault.{ImageFault}
use Rattle.fe_codec.specs.declared.fault.ImageFault.TheVariants as image

-- no key of the map is above the previous one; without a previous one the map has no keys
abbrev pub HasNoneAfter : {X : Type 0} → Option ℕ → FinMap nat_cmp X → Type 0
HasNoneAfter previous m = (q : ℕ) → is_after previous q ≡ true → get m q ≡ None

-- no key is added or removed
pub record KeepsKeys {X : Type 0} (old new : FinMap nat_cmp X) : Type 0 where
  pub free : (q : ℕ) → get old q ≡ None → get new q ≡ None
  pub count : len new ≡ len old

-- no array is added or removed, and no word is removed
pub record KeepsIds (old new : FinMap nat_cmp Array) : Type 0 where
  pub keys : KeepsKeys old new
  pub words : (id i : ℕ) → IsSome (word_in (get old id) i) → IsSome (word_in (get new id) i)

-- no array is added or removed, no word is removed, and the sessions stay
pub record ChangesWords (old new : ServerState) : Type 0 where
  pub ids : KeepsIds old.arrays new.arrays
  pub sessions : new.sessions ≡ old.sessions

-- no array's id is above this one, there is at most one array more, and the sessions stay
pub record AddsArray (id : ℕ) (old new : ServerState) : Type 0 where
  pub fresh : HasNoneAfter (Some id) new.arrays
  pub few : len new.arrays ≤ len old.arrays + 1
  pub sessions : new.sessions ≡ old.sessions

-- ---- a step of reading returns what the rule of images (`FirstFault.antt`) gives

-- a fault is the one that the rule gives, unless memory ran out
abbrev pub GivesFault : {Y : Type 0} → Fault → Result Y ℕ → Type 0
GivesFault (NoMemory error) given = Unit {0}
GivesFault (Left left) given = given ≡ Err left

-- what a step returned, seen through `view`, is what the rule gives, unless memory ran out
abbrev pub Gives : {X Y : Type 0} → (X → Y) → Result X Fault → Result Y ℕ → Type 0
Gives view (Ok x) given = given ≡ Ok (view x)
Gives view (Err fault) given = GivesFault fault given

-- a fault is the one that the rule gives, where no memory is taken
abbrev pub ReadsFault : {Y : Type 0} → Fault → Result Y ℕ → Type 0
ReadsFault (NoMemory error) given = ⊥
ReadsFault (Left left) given = given ≡ Err left

-- what a step that takes no memory returned, seen through `view`, is what the rule gives
abbrev pub Reads : {X Y : Type 0} → (X → Y) → Result X Fault → Result Y ℕ → Type 0
Reads view (Ok x) given = given ≡ Ok (view x)
Reads view (Err fault) given = ReadsFault fault given

-- a number of this width is read as the rule gives it; it is from the least on, and below the limit
abbrev pub ReadsNumberIn : Width → ℕ → ℕ → Result (ℕ × Bor (List ℕ)) Fault → List ℕ → Type 0
ReadsNumberIn w least limit result bytes =
    Reads (λ x. (x.0, x.1.now)) result (number_in w least limit bytes)
    × IfOk result (λ x. (least ≤ x.0) × (x.0 < limit))

-- the fault of a whole image, an offset, is the one that the rule gives, unless memory ran out
abbrev pub ImageFails : {Y : Type 0} → ImageFault → Result Y ℕ → Type 0
ImageFails (image.NoMemory error) given = Unit {0}
ImageFails (image.Damaged offset) given = given ≡ Err offset

abbrev pub ImageGives : {Y : Type 0} → Result Y ImageFault → Result Y ℕ → Type 0
ImageGives (Ok x) given = given ≡ Ok x
ImageGives (Err fault) given = ImageFails fault given
