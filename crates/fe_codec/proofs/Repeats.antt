-- A step that is repeated, as a loop does it.
use Rattle.std.proofs.Common.{◌≡◌, ℕ, suc, ◌-◌, ◌+◌, ◌≤◌, ◌<◌, Result, Ok, Err, refl, sym, ◌∙◌, arith}
use Rattle.fe_codec.specs.declared.fault.Fault.{Fault}
use Rattle.fe_codec.specs.declared.fault.Fault.TheVariants.{Left, NoMemory}
use Rattle.fe_codec.specs.FirstFault.{◌followed_by◌, repeated}
use Rattle.fe_codec.specs.Loading.{GivesFault}

module _ {X : Type 0} (step : X → Result X ℕ) (count i : ℕ) (x : X) (total : Result X ℕ) (so_far : repeated step (count - i) x ≡ total) where
  pub goes_on : (y : X) → i < count → step x ≡ Ok y → repeated step (count - (i + 1)) y ≡ total
  unfolding repeated
  goes_on y lt h =
      let k : count - i ≡ suc (count - (i + 1)) = omega arith in
      let one : repeated step (count - i) x ≡ repeated step (count - (i + 1)) y = rw (k, h) refl in
      sym one ∙ so_far

  pub stops : (fault : Fault) → i < count → GivesFault fault (step x) → GivesFault fault total
  unfolding repeated
  stops (NoMemory error) lt h = tt
  stops (Left left) lt h =
      let k : count - i ≡ suc (count - (i + 1)) = omega arith in
      let one : repeated step (count - i) x ≡ Err left = rw (k, h) refl in
      sym so_far ∙ one

  pub is_done : count ≤ i → total ≡ Ok x
  unfolding repeated
  is_done le =
      let k : count - i ≡ 0 = omega arith in
      let one : repeated step (count - i) x ≡ Ok x = rw k refl in
      sym so_far ∙ one

-- a fault in the first of two steps is the fault of both
pub stopped : {A B : Type 0} (fault : Fault) (given : Result A ℕ) (f : A → Result B ℕ) → GivesFault fault given → GivesFault fault (given followed_by f)
stopped (NoMemory error) given f h = tt
stopped (Left left) given f h = rw h refl

-- before the first step
pub begins : {X : Type 0} (step : X → Result X ℕ) (count : ℕ) (x : X) → repeated step (count - 0) x ≡ repeated step count x
begins step count x = let k : count - 0 ≡ count = omega arith in rw k refl
