-- What the fault of a keeper that is not opened says of the fault that is reported.
use Rattle.std.proofs.Common.{◌≡◌, ◌≢◌, ◌⊎◌, ℕ, List, inl, inr, refl, sym, subst}
use Rattle.fe_memory.specs.Memory.{out_of_memory}
use Rattle.fe_keeper.specs.declared.fault.Fault as keeper
use Rattle.fe_keeper.specs.declared.fault.Fault.TheVariants as store
use Rattle.fe_store.specs.Opening.{IsReason}
use Rattle.fe_store.specs.declared.fault.OpenFault.{OpenFault}
use Rattle.fe_store.specs.declared.fault.OpenFault.TheVariants as fault
use Rattle.fe_store.specs.within.Faults.{IsOpenFaultOf}

-- the size of a file is not reported
pub not_sized : (end : keeper.Fault) (answer : OpenFault) (found : ℕ) → IsOpenFaultOf end answer → answer ≢ fault.Size found
not_sized store.Device answer found is sized = absurd (cc)
not_sized (store.NoMemory error) answer found is sized = absurd (cc)
not_sized (store.Damaged offset) answer found is sized = absurd (cc)
not_sized store.Unformatted answer found is sized = absurd (cc)
not_sized store.Failed answer found is sized = absurd is
not_sized (store.Mismatch place) answer found is sized = absurd is

-- why an unformatted image is not formatted
pub made_reason : (end : keeper.Fault) (answer : OpenFault) (image : List ℕ) → IsOpenFaultOf end answer → (end ≡ store.Device) ⊎ ((end ≡ store.Unformatted) ⊎ (end ≡ store.NoMemory out_of_memory))
    → IsReason image fault.Unformatted → IsReason image answer
made_reason end answer image is (inl device) odd =
    let same : answer ≡ fault.Device = subst (λ (e : keeper.Fault). IsOpenFaultOf e answer) device is in
    subst (λ (f : OpenFault). IsReason image f) (sym same) (record { tells = tt; valid = λ s stands. inl refl })
made_reason end answer image is (inr (inl wrong)) odd =
    let same : answer ≡ fault.Unformatted = subst (λ (e : keeper.Fault). IsOpenFaultOf e answer) wrong is in
    subst (λ (f : OpenFault). IsReason image f) (sym same) odd
made_reason end answer image is (inr (inr short)) odd =
    let same : answer ≡ fault.Memory out_of_memory = subst (λ (e : keeper.Fault). IsOpenFaultOf e answer) short is in
    subst (λ (f : OpenFault). IsReason image f) (sym same) (record { tells = tt; valid = λ s stands. inr refl })
