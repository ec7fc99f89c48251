use Rattle.std.proofs.Common.{◌≡◌, ◌⊎◌, ℕ, List, Result, Err, inl, inr, sym, ap, subst, refl}
use Rattle.std.specs.Prelude.{◌↔◌}
use Rattle.fe_memory.specs.Memory.{out_of_memory}
use Rattle.fe_disk.specs.declared.calls.Calls.{Calls}
use Rattle.fe_journal.proofs.Founds.{opens_as}
use Rattle.fe_keeper.specs.declared.fault.Fault as keeper
use Rattle.fe_keeper.specs.declared.fault.Fault.TheVariants as store
use Rattle.fe_store.specs.declared.fault.OpenFault.{OpenFault}
use Rattle.fe_store.specs.declared.fault.OpenFault.TheVariants as fault
use Rattle.fe_journal.specs.Found.{AsksToOpen, refusal}
use Rattle.fe_journal.specs.Journal.{OnlyReads}
use Rattle.fe_keeper.specs.Damage.{MayLackMemory, TellsStore}
use Rattle.fe_keeper.specs.Keeper.{KeeperState}
use Rattle.fe_store.specs.Opening.{TellsImage}
use Rattle.fe_store.specs.within.Faults.{IsOpenFaultOf}
use Rattle.fe_store.proofs.Faults.{not_sized}
use Rattle.fe_store.proofs.opening.found_or_blank.Goals as goal

-- only the device or memory is reported
told : (end : keeper.Fault) (answer : OpenFault) → IsOpenFaultOf end answer → (end ≡ store.Device) ⊎ (end ≡ store.NoMemory out_of_memory) → (answer ≡ fault.Device) ⊎ (answer ≡ fault.Memory out_of_memory)
told end answer is (inl device) = inl (subst (λ (e : keeper.Fault). IsOpenFaultOf e answer) device is)
told end answer is (inr short) = inr (subst (λ (e : keeper.Fault). IsOpenFaultOf e answer) short is)

-- the same is said of the image
tells : (end : keeper.Fault) (answer : OpenFault) (image : List ℕ) (before now : Calls) → IsOpenFaultOf end answer → TellsStore end image before now → TellsImage answer image
tells store.Device answer image before now is says = subst (λ (f : OpenFault). TellsImage f image) (sym is) tt
tells (store.NoMemory error) answer image before now is says = subst (λ (f : OpenFault). TellsImage f image) (sym is) tt
tells (store.Damaged offset) answer image before now is says = subst (λ (f : OpenFault). TellsImage f image) (sym is) says
tells store.Unformatted answer image before now is says = subst (λ (f : OpenFault). TellsImage f image) (sym is) says
tells store.Failed answer image before now is says = absurd is
tells (store.Mismatch place) answer image before now is says = absurd is

-- the device is reported exactly where it failed
device_of : (end : keeper.Fault) (answer : OpenFault) → IsOpenFaultOf end answer → answer ≡ fault.Device → end ≡ store.Device
device_of store.Device answer is device = refl
device_of (store.NoMemory error) answer is device = cc
device_of (store.Damaged offset) answer is device = cc
device_of store.Unformatted answer is device = cc
device_of store.Failed answer is device = absurd is
device_of (store.Mismatch place) answer is device = absurd is

-- memory is reported exactly where it ran out
memory_of : (end : keeper.Fault) (answer : OpenFault) → IsOpenFaultOf end answer → answer ≡ fault.Memory out_of_memory → end ≡ store.NoMemory out_of_memory
memory_of store.Device answer is short = cc
memory_of (store.NoMemory error) answer is short = refl
memory_of (store.Damaged offset) answer is short = cc
memory_of store.Unformatted answer is short = cc
memory_of store.Failed answer is short = absurd is
memory_of (store.Mismatch place) answer is short = absurd is

pub returns-in-Err-clause-memory : goal.returns-in-Err-clause-memory
returns-in-Err-clause-memory g c honest is =
    let r = refusal store.Unformatted c.in-Err.unopened in
    let seen = g.D.Disk.seen c.args.disk in
    let before = g.D.Disk.calls c.args.disk in
    subst (λ (d : g.row.D.Denot). MayLackMemory seen before (g.D.Disk.calls d)) (sym c.unopened_of.ensures.disk)
    (subst (λ (e : keeper.Fault). TellsStore e seen before (g.D.Disk.calls r.1)) (memory_of _ _ c.unopened_of.ensures.fault is) (c.in-Err.ensures.refused honest).tells)

pub returns-in-Err-clause-ends : goal.returns-in-Err-clause-ends
returns-in-Err-clause-ends g c =
    let asks = c.in-Err.ensures.device in
    let there = sym c.unopened_of.ensures.disk in
    record {
      ready = tt;
      reason = λ honest.
          let reason = c.in-Err.ensures.refused honest in
          record { tells = tells _ _ _ _ _ c.unopened_of.ensures.fault reason.tells; valid = λ s stands. told _ _ c.unopened_of.ensures.fault (reason.valid s stands) };
      sized = λ found. not_sized _ _ found c.unopened_of.ensures.fault;
      honesty = subst (λ (d : g.row.D.Denot). g.D.Disk.honest d ↔ g.D.Disk.honest c.args.disk) there asks.honesty;
      size = subst (λ (d : g.row.D.Denot). g.D.Disk.size d ≡ g.D.Disk.size c.args.disk) there asks.same_size;
    }

pub returns-in-Err-clause-reads : goal.returns-in-Err-clause-reads
returns-in-Err-clause-reads g c = λ honest.
    subst (λ (d : g.row.D.Denot). OnlyReads g.D.Disk c.args.disk d) (sym c.unopened_of.ensures.disk) (c.in-Err.ensures.reads honest)

pub returns-in-Err-clause-device : goal.returns-in-Err-clause-device
returns-in-Err-clause-device g c =
    let r = refusal store.Unformatted c.in-Err.unopened in
    let e = refusal fault.Unformatted c.unopened_of.result in
    let result : Result (KeeperState g.row.D.Denot) OpenFault = Err e.0 in
    subst (λ (d : g.row.D.Denot). AsksToOpen g.D.Disk fault.Device result c.args.disk d) (sym c.unopened_of.ensures.disk)
    (opens_as g.D.Disk store.Device fault.Device _ result c.args.disk r.1 c.in-Err.ensures.device
    (λ is. ap (λ (f : keeper.Fault). Err f) (device_of _ _ c.unopened_of.ensures.fault (cc is)))
    (λ is. let same : r.0 ≡ store.Device = cc is in ap (λ (f : OpenFault). Err f) (subst (λ (k : keeper.Fault). IsOpenFaultOf k e.0) same c.unopened_of.ensures.fault)))

pub returns-in-Ok-clause-device : goal.returns-in-Ok-clause-device
returns-in-Ok-clause-device g c =
    opens_as g.D.Disk store.Device fault.Device _ _ c.args.disk c.in-Ok.keeper.store.disk c.in-Ok.ensures.device (λ is. cc) (λ is. cc)

pub returns-in-Ok-clause-ends : goal.returns-in-Ok-clause-ends
returns-in-Ok-clause-ends g c =
    record { ready = c.in-Ok.ensures.ready; reason = λ honest. tt; sized = tt; honesty = c.in-Ok.ensures.device.honesty; size = c.in-Ok.ensures.device.same_size }
