use Rattle.std.proofs.Common.{◌≡◌, ◌⊎◌, ℕ, List, Result, Ok, Err, inl, inr, ⊎_elim, refl, sym, ap, ◌∙◌, subst}
use Rattle.std.specs.Prelude.{IsOk}
use Rattle.fe_memory.specs.Memory.{out_of_memory}
use Rattle.fe_codec.specs.FirstFault.{header_at}
use Rattle.fe_keeper.specs.Keeper.{KeeperState}
use Rattle.fe_keeper.specs.Opened.{IsOpenedFrom, IsReady}
use Rattle.fe_journal.specs.Found.{AsksToOpen, refusal}
use Rattle.fe_journal.specs.Journal.{OnlyReads}
use Rattle.fe_journal.specs.declared.fault.StoreFault.{StoreFault}
use Rattle.fe_journal.specs.declared.fault.StoreFault.TheVariants as store
use Rattle.fe_journal.proofs.Founds.{formatted, opens_as}
use Rattle.fe_keeper.specs.Damage.{IsWrongAt, IsReason, AfterFields}
use Rattle.fe_keeper.specs.declared.fault.Fault.{Fault}
use Rattle.fe_keeper.specs.declared.fault.Fault.TheVariants.{Device, Damaged, NoMemory, Unformatted}
use Rattle.fe_keeper.specs.within.Faults.{fault_of_store}
use Rattle.fe_keeper.proofs.Damages.{passed_on, device_back, slot_fault, tells_found, tells_slot, wrong_there}
use Rattle.fe_keeper.proofs.Bases.{fields_spelled}
use Rattle.fe_keeper.proofs.Numbers.{numbered}
use Rattle.fe_keeper.proofs.Openings.{recovered_in, parts_found, stands_found, stands_by, each_stands, opens_keeper}
use Rattle.fe_keeper.proofs.keeper.Keeper.open_or_blank.Goals as goal

pub keeper_over-requires-clause-numbered : goal.keeper_over-requires-clause-numbered
keeper_over-requires-clause-numbered g c =
    let listed = c.in-Ok.ensures.listed in
    let j = c.in-Ok.found.journal in
    let s = c.in-Ok-recovered.state in
    numbered j c.in-Ok.found.groups c.deref.result.now listed.groups s listed.lists listed.used_is
    (recovered_in j c.store_format-format.result c.generation-generation.result c.deref.result.now listed.groups s c.store_format-format.ensures c.generation-generation.ensures (c.in-Ok-recovered.ensures.state listed.groups listed.lists))

pub keeper_over-requires-clause-keeps : goal.keeper_over-requires-clause-keeps
keeper_over-requires-clause-keeps g c = λ honest.
    let seen = g.D.Disk.seen c.args.disk in
    let found = (c.in-Ok.ensures.finds (c.in-Ok.ensures.device.honesty.0 honest)).found in
    record {
      contents = found.contents;
      keeps = found.keeps;
      stands = stands_found g.D.Disk seen c.in-Ok.found found c.store_format-format.result c.generation-generation.result c.deref.result.now c.store_format-format.ensures c.generation-generation.ensures c.deref.ensures.value c.in-Ok-recovered.state c.in-Ok-recovered.ensures.state;
    }

pub returns-in-Err-recovered-clause-unformatted : goal.returns-in-Err-recovered-clause-unformatted
returns-in-Err-recovered-clause-unformatted g c = λ honest odd.
    let found = (c.in-Ok.ensures.finds honest).found in
    absurd (formatted found.contents (g.D.Disk.seen c.args.disk) found.holds odd)

pub returns-in-Err-new-clause-unformatted : goal.returns-in-Err-new-clause-unformatted
returns-in-Err-new-clause-unformatted g c = λ honest odd.
    let found = (c.in-Ok.ensures.finds honest).found in
    absurd (formatted found.contents (g.D.Disk.seen c.args.disk) found.holds odd)

pub returns-clause-unformatted : goal.returns-clause-unformatted
returns-clause-unformatted g c = λ honest odd.
    let found = (c.in-Ok.ensures.finds honest).found in
    absurd (formatted found.contents (g.D.Disk.seen c.args.disk) found.holds odd)

pub returns-in-Err-clause-unformatted : goal.returns-in-Err-clause-unformatted
returns-in-Err-clause-unformatted g c = λ honest odd.
    let r = refusal store.Unformatted c.in-Err.unopened in
    subst (λ (e : Fault × g.row.D.Denot). (e.0 ≡ Unformatted) ⊎ (e.0 ≡ Device)) (sym c.of_journal.ensures.refusal)
    (⊎_elim (λ (is : r.0 ≡ store.Unformatted). inl (ap fault_of_store is)) (λ (is : r.0 ≡ store.Device). inr (ap fault_of_store is)) ((c.in-Err.ensures.finds honest).unformatted odd))

pub returns-in-Err-clause-reads : goal.returns-in-Err-clause-reads
returns-in-Err-clause-reads g c = λ honest.
    subst (λ (e : Fault × g.row.D.Denot). OnlyReads g.D.Disk c.args.disk e.1) (sym c.of_journal.ensures.refusal) (c.in-Err.ensures.finds honest).reads

pub returns-in-Err-recovered-clause-reads : goal.returns-in-Err-recovered-clause-reads
returns-in-Err-recovered-clause-reads g c = λ honest.
    subst (λ (d : g.row.D.Denot). OnlyReads g.D.Disk c.args.disk d) (sym c.into_disk.ensures.disk) (c.in-Ok.ensures.finds honest).reads

pub returns-in-Err-new-clause-reads : goal.returns-in-Err-new-clause-reads
returns-in-Err-new-clause-reads g c = λ honest.
    subst (λ (d : g.row.D.Denot). OnlyReads g.D.Disk c.args.disk d) (sym c.into_disk-in-Err-new.ensures.disk) (c.in-Ok.ensures.finds honest).reads

pub returns-clause-reads : goal.returns-clause-reads
returns-clause-reads g c = λ honest.
    subst (λ (k : KeeperState g.row.D.Denot). OnlyReads g.D.Disk c.args.disk k.store.disk) (sym c.keeper_over.ensures) (c.in-Ok.ensures.finds honest).reads

pub returns-clause-opened : goal.returns-clause-opened
returns-clause-opened g c = λ honest.
    let seen = g.D.Disk.seen c.args.disk in
    let found = (c.in-Ok.ensures.finds honest).found in
    let s = c.in-Ok-recovered.state in
    let stands = stands_found g.D.Disk seen c.in-Ok.found found c.store_format-format.result c.generation-generation.result c.deref.result.now c.store_format-format.ensures c.generation-generation.ensures c.deref.ensures.value s c.in-Ok-recovered.ensures.state in
    subst (λ (k : KeeperState g.row.D.Denot). IsOpenedFrom g.D.Disk seen k) (sym c.keeper_over.ensures) (record {
      state = record { contents = found.contents; holds = found.holds; stands = stands };
      durable = each_stands g.D.Disk c.in-Ok.found.journal s (record { contents = found.contents; keeps = found.keeps; stands = stands });
      store = record { contents = found.contents; holds = found.holds; format_is = found.keeps.format_is; used_is = found.keeps.used_is };
    })

pub returns-in-Err-recovered-clause-refused : goal.returns-in-Err-recovered-clause-refused
returns-in-Err-recovered-clause-refused g c = λ honest.
    let seen = g.D.Disk.seen c.args.disk in
    let found = (c.in-Ok.ensures.finds honest).found in
    let parts = parts_found g.D.Disk seen c.in-Ok.found found c.store_format-format.result c.generation-generation.result c.deref.result.now c.store_format-format.ensures c.generation-generation.ensures c.deref.ensures.value in
    let wrong : (offset : ℕ) → c.in-Err-recovered.fault ≡ Damaged offset → IsWrongAt found.contents offset = λ offset is.
    wrong_there found.contents c.slot-slot.result c.store_format-format.result c.generation-generation.result c.deref.result.now c.in-Ok.found.groups.start c.in-Ok.found.groups.at offset
    (c.slot-slot.ensures.value ∙ found.keeps.slot_is) parts.format_is parts.generation_is parts.image_is found.start_is found.from_the_first
    (c.in-Err-recovered.ensures.damaged offset found.contents.groups (ap (λ (f : Fault). Err f) is) found.groups_are) in
    let fields : c.in-Err-recovered.fault ≡ NoMemory out_of_memory → IsOk (header_at found.contents.image) = λ is.
    subst (λ (l : List ℕ). IsOk (header_at l)) parts.image_is (c.in-Err-recovered.ensures.memory (ap (λ (f : Fault). Err f) is)) in
    record {
      tells = tells_slot seen (g.D.Disk.calls c.args.disk) (g.D.Disk.calls c.into_disk.result) found.contents c.in-Err-recovered.fault found.holds c.in-Err-recovered.ensures.faults wrong fields;
      valid = λ s stands. inr (c.in-Err-recovered.ensures.refused found.contents s parts (stands_by found.contents seen s found.holds stands));
    }

pub returns-in-Err-clause-refused : goal.returns-in-Err-clause-refused
returns-in-Err-clause-refused g c = λ honest.
    let seen = g.D.Disk.seen c.args.disk in
    let reason = (c.in-Err.ensures.finds honest).refused in
    let before = g.D.Disk.calls c.args.disk in
    let r = refusal store.Unformatted c.in-Err.unopened in
    subst (λ (e : Fault × g.row.D.Denot). IsReason seen before (g.D.Disk.calls e.1) e.0) (sym c.of_journal.ensures.refusal) (record {
      tells = tells_found seen before (g.D.Disk.calls r.1) r.0 reason.tells reason.memory;
      valid = λ s stands. passed_on r.0 (reason.valid stands.contents stands.holds);
    })

pub returns-in-Err-new-clause-refused : goal.returns-in-Err-new-clause-refused
returns-in-Err-new-clause-refused g c = λ honest.
    let seen = g.D.Disk.seen c.args.disk in
    let found = (c.in-Ok.ensures.finds honest).found in
    let parts = parts_found g.D.Disk seen c.in-Ok.found found c.store_format-format.result c.generation-generation.result c.deref.result.now c.store_format-format.ensures c.generation-generation.ensures c.deref.ensures.value in
    let recovered = c.in-Ok-recovered.ensures.state found.contents.groups found.groups_are in
    let fields = subst (λ (l : List ℕ). IsOk (header_at l)) parts.image_is (fields_spelled _ _ c.deref.result.now recovered.base recovered.is_base) in
    record { tells = AfterFields found.contents found.holds fields; valid = λ s stands. inr refl }

pub returns-clause-ready : goal.returns-clause-ready
returns-clause-ready g c =
    subst (λ (k : KeeperState g.row.D.Denot). IsReady k) (sym c.keeper_over.ensures) (record { works = refl; none_under_way = refl })

pub returns-in-Err-clause-device : goal.returns-in-Err-clause-device
returns-in-Err-clause-device g c =
    let r = refusal store.Unformatted c.in-Err.unopened in
    let result : Result (KeeperState g.row.D.Denot) Fault = Err (fault_of_store r.0) in
    subst (λ (e : Fault × g.row.D.Denot). AsksToOpen {T = KeeperState g.row.D.Denot} g.D.Disk Device (Err e.0) c.args.disk e.1) (sym c.of_journal.ensures.refusal)
    (opens_as g.D.Disk store.Device Device _ result c.args.disk r.1 c.in-Err.ensures.device
    (λ is. ap (λ (f : StoreFault). Err f) (device_back r.0 (cc is)))
    (λ is. let same : r.0 ≡ store.Device = cc is in ap (λ (f : Fault). Err f) (ap fault_of_store same)))

pub returns-in-Err-recovered-clause-device : goal.returns-in-Err-recovered-clause-device
returns-in-Err-recovered-clause-device g c =
    let result : Result (KeeperState g.row.D.Denot) Fault = Err c.in-Err-recovered.fault in
    subst (λ (d : g.row.D.Denot). AsksToOpen g.D.Disk Device result c.args.disk d) (sym c.into_disk.ensures.disk)
    (opens_as g.D.Disk store.Device Device _ result c.args.disk c.in-Ok.found.journal.disk c.in-Ok.ensures.device
    (λ is. absurd (slot_fault c.in-Err-recovered.fault c.in-Err-recovered.ensures.faults (cc is))) (λ is. cc))

pub returns-in-Err-new-clause-device : goal.returns-in-Err-new-clause-device
returns-in-Err-new-clause-device g c =
    opens_keeper g.D.Disk c.in-Ok.found c.args.disk c.in-Ok.found.journal c.in-Ok-recovered.state (Err ((NoMemory out_of_memory), c.into_disk-in-Err-new.result)) c.in-Ok.ensures.device tt (refl, c.into_disk-in-Err-new.ensures.disk)

pub returns-clause-device : goal.returns-clause-device
returns-clause-device g c =
    opens_keeper g.D.Disk c.in-Ok.found c.args.disk c.in-Ok.found.journal c.in-Ok-recovered.state (Ok c.keeper_over.result) c.in-Ok.ensures.device c.keeper_over.ensures tt
