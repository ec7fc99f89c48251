use Rattle.std.proofs.Common.{◌≡◌, inl, ℕ, List, length, Result, Ok, Err, sym, ◌∙◌, ap, subst, refl}
use Rattle.fe_journal.specs.Contents.{Cursor, Lists}
use Rattle.fe_journal.specs.Damage.{IsUnformatted, TellsFound}
use Rattle.fe_journal.specs.Found.{IsFound, AsksToOpen}
use Rattle.fe_journal.specs.Journal.{JournalState, OnlyReads}
use Rattle.fe_journal.specs.Store.{IsStore}
use Rattle.fe_journal.specs.declared.fault.StoreFault.{StoreFault}
use Rattle.fe_journal.specs.declared.fault.StoreFault.TheVariants.{Device, Unformatted}
use Rattle.fe_journal.specs.declared.opening.Found.{Found}
use Rattle.fe_journal.proofs.Founds.{formatted, is_found, opens_as, refused_only, unformatted_only}
use Rattle.fe_journal.proofs.journal.Journal.find.Goals as goal

pub returns-in-Ok-clause-finds : goal.returns-in-Ok-clause-finds
returns-in-Ok-clause-finds g c = λ honest.
    let old = c.args.disk in
    let disk = c.read_store.new.disk in
    let store = c.in-Ok.store in
    let made : Found g.row.D.Denot = record { journal = c.opened-journal.result; image = store.parts.image; groups = c.new.result } in
    let reads = c.read_store.ensures.reads honest in
    let honest_1 = c.read_store.ensures.device.honesty.1 honest in
    let whole : length (g.D.Disk.seen disk) ≡ g.D.Disk.size disk = (g.met.D.Disk.seen_is_image disk honest_1).whole in
    let is = subst (λ (l : List ℕ). IsStore l store) (sym reads.same) (c.in-Ok.ensures.store honest) in
    let from : ℕ → Cursor = λ n. record { bytes = store.parts.area.items; start = n; at = 0 } in
    let there = is_found g.D.Disk disk store (whole ∙ c.in-Ok.ensures.sized) c.in-Ok.ensures.whole is (c.in-Ok.ensures.settled honest) made c.opened-journal.ensures refl (c.new.ensures ∙ ap from c.area_of.ensures) in
    let found = subst (λ (l : List ℕ). IsFound g.D.Disk l made) reads.same there in
    let disk_is = ap (λ (j : JournalState g.row.D.Denot). j.disk) c.opened-journal.ensures in
    record {
      found = found;
      refused = tt;
      unformatted = λ odd. absurd (formatted found.contents (g.D.Disk.seen old) found.holds odd);
      reads = subst (λ (d : g.row.D.Denot). OnlyReads g.D.Disk old d) (sym disk_is) reads;
    }

pub returns-in-Ok-clause-listed : goal.returns-in-Ok-clause-listed
returns-in-Ok-clause-listed g c =
    let store = c.in-Ok.store in
    let ends = c.in-Ok.ensures.whole.ends in
    let groups : c.new.result ≡ record { bytes = store.parts.area.items; start = c.area_of.result; at = 0 } = c.new.ensures in
    record {
      groups = ends.groups;
      lists = subst (λ (k : Cursor). Lists k ends.groups) (sym groups) (store.header.format, ends.holds);
      used_is = ap (λ (j : JournalState _). j.used) c.opened-journal.ensures ∙ ends.at_is;
    }

pub returns-in-Ok-clause-device : goal.returns-in-Ok-clause-device
returns-in-Ok-clause-device g c =
    let made : Found g.row.D.Denot = record { journal = c.opened-journal.result; image = c.in-Ok.store.parts.image; groups = c.new.result } in
    let disk_is = ap (λ (j : JournalState g.row.D.Denot). j.disk) c.opened-journal.ensures in
    let result : Result (Found g.row.D.Denot) StoreFault = Ok made in
    subst (λ (d : g.row.D.Denot). AsksToOpen g.D.Disk Device result c.args.disk d) (sym disk_is)
    (opens_as g.D.Disk Device Device _ result c.args.disk c.read_store.new.disk c.in-Ok.ensures.device (λ e. cc) (λ e. cc))

pub returns-in-Err-clause-finds : goal.returns-in-Err-clause-finds
returns-in-Err-clause-finds g c = λ honest.
    let tells = c.in-Err.ensures.faults honest in
    record {
      found = tt;
      refused = record {
        tells = tells;
        valid = λ contents holds. refused_only contents (g.D.Disk.seen c.args.disk) holds c.in-Err.fault tells;
        memory = λ is. c.in-Err.ensures.memory (ap (λ (f : StoreFault). Err f) is);
      };
      unformatted = λ odd. unformatted_only (g.D.Disk.seen c.args.disk) c.in-Err.fault tells odd;
      reads = c.read_store.ensures.reads honest;
    }

pub returns-in-Err-clause-device : goal.returns-in-Err-clause-device
returns-in-Err-clause-device g c = opens_as g.D.Disk Device Device _ _ c.args.disk c.read_store.new.disk c.in-Err.ensures.device (λ e. cc) (λ e. cc)

-- what is reported as unformatted is so, and still is
pub invariant_of-result : goal.invariant_of-result
invariant_of-result g c = λ honest_1.
    let old = g.D.Disk.seen c.args.disk in
    let honest = c.read_store.ensures.device.honesty.0 honest_1 in
    let tells = subst (λ (f : StoreFault). TellsFound f old) c.in-Err-Unformatted.field-0-is (c.in-Err-Unformatted.ensures.faults honest) in
    subst (λ (l : List ℕ). IsUnformatted l) (sym (c.read_store.ensures.reads honest).same) tells

pub returns-in-Err-Unformatted-clause-finds : goal.returns-in-Err-Unformatted-clause-finds
returns-in-Err-Unformatted-clause-finds g c = λ honest.
    let old = g.D.Disk.seen c.args.disk in
    let tells = subst (λ (f : StoreFault). TellsFound f old) c.in-Err-Unformatted.field-0-is (c.in-Err-Unformatted.ensures.faults honest) in
    record {
      found = tt;
      refused = record { tells = tells; valid = λ contents holds. refused_only contents old holds Unformatted tells; memory = λ is. cc };
      unformatted = λ odd. inl refl;
      reads = c.read_store.ensures.reads honest;
    }
