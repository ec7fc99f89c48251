use Rattle.std.proofs.Common.{◌≡◌, ◌∙◌, true, Err, inl, inr, sym, subst, rules}
use Rattle.fe_disk.specs.declared.disk.Disk.{Ghosts}
use Rattle.fe_state.specs.State.{ServerState}
use Rattle.fe_journal.specs.Found.{told}
use Rattle.fe_journal.specs.declared.opening.Unopened.{Unopened}
use Rattle.fe_journal.specs.declared.opening.Unopened.TheVariants.{Blank}
use Rattle.fe_keeper.specs.Stands.{EachStandsFor}
use Rattle.fe_store.specs.Opening.{EndsOpening}
use Rattle.fe_store.specs.declared.fault.OpenFault.{OpenFault}
use Rattle.fe_store.specs.declared.fault.OpenFault.TheVariants as fault
use Rattle.fe_store.proofs.Faults.{not_sized, made_reason}
use Rattle.fe_store.proofs.opening.open_on.Goals as goal

-- what the opening says of a disk that it gave as a blank one
module _ {D : Type 0} (model : Ghosts D) (old blank : D) (u : Unopened OpenFault D) (is : u ≡ Blank blank) where
  ends_blank : EndsOpening model old (told fault.Unformatted (Err u)) → EndsOpening model old (Err (fault.Unformatted, blank))
  ends_blank e = subst (λ (v : Unopened OpenFault D). EndsOpening model old (told fault.Unformatted (Err v))) is e

pub returns-in-Ok-format-clause-reads : goal.returns-in-Ok-format-clause-reads
returns-in-Ok-format-clause-reads g c honest none =
    let asked : c.args.format ≡ true = search rules in
    let first = ends_blank g.D.Disk c.args.disk c.in-Err-Blank.blank _ c.in-Err-Blank.field-0-is c.in-Err-Blank.ensures.ends in
    absurd (none ((first.reason honest).tells, asked))

pub returns-in-Ok-format-clause-opened : goal.returns-in-Ok-format-clause-opened
returns-in-Ok-format-clause-opened g c honest =
    let asked : c.args.format ≡ true = search rules in
    let first = ends_blank g.D.Disk c.args.disk c.in-Err-Blank.blank _ c.in-Err-Blank.field-0-is c.in-Err-Blank.ensures.ends in
    record {
      state = inr (((first.reason honest).tells, asked), c.in-Ok-format.ensures.state);
      durable = subst (λ (s : ServerState). EachStandsFor g.D.Disk c.in-Ok-format.keeper.store.disk s) (sym c.in-Ok-format.ensures.state) (c.in-Ok-format.ensures.formatted (first.honesty.1 honest));
    }

pub returns-in-Ok-clause-opened : goal.returns-in-Ok-clause-opened
returns-in-Ok-clause-opened g c honest = let opened = c.in-Ok.ensures.opened honest in record { state = inl opened.state; durable = opened.durable }

pub returns-in-Err-clause-ends : goal.returns-in-Err-clause-ends
returns-in-Err-clause-ends g c =
    let image = g.D.Disk.seen c.args.disk in
    let first = ends_blank g.D.Disk c.args.disk c.in-Err-Blank.blank _ c.in-Err-Blank.field-0-is c.in-Err-Blank.ensures.ends in
    let made = c.in-Err.ensures.ends in
    record {
      ready = tt;
      reason = λ honest. made_reason _ _ image c.open_fault_of.ensures made.faults (first.reason honest);
      sized = λ found. not_sized _ _ found c.open_fault_of.ensures;
      honesty = (λ h. first.honesty.0 (made.honesty.0 h), λ h. made.honesty.1 (first.honesty.1 h));
      size = made.same_size ∙ first.size;
    }
