use Rattle.std.proofs.Common.{Err, sym, subst}
use Rattle.fe_memory.specs.Memory.{out_of_memory}
use Rattle.fe_state.specs.State.{ServerState, first_state}
use Rattle.fe_format.specs.declared.format.Format.TheVariants.{Two}
use Rattle.fe_journal.specs.Contents.{first_contents}
use Rattle.fe_journal.specs.Journal.{Formats}
use Rattle.fe_keeper.specs.Keeper.{KeeperState}
use Rattle.fe_keeper.specs.Stands.{Stands, EachStandsFor}
use Rattle.fe_keeper.specs.Opened.{KeepsState}
use Rattle.fe_keeper.specs.declared.fault.Fault.{Fault}
use Rattle.fe_keeper.specs.declared.fault.Fault.TheVariants.{Device, NoMemory, Unformatted}
use Rattle.fe_keeper.proofs.Beginning.{first_stands, formats_as}
use Rattle.fe_keeper.proofs.Openings.{each_stands}
use Rattle.fe_keeper.proofs.keeper.Keeper.format.Goals as goal

pub keeper_over-requires-clause-keeps : goal.keeper_over-requires-clause-keeps
keeper_over-requires-clause-keeps g c = λ honest. record {
  contents = first_contents Two;
  keeps = c.in-Ok-format.ensures.formatted (c.in-Ok-format.ensures.ends.honesty.0 honest);
  stands = subst (λ (s : ServerState). Stands (first_contents Two) s) (sym c.in-Ok.ensures.state) first_stands;
}

pub returns-in-Ok-format-clause-formatted : goal.returns-in-Ok-format-clause-formatted
returns-in-Ok-format-clause-formatted g c = λ honest.
    let kept : KeepsState g.D.Disk c.in-Ok-format.journal first_state = record {
      contents = first_contents Two;
      keeps = c.in-Ok-format.ensures.formatted honest;
      stands = first_stands;
    } in
    let each = each_stands g.D.Disk c.in-Ok-format.journal first_state kept in
    subst (λ (k : KeeperState g.row.D.Denot). EachStandsFor g.D.Disk k.store.disk first_state) (sym c.keeper_over.ensures) each

pub returns-in-Err-format-clause-ends : goal.returns-in-Err-format-clause-ends
returns-in-Err-format-clause-ends g c =
    subst (λ (f : Fault). Formats g.D.Disk Unformatted Device (NoMemory out_of_memory) (Err f) c.args.blank c.in-Err-format.disk) (sym c.from.ensures)
    (formats_as g.D.Disk c.in-Err-format.fault c.args.blank c.in-Err-format.disk c.in-Err-format.ensures.ends)
