use Rattle.std.proofs.Common.{ℕ, List, map, subst, sym, ap, ◌∙◌}
use Rattle.fe_keeper.specs.Stands.{EachStandsFor}
use Rattle.fe_desk.specs.Crash.{DeskState, desk_anew, disk_of}
use Rattle.fe_desk.specs.Acknowledged.{IsAcknowledged}
use Rattle.fe_desk.specs.DeskRunState.{Client}
use Rattle.fe_desk.proofs.Outputs.{output_of}
use Rattle.fe_desk.specs.Runs.{AreSilent}
use Rattle.fe_desk.specs.within.Desk.{ArePlaces, IsSilentFrom, client_of}
use Rattle.fe_desk.proofs.Silence.{outs_of, none_written, anew_silent}
use Rattle.fe_desk.proofs.Placing.{anew_places}
use Rattle.fe_desk.proofs.Anew.{is_anew, still_desk, still_quiet}
use Rattle.fe_desk.proofs.Clearing.{cleared_acknowledged}
use Rattle.fe_desk.proofs.desk.Desk.clear_trace.Goals as goal

pub invariant_of-self : goal.invariant_of-self
invariant_of-self g c =
    let p = c.self.inside.inner in
    let t = c.clear.new.self in
    let e = c.clear.ensures in
    let stands = subst (λ (d : DeskState g.row.D.Denot). g.D.Disk.honest (disk_of d) → EachStandsFor g.D.Disk (disk_of d) d.keeper.state) (sym c.self.view_is) c.requires.stands in
    let clients = map client_of p.trace.ports.items in (
      still_desk g.D.Disk p t e.groups e.synced e.ports c.self.invariant.0 stands,
      λ quiet. still_quiet p t e.ports (c.self.invariant.1 quiet),
      none_written 0 (map output_of (map client_of t.ports.items)) c.new-self-inside.result (subst (λ (cs : List Client). AreSilent (map output_of cs)) (sym e.ports) (anew_silent clients)),
      subst (λ (cs : List Client). ArePlaces c.self.inside.places cs) (sym e.ports) (anew_places c.self.inside.places clients c.self.invariant.3),
    )

pub clear-requires : goal.clear-requires
clear-requires g c = subst (λ (outs : List (ℕ × List ℕ)). IsSilentFrom 0 outs c.self.inside.written) (outs_of c.self.inside.inner.trace.ports.items) c.self.invariant.2

pub returns-clause-acknowledged : goal.returns-clause-acknowledged
returns-clause-acknowledged g c = λ begun asked from is.
    let p = c.self.inside.inner in
    let e = c.clear.ensures in
    let same = is_anew p c.clear.new.self e.groups e.synced e.ports ∙ ap (λ (d : DeskState g.row.D.Denot). desk_anew d) c.self.view_is in
    subst (λ (d : DeskState g.row.D.Denot). IsAcknowledged c.args.self.now.keeper.state asked d) (sym same)
    (cleared_acknowledged begun asked c.args.self.now c.requires.told from is)
