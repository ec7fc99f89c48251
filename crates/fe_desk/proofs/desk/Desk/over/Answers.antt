use Rattle.std.proofs.Common.{false, true≢false, None, List, refl, sym, ap, subst, map, rules}
use Rattle.fe_front.specs.Front.{IsFirst}
use Rattle.fe_desk.specs.declared.handed.Handed.TheVariants.{Nothing}
use Rattle.fe_desk.specs.declared.desk_inner.DeskInner.{DeskInner}
use Rattle.fe_desk.proofs.Outputs.{output_of}
use Rattle.fe_desk.specs.declared.port.Port.{Port}
use Rattle.fe_desk.specs.within.Desk.{IsSilentFrom, client_of, desk_of}
use Rattle.fe_desk.proofs.Answering.{first_acknowledged}
use Rattle.fe_desk.proofs.Openings.{first_desk}
use Rattle.fe_desk.proofs.Placing.{none_known}
use Rattle.fe_desk.proofs.desk.Desk.over.Goals as goal

pub invariant_of-desk : goal.invariant_of-desk
invariant_of-desk g c =
    let keeper = c.args.keeper in
    let front = c.in-Ok-new.front in
    let trace = c.new-trace in
    let p : DeskInner g.row.D.Denot = record { front = front; keeper = keeper; trace = trace.result; handed = Nothing; making = None; owes = false; alloc = c.args.alloc } in
    let first : IsFirst keeper.state front = search rules in (
      first_desk g.D.Disk (desk_of p)
          (record {
            front = first;
            clients = ap (λ ports. map client_of ports) trace.ensures.ports;
            handed = refl;
            making = refl;
            groups = ap (λ groups. map (λ g. g.items) groups) trace.ensures.groups;
            owes = refl;
          })
          trace.ensures.synced (λ honest. c.state.ensures.durable honest c.requires),
      λ quiet. absurd (true≢false (sym quiet)),
      subst (λ (ports : List Port). IsSilentFrom 0 (map output_of (map client_of ports)) c.new-2.result) (sym trace.ensures.ports) tt,
      none_known c.new-places.result (map client_of trace.result.ports.items) c.new-places.ensures.indexes c.new-places.ensures.sorted,
    )

pub returns-clause-acknowledged : goal.returns-clause-acknowledged
returns-clause-acknowledged g c = λ asked.
    let keeper = c.args.keeper in
    let front = c.in-Ok-new.front in
    let trace = c.new-trace in
    let p : DeskInner g.row.D.Denot = record { front = front; keeper = keeper; trace = trace.result; handed = Nothing; making = None; owes = false; alloc = c.args.alloc } in
    let first : IsFirst keeper.state front = search rules in
    first_acknowledged keeper.state asked (desk_of p)
    (record {
      front = first;
      clients = ap (λ ports. map client_of ports) trace.ensures.ports;
      handed = refl;
      making = refl;
      groups = ap (λ groups. map (λ g. g.items) groups) trace.ensures.groups;
      owes = refl;
    })
    trace.ensures.synced
