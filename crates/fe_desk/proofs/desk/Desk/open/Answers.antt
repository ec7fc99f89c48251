use Rattle.std.proofs.Common.{◌≡◌, ◌⊎◌, false, inl, inr, ⊎_elim, ap, subst, sym, ◌∙◌}
use Rattle.std.proofs.lemmas.Result.{IfOk-weaker, IfErr-weaker}
use Rattle.fe_memory.specs.Memory.{out_of_memory}
use Rattle.fe_journal.specs.Journal.{OnlyReads}
use Rattle.fe_keeper.specs.Keeper.{KeeperState}
use Rattle.fe_keeper.specs.Stands.{StandsFor, EachStandsFor}
use Rattle.fe_desk.specs.Crash.{disk_of}
use Rattle.fe_desk.specs.Messages.{desk_fault_of}
use Rattle.fe_keeper.specs.declared.fault.Fault.TheVariants as keeper
use Rattle.fe_desk.specs.declared.fault.DeskFault.{DeskFault}
use Rattle.fe_desk.specs.declared.fault.DeskFault.TheVariants.{Store, NoMemory}
use Rattle.fe_desk.specs.Runs.{TellsOpening}
use Rattle.fe_desk.proofs.Openings.{disk_is, asks_over, asks_refused, tells_opening, short_opening}
use Rattle.fe_desk.proofs.desk.Desk.open.Goals as goal

pub returns-in-Ok-clause-opened : goal.returns-in-Ok-clause-opened
returns-in-Ok-clause-opened g c = λ honest.
    let k = c.in-Ok.keeper in
    let seen = g.D.Disk.seen c.args.disk in
    IfOk-weaker c.over.result (λ desk. desk.keeper ≡ k) (λ desk. StandsFor seen desk.keeper.state)
    (λ desk is. subst (λ (x : KeeperState g.row.D.Denot). StandsFor seen x.state) (sym is) (c.in-Ok.ensures.opened honest).state) c.over.ensures.keeper

pub returns-in-Ok-clause-stands : goal.returns-in-Ok-clause-stands
returns-in-Ok-clause-stands g c = λ honest.
    let k = c.in-Ok.keeper in
    IfOk-weaker c.over.result (λ desk. desk.keeper ≡ k) (λ desk. EachStandsFor g.D.Disk (disk_of desk) desk.keeper.state)
    (λ desk is. subst (λ (x : KeeperState g.row.D.Denot). EachStandsFor g.D.Disk x.store.disk x.state) (sym is) (c.in-Ok.ensures.opened honest).durable) c.over.ensures.keeper

pub returns-in-Ok-clause-reads : goal.returns-in-Ok-clause-reads
returns-in-Ok-clause-reads g c = λ honest.
    let k = c.in-Ok.keeper in
    subst (λ d. OnlyReads g.D.Disk c.args.disk d) (sym (disk_is c.over.result k c.over.ensures.keeper c.over.ensures.disk))
    (c.in-Ok.ensures.reads honest)

pub returns-in-Ok-clause-device : goal.returns-in-Ok-clause-device
returns-in-Ok-clause-device g c =
    asks_over c.over.result c.in-Ok.keeper c.over.ensures.keeper c.over.ensures.fault c.over.ensures.disk c.in-Ok.ensures.device

pub returns-in-Err-clause-device : goal.returns-in-Err-clause-device
returns-in-Err-clause-device g c = asks_refused c.in-Err.fault c.desk_fault.result c.desk_fault.ensures c.in-Err.ensures.device

pub returns-in-Ok-clause-refused : goal.returns-in-Ok-clause-refused
returns-in-Ok-clause-refused g c = λ honest s stands.
    IfErr-weaker c.over.result (λ e. e.0 ≡ NoMemory out_of_memory false) (λ e. (e.0 ≡ Store keeper.Device) ⊎ (e.0 ≡ NoMemory out_of_memory false)) (λ e is. inr is) c.over.ensures.fault

pub returns-in-Err-clause-refused : goal.returns-in-Err-clause-refused
returns-in-Err-clause-refused g c = λ honest s stands.
    ⊎_elim (λ e. inl (c.desk_fault.ensures ∙ ap (λ f. desk_fault_of f false) e)) (λ e. inr (c.desk_fault.ensures ∙ ap (λ f. desk_fault_of f false) e)) ((c.in-Err.ensures.refused honest).valid s stands)

pub returns-in-Ok-clause-says : goal.returns-in-Ok-clause-says
returns-in-Ok-clause-says g c = λ honest.
    short_opening g.D.Disk (g.D.Disk.calls c.args.disk) c.over.result (g.D.Disk.seen c.args.disk) c.in-Ok.keeper.state (c.in-Ok.ensures.opened honest).state c.over.ensures.fault

pub returns-in-Ok-clause-unformatted : goal.returns-in-Ok-clause-unformatted
returns-in-Ok-clause-unformatted g c = λ honest odd. absurd (c.in-Ok.ensures.unformatted honest odd)

pub returns-in-Err-clause-says : goal.returns-in-Err-clause-says
returns-in-Err-clause-says g c = λ honest.
    let seen = g.D.Disk.seen c.args.disk in
    let before = g.D.Disk.calls c.args.disk in
    let now = g.D.Disk.calls c.in-Err.disk in
    subst (λ (f : DeskFault). TellsOpening f seen before now) (sym c.desk_fault.ensures) (tells_opening seen before now c.in-Err.fault (c.in-Err.ensures.refused honest).tells)

pub returns-in-Err-clause-unformatted : goal.returns-in-Err-clause-unformatted
returns-in-Err-clause-unformatted g c = λ honest odd.
    ⊎_elim (λ e. inl (c.desk_fault.ensures ∙ ap (λ f. desk_fault_of f false) e)) (λ e. inr (c.desk_fault.ensures ∙ ap (λ f. desk_fault_of f false) e)) (c.in-Err.ensures.unformatted honest odd)
