use Rattle.std.proofs.Common.{[], sym}
use Rattle.fe_desk.specs.DeskRunState.{Client}
use Rattle.fe_desk.proofs.Places.{changed_nowhere, port_changed}
use Rattle.fe_desk.proofs.connections.forget.Goals as goal

pub returns-in-Some : goal.returns-in-Some
returns-in-Some c =
    let change : Client → Client = λ d. record d { left = [] } in
    port_changed c.args.ports.now.items c.args.conn c.in-Some.at c.index_mut.result.now c.forget.new.self change c.in-Some.ensures.place c.index_mut.ensures.value c.forget.ensures

pub returns-in_default : goal.returns-in_default
returns-in_default c = sym (changed_nowhere _ c.args.conn (λ d. record d { left = [] }) c.in_default.ensures.none)
