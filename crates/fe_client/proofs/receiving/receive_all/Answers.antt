use Rattle.std.proofs.Common.{◌≡◌, ◌-◌, ◌≤◌, ℕ, List, length, take, drop, refl, sym, subst, arith, inl, length-drop, rules}
use Rattle.std.proofs.lemmas.List.{length-take}
use Rattle.fe_client.specs.Events.{Event, received}
use Rattle.fe_client.proofs.Fronts.{came_behind}
use Rattle.fe_client.proofs.Leads.{then_nothing, then_bytes}
use Rattle.fe_client.proofs.receiving.receive_all.Goals as goal

pub loop-done-preserved : goal.loop-done-preserved
loop-done-preserved g c =
    let leads = g.E.Streams.leads in
    let buffer = c.loop-done.buffer in
    let new = c.receive.new.buffer in
    let done = c.loop-done.done in
    let count = c.in-Ok.count in
    let room : length new ≡ length buffer - done = omega (arith, c.receive.auto.buffer, length-take (length buffer - done) (drop done buffer), length-drop done buffer) in
    let few : count ≤ length new = omega (arith, c.in-Ok.ensures.fits, c.receive.auto.buffer) in
    let behind = came_behind done count (length buffer - done) buffer new c.loop-done.invariant.within few in
    record {
      within = search (rules, few, room);
      received = subst (λ (t : List ℕ). leads c.args.streams.now (received t) c.receive.new.self) (sym behind)
          (then_bytes leads g.met.E.Streams.joins Event.Received c.args.streams.now c.loop-done.streams c.receive.new.self (take done buffer) (take count new) c.loop-done.invariant.received c.in-Ok.ensures.happened);
      few = omega (arith, c.loop-done.invariant.few, c.in-Ok.ensures.some);
    }

pub returns-in-Err-clause-err : goal.returns-in-Err-clause-err
returns-in-Err-clause-err g c =
    let front = take c.loop-done.done c.loop-done.buffer in
    (front, then_nothing g.E.Streams.leads g.met.E.Streams.joins c.args.streams.now c.loop-done.streams c.receive.new.self (received front) c.loop-done.invariant.received c.in-Err.ensures.err, inl (refl, c.in-Err.ensures.over))
