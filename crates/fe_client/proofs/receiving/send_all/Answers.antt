use Rattle.std.proofs.Common.{◌-◌, ◌≤◌, length, take, drop, refl, arith, length-drop}
use Rattle.std.proofs.lemmas.List.{length-take}
use Rattle.fe_client.specs.Events.{Event, sent}
use Rattle.fe_client.proofs.Leads.{then_nothing, then_part}
use Rattle.fe_client.proofs.receiving.send_all.Goals as goal

pub loop-done-preserved : goal.loop-done-preserved
loop-done-preserved g c =
    let bytes = c.args.bytes.now in
    let done = c.loop-done.done in
    let few : c.in-Ok.count ≤ length bytes - done = omega (arith, c.in-Ok.ensures.fits, length-take (length bytes - done) (drop done bytes), length-drop done bytes) in
    record {
      within = omega (arith, few, c.loop-done.invariant.within);
      sent = then_part g.E.Streams.leads g.met.E.Streams.joins Event.Sent c.args.streams.now c.loop-done.streams c.send.new.self bytes _ done c.in-Ok.count refl few c.loop-done.invariant.sent c.in-Ok.ensures.happened;
    }

pub returns-in-Err-clause-front : goal.returns-in-Err-clause-front
returns-in-Err-clause-front g c =
    let front = take c.loop-done.done c.args.bytes.now in
    (front, (c.loop-done.done, refl), then_nothing g.E.Streams.leads g.met.E.Streams.joins c.args.streams.now c.loop-done.streams c.send.new.self (sent front) c.loop-done.invariant.sent c.in-Err.ensures.err)
