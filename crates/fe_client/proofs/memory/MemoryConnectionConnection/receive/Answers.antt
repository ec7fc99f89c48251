use Rattle.std.proofs.Common.{◌≡◌, ℕ, ◌+◌, ◌-◌, ◌≤◌, List, length, take, drop, ap, ◌∙◌, arith, length-take}
use Rattle.fe_client.proofs.Fronts.{copied}
use Rattle.fe_client.proofs.memory.MemoryConnectionConnection.receive.Goals as goal

pub returns-clause-received : goal.returns-clause-received
returns-clause-received c =
    let s = c.args.self.now in
    let count = c.min-count.result in
    let few : count ≤ length c.args.buffer.now = omega (arith, c.min-count.ensures, c.min.ensures) in
    let sized : length c.copy_from_slice.new.self ≡ count = omega (arith, c.copy_from_slice.ensures.len, length-take count c.args.buffer.now, few) in
    copied s.answers.items c.copy_from_slice.new.self (drop count c.args.buffer.now) s.next count sized
    (c.copy_from_slice.ensures.after ∙ ap (λ (xs : List ℕ). take (s.next + count - s.next) (drop s.next xs)) c.as_slice.ensures.value)
