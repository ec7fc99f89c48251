use Rattle.std.proofs.Common.{◌≡◌, ◌<◌, ℕ, IsTrue}
use Rattle.fe_front.specs.Posting.{may_have}
use Rattle.fe_desk.specs.within.Desk.{alike_bit, port_bit}
use Rattle.fe_desk.proofs.port_places.PortPlaces.add_ports.Given as goal

-- the ports of the remainders before this one are in the set
abbrev pub invariant-loop-remainder : goal.invariant-loop-remainder
invariant-loop-remainder l =
    record { added : (r : ℕ) → r < l.remainder → IsTrue (may_have l.mailed r) → (at : ℕ) → alike_bit l.self.alike.items r at ≡ 1 → port_bit l.written at ≡ 1; still : (at : ℕ) → port_bit l.fn.written at ≡ 1 → port_bit l.written at ≡ 1 }
