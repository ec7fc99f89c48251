use Rattle.std.proofs.Common.{◌-◌, length, map}
use Rattle.fe_desk.specs.within.Desk.{ArePlaces, client_of}
use Rattle.fe_desk.proofs.port_places.PortPlaces.sort.Given as goal

abbrev pub invariant-loop-self : goal.invariant-loop-self
invariant-loop-self l = ArePlaces l.self (map client_of l.ports)

abbrev pub decreases-loop-self : goal.decreases-loop-self
decreases-loop-self l = length l.ports - l.self.sorted
