use Rattle.std.proofs.Common.{◌≡◌, ◌≤◌, ◌-◌, []}
use Rattle.fe_hall.specs.Reads.{AreLeft, IsAt}
use Rattle.fe_hall.proofs.reading.Reading.read_all.Given as goal

abbrev pub invariant-loop : goal.invariant-loop
invariant-loop g l = record {
  next : (goal.iterator-loop g).can_next l.iterator' × (goal.iterator-loop g).is_finite l.iterator';
  is_known : g.H.ReadHalf.is_known l.initial.half → g.H.ReadHalf.is_known l.half;
  at : g.H.ReadHalf.is_known l.initial.half → g.H.ReadHalf.known l.initial.half ≡ []
      → IsAt [] l.initial.self.seat l.initial.self.decoder l.initial.self.seat l.initial.self.listed.items
      → IsAt (g.H.ReadHalf.known l.half) l.initial.self.seat l.self.decoder l.self.seat l.self.listed.items;
  own : l.self.seat.conn ≡ l.initial.self.seat.conn;
  left : AreLeft l.fn.turns l.left (g.H.ReadHalf.reads l.half - g.H.ReadHalf.reads l.initial.half);
  more : g.H.ReadHalf.reads l.initial.half ≤ g.H.ReadHalf.reads l.half;
}
