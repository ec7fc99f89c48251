use Rattle.std.proofs.Common.{sym, ◌∙◌}
use Rattle.std.specs.Prelude.{map}
use Rattle.fe_desk.specs.within.Desk.{client_of}
use Rattle.fe_desk.proofs.Placing.{noted}
use Rattle.fe_desk.proofs.port_places.PortPlaces.find.Goals as goal

pub returns-in-Some-clause-place : goal.returns-in-Some-clause-place
returns-in-Some-clause-place c = c.requires.known c.args.conn c.in-Some.at (sym c.known.ensures ∙ c.in-Some.is)

pub returns-in-Some-found-clause-places : goal.returns-in-Some-found-clause-places
returns-in-Some-found-clause-places c = record {
  known = noted c.args.self.now.indexes c.insert.new.self c.args.conn c.in-Some-found.at (map client_of c.args.ports.now.items) c.insert.result c.insert.ensures.updates c.insert.ensures.err c.in-Some-found.ensures.place c.requires.known;
  few = c.requires.few;
  sorted = c.requires.sorted;
}
