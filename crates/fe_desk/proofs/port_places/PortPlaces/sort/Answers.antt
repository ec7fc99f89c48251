use Rattle.std.proofs.Common.{◌≡◌, ◌+◌, ◌%◌, map, refl, sym, subst, arith}
use Rattle.std.proofs.lemmas.List.{length-map}
use Rattle.fe_desk.specs.declared.port.Port.{Port}
use Rattle.fe_desk.specs.declared.port_places.PortPlaces.{PortPlaces}
use Rattle.fe_desk.specs.within.Desk.{alike_bit, client_of}
use Rattle.fe_desk.proofs.Placing.{number_here, one_sorted}
use Rattle.fe_desk.proofs.port_places.PortPlaces.sort.Goals as goal

pub loop-self-preserved : goal.loop-self-preserved
loop-self-preserved c =
    let ports = c.args.ports.now in
    let at = c.loop-self.self.sorted in
    let port = c.index-ports-at.result in
    let test = c.loop-self-test.true in
    let next : PortPlaces = record c.loop-self.self { alike = c.add_to.new.alike; sorted = at + 1 } in
    one_sorted c.loop-self.self next (map client_of ports) port.conn (omega (arith, test, length-map ports client_of)) (number_here ports at port test c.index-ports-at.is) refl refl
    (subst (λ (x : Port). alike_bit c.add_to.new.alike.items (x.conn % 256) at ≡ 1) (sym c.index-ports-at.is) c.add_to.ensures.added) c.add_to.ensures.still c.loop-self.invariant
