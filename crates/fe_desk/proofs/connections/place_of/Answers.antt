use Rattle.std.proofs.Common.{◌∙◌, ap, List, nat_eq}
use Rattle.std.specs.Prelude.{position}
use Rattle.fe_desk.specs.declared.port.Port.{Port}
use Rattle.fe_desk.proofs.Places.{place_some, place_none}
use Rattle.fe_desk.proofs.connections.place_of.Goals as goal

pub returns-clause-place : goal.returns-clause-place
returns-clause-place c = place_some c.args.conn c.args.ports.now.items c.place_among.result (c.place_among.ensures ∙ ap (λ (ports : List Port). position (λ p. nat_eq p.conn c.args.conn) ports) c.as_slice.ensures.value)

pub returns-clause-none : goal.returns-clause-none
returns-clause-none c = place_none c.args.conn c.args.ports.now.items c.place_among.result (c.place_among.ensures ∙ ap (λ (ports : List Port). position (λ p. nat_eq p.conn c.args.conn) ports) c.as_slice.ensures.value)
