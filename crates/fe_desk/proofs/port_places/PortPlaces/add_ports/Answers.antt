use Rattle.std.proofs.Common.{◌≡◌, ◌%◌, ℕ, List, IsTrue, map, slice_index_or, false, inl, inr, sym, subst, arith}
use Rattle.std.proofs.lemmas.Bool.{cases_eq}
use Rattle.std.proofs.lemmas.List.{length-map}
use Rattle.fe_front.specs.Posting.{may_have}
use Rattle.fe_desk.specs.declared.port_set.PortSet.{PortSet}
use Rattle.fe_desk.specs.within.Desk.{alike_bit, client_of}
use Rattle.fe_desk.proofs.Placing.{number_within}
use Rattle.fe_desk.proofs.port_places.PortPlaces.add_ports.Goals as goal

pub loop-remainder-preserved : goal.loop-remainder-preserved
loop-remainder-preserved c =
    let k = c.loop-remainder.remainder in
    let is = c.as_slice.ensures.value in
    record {
      added = λ r below has at bit. elim (cases_eq r k) [
        | inl e ↦
            let here : alike_bit c.as_slice.result.now k at ≡ 1 =
            subst (λ (sets : List PortSet). alike_bit sets k at ≡ 1) (sym is) (subst (λ (n : ℕ). alike_bit c.sort.new.self.alike.items n at ≡ 1) e bit) in
            c.add_alike.ensures.added (subst (λ (n : ℕ). IsTrue (may_have c.args.mailed.now n)) e has) at here
        | inr ne ↦ c.add_alike.ensures.still at (c.loop-remainder.invariant.added r (omega (arith, below, ne)) has at bit)
      ];
      still = λ at bit. c.add_alike.ensures.still at (c.loop-remainder.invariant.still at bit);
    }

pub returns-clause-added : goal.returns-clause-added
returns-clause-added c = λ at conn is has.
    let past = c.loop-remainder-test.false in
    let all = c.sort.ensures.all in
    let there = number_within (map client_of c.args.ports.now) at conn is in
    let same : conn % 256 ≡ conn % 256 % 256 = omega arith in
    c.loop-remainder.invariant.added (conn % 256) (omega (arith, past)) (subst (λ (n : ℕ). IsTrue (slice_index_or c.args.mailed.now.remainders n false)) same has) at
    (c.sort.ensures.places.sorted at conn (omega (arith, all, there, length-map c.args.ports.now client_of)) is)
