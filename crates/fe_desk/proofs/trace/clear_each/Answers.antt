use Rattle.std.proofs.Common.{◌≡◌, ◌+◌, ◌-◌, ◌<◌, ℕ, List, length, refl, ap, arith, rules}
use Rattle.std.proofs.lemmas.List.{length-set}
use Rattle.fe_desk.specs.declared.port.Port.{Port}
use Rattle.fe_desk.specs.within.Desk.{client_of}
use Rattle.fe_desk.proofs.Silence.{none_cleared, next_cleared, cleared_past, cleared_all}
use Rattle.fe_desk.proofs.trace.clear_each.Goals as goal

pub loop-at-init : goal.loop-at-init
loop-at-init c =
    let ports = c.args.ports.now.items in
    let len : c.len.result ≡ length ports = search rules in
    let within = c.next-at.ensures.within in
    cleared_past c.next-at.result 0 c.next-at.result ports ports c.args.written.now (omega arith) (omega (arith, len, within)) c.next-at.ensures.passed (none_cleared ports c.args.written.now c.requires)

pub loop-at-preserved : goal.loop-at-preserved
loop-at-preserved c =
    let ports = c.loop-at.ports.items in
    let at = c.loop-at.at in
    let to = c.next-at-in-loop-at.result in
    let p : Port = c.index_mut.result.now in
    let q : Port = record p { written = c.clear.new.self } in
    let len : c.len-in-loop-at.result ≡ length ports = search rules in
    let again : c.len-in-loop-at-2.result ≡ length ports = search rules in
    let test = c.loop-at-test.true in
    let lt : at < length ports = omega (arith, test, len) in
    let reached = c.next-at-in-loop-at.ensures.reached in
    let within = c.next-at-in-loop-at.ensures.within in
    cleared_past (to - (at + 1)) (at + 1) to c.args.ports.now.items _ c.args.written.now (omega (arith, reached)) (omega (arith, again, within, length-set ports at q)) c.next-at-in-loop-at.ensures.passed
    (next_cleared c.args.ports.now.items ports c.args.written.now at p q lt c.index_mut.ensures.value refl (ap (λ (w : List ℕ). client_of (record p { written = w })) c.clear.ensures) c.loop-at.invariant)

pub returns : goal.returns
returns c =
    let ports = c.loop-at.ports.items in
    let len : c.len-in-loop-at.result ≡ length ports = search rules in
    let test = c.loop-at-test.false in
    cleared_all c.args.ports.now.items ports c.args.written.now c.loop-at.at (omega (arith, test, len)) c.loop-at.invariant
