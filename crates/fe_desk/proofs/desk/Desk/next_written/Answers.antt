use Rattle.std.proofs.Common.{◌≡◌, ◌-◌, ◌≤◌, drop, take_all, length, map, subst, arith, rules}
use Rattle.std.proofs.lemmas.List.{length-drop, length-map}
use Rattle.fe_desk.specs.Crash.{DeskState}
use Rattle.fe_desk.proofs.Outputs.{output_of}
use Rattle.fe_desk.specs.Messages.{outputs}
use Rattle.fe_desk.specs.Runs.{AreSilent, IsNextWritten}
use Rattle.fe_desk.specs.within.Desk.{client_of}
use Rattle.fe_desk.proofs.Silence.{none_between}
use Rattle.fe_desk.proofs.desk.Desk.next_written.Goals as goal

pub returns-then-at-end-clause-next : goal.returns-then-at-end-clause-next
returns-then-at-end-clause-next g c =
    let ports = c.self.inside.inner.trace.ports.items in
    let outs = map output_of (map client_of ports) in
    let len : c.len-end.result ≡ length ports = search rules in
    let lt = c.if-at-end.true in
    subst (λ (d : DeskState g.row.D.Denot). IsNextWritten (outputs d.run_state) c.args.from c.next-at.result) c.self.view_is (record {
      reached = c.next-at.ensures.reached;
      within = omega (arith, lt, len, length-map (map client_of ports) output_of, length-map ports client_of);
      silent = none_between c.args.from c.next-at.result outs c.self.inside.written c.next-at.ensures.reached c.next-at.ensures.passed c.self.invariant.2;
    })

pub returns-else-at-end-clause-none : goal.returns-else-at-end-clause-none
returns-else-at-end-clause-none g c =
    let ports = c.self.inside.inner.trace.ports.items in
    let outs = map output_of (map client_of ports) in
    let len : c.len-end.result ≡ length ports = search rules in
    let past = c.if-at-end.false in
    let long : length (drop c.args.from outs) ≤ c.next-at.result - c.args.from = omega (arith, past, len, length-drop c.args.from outs, length-map (map client_of ports) output_of, length-map ports client_of) in
    subst (λ (d : DeskState g.row.D.Denot). AreSilent (drop c.args.from (outputs d.run_state))) c.self.view_is
    (subst AreSilent (take_all (c.next-at.result - c.args.from) (drop c.args.from outs) long)
    (none_between c.args.from c.next-at.result outs c.self.inside.written c.next-at.ensures.reached c.next-at.ensures.passed c.self.invariant.2))
