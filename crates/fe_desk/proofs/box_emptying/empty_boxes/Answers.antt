use Rattle.std.proofs.Common.{◌≡◌, ◌+◌, ◌-◌, ◌<◌, ◌∙◌, ap, map, length, refl, arith, rules}
use Rattle.std.proofs.lemmas.List.{length-set}
use Rattle.fe_desk.specs.DeskRunState.{Client}
use Rattle.fe_desk.specs.within.Desk.{client_of}
use Rattle.fe_desk.specs.declared.port.Port.{Port}
use Rattle.fe_desk.proofs.WithMail.{still_all}
use Rattle.fe_desk.proofs.Walking.{walk_begun, one_walked, walked_past, walked_out, walked_empty}
use Rattle.fe_desk.proofs.Emptying.{itself, both, all_alike, on_any_err}
use Rattle.fe_desk.proofs.Writing.{port_stops, stops_number}
use Rattle.fe_desk.proofs.box_emptying.empty_boxes.Goals as goal

pub loop-at-init : goal.loop-at-init
loop-at-init c =
    let f = c.args.front.now in
    let ports = c.args.ports.now.items in
    let len : c.len.result ≡ length ports = search rules in
    let within = c.next-at.ensures.within in
    record {
      walked = walked_past c.next-at.result 0 c.next-at.result f (map client_of ports) c.args.written.now f ports (omega arith) (omega (arith, len, within)) c.next-at.ensures.passed (walk_begun f ports c.args.written.now c.requires.written);
      numbers = refl;
      keeps = itself f;
      mailed = c.requires.mailed;
    }

pub loop-at-preserved : goal.loop-at-preserved
loop-at-preserved c =
    let ports = c.loop-at.ports.items in
    let len : c.len-in-loop-at.result ≡ length ports = search rules in
    let test = c.loop-at-test.true in
    let lt : c.loop-at.at < length ports = omega (arith, test, len) in
    let again : c.len-in-loop-at-2.result ≡ length ports = search rules in
    let at = c.loop-at.at in
    let to = c.next-at-in-loop-at.result in
    let reached = c.next-at-in-loop-at.ensures.reached in
    let within = c.next-at-in-loop-at.ensures.within in
    record {
      walked = walked_past (to - (at + 1)) (at + 1) to c.args.front.now (map client_of c.args.ports.now.items) c.args.written.now c.take_mails.new.front _ (omega (arith, reached)) (omega (arith, again, within, length-set ports at c.take_mails.new.self)) c.next-at-in-loop-at.ensures.passed
          (one_walked c.args.front.now (map client_of c.args.ports.now.items) c.args.written.now c.loop-at.front c.take_mails.new.front ports at c.index_mut.result.now c.take_mails.new.self lt c.index_mut.ensures.value c.in_ok-take_mails.ensures.emptied c.in_ok-take_mails.ensures.written_out c.loop-at.invariant.walked);
      numbers = all_alike (λ (p : Port). p.conn) ports at c.index_mut.result.now c.take_mails.new.self lt c.index_mut.ensures.value (ap (λ (x : Client). x.conn) c.in_ok-take_mails.ensures.written_out) ∙ c.loop-at.invariant.numbers;
      keeps = both c.args.front.now c.loop-at.front c.take_mails.new.front c.loop-at.invariant.keeps c.take_mails.ensures.front;
      mailed = still_all c.loop-at.front c.take_mails.new.front c.args.mailed.now c.take_mails.ensures.front c.loop-at.invariant.mailed;
    }

pub returns-in_err-take_mails-clause-numbers : goal.returns-in_err-take_mails-clause-numbers
returns-in_err-take_mails-clause-numbers c =
    let ports = c.loop-at.ports.items in
    let len : c.len-in-loop-at.result ≡ length ports = search rules in
    let test = c.loop-at-test.true in
    let lt : c.loop-at.at < length ports = omega (arith, test, len) in
    all_alike (λ (p : Port). p.conn) ports c.loop-at.at c.index_mut.result.now c.take_mails.new.self lt c.index_mut.ensures.value (stops_number c.loop-at.front (client_of c.index_mut.result.now) c.take_mails.new.front (client_of c.take_mails.new.self) c.in_err-take_mails.ensures.stops) ∙ c.loop-at.invariant.numbers

pub returns-in_err-take_mails-clause-writes : goal.returns-in_err-take_mails-clause-writes
returns-in_err-take_mails-clause-writes c =
    let ports = c.loop-at.ports.items in
    let len : c.len-in-loop-at.result ≡ length ports = search rules in
    let test = c.loop-at-test.true in
    let lt : c.loop-at.at < length ports = omega (arith, test, len) in
    on_any_err c.from_residual.result (port_stops c.args.front.now (map client_of c.args.ports.now.items) c.loop-at.front c.take_mails.new.front ports c.loop-at.at c.index_mut.result.now c.take_mails.new.self lt c.index_mut.ensures.value c.loop-at.invariant.walked.written c.in_err-take_mails.ensures.stops)

pub returns-clause-written_out : goal.returns-clause-written_out
returns-clause-written_out c =
    let ports = c.loop-at.ports.items in
    let len : c.len-in-loop-at.result ≡ length ports = search rules in
    let test = c.loop-at-test.false in
    walked_out c.args.front.now (map client_of c.args.ports.now.items) c.loop-at.front ports c.loop-at.at (omega (arith, test, len)) c.loop-at.invariant.walked.written

pub returns-clause-emptied : goal.returns-clause-emptied
returns-clause-emptied c =
    let ports = c.loop-at.ports.items in
    let len : c.len-in-loop-at.result ≡ length ports = search rules in
    let test = c.loop-at-test.false in
    walked_empty c.args.front.now (map client_of c.args.ports.now.items) c.loop-at.front ports c.loop-at.at (omega (arith, test, len)) c.loop-at.invariant.walked.written
