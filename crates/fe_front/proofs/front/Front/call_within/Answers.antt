use Rattle.std.proofs.Common.{◌≡◌, [], Some, sym, ap, ◌∙◌}
use Rattle.fe_front.proofs.Admitted.{free_within}
use Rattle.fe_front.proofs.Repeating.{called_again}
use Rattle.fe_front.proofs.front.Front.call_within.Goals as goal

pub complete-requires-clause-new : goal.complete-requires-clause-new
complete-requires-clause-new c =
    let new = sym c.request_at.ensures ∙ c.in-None.is in
    record {
      free = free_within c.args.self.now c.args.conn c.args.session c.args.number c.state.ensures.front c.requires.addressed new;
      new = new;
      unspent = sym c.is_spent.ensures ∙ c.if-is_spent.false;
    }

pub wait-requires-clause-new : goal.wait-requires-clause-new
wait-requires-clause-new c =
    let new = sym c.request_at.ensures ∙ c.in-None.is in
    record {
      free = free_within c.args.self.now c.args.conn c.args.session c.args.number c.state.ensures.front c.requires.addressed new;
      new = new;
      unspent = sym c.is_spent.ensures ∙ c.if-is_spent.false;
    }

pub returns-then-is_same-clause-called : goal.returns-then-is_same-clause-called
returns-then-is_same-clause-called c =
    let old = c.args.self.now in
    let session = c.args.session in
    let same : c.in-Some.before ≡ c.args.request = c.is_same.ensures.0 c.if-is_same.true in (
      [],
      called_again old c.args.conn session c.args.number c.args.request c.repeat.result c.repeat.new.self (sym c.request_at.ensures ∙ c.in-Some.is ∙ ap Some same) c.repeat.ensures.outcome c.repeat.ensures.repeated,
    )
