use Rattle.std.proofs.Common.{◌≡◌, ℕ, true≢false, length, Option, Some, None, sym, ap, subst, ◌∙◌, arith}
use Rattle.std.proofs.lemmas.Bool.{eqb-true}
use Rattle.std.specs.Prelude.{IfSome}
use Rattle.fe_state.specs.declared.batch.Batch.{Batch}
use Rattle.fe_front.specs.Front.{FrontState, out_length}
use Rattle.fe_front.specs.Posting.{IsOut}
use Rattle.fe_front.specs.declared.out.Out.{Out}
use Rattle.fe_front.proofs.Keeping.{posted_all-keeps}
use Rattle.fe_front.proofs.front.Front.post.Goals.{in-None, in-Some+then-batch-out, in-Some+else-batch-out}
use Rattle.fe_front.proofs.front.Front.post.Goals as goal

out_first : (o : Option Out) (batch : Batch) (mark : ℕ) → IsOut o batch → IfSome o (λ x. x.first ≡ mark) → batch.first ≡ mark
out_first None batch mark h e = absurd h
out_first (Some o) batch mark h e = h.0 ∙ e

out_long : (o : Option Out) (batch : Batch) → IsOut o batch → out_length o ≡ length batch.entries
out_long None batch h = absurd h
out_long (Some o) batch h = sym h.1

pub invariant_of-self : goal.invariant_of-self
invariant_of-self c =
    let old = c.args.self.now in
    let new = c.self-2.inside in
    let batch = c.args.batch in
    let was_out : IsOut c.self.inside.out batch = elim c.match-self.branch [
      | in-None w ↦ absurd (true≢false (sym c.if-not-is_out.false ∙ w.is_out-is))
      | in-Some+then-batch-out w ↦ rw w.in-Some.is (omega (arith, w.if-batch-out.true), ap length (sym w.as_slice.ensures.entries) ∙ eqb-true _ _ (sym w.is_out-is ∙ c.if-not-is_out.false))
      | in-Some+else-batch-out w ↦ absurd (omega (arith, w.if-batch-out.false, eqb-true _ _ (sym w.is_out-is ∙ c.if-not-is_out.false)))
    ] in
    let is_out : IsOut old.out batch = subst (λ (f : FrontState). IsOut f.out batch) c.self.view_is was_out in
    let all = posted_all-keeps old c.as_slice-2.result.now batch.first in
    let mark = out_first old.out batch old.durable is_out c.state.ensures.front.tied.out_first in
    let long = out_long old.out batch is_out in
    let durable : new.durable ≡ old.durable = ap (λ (f : FrontState). f.durable) (c.self-2.view_is ∙ c.post_all.ensures.posted) ∙ all.durable in
    let out : new.out ≡ old.out = ap (λ (f : FrontState). f.out) (c.self-2.view_is ∙ c.post_all.ensures.posted) ∙ all.out in
    let outs = ap out_length out in
    let tied = c.self-2.invariant.tied in
    let more : length c.as_slice-3.result.now ≡ length batch.entries = ap length c.as_slice-3.ensures.entries in
    record {
      tied = record {
        agree = tied.agree;
        place = omega (arith, tied.place, mark, long, durable, outs, more);
        few_out = omega arith;
        out_first = tt;
        balance = tied.balance;
      };
      spare = λ _. ap Some c.clear.ensures;
    }
