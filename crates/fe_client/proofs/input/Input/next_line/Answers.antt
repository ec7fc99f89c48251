use Rattle.std.proofs.Common.{◌≡◌, ◌+◌, ◌++◌, List, ℕ, [], refl, ap, subst, ◌∙◌, arith}
use Rattle.std.proofs.lemmas.Result.{err_from_is_err_and}
use Rattle.fe_text.proofs.Results.{failed}
use Rattle.fe_client.specs.declared.fault.CallFault.TheVariants as fault
use Rattle.fe_client.specs.Ends.{Cause, IsTooLong, Unread}
use Rattle.fe_client.specs.Conversation.{Conversation}
use Rattle.fe_client.specs.Input.{kept_of, Fills}
use Rattle.fe_client.proofs.Taken.{taking_starts, takes_fed, goes_on, takes_last, reads_on, not_taken, later_not_taken, too_long, fed_front, unfed_front}
use Rattle.fe_client.proofs.input.Input.next_line.Goals as goal

pub returns-then-self-clause-err : goal.returns-then-self-clause-err
returns-then-self-clause-err g c = record {
  so = [];
  left = kept_of c.args.self.now;
  talk = Conversation.Begins;
  why = Unread.Many refl (omega (arith, c.if-self.true));
  happened = g.met.E.Streams.stays c.args.streams.now;
}

pub loop-self-init : goal.loop-self-init
loop-self-init g c = record {
  number = refl;
  counted = c.requires;
  taking = taking_starts g.E.Streams.leads c.args.streams.now (kept_of c.args.self.now) c.clear.new.self.items (kept_of c.args.self.now) (g.met.E.Streams.stays c.args.streams.now) c.clear.ensures.items refl;
}

pub returns-in_err-take_kept-clause-err : goal.returns-in_err-take_kept-clause-err
returns-in_err-take_kept-clause-err g c =
    let mid = c.loop-self.self in
    let inv = c.loop-self.invariant in
    let e = c.in_err-take_kept.ensures.err in
    let end = c.in_err-take_kept.field-0.0 in
    let number = c.args.self.now.number + 1 in
    let line : List ℕ = mid.line.items ++ e.0 in
    let because : Cause → Type 0 = g.E.Streams.because c.loop-self.streams in
    rw (failed c.from_residual.result end c.from_residual.ensures.1)
    (not_taken g.E.Streams.leads end because number c.args.streams.now c.loop-self.streams (kept_of c.args.self.now) mid.line.items (kept_of mid) inv.taking
    (too_long end because number mid.line.items (kept_of mid) e.0 e.1 inv.taking.no_feed e.2 e.3 (subst (λ (n : ℕ). IsTooLong end n line) inv.number e.4)))

pub returns-then-branch-clause-taken : goal.returns-then-branch-clause-taken
returns-then-branch-clause-taken g c =
    let mid = c.loop-self.self in
    let new = c.take_kept.new.self in
    let t = c.in_ok-take_kept.ensures.taken in
    takes_fed g.E.Streams.leads c.args.streams.now c.loop-self.streams (kept_of c.args.self.now) mid.line.items (kept_of mid) t.0 new.line.items (kept_of new) c.loop-self.invariant.taking t.1
    (fed_front (kept_of mid) t.0 (kept_of new) c.in_ok-take_kept.field-0 c.if-branch.true t.3) t.2

pub returns-in_err-fill-clause-err : goal.returns-in_err-fill-clause-err
returns-in_err-fill-clause-err g c =
    let mid = c.loop-self.self in
    let told = err_from_is_err_and c.from_residual-in_err-fill.result c.from_residual-in_err-fill.ensures.1 in
    let number = c.args.self.now.number + 1 in
    let leads = g.E.Streams.leads in
    let because : Cause → Type 0 = g.E.Streams.because c.fill.new.streams in
    rw told.1
    (later_not_taken leads g.met.E.Streams.joins told.0 because number c.args.streams.now c.loop-self.streams c.fill.new.streams (kept_of c.args.self.now)
    (not_taken leads told.0 because number c.args.streams.now c.loop-self.streams (kept_of c.args.self.now) mid.line.items (kept_of mid) c.loop-self.invariant.taking (Unread.Failed c.in_err-fill.field-0.0 c.in_err-fill.ensures.fails told.2))
    c.in_err-fill.ensures.err)

pub returns-then-not-branch-clause-taken : goal.returns-then-not-branch-clause-taken
returns-then-not-branch-clause-taken g c =
    let mid = c.loop-self.self in
    let new = c.take_kept.new.self in
    let t = c.in_ok-take_kept.ensures.taken in
    let f = c.in_ok-fill.ensures in
    let kept = unfed_front (kept_of mid) t.0 (kept_of new) c.in_ok-take_kept.field-0 c.if-branch.false t.3 in
    let on = goes_on g.E.Streams.leads c.args.streams.now c.loop-self.streams (kept_of c.args.self.now) mid.line.items (kept_of mid) t.0 new.line.items (kept_of new) c.loop-self.invariant.taking t.1 kept.0 kept.1 t.2 in
    let ended = subst (λ b. Fills b (kept_of c.fill.new.self) f.read.0) c.if-not-branch.true f.read.1 in
    takes_last g.E.Streams.leads g.met.E.Streams.joins c.args.streams.now c.loop-self.streams c.fill.new.streams (kept_of c.args.self.now) new.line.items (kept_of new) c.fill.new.self.line.items f.read.0 on kept.1 ended f.read.2 (ap (λ v. v.items) f.line)

pub loop-self-preserved : goal.loop-self-preserved
loop-self-preserved g c =
    let mid = c.loop-self.self in
    let new = c.take_kept.new.self in
    let t = c.in_ok-take_kept.ensures.taken in
    let f = c.in_ok-fill.ensures in
    let kept = unfed_front (kept_of mid) t.0 (kept_of new) c.in_ok-take_kept.field-0 c.if-branch.false t.3 in
    let on = goes_on g.E.Streams.leads c.args.streams.now c.loop-self.streams (kept_of c.args.self.now) mid.line.items (kept_of mid) t.0 new.line.items (kept_of new) c.loop-self.invariant.taking t.1 kept.0 kept.1 t.2 in
    let filled = subst (λ b. Fills b (kept_of c.fill.new.self) f.read.0) c.if-not-branch.false f.read.1 in
    let reads : mid.reads + 1 ≡ c.fill.new.self.reads = omega (arith, f.reads, c.in_ok-take_kept.ensures.reads) in
    record {
      number = f.number ∙ c.in_ok-take_kept.ensures.number ∙ c.loop-self.invariant.number;
      counted = subst (λ (n : ℕ). g.E.Streams.because c.fill.new.streams (Cause.ReadTimes n)) reads (f.counts mid.reads c.loop-self.invariant.counted);
      taking = reads_on g.E.Streams.leads g.met.E.Streams.joins c.args.streams.now c.loop-self.streams c.fill.new.streams (kept_of c.args.self.now) new.line.items (kept_of new) (kept_of c.fill.new.self) c.fill.new.self.line.items f.read.0 on kept.1 filled f.read.2 (ap (λ v. v.items) f.line);
    }

pub returns-clause-err : goal.returns-clause-err
returns-clause-err g c =
    let mid = c.loop-self.self in
    not_taken g.E.Streams.leads fault.Input (g.E.Streams.because c.loop-self.streams) (c.args.self.now.number + 1) c.args.streams.now c.loop-self.streams (kept_of c.args.self.now) mid.line.items (kept_of mid) c.loop-self.invariant.taking
    (Unread.Often mid.reads c.loop-self.invariant.counted (omega arith) refl)
