use Rattle.std.proofs.Common.{ℕ, ◌+◌, refl, sym, subst, ◌∙◌}
use Rattle.fe_text.proofs.Results.{failed, then_ok, err_then}
use Rattle.fe_client.specs.Ends.{Cause}
use Rattle.fe_client.specs.Input.{kept_of}
use Rattle.fe_client.proofs.Calls.{nothing_yet, line_more, talked_all, not_read, line_broke, last_broke, no_memory}
use Rattle.fe_client.proofs.Taken.{fed_line, unfed_line}
use Rattle.fe_client.proofs.calling.converse.Goals as goal

pub returns-in_err-input-clause-fault : goal.returns-in_err-input-clause-fault
returns-in_err-input-clause-fault g c =
    let end = c.in_err-input.field-0.0 in
    let s = c.args.streams.now in
    rw (failed c.from_residual.result end c.from_residual.ensures.1) (no_memory g.E.Streams.leads end (g.E.Streams.because s) s (g.met.E.Streams.stays s) c.in_err-input.ensures.err)

pub returns-in_err-talk-clause-fault : goal.returns-in_err-talk-clause-fault
returns-in_err-talk-clause-fault g c =
    let end = c.in_err-talk.field-0.0 in
    let s = c.args.streams.now in
    rw (failed c.from_residual-in_err-talk.result end c.from_residual-in_err-talk.ensures.1) (no_memory g.E.Streams.leads end (g.E.Streams.because s) s (g.met.E.Streams.stays s) c.in_err-talk.ensures.err)

pub loop-talk-init : goal.loop-talk-init
loop-talk-init g c =
    let input = c.in_ok-input.input in
    let s = c.args.streams.now in
    record {
      so_far = nothing_yet g.E.Streams.leads s (kept_of input) input.number c.in_ok-talk.talk.reads (g.met.E.Streams.stays s) c.in_ok-input.ensures.kept c.in_ok-input.ensures.number c.in_ok-talk.ensures.reads;
      counted = subst (λ (n : ℕ). g.E.Streams.because s (Cause.ReadTimes n)) (sym c.in_ok-input.ensures.reads) (g.met.E.Streams.begins s);
    }

pub returns-in_err-next_line-clause-fault : goal.returns-in_err-next_line-clause-fault
returns-in_err-next_line-clause-fault g c =
    let number = c.loop-talk.input.number in
    let end = c.in_err-next_line.field-0.0 in
    rw (failed c.from_residual-in_err-next_line.result end c.from_residual-in_err-next_line.ensures.1)
    (not_read g.E.Streams.leads g.met.E.Streams.joins end (g.E.Streams.because c.next_line.new.streams) c.args.streams.now c.loop-talk.streams c.next_line.new.streams (kept_of c.loop-talk.input) number (number + 1) c.loop-talk.talk.reads
    c.loop-talk.invariant.so_far refl c.in_err-next_line.ensures.err)

pub loop-talk-preserved : goal.loop-talk-preserved
loop-talk-preserved g c =
    let new = c.next_line.new.self in
    let takes = fed_line g.E.Streams.leads c.loop-talk.streams c.next_line.new.streams (kept_of c.loop-talk.input) (kept_of new) c.line.result.now new.line.items c.in_ok-next_line.field-0 c.line.ensures c.if-branch.true c.in_ok-next_line.ensures.taken in
    let done = c.in_ok-take_line.ensures.ok in
    record {
      so_far = line_more g.E.Streams.leads g.met.E.Streams.joins c.args.streams.now c.loop-talk.streams c.next_line.new.streams c.take_line.new.streams (kept_of c.loop-talk.input) (kept_of new) c.line.result.now c.loop-talk.input.number new.number c.loop-talk.talk.reads c.take_line.new.self.reads
          c.loop-talk.invariant.so_far takes c.in_ok-next_line.ensures.number done;
      counted = g.met.E.Streams.keeps_reads c.next_line.new.streams c.take_line.new.streams done.done new.reads done.happened c.in_ok-next_line.ensures.counts;
    }

pub returns-in_err-take_line-clause-fault : goal.returns-in_err-take_line-clause-fault
returns-in_err-take_line-clause-fault g c =
    let new = c.next_line.new.self in
    let takes = fed_line g.E.Streams.leads c.loop-talk.streams c.next_line.new.streams (kept_of c.loop-talk.input) (kept_of new) c.line.result.now new.line.items c.in_ok-next_line.field-0 c.line.ensures c.if-branch.true c.in_ok-next_line.ensures.taken in
    let end = c.in_err-take_line.field-0.0 in
    rw (failed c.from_residual-in_err-take_line.result end c.from_residual-in_err-take_line.ensures.1)
    (line_broke g.E.Streams.leads g.met.E.Streams.joins end (g.E.Streams.because c.take_line.new.streams) c.args.streams.now c.loop-talk.streams c.next_line.new.streams c.take_line.new.streams (kept_of c.loop-talk.input) (kept_of new) c.line.result.now c.loop-talk.input.number c.number.result c.loop-talk.talk.reads
    c.loop-talk.invariant.so_far takes (c.number.ensures ∙ c.in_ok-next_line.ensures.number) c.in_err-take_line.ensures.err)

pub returns-clause-ok : goal.returns-clause-ok
returns-clause-ok g c =
    let new = c.next_line.new.self in
    let takes = unfed_line g.E.Streams.leads c.loop-talk.streams c.next_line.new.streams (kept_of c.loop-talk.input) (kept_of new) c.line-2.result.now new.line.items c.in_ok-next_line.field-0 c.line-2.ensures c.if-branch.false c.in_ok-next_line.ensures.taken in
    then_ok c.take_line-2.result
    (λ d. talked_all g.E.Streams.leads g.met.E.Streams.joins c.args.streams.now c.loop-talk.streams c.next_line.new.streams c.take_line-2.new.streams (kept_of c.loop-talk.input) c.line-2.result.now c.loop-talk.input.number c.loop-talk.talk.reads c.take_line-2.new.self.reads c.loop-talk.invariant.so_far takes d)
    c.take_line-2.ensures.ok

pub returns-clause-fault : goal.returns-clause-fault
returns-clause-fault g c =
    let new = c.next_line.new.self in
    let takes = unfed_line g.E.Streams.leads c.loop-talk.streams c.next_line.new.streams (kept_of c.loop-talk.input) (kept_of new) c.line-2.result.now new.line.items c.in_ok-next_line.field-0 c.line-2.ensures c.if-branch.false c.in_ok-next_line.ensures.taken in
    err_then c.take_line-2.result
    (λ end d. last_broke g.E.Streams.leads g.met.E.Streams.joins end (g.E.Streams.because c.take_line-2.new.streams) c.args.streams.now c.loop-talk.streams c.next_line.new.streams c.take_line-2.new.streams (kept_of c.loop-talk.input) c.line-2.result.now c.loop-talk.input.number c.number-2.result c.loop-talk.talk.reads
    c.loop-talk.invariant.so_far takes (c.number-2.ensures ∙ c.in_ok-next_line.ensures.number) d)
    c.take_line-2.ensures.err
