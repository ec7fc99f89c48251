use Rattle.std.proofs.Common.{◌≡◌, ℕ, ◌+◌, ◌<◌, List, [], ◌++◌, length, map, drop, sym, ap, ◌∙◌, subst, append_assoc, append-nil, arith}
use Rattle.std.proofs.Math.Numerals.{add-one}
use Rattle.std.proofs.lemmas.List.{length-map}
use Rattle.fe_desk.specs.Messages.{outputs}
use Rattle.fe_desk.specs.declared.port.Port.{Port}
use Rattle.fe_schedules.specs.Schedule.{ArePrintedReplies, printed_to}
use Rattle.fe_schedules.specs.declared.printed_reply.PrintedReply.{PrintedReply}
use Rattle.fe_schedules.proofs.Outputs.{outs, port_replies, one_port_more, passed_over, silent_replies}
use Rattle.fe_schedules.proofs.reading.read_all.Goals as goal

-- an index of an output is that of a port
of_port : (ports : List Port) (os : List (ℕ × List ℕ)) (at : ℕ) → outs ports ≡ os → at < length os → at < length ports
of_port ports os at same within = omega (arith, within, ap length same, length-map {B = ℕ × List ℕ} ports (λ (p : Port). (p.conn, p.written)))

pub bounds-ports-at : goal.bounds-ports-at
bounds-ports-at c =
    of_port c.as_slice-ports.result.now (outputs c.args.desk.now.run_state) c.in-Some.at (ap (λ (ps : List Port). outs ps) c.as_slice-ports.ensures.value ∙ c.trace.ensures.written) c.in-Some.ensures.next.within

pub read_replies-requires : goal.read_replies-requires
read_replies-requires c = c.as_slice.ensures.frames

pub loop-at-smaller : goal.loop-at-smaller
loop-at-smaller c =
    let within = c.in-Some.ensures.next.within in
    let reached = c.in-Some.ensures.next.reached in
    omega (arith, within, reached)

pub loop-at-preserved : goal.loop-at-preserved
loop-at-preserved c = λ left t.
    let os = outputs c.args.desk.now.run_state in
    let ports = c.as_slice-ports.result.now in
    let at = c.in-Some.at in
    let next = c.in-Some.ensures.next in
    let p = c.index-ports-at.result in
    let same : outs ports ≡ os = ap (λ (ps : List Port). outs ps) c.as_slice-ports.ensures.value ∙ c.trace.ensures.written in
    let replies = port_replies c.as_slice.result.now p.written c.as_slice.ensures.bytes c.as_slice.ensures.frames in
    let here : List PrintedReply = map (printed_to p.conn) replies.0 in
    let later = subst (λ (n : ℕ). ArePrintedReplies (drop n (outs ports)) left) (add-one at) (subst (λ (xs : List (ℕ × List ℕ)). ArePrintedReplies (drop (at + 1) xs) left) (sym same) t) in
    let one = one_port_more ports at p replies.0 left (of_port ports os at same next.within) c.index-ports-at.is replies.3 later in
    let all = c.loop-at.invariant (here ++ left) (passed_over os c.loop-at.from at (here ++ left) next.reached next.silent (subst (λ (xs : List (ℕ × List ℕ)). ArePrintedReplies (drop at xs) (here ++ left)) same one)) in
    subst (λ (xs : List PrintedReply). ArePrintedReplies os xs) (sym (ap (λ (xs : List PrintedReply). xs ++ left) (c.in_ok-read_replies.ensures replies.0 replies.1 replies.2) ∙ append_assoc c.loop-at.printed_replies.items here left)) all

pub returns : goal.returns
returns c =
    let os = outputs c.args.desk.now.run_state in
    subst (λ (xs : List PrintedReply). ArePrintedReplies os xs) (append-nil c.loop-at.printed_replies.items) (c.loop-at.invariant [] (silent_replies (drop c.loop-at.from os) c.in_default.ensures.none))
