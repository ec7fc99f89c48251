use Rattle.std.proofs.Common.{◌+◌, ◌-◌, ◌++◌, ℕ, List, drop, sym, subst, refl, arith, ◌∙◌}
use Rattle.std.proofs.lemmas.Option.{none-some}
use Rattle.fe_text.proofs.Results.{failed}
use Rattle.fe_client.specs.Events.{Event, received}
use Rattle.fe_client.proofs.Frames.{parts_at_front, body_length, no_reply, incomplete}
use Rattle.fe_client.proofs.Leads.{then_bytes}
use Rattle.fe_client.specs.Ends.{Unanswered}
use Rattle.fe_client.proofs.receiving.receive_reply.Goals as goal

pub returns-in_err-receive_all-clause-err : goal.returns-in_err-receive_all-clause-err
returns-in_err-receive_all-clause-err g c =
    let e = c.in_err-receive_all.ensures.err in
    let end = c.in_err-receive_all.field-0.0 in
    let head = c.receive_length.new.head in
    let few = c.in_ok-count.ensures.reads in
    let four = c.receive_length.ensures.head in
    rw (failed c.from_residual-in_err-receive_all.result end c.from_residual-in_err-receive_all.ensures.1) (
      head ++ e.0,
      then_bytes g.E.Streams.leads g.met.E.Streams.joins Event.Received c.args.streams.now c.receive_length.new.streams c.receive_all.new.streams head e.0 c.in_ok-count.ensures.ok e.1,
      Unanswered.Incomplete (incomplete end (g.E.Streams.because c.receive_all.new.streams) c.args.reads.now c.receive_length.new.reads head e.0 (omega (arith, few, four)) e.2),
    )

pub returns-in-Ok-Some-clause-reply : goal.returns-in-Ok-Some-clause-reply
returns-in-Ok-Some-clause-reply g c =
    let head = c.receive_length.new.head in
    let body = c.receive_all.new.buffer in
    let count = c.in_ok-count.count in
    let four = c.receive_length.ensures.head in
    let all = body_length head c.args.room.now body count four c.requires.room c.in_ok-count.ensures.few c.receive_all.ensures.len in
    let front = parts_at_front head body (drop 4 c.args.room.now) count (4 + count - 4) four all in
    let both = then_bytes g.E.Streams.leads g.met.E.Streams.joins Event.Received c.args.streams.now c.receive_length.new.streams c.receive_all.new.streams head body c.in_ok-count.ensures.ok c.in_ok-receive_all.ensures.ok in
    let found = rw c.in-Ok-Some.field-0-is at c.in-Ok-Some.ensures.found in
    (found.0, subst (λ (t : List ℕ). g.E.Streams.leads c.args.streams.now (received t) c.receive_all.new.streams) (sym front ∙ found.1) both)

pub returns-in-Ok-None-clause-err : goal.returns-in-Ok-None-clause-err
returns-in-Ok-None-clause-err g c =
    let head = c.receive_length.new.head in
    let body = c.receive_all.new.buffer in
    let count = c.in_ok-count.count in
    let four = c.receive_length.ensures.head in
    let all = body_length head c.args.room.now body count four c.requires.room c.in_ok-count.ensures.few c.receive_all.ensures.len in
    let front = parts_at_front head body (drop 4 c.args.room.now) count (4 + count - 4) four all in
    let both = then_bytes g.E.Streams.leads g.met.E.Streams.joins Event.Received c.args.streams.now c.receive_length.new.streams c.receive_all.new.streams head body c.in_ok-count.ensures.ok c.in_ok-receive_all.ensures.ok in
    (head ++ body, both, Unanswered.BadFrame refl (no_reply head body count four all c.in_ok-count.ensures.length (λ m fits e. absurd (none-some _ (sym c.in-Ok-None.field-0-is ∙ c.in-Ok-None.ensures.only m fits (front ∙ e))))))

pub returns-in-Err-clause-err : goal.returns-in-Err-clause-err
returns-in-Err-clause-err g c =
    let head = c.receive_length.new.head in
    let body = c.receive_all.new.buffer in
    (head ++ body, then_bytes g.E.Streams.leads g.met.E.Streams.joins Event.Received c.args.streams.now c.receive_length.new.streams c.receive_all.new.streams head body c.in_ok-count.ensures.ok c.in_ok-receive_all.ensures.ok, Unanswered.NoMemory refl)
