use Rattle.std.proofs.Common.{◌++◌, map, ap, subst, ◌∙◌, arith}
use Rattle.std.proofs.lemmas.List.{take_all}
use Rattle.fe_waits.specs.Waiting.{AreWaitingRequestsOf}
use Rattle.fe_report.specs.within.Rows.{row_of}
use Rattle.fe_report.proofs.rows.add_session.Goals as goal

pub returns : goal.returns
returns c =
    let waiting_requests = c.in_ok-waiting_requests.waiting_requests.items in
    let waiting = c.attachments.ensures.waiting ∙ ap (λ service. service.waiting) c.service.ensures in
    let all = take_all c.loop-row.row-index c.deref-row-items.result.now (omega arith) ∙ c.deref-row-items.ensures.value in
    let agrees = subst (λ w. AreWaitingRequestsOf w c.args.session waiting_requests) waiting c.in_ok-waiting_requests.ensures.lists.all in
    let added = c.loop-row.invariant ∙ ap (λ rows. c.args.rows.now.items ++ map (row_of c.args.session) rows) all in
    record { added = record { waiting_requests = waiting_requests; agrees = agrees; once = c.in_ok-waiting_requests.ensures.lists.once; added = added } }
