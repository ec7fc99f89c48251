use Rattle.std.proofs.Common.{Bool, sym, subst, ◌∙◌}
use Rattle.fe_state.specs.State.{ServerState}
use Rattle.fe_server.specs.FinishedConnections.{IsSettled}
use Rattle.fe_server.proofs.Ends.{closed_answers, unclosed_answers, unclosed_fault, fault_answers}
use Rattle.fe_server.proofs.Leavings.{all_counted, all_issued}
use Rattle.fe_server.proofs.server.closed.Goals as goal

pub returns-in-Some-clause-answer : goal.returns-in-Some-clause-answer
returns-in-Some-clause-answer g c = fault_answers _ _ (sym c.fault-ended.ensures ∙ c.in-Some.is)

pub returns-in-Ok-clause-answer : goal.returns-in-Ok-clause-answer
returns-in-Ok-clause-answer g c = closed_answers _ (sym c.fault-ended.ensures ∙ c.in_default.is)

pub returns-in-Ok-clause-settled : goal.returns-in-Ok-clause-settled
returns-in-Ok-clause-settled g c =
    let audit = c.in-Ok.audit in
    let keeps = c.into_parts-hall.ensures.keeps in
    subst (λ (k : Bool). IsSettled k c.args.keeper.state audit) keeps
    (subst (λ (s : ServerState). IsSettled c.into_parts-hall.result.2 s audit) c.state.ensures.state c.in-Ok.ensures.settled)

pub returns-in-Err-clause-answer : goal.returns-in-Err-clause-answer
returns-in-Err-clause-answer g c = unclosed_answers _ c.in-Err.fault (sym c.fault-ended.ensures ∙ c.in_default.is) (unclosed_fault c.in-Err.fault _ c.in-Err.ensures.faults)

pub returns-in-Some-clause-transcripts : goal.returns-in-Some-clause-transcripts
returns-in-Some-clause-transcripts g c =
    let whole = c.transcripts-transcripts.ensures.whole in
    record { each = whole.each; issued = all_issued _ _ _ c.account-account.result.history _ whole c.account-account.ensures.leaves.that; counted = tt }

pub returns-in-Ok-clause-transcripts : goal.returns-in-Ok-clause-transcripts
returns-in-Ok-clause-transcripts g c =
    let whole = c.transcripts-transcripts.ensures.whole in
    let e = c.in-Ok.ensures in
    let of = e.audit in record {
      each = whole.each;
      issued = all_issued _ _ _ c.in-Ok.audit.history _ whole e.leaves.that;
      counted = all_counted of.0 of.1 _ _ _ _ _ _ c.in-Ok.audit whole of.2.0 of.2.1 of.3;
    }

pub returns-in-Err-clause-transcripts : goal.returns-in-Err-clause-transcripts
returns-in-Err-clause-transcripts g c =
    let whole = c.transcripts-transcripts.ensures.whole in
    record { each = whole.each; issued = all_issued _ _ _ c.in-Err.account.history _ whole c.in-Err.ensures.leaves.that; counted = tt }
