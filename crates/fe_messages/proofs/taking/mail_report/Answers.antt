use Rattle.std.proofs.Common.{◌∙◌}
use Rattle.fe_messages.proofs.Entering.{report_taken, report_refused}
use Rattle.fe_messages.proofs.taking.mail_report.Goals as goal

pub returns-in-Ok : goal.returns-in-Ok
returns-in-Ok c = record {
  taken = report_taken c.args.front.now c.args.front.now c.mail_text.new.self c.args.conn c.new.result (c.new.ensures ∙ c.in-Ok.ensures.text) c.mail_text.ensures;
}

pub returns-in-Err : goal.returns-in-Err
returns-in-Err c = record {
  taken = report_refused c.args.front.now c.args.front.now c.mail_refusal.new.self c.args.conn c.mail_refusal.ensures;
}
