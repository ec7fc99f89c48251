use Rattle.std.proofs.Common.{◌≤◌, ◌<◌, map, length, rules, arith, sym, ap, ◌∙◌, true≢false, not}
use Rattle.std.proofs.lemmas.Bool.{OnTrue_from, OnFalse_from}
use Rattle.std.proofs.lemmas.Iterator.{YieldsList-from_slice, cases_from_all}
use borrow.Author.Tests.{tests}
use Rattle.fe_history.specs.Receipts.{AreWhole, WasSent}
use Rattle.fe_history.proofs.Sent.{all_hold, one_does_not}
use Rattle.fe_history.proofs.strange.is_missed.Goals as goal

pub returns-then-all-clause-missed : goal.returns-then-all-clause-missed
returns-then-all-clause-missed c =
    OnTrue_from (not c.was_sent.result) (AreWhole (map (λ v. v.items) c.args.sent.now) × (WasSent (map (λ v. v.items) c.args.sent.now) c.args.receipt.now.session c.args.receipt.now.number c.args.request.now → ⊥))
    (λ missed. (
      all_hold (λ v. v.items) c.args.sent.now (λ messages. length messages < 1024) (λ messages. 1024 ≤ length messages) (λ messages short long. omega (arith, short, long)) c.all.result
          (cases_from_all _ _ c.all.result (λ v. length v.items < 1024) (λ v. 1024 ≤ length v.items) c.all.ensures.ran (YieldsList-from_slice c.args.sent.now cc) (λ x q k. search (rules, tests)) (λ x q k. search (rules, tests))) c.if-all.true,
      λ sent. absurd (true≢false (sym missed ∙ ap not (c.was_sent.ensures.1 sent))),
    ))

pub returns-else-all-clause-sent : goal.returns-else-all-clause-sent
returns-else-all-clause-sent c =
    OnFalse_from c.all.result (AreWhole (map (λ v. v.items) c.args.sent.now) → WasSent (map (λ v. v.items) c.args.sent.now) c.args.receipt.now.session c.args.receipt.now.number c.args.request.now)
    (λ _ whole. absurd (one_does_not (λ v. v.items) c.args.sent.now (λ messages. length messages < 1024) (λ messages. 1024 ≤ length messages) (λ messages short long. omega (arith, short, long)) c.all.result
    (cases_from_all _ _ c.all.result (λ v. length v.items < 1024) (λ v. 1024 ≤ length v.items) c.all.ensures.ran (YieldsList-from_slice c.args.sent.now cc) (λ x q k. search (rules, tests)) (λ x q k. search (rules, tests))) c.if-all.false whole))
