use Rattle.std.proofs.Common.{◌<◌, ◌≤◌, not, length, sym, ap, ◌∙◌, arith}
use Rattle.fe_hall.proofs.Written.{keeps_none, keeps_one, keeps_first}
use Rattle.fe_hall.proofs.first_receipts.FirstReceipts.keep.Goals as goal

pub returns-then-len-ge-RECEIPTS : goal.returns-then-len-ge-RECEIPTS
returns-then-len-ge-RECEIPTS c =
    let s = c.args.self.now in
    let full : 1024 ≤ length s.list.items = omega (arith, c.if-len-ge-RECEIPTS.true, c.len.ensures) in
    keeps_first c.args.conn s.list.items c.args.mail.now s.few full

pub returns-else-is_err : goal.returns-else-is_err
returns-else-is_err c =
    let s = c.args.self.now in
    let few : length s.list.items < 1024 = omega (arith, c.if-len-ge-RECEIPTS.false, c.len.ensures) in
    let ok = c.is_err.ensures.negation ∙ ap not c.if-is_err.false in
    keeps_one c.push.result c.args.conn s.list.items c.push.new.self.items c.args.mail.now c.in-Some.receipt few (sym c.in-Some.is ∙ c.of.ensures) ok c.push.ensures.items

pub returns-in_default : goal.returns-in_default
returns-in_default c =
    let s = c.args.self.now in
    keeps_none c.args.conn s.list.items c.args.mail.now s.few (sym c.in_default.is ∙ c.of.ensures)
