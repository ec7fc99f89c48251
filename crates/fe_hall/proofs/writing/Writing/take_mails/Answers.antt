use Rattle.std.proofs.Common.{inl, inr, ◌<◌, ℕ, Bool, List, [], ◌++◌, length, subst, arith}
use Rattle.std.proofs.lemmas.Result.{err_from_is_err_and}
use Rattle.fe_history.proofs.Acts.{prefix_self}
use Rattle.fe_hall.proofs.Written.{takes_none, takes_on, batch_none, batch_more, spelled_more, spells_on, issues_on}
use Rattle.fe_hall.proofs.writing.Writing.take_mails.Goals as goal

pub loop-init : goal.loop-init
loop-init g c =
    let s = c.args.self.now in (([], takes_none s.seat s.receipts.list.items s.receipts.few, batch_none, c.requires, (prefix_self s.history, tt)), inl c.requires, (tt, tt))

pub returns-in_err-more-clause-took : goal.returns-in_err-more-clause-took
returns-in_err-more-clause-took g c =
    let s = c.args.self.now in
    let l = c.loop.self in
    let n = c.take_mail.new.self in
    let i = c.loop.invariant.0 in
    let t = c.in_err-more.ensures.took in
    let p = err_from_is_err_and c.from_residual.result c.from_residual.ensures.1 in
    let room : length l.frames.items < 65536 = omega arith in
    let short = subst (λ (xs : List ℕ). length xs < 65536) i.3 room in
    let takes = takes_on s.seat l.seat n.seat s.receipts.list.items l.receipts.list.items n.receipts.list.items i.0 t.0 i.1 t.1 in
    rw (p.1, p.2) (i.0 ++ t.0, takes, batch_more i.0 t.0 i.2 t.2 short, spells_on Bool (Unit {0}) c.in_err-more.field-0.0 l.frames.items n.frames.items i.0 t.0 i.3 t.3, issues_on s.seat.conn l.seat.conn i.0 t.0 s.history l.history n.history i.1.conn i.4 t.4)

pub loop-preserved : goal.loop-preserved
loop-preserved g c =
    let s = c.args.self.now in
    let l = c.loop.self in
    let n = c.take_mail.new.self in
    let i = c.loop.invariant.0 in
    let t = c.in_ok-more.ensures.took in
    let room : length l.frames.items < 65536 = omega arith in
    let short = subst (λ (xs : List ℕ). length xs < 65536) i.3 room in
    let takes = takes_on s.seat l.seat n.seat s.receipts.list.items l.receipts.list.items n.receipts.list.items i.0 t.0 i.1 t.1 in
    ((i.0 ++ t.0, takes, batch_more i.0 t.0 i.2 t.2 short, spelled_more l.frames.items n.frames.items i.0 t.0 i.3 t.3, issues_on s.seat.conn l.seat.conn i.0 t.0 s.history l.history n.history i.1.conn i.4 t.4), inr c.in_ok-more.ensures.more, (tt, tt))

pub loop-preserved-then-more : goal.loop-preserved-then-more
loop-preserved-then-more g c =
    let s = c.args.self.now in
    let l = c.loop.self in
    let n = c.take_mail.new.self in
    let i = c.loop.invariant.0 in
    let t = c.in_ok-more.ensures.took in
    let room : length l.frames.items < 65536 = omega arith in
    let short = subst (λ (xs : List ℕ). length xs < 65536) i.3 room in
    let takes = takes_on s.seat l.seat n.seat s.receipts.list.items l.receipts.list.items n.receipts.list.items i.0 t.0 i.1 t.1 in
    ((i.0 ++ t.0, takes, batch_more i.0 t.0 i.2 t.2 short, spelled_more l.frames.items n.frames.items i.0 t.0 i.3 t.3, issues_on s.seat.conn l.seat.conn i.0 t.0 s.history l.history n.history i.1.conn i.4 t.4), inr c.in_ok-more.ensures.more, (tt, tt))
