use Rattle.std.proofs.Common.{[], ◌++◌, sym}
use Rattle.std.proofs.lemmas.List.{append-nil}
use Rattle.fe_history.proofs.Acts.{issued_both}
use Rattle.fe_hall.specs.declared.write_end.WriteEnd.TheVariants.{Device}
use Rattle.fe_hall.proofs.Written.{breaks_off, takes_none, takes_on, written_as, written_more, written_so, wrote_more}
use Rattle.fe_hall.proofs.writing.Writing.write_all.Goals as goal

pub loop-init : goal.loop-init
loop-init g c =
    let s = c.args.self.now in
    (([], takes_none s.seat s.receipts.list.items s.receipts.few, (λ known. sym (append-nil (g.H.WriteHalf.got c.args.half.now))), tt), c.requires, (λ known. known), (tt, tt))

pub returns-in-Err-clause-wrote : goal.returns-in-Err-clause-wrote
returns-in-Err-clause-wrote g c =
    let s = c.args.self.now in
    let l = c.loop.self in
    let n = c.take_mails-taken.new.self in
    let i = c.loop.invariant.0 in
    let t = c.take_mails-taken.ensures.took in
    let got = g.H.WriteHalf.got in (
      i.0 ++ t.0,
      takes_on s.seat l.seat n.seat s.receipts.list.items l.receipts.list.items n.receipts.list.items i.0 t.0 i.1 t.1,
      (λ known.
          let w = c.in-Err.ensures.wrote (c.loop.invariant.2 known) in
          let breaks = breaks_off c.take_mails-taken.result (got c.loop.half) n.frames.items c.as_slice.result.now (got c.write_whole.new.half) t.0 w.1.0 c.as_slice.ensures.value t.2 t.3 w.1.1 w.1.2 in
          (w.0, written_more Device (got c.args.half.now) (got c.loop.half) (got c.write_whole.new.half) i.0 t.0 (i.2 known) breaks)),
      issued_both s.seat.conn l.seat.conn i.0 t.0 l.history n.history i.1.conn t.4.0 i.3 t.4.1,
    )

pub returns-in-Err-taken-clause-wrote : goal.returns-in-Err-taken-clause-wrote
returns-in-Err-taken-clause-wrote g c =
    let s = c.args.self.now in
    let l = c.loop.self in
    let n = c.take_mails-taken.new.self in
    let i = c.loop.invariant.0 in
    let t = c.in-Err-taken.ensures.took in
    let got = g.H.WriteHalf.got in (
      i.0 ++ t.0,
      takes_on s.seat l.seat n.seat s.receipts.list.items l.receipts.list.items n.receipts.list.items i.0 t.0 i.1 t.1,
      (λ known.
          let w = c.in_default.ensures.wrote (c.loop.invariant.2 known) in
          let ending = written_as (Unit {0}) c.in-Err-taken.end (got c.loop.half) n.frames.items c.as_slice.result.now (got c.write_whole.new.half) t.0 t.3 c.as_slice.ensures.value w.1 in
          (w.0, written_more c.in-Err-taken.end (got c.args.half.now) (got c.loop.half) (got c.write_whole.new.half) i.0 t.0 (i.2 known) ending)),
      issued_both s.seat.conn l.seat.conn i.0 t.0 l.history n.history i.1.conn t.4.0 i.3 t.4.1,
    )

pub loop-preserved : goal.loop-preserved
loop-preserved g c =
    let s = c.args.self.now in
    let l = c.loop.self in
    let n = c.take_mails-taken.new.self in
    let i = c.loop.invariant.0 in
    let t = c.in_default-taken.ensures.took in
    let got = g.H.WriteHalf.got in (
      (
        i.0 ++ t.0,
        takes_on s.seat l.seat n.seat s.receipts.list.items l.receipts.list.items n.receipts.list.items i.0 t.0 i.1 t.1,
        (λ known. wrote_more (got c.args.half.now) (got c.loop.half) (got c.write_whole.new.half) i.0 t.0 (i.2 known)
            (written_so (got c.loop.half) n.frames.items c.as_slice.result.now (got c.write_whole.new.half) t.0 t.3 c.as_slice.ensures.value (c.in_default.ensures.wrote (c.loop.invariant.2 known)).1)),
        issued_both s.seat.conn l.seat.conn i.0 t.0 l.history n.history i.1.conn t.4.0 i.3 t.4.1,
      ),
      c.clear.ensures.items,
      (λ known. (c.in_default.ensures.wrote (c.loop.invariant.2 known)).0),
      (tt, tt),
    )
