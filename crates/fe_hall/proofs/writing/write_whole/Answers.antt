use Rattle.std.proofs.Common.{◌-◌, ◌≤◌, drop, arith, length-drop}
use Rattle.std.proofs.lemmas.List.{length-take}
use Rattle.fe_hall.proofs.Written.{wrote_further}
use Rattle.fe_hall.proofs.writing.write_whole.Goals as goal

pub loop-next-preserved : goal.loop-next-preserved
loop-next-preserved g c =
    let bytes = c.args.bytes.now in
    let next = c.loop-next.next in
    let got = g.H.WriteHalf.got in
    let most = c.piece_end-end.result - next in
    let few : c.in_ok-count.count ≤ most = omega (arith, c.in_ok-count.ensures.fits, length-take most (drop next bytes), length-drop next bytes) in
    record {
      within = omega (arith, few, c.piece_end-end.ensures.within, c.loop-next.invariant.within);
      is_known = λ known. c.write.ensures.is_known (c.loop-next.invariant.is_known known);
      got = λ known.
          wrote_further bytes (got c.args.half.now) (got c.loop-next.half) (got c.write.new.self) next most c.in_ok-count.count few (c.loop-next.invariant.got known) (c.in_ok-count.ensures.got (c.loop-next.invariant.is_known known));
    }
