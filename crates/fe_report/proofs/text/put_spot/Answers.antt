use Rattle.std.proofs.Common.{◌≤◌, length, arith, subst, sym}
use Rattle.std.specs.Fmt.{decimal}
use Rattle.fe_report.proofs.Lengths.{long, short}
use Rattle.fe_report.proofs.text.put_spot.Goals as goal

pub write_digits-at-requires : goal.write_digits-at-requires
write_digits-at-requires c =
    let index = subst (λ n. length (decimal n) ≤ 10) (sym c.from.ensures) (short c.args.index c.ranges.index.fits) in
    (omega (arith, index), omega arith)

pub put_piece-at-requires-clause-room : goal.put_piece-at-requires-clause-room
put_piece-at-requires-clause-room c =
    let index = subst (λ n. length (decimal n) ≤ 10) (sym c.from.ensures) (short c.args.index c.ranges.index.fits) in
    omega (arith, index)

pub write_digits-at-requires-2 : goal.write_digits-at-requires-2
write_digits-at-requires-2 c =
    let index = subst (λ n. length (decimal n) ≤ 10) (sym c.from.ensures) (short c.args.index c.ranges.index.fits) in
    let array = long c.args.array c.ranges.array.fits in
    (omega (arith, index, array), omega arith)

pub put_piece-requires-clause-room : goal.put_piece-requires-clause-room
put_piece-requires-clause-room c =
    let index = subst (λ n. length (decimal n) ≤ 10) (sym c.from.ensures) (short c.args.index c.ranges.index.fits) in
    let array = long c.args.array c.ranges.array.fits in
    omega (arith, index, array)
