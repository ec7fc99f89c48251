use Rattle.std.proofs.Common.{length, ap, arith}
use Rattle.fe_report.proofs.Lengths.{long, name}
use Rattle.fe_report.proofs.text.put_caller.Goals as goal

pub write_digits-at-requires : goal.write_digits-at-requires
write_digits-at-requires c =
    let number = long c.args.number c.ranges.number.fits in
    let size = ap length c.name.ensures in
    let few = name c.args.op in
    (omega (arith, number, size, few), omega arith)

pub put_piece-at-requires-4-clause-room : goal.put_piece-at-requires-4-clause-room
put_piece-at-requires-4-clause-room c =
    let number = long c.args.number c.ranges.number.fits in
    let size = ap length c.name.ensures in
    let few = name c.args.op in
    omega (arith, number, size, few)

pub write_digits-at-requires-2 : goal.write_digits-at-requires-2
write_digits-at-requires-2 c =
    let number = long c.args.number c.ranges.number.fits in
    let session = long c.args.session c.ranges.session.fits in
    let size = ap length c.name.ensures in
    let few = name c.args.op in
    (omega (arith, number, session, size, few), omega arith)

pub put_piece-requires-clause-room : goal.put_piece-requires-clause-room
put_piece-requires-clause-room c =
    let number = long c.args.number c.ranges.number.fits in
    let session = long c.args.session c.ranges.session.fits in
    let size = ap length c.name.ensures in
    let few = name c.args.op in
    omega (arith, number, session, size, few)

pub returns-clause-room : goal.returns-clause-room
returns-clause-room c =
    let number = long c.args.number c.ranges.number.fits in
    let session = long c.args.session c.ranges.session.fits in
    let size = ap length c.name.ensures in
    let few = name c.args.op in
    omega (arith, number, session, size, few)
