use Rattle.std.proofs.Common.{◌++◌, codes, sym, ap, subst, ◌∙◌, arith}
use Rattle.std.specs.Prelude.{IsUtf8}
use Rattle.std.specs.Fmt.{decimal}
use Rattle.std.proofs.lemmas.Slice.{between_to_end}
use Rattle.fe_report.proofs.Ascii.{word_line-IsUtf8}
use Rattle.fe_report.proofs.text.put_word.Goals as goal

pub from_utf8_unchecked-line-requires : goal.from_utf8_unchecked-line-requires
from_utf8_unchecked-line-requires c =
    let whole = between_to_end c.put_spot-start.new.line c.put_spot-start.result 108 (omega arith) in
    let caller = ap (λ rest. codes "word " ++ (decimal c.args.array ++ (codes " " ++ (decimal c.args.index ++ rest)))) c.put_caller-caller.ensures.caller in
    let text = word_line-IsUtf8 c.args.array c.args.index c.args.session c.args.number c.args.op c.ranges.array.fits c.ranges.index.fits c.ranges.session.fits c.ranges.number.fits in
    subst IsUtf8 (sym (whole ∙ c.put_spot-start.ensures.spot ∙ caller)) text
