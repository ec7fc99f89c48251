use Rattle.std.proofs.Common.{◌≡◌, ◌+◌, ◌*◌, ◌≤◌, ◌++◌, string_bytes, string_len, take}
use Rattle.std.specs.List.{flat_map}
use Rattle.fe_report.specs.Report.{word_line}
use Rattle.fe_report.proofs.text.put_words.Given as goal

abbrev pub invariant-loop-row : goal.invariant-loop-row
invariant-loop-row l = record {
  lines : string_bytes l.text ≡ string_bytes l.fn.text ++ flat_map word_line (take l.row-index l.words);
  few : string_len l.text ≤ string_len l.fn.text + 108 * l.row-index;
}
