use Rattle.std.proofs.Common.{◌≡◌, ◌+◌, ◌*◌, ◌≤◌, ◌++◌, string_bytes, string_len, length}
use Rattle.std.specs.List.{flat_map}
use Rattle.fe_report.specs.Report.{session_line}
use Rattle.fe_report.proofs.text.put_sessions.Given as goal

abbrev pub invariant-loop-session : goal.invariant-loop-session
invariant-loop-session l = record {
  lines : string_bytes l.text ++ flat_map session_line l.session-iterator ≡ string_bytes l.fn.text ++ flat_map session_line l.sessions.entries;
  few : string_len l.text + 46 * length l.session-iterator ≤ string_len l.fn.text + 46 * length l.sessions.entries;
}
