use Rattle.std.proofs.Common.{sym, arith}
use Rattle.std.specs.FinMap.{entries, len-entries}
use Rattle.fe_codec.proofs.Elements.{found_within}
use Rattle.fe_state.specs.State.{directory_of}
use Rattle.fe_look.specs.Look.{array_line}
use Rattle.fe_look.proofs.TextLemmas.{plain_at, line_more, all_lines}
use Rattle.fe_look.proofs.state_text.put_arrays.Goals.{in-Some+in_ok-put_array, in_default}
use Rattle.fe_look.proofs.state_text.put_arrays.Goals as goal

pub loop-k-preserved : goal.loop-k-preserved
loop-k-preserved c =
    elim c.match-array_entry.branch [
      | in-Some+in_ok-put_array w ↦
          rw w.text-is (line_more array_line (entries c.args.state.now.arrays) c.loop-k.k _ _ _ _ (sym w.in-Some.ensures.entry) c.loop-k.invariant w.in_ok-put_array.ensures)
      | in_default w ↦ absurd (found_within _ c.array_entry.result (entries c.args.state.now.arrays) c.loop-k.k c.array_entry.ensures.entry (omega (arith, len-entries c.args.state.now.arrays)) w.in_default.is)
    ]

pub returns : goal.returns
returns c = all_lines array_line (entries c.args.state.now.arrays) c.loop-k.k _ _ (omega (arith, len-entries c.args.state.now.arrays)) c.loop-k.invariant

pub put_array-requires : goal.put_array-requires
put_array-requires c = plain_at (directory_of c.args.state.now) c.loop-k.k _ c.place.ensures.limits.directory (sym c.in-Some.ensures.entry)
