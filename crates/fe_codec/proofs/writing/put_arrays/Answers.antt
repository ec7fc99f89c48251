use Rattle.std.proofs.Common.{true, sym, arith}
use Rattle.std.specs.FinMap.{entries, len-entries}
use Rattle.fe_codec.specs.Image.{array_spelling, ArrayFits}
use Rattle.fe_codec.proofs.Appends.{appends_nothing, found_appended, found_failed, items_appended, failed}
use Rattle.fe_codec.proofs.Elements.{all_at, found_within, all_found, all_taken}
use Rattle.fe_codec.proofs.writing.put_arrays.Goals as goal
use Rattle.fe_codec.proofs.writing.put_arrays.Goals.{in-Some+in_ok-put_array, in_default}

pub loop-k-init : goal.loop-k-init
loop-k-init c = (appends_nothing _ _ _ (omega arith), tt)

pub put_array-requires-clause-name : goal.put_array-requires-clause-name
put_array-requires-clause-name c = all_at _ (entries c.args.state.now.arrays) c.loop-k.k _ c.requires (sym c.in-Some.ensures.entry)

pub returns-in_err-put_array-clause-appends : goal.returns-in_err-put_array-clause-appends
returns-in_err-put_array-clause-appends c =
    failed c.from_residual.result _ _ _ _ _ c.from_residual.ensures.0
    (found_failed (array_spelling c.args.format) (entries c.args.state.now.arrays) c.loop-k.k _ (sym c.in-Some.ensures.entry) _ _ _ _ _ _ c.loop-k.invariant.0 c.in_err-put_array.ensures.appends)

pub loop-k-preserved : goal.loop-k-preserved
loop-k-preserved c =
    elim c.match-array_entry.branch [
      | in-Some+in_ok-put_array w ↦ rw w.out-is (found_appended (array_spelling c.args.format) (entries c.args.state.now.arrays) c.loop-k.k _ (sym w.in-Some.ensures.entry) _ _ _ _ _ _ true c.loop-k.invariant.0 w.in_ok-put_array.ensures.appends, all_found ArrayFits (entries c.args.state.now.arrays) c.loop-k.k _ (sym w.in-Some.ensures.entry) c.loop-k.invariant.1 w.in_ok-put_array.ensures.fits)
      | in_default w ↦ absurd (found_within _ c.array_entry.result (entries c.args.state.now.arrays) c.loop-k.k c.array_entry.ensures.entry (omega (arith, len-entries c.args.state.now.arrays)) w.in_default.is)
    ]

pub returns : goal.returns
returns c = record {
  appends = items_appended (array_spelling c.args.format) (entries c.args.state.now.arrays) _ _ _ _ c.loop-k.k (omega (arith, len-entries c.args.state.now.arrays)) c.loop-k.invariant.0;
  fits = all_taken ArrayFits (entries c.args.state.now.arrays) c.loop-k.k (omega (arith, len-entries c.args.state.now.arrays)) c.loop-k.invariant.1;
}
