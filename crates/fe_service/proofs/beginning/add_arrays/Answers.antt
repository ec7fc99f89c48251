use Rattle.std.proofs.Common.{◌≤◌, ◌<◌, ◌+◌, ℕ, length, refl, sym, ap, subst, ◌∙◌, arith}
use Rattle.std.specs.Option.{option_map}
use Rattle.std.specs.FinMap.{get, len}
use Rattle.fe_state.specs.Directory.{words_in}
use Rattle.fe_state.specs.State.{shown_array}
use Rattle.fe_state.proofs.Listed.{entry_there}
use Rattle.fe_state.specs.declared.array.Array.{Array}
use Rattle.fe_table.proofs.TableCopyLemmas.{made_all}
use Rattle.fe_service.proofs.Remade.{tied_first, first_len, tied_new, tied_len, tied_next}
use Rattle.fe_service.proofs.beginning.add_arrays.Goals as goal

abbrev words : Array → ℕ
words a = length a.words

pub loop-k-init : goal.loop-k-init
loop-k-init c = record {
  tied = tied_first c.args.state.now.arrays words c.args.waits.now.arrays c.requires;
  few = first_len c.args.state.now.arrays words c.args.waits.now.arrays c.requires;
  members = refl;
}

pub unwrap-id-requires : goal.unwrap-id-requires
unwrap-id-requires c = entry_there shown_array c.args.state.now.arrays c.loop-k.k c.array_entry.result c.array_entry.ensures.entry (subst (λ n. c.loop-k.k < n) c.array_count-k-end.ensures c.loop-k-test.true)

pub add_array-requires-clause-new : goal.add_array-requires-clause-new
add_array-requires-clause-new c =
    tied_new
    c.args.state.now.arrays
    words
    c.loop-k.waits.arrays
    c.loop-k.k
    (shown_array c.unwrap-id.result)
    (sym c.array_entry.ensures.entry ∙ ap (option_map shown_array) c.unwrap-id.ensures)
    c.loop-k.invariant.tied

pub loop-k-preserved : goal.loop-k-preserved
loop-k-preserved c =
    let e = shown_array c.unwrap-id.result in
    let here = sym c.array_entry.ensures.entry ∙ ap (option_map shown_array) c.unwrap-id.ensures in
    let added = c.in_ok-add_array.ensures.ok.arrays in
    record {
      tied = λ q. ap (λ m. get m q) added ∙ tied_next c.args.state.now.arrays words c.loop-k.waits.arrays c.loop-k.k e here c.loop-k.invariant.tied q;
      few = subst (λ m. len m ≤ c.loop-k.k + 1) (sym added) (tied_len c.args.state.now.arrays words c.loop-k.waits.arrays c.loop-k.k e here c.loop-k.invariant.tied c.loop-k.invariant.few);
      members = c.in_ok-add_array.ensures.ok.members ∙ c.loop-k.invariant.members;
    }

pub returns-clause-arrays : goal.returns-clause-arrays
returns-clause-arrays c =
    let all = made_all c.args.state.now.arrays c.loop-k.k (omega (arith, c.array_count-k-end.ensures, c.loop-k-test.false)) in
    λ q. c.loop-k.invariant.tied q ∙ ap (λ m. words_in (get m q)) all
