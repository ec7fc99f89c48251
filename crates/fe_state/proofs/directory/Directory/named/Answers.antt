use Rattle.std.proofs.Common.{◌≡◌, ◌∙◌, true, false, refl, ap, sym, arith}
use Rattle.fe_state.proofs.DirectoryLemmas.{there_within, found_at, passed_at, none_past}
use Rattle.std.specs.Option.{option_map}
use Rattle.std.specs.Str.{bytes_eq}
use Rattle.std.specs.FinMap.{entries, len-entries}
use Rattle.fe_table.specs.Table.{shown_entry}
use Rattle.fe_state.proofs.directory.Directory.named.Goals as goal

pub unwrap-id-requires : goal.unwrap-id-requires
unwrap-id-requires c = there_within shown_entry (entries c.table-table.result.now) c.loop-k.k _ (omega (arith, len-entries c.table-table.result.now)) c.at.ensures.entry

pub loop-k-preserved : goal.loop-k-preserved
loop-k-preserved c =
    let here = sym c.at.ensures.entry ∙ ap (option_map shown_entry) c.unwrap-id.ensures in
    let other : bytes_eq c.unwrap-id.result.1.now.name c.args.name.now ≡ false = cc in
    passed_at (λ e. bytes_eq e.1.name c.args.name.now) (entries c.table-table.result.now) c.loop-k.k _ here other ∙ c.loop-k.invariant

pub returns-then-eq : goal.returns-then-eq
returns-then-eq c =
    let here = sym c.at.ensures.entry ∙ ap (option_map shown_entry) c.unwrap-id.ensures in
    let same : bytes_eq c.unwrap-id.result.1.now.name c.args.name.now ≡ true = cc in
    let first = sym (found_at (λ e. bytes_eq e.1.name c.args.name.now) (entries c.table-table.result.now) c.loop-k.k _ here same) ∙ c.loop-k.invariant in
    rw (← c.self.view_is, ← c.table-table.ensures, ← first, c.len.ensures) refl

pub returns : goal.returns
returns c =
    let past = sym (none_past (λ e. bytes_eq e.1.name c.args.name.now) (entries c.table-table.result.now) c.loop-k.k (omega (arith, len-entries c.table-table.result.now))) ∙ c.loop-k.invariant in
    rw (← c.self.view_is, ← c.table-table.ensures, ← past) refl
