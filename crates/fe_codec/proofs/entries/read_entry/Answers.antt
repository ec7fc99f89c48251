use Rattle.std.proofs.Common.{◌≡◌, List, ℕ, Option, Some, Bool, true, false, sym, ap, subst, ◌∙◌}
use Rattle.std.specs.Prelude.{IsTrue, ◌↔◌}
use Rattle.std.proofs.lemmas.Option.{none-some, same_Some}
use Rattle.fe_state.specs.declared.entry.Entry.{Entry}
use Rattle.fe_codec.specs.Record.{entry_spelling, FitsRecord}
use Rattle.fe_codec.specs.Reading.{entry_of}
use Rattle.fe_format.specs.declared.format.Format.{Format}
use Rattle.fe_codec.proofs.RecordLaws.{entry_again}
use Rattle.fe_codec.proofs.entries.read_entry.Goals as goal

-- what is spelled is what was read
read : (format : Format) (bytes : List ℕ) (result : Option Entry) (entry : Entry) → result ≡ entry_of format bytes → FitsRecord format entry → bytes ≡ entry_spelling format entry → result ≡ Some entry
read format bytes result entry is fits same = is ∙ ap (entry_of format) same ∙ entry_again format entry fits

-- a record that was refused spells no such entry
refused : (format : Format) (bytes : List ℕ) (got entry : Entry) (b : Bool) → got ≡ entry → FitsRecord format entry → bytes ≡ entry_spelling format entry → (IsTrue b ↔ (FitsRecord format got × (bytes ≡ entry_spelling format got))) → b ≡ false → ⊥
refused format bytes got entry b is fits same h failed =
    let there : IsTrue b = h.1 (subst (λ (e : Entry). FitsRecord format e × (bytes ≡ entry_spelling format e)) (sym is) (fits, same)) in
    let clash : false ≡ true = sym failed ∙ there in absurd cc

pub returns-in_err-entry-clause-only : goal.returns-in_err-entry-clause-only
returns-in_err-entry-clause-only c = λ entry fits same. absurd (none-some entry (sym c.in_err-entry.was ∙ read c.args.format c.args.bytes.now c.entry.result entry c.entry.ensures fits same))

pub returns-then-is_record-clause-only : goal.returns-then-is_record-clause-only
returns-then-is_record-clause-only c = λ entry fits same. sym c.in_ok-entry.was ∙ read c.args.format c.args.bytes.now c.entry.result entry c.entry.ensures fits same

pub returns-else-is_record-clause-only : goal.returns-else-is_record-clause-only
returns-else-is_record-clause-only c = λ entry fits same.
    let is : c.in_ok-entry.entry ≡ entry = same_Some c.in_ok-entry.entry entry (sym c.in_ok-entry.was ∙ read c.args.format c.args.bytes.now c.entry.result entry c.entry.ensures fits same) in
    absurd (refused c.args.format c.args.bytes.now c.in_ok-entry.entry entry _ is fits same c.is_record.ensures.fact c.if-is_record.false)
