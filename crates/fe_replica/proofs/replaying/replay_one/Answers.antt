use Rattle.std.proofs.Common.{◌≡◌, ℕ, List, ◌++◌, take, drop, ap, refl, sym, subst, ◌∙◌, take-append-drop}
use Rattle.std.proofs.lemmas.List.{take_at}
use Rattle.std.proofs.lemmas.Option.{none-some}
use Rattle.fe_state.specs.State.{IsLegal}
use Rattle.fe_state.specs.declared.entry.Entry.{Entry}
use Rattle.fe_format.specs.Layout.{record_bytes}
use Rattle.fe_codec.specs.Record.{entry_spelling, FitsRecord}
use Rattle.fe_format.specs.declared.format.Format.{Format}
use Rattle.fe_codec.proofs.RecordLaws.{length-entry_spelling, one_record_first}
use Rattle.fe_replica.proofs.replaying.replay_one.Goals as goal

-- the first bytes are the record that the bytes begin with
first : (format : Format) (bytes more : List ℕ) (n : ℕ) (entry : Entry) → n ≡ record_bytes format → FitsRecord format entry → bytes ≡ entry_spelling format entry ++ more → take n bytes ≡ entry_spelling format entry
first format bytes more n entry is fits same = ap (λ (t : List ℕ). take n t) same ∙ take_at (entry_spelling format entry) more n (length-entry_spelling format entry fits ∙ sym is)

-- and the others follow it
followed : (n : ℕ) (bytes record_read behind spelled : List ℕ) → record_read ≡ take n bytes → behind ≡ drop n bytes → record_read ≡ spelled → bytes ≡ spelled ++ behind
followed n bytes record_read behind spelled begins ends is = sym (take-append-drop n bytes) ∙ ap (λ (t : List ℕ). t ++ drop n bytes) (sym begins ∙ is) ∙ ap (λ (t : List ℕ). spelled ++ t) (sym ends)

pub returns-in_default-read_entry-clause-bad : goal.returns-in_default-read_entry-clause-bad
returns-in_default-read_entry-clause-bad c = λ _ e more fits same legal.
    absurd (none-some e (c.in_default-read_entry.ensures.only e fits (c.in-Some.ensures.cases.1 ∙ first c.args.format c.args.bytes.now more _ e c.record_bytes.ensures.value fits same)))

pub returns-in_default-examine-clause-bad : goal.returns-in_default-examine-clause-bad
returns-in_default-examine-clause-bad c = λ _ e more fits starts legal.
    let cut = c.in-Some.ensures.cases in
    let found = c.in-Some-read_entry.ensures.found in
    let there = followed c.record_bytes.result c.args.bytes.now c.in-Some.record.now c.in-Some.behind.now (entry_spelling c.args.format c.in-Some-read_entry.entry) cut.1 cut.2 found.1 in
    let one = one_record_first c.args.format e c.in-Some-read_entry.entry more c.in-Some.behind.now fits found.0 (sym starts ∙ there) in
    let passed = c.in_default-examine.ensures.legal.1 (subst (λ (x : Entry). IsLegal c.args.state.now x) one.0 legal) in
    cc

pub returns-in-Err-clause-memory : goal.returns-in-Err-clause-memory
returns-in-Err-clause-memory c = λ _.
    let cut = c.in-Some.ensures.cases in
    let found = c.in-Some-read_entry.ensures.found in
    let there = followed c.record_bytes.result c.args.bytes.now c.in-Some.record.now c.in-Some.behind.now (entry_spelling c.args.format c.in-Some-read_entry.entry) cut.1 cut.2 found.1 in
    record {
      entry = c.in-Some-read_entry.entry;
      behind = c.in-Some.behind.now;
      begins = record { fits = found.0; spelled = there; legal = c.in-Ok.ensures.legal.0 refl };
      makes = c.in-Err.ensures.memory;
    }
