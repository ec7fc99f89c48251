use Rattle.std.proofs.Common.{◌≡◌, ℕ, List, length, Option, inr, ◌∙◌, subst}
use Rattle.std.proofs.lemmas.Result.{err_from_is_err_and}
use Rattle.fe_journal.specs.Layout.{header_of}
use Rattle.fe_journal.specs.Store.{IsHeader, CountsAs}
use Rattle.fe_journal.specs.declared.header.Header.{Header}
use Rattle.fe_journal.proofs.Readings.{counts_as, header_tells, reads_again}
use Rattle.fe_journal.proofs.store.read_sound.Goals as goal

pub returns-in_default-clause-faults : goal.returns-in_default-clause-faults
returns-in_default-clause-faults g c = λ honest.
    let seen = g.D.Disk.seen c.args.disk.now in
    let honest_1 = c.read_header.ensures.device.honesty.1 honest in
    let second = subst (λ (l : List ℕ). IsHeader l (header_of 1) c.in_ok-second.second) (c.read_header.ensures.reads honest).same (c.in_ok-second.ensures.header honest_1) in
    let counts = counts_as seen c.in_ok-first.first c.in_ok-second.second c.counting.result (c.in_ok-first.ensures.header honest) second c.counting.ensures in
    inr (subst (λ (o : Option (ℕ × Header)). CountsAs seen o) c.in_default.is counts)

pub returns-in_err-check_header-clause-faults : goal.returns-in_err-check_header-clause-faults
returns-in_err-check_header-clause-faults g c = λ honest.
    let seen = g.D.Disk.seen c.args.disk.now in
    let honest_1 = c.read_header.ensures.device.honesty.1 honest in
    let second = subst (λ (l : List ℕ). IsHeader l (header_of 1) c.in_ok-second.second) (c.read_header.ensures.reads honest).same (c.in_ok-second.ensures.header honest_1) in
    let found = counts_as seen c.in_ok-first.first c.in_ok-second.second c.counting.result (c.in_ok-first.ensures.header honest) second c.counting.ensures in
    let counts = subst (λ (o : Option (ℕ × Header)). CountsAs seen o) c.in-Some.is found in
    let sized : length seen ≡ g.D.Disk.size c.args.disk.now = (g.met.D.Disk.seen_is_image c.args.disk.now honest).whole in
    let told = header_tells seen c.in-Some.slot c.in-Some.header c.in_err-check_header.field-0.0 (sized ∙ c.requires.device) counts c.in_err-check_header.ensures.fault in
    let p = err_from_is_err_and c.from_residual-in_err-check_header.result c.from_residual-in_err-check_header.ensures.1 in
    rw (p.1, p.2) told

pub returns-clause-counts : goal.returns-clause-counts
returns-clause-counts g c = λ honest.
    let seen = g.D.Disk.seen c.args.disk.now in
    let honest_1 = c.read_header.ensures.device.honesty.1 honest in
    let second = subst (λ (l : List ℕ). IsHeader l (header_of 1) c.in_ok-second.second) (c.read_header.ensures.reads honest).same (c.in_ok-second.ensures.header honest_1) in
    let found = counts_as seen c.in_ok-first.first c.in_ok-second.second c.counting.result (c.in_ok-first.ensures.header honest) second c.counting.ensures in
    subst (λ (o : Option (ℕ × Header)). CountsAs seen o) c.in-Some.is found

pub returns-clause-reads : goal.returns-clause-reads
returns-clause-reads g c = λ honest.
    reads_again g.D.Disk c.args.disk.now c.read_header.new.disk c.read_header-2.new.disk (c.read_header.ensures.reads honest) (c.read_header-2.ensures.reads (c.read_header.ensures.device.honesty.1 honest))

pub returns-in_err-check_header-clause-reads : goal.returns-in_err-check_header-clause-reads
returns-in_err-check_header-clause-reads g c = λ honest.
    reads_again g.D.Disk c.args.disk.now c.read_header.new.disk c.read_header-2.new.disk (c.read_header.ensures.reads honest) (c.read_header-2.ensures.reads (c.read_header.ensures.device.honesty.1 honest))
