use Rattle.std.proofs.Common.{ℕ, List, inr, ◌∙◌, subst}
use Rattle.fe_disk.specs.Disk.{IsTorn}
use Rattle.fe_disk.proofs.Images.{torn_left}
use Rattle.fe_disk.proofs.Moments.{started, goes_on}
use Rattle.fe_journal.specs.Journal.{IsLeftInCommit}
use Rattle.fe_journal.proofs.Steps.{not_begun, bytes_torn}
use Rattle.fe_journal.proofs.commit.commit.Goals as goal

-- From the second call on each disk is honest since the first is, and each call adds a line to the run so far.
pub returns-in_err-write_at-clause-any_moment : goal.returns-in_err-write_at-clause-any_moment
returns-in_err-write_at-clause-any_moment g c = λ honest.
    let start = c.args.disk.now in
    let P : List ℕ → Type 0 = IsLeftInCommit (g.D.Disk.may_leave start) (g.D.Disk.seen start) c.args.at c.args.bytes.now c.args.gate in
    let run_0 = started g.D.Disk start P (λ image left. not_begun _ _ _ _ _ image (g.met.D.Disk.only_now start image honest left)) in
    goes_on g.D.Disk start start c.write_at.new.self P run_0 (c.write_at.ensures.time honest) (bytes_torn _ _ _ _ _ _ (c.write_at.ensures.stop honest))

pub returns-in_err-sync-clause-any_moment : goal.returns-in_err-sync-clause-any_moment
returns-in_err-sync-clause-any_moment g c = λ honest.
    let start = c.args.disk.now in
    let P : List ℕ → Type 0 = IsLeftInCommit (g.D.Disk.may_leave start) (g.D.Disk.seen start) c.args.at c.args.bytes.now c.args.gate in
    let run_0 = started g.D.Disk start P (λ image left. not_begun _ _ _ _ _ image (g.met.D.Disk.only_now start image honest left)) in
    let run_1 = goes_on g.D.Disk start start c.write_at.new.self P run_0 (c.write_at.ensures.time honest) (bytes_torn _ _ _ _ _ _ (c.write_at.ensures.stop honest)) in
    let honest_1 = c.write_at.ensures.device.honesty.1 honest in
    goes_on g.D.Disk start c.write_at.new.self c.sync.new.self P run_1 (c.sync.ensures.time honest_1) (λ image now. bytes_torn _ _ _ _ _ _ (c.write_at.ensures.stop honest) image (c.sync.ensures.stop honest_1 image now))

pub returns-in_err-write_at-2-clause-any_moment : goal.returns-in_err-write_at-2-clause-any_moment
returns-in_err-write_at-2-clause-any_moment g c = λ honest.
    let start = c.args.disk.now in
    let P : List ℕ → Type 0 = IsLeftInCommit (g.D.Disk.may_leave start) (g.D.Disk.seen start) c.args.at c.args.bytes.now c.args.gate in
    let run_0 = started g.D.Disk start P (λ image left. not_begun _ _ _ _ _ image (g.met.D.Disk.only_now start image honest left)) in
    let run_1 = goes_on g.D.Disk start start c.write_at.new.self P run_0 (c.write_at.ensures.time honest) (bytes_torn _ _ _ _ _ _ (c.write_at.ensures.stop honest)) in
    let honest_1 = c.write_at.ensures.device.honesty.1 honest in
    let run_2 = goes_on g.D.Disk start c.write_at.new.self c.sync.new.self P run_1 (c.sync.ensures.time honest_1) (λ image now. bytes_torn _ _ _ _ _ _ (c.write_at.ensures.stop honest) image (c.sync.ensures.stop honest_1 image now)) in
    let honest_2 = c.sync.ensures.device.honesty.1 honest_1 in
    let staged = c.sync.ensures.same honest_1 ∙ c.in_ok-write_at.ensures.written honest in
    let torn : (image : List ℕ) → g.D.Disk.may_leave c.write_at-2.new.self image → P image = λ image now.
    inr (subst (λ (l : List ℕ). IsTorn c.args.gate 1 l image) staged (torn_left _ c.args.gate 1 _ _ (c.in_ok-sync.ensures.durable honest_1) (c.write_at-2.ensures.stop honest_2) image now)) in
    goes_on g.D.Disk start c.sync.new.self c.write_at-2.new.self P run_2 (c.write_at-2.ensures.time honest_2) torn

pub returns-clause-any_moment : goal.returns-clause-any_moment
returns-clause-any_moment g c = λ honest.
    let start = c.args.disk.now in
    let P : List ℕ → Type 0 = IsLeftInCommit (g.D.Disk.may_leave start) (g.D.Disk.seen start) c.args.at c.args.bytes.now c.args.gate in
    let run_0 = started g.D.Disk start P (λ image left. not_begun _ _ _ _ _ image (g.met.D.Disk.only_now start image honest left)) in
    let run_1 = goes_on g.D.Disk start start c.write_at.new.self P run_0 (c.write_at.ensures.time honest) (bytes_torn _ _ _ _ _ _ (c.write_at.ensures.stop honest)) in
    let honest_1 = c.write_at.ensures.device.honesty.1 honest in
    let run_2 = goes_on g.D.Disk start c.write_at.new.self c.sync.new.self P run_1 (c.sync.ensures.time honest_1) (λ image now. bytes_torn _ _ _ _ _ _ (c.write_at.ensures.stop honest) image (c.sync.ensures.stop honest_1 image now)) in
    let honest_2 = c.sync.ensures.device.honesty.1 honest_1 in
    let staged = c.sync.ensures.same honest_1 ∙ c.in_ok-write_at.ensures.written honest in
    let torn : (image : List ℕ) → g.D.Disk.may_leave c.write_at-2.new.self image → P image = λ image now.
    inr (subst (λ (l : List ℕ). IsTorn c.args.gate 1 l image) staged (torn_left _ c.args.gate 1 _ _ (c.in_ok-sync.ensures.durable honest_1) (c.write_at-2.ensures.stop honest_2) image now)) in
    let run_3 = goes_on g.D.Disk start c.sync.new.self c.write_at-2.new.self P run_2 (c.write_at-2.ensures.time honest_2) torn in
    let honest_3 = c.write_at-2.ensures.device.honesty.1 honest_2 in
    goes_on g.D.Disk start c.write_at-2.new.self c.sync-2.new.self P run_3 (c.sync-2.ensures.time honest_3) (λ image now. torn image (c.sync-2.ensures.stop honest_3 image now))
