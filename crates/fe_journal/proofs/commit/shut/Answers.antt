use Rattle.std.proofs.Common.{ℕ, List, sym, ◌∙◌}
use Rattle.std.proofs.lemmas.Result.{on_ok_weaker}
use Rattle.fe_disk.proofs.Outcomes.{just_joined}
use Rattle.fe_disk.proofs.Moments.{started, goes_on}
use Rattle.fe_journal.specs.Journal.{IsLeftInShutting}
use Rattle.fe_journal.proofs.Steps.{shut_still, shut_torn, byte_read}
use Rattle.fe_journal.proofs.commit.shut.Goals as goal

pub returns-in_err-read_at-clause-any_moment : goal.returns-in_err-read_at-clause-any_moment
returns-in_err-read_at-clause-any_moment g c = λ honest just.
    let start = c.args.disk.now in
    let P : List ℕ → Type 0 = IsLeftInShutting (g.D.Disk.seen start) c.args.gate in
    let run_0 = started g.D.Disk start P (λ image left. shut_still _ _ image (just image (g.met.D.Disk.only_now start image honest left))) in
    goes_on g.D.Disk start start c.read_at.new.self P run_0 (c.read_at.ensures.time honest) (λ image now. shut_still _ _ image (just image (c.read_at.ensures.stop honest image now)))

pub returns-then-byte-ne1-clause-any_moment : goal.returns-then-byte-ne1-clause-any_moment
returns-then-byte-ne1-clause-any_moment g c = λ honest just.
    let start = c.args.disk.now in
    let P : List ℕ → Type 0 = IsLeftInShutting (g.D.Disk.seen start) c.args.gate in
    let run_0 = started g.D.Disk start P (λ image left. shut_still _ _ image (just image (g.met.D.Disk.only_now start image honest left))) in
    goes_on g.D.Disk start start c.read_at.new.self P run_0 (c.read_at.ensures.time honest) (λ image now. shut_still _ _ image (just image (c.read_at.ensures.stop honest image now)))

pub returns-in_err-write_at-clause-any_moment : goal.returns-in_err-write_at-clause-any_moment
returns-in_err-write_at-clause-any_moment g c = λ honest just.
    let start = c.args.disk.now in
    let P : List ℕ → Type 0 = IsLeftInShutting (g.D.Disk.seen start) c.args.gate in
    let run_0 = started g.D.Disk start P (λ image left. shut_still _ _ image (just image (g.met.D.Disk.only_now start image honest left))) in
    let run_1 = goes_on g.D.Disk start start c.read_at.new.self P run_0 (c.read_at.ensures.time honest) (λ image now. shut_still _ _ image (just image (c.read_at.ensures.stop honest image now))) in
    let honest_1 = c.read_at.ensures.device.honesty.1 honest in
    let was_open = byte_read (g.D.Disk.seen start) c.args.gate c.read_at.new.buffer (c.in_ok-read_at.ensures.read honest) ∙ c.if-byte-ne1.false in
    goes_on g.D.Disk start c.read_at.new.self c.write_at.new.self P run_1 (c.write_at.ensures.time honest_1)
    (shut_torn _ _ was_open (g.D.Disk.may_leave c.read_at.new.self) _ (λ image now. just image (c.read_at.ensures.stop honest image now)) (c.write_at.ensures.stop honest_1))

pub returns-clause-any_moment : goal.returns-clause-any_moment
returns-clause-any_moment g c = λ honest just.
    let start = c.args.disk.now in
    let P : List ℕ → Type 0 = IsLeftInShutting (g.D.Disk.seen start) c.args.gate in
    let run_0 = started g.D.Disk start P (λ image left. shut_still _ _ image (just image (g.met.D.Disk.only_now start image honest left))) in
    let run_1 = goes_on g.D.Disk start start c.read_at.new.self P run_0 (c.read_at.ensures.time honest) (λ image now. shut_still _ _ image (just image (c.read_at.ensures.stop honest image now))) in
    let honest_1 = c.read_at.ensures.device.honesty.1 honest in
    let was_open = byte_read (g.D.Disk.seen start) c.args.gate c.read_at.new.buffer (c.in_ok-read_at.ensures.read honest) ∙ c.if-byte-ne1.false in
    let torn = shut_torn _ _ was_open (g.D.Disk.may_leave c.read_at.new.self) _ (λ image now. just image (c.read_at.ensures.stop honest image now)) (c.write_at.ensures.stop honest_1) in
    let run_2 = goes_on g.D.Disk start c.read_at.new.self c.write_at.new.self P run_1 (c.write_at.ensures.time honest_1) torn in
    let honest_2 = c.write_at.ensures.device.honesty.1 honest_1 in
    goes_on g.D.Disk start c.write_at.new.self c.sync.new.self P run_2 (c.sync.ensures.time honest_2) (λ image now. torn image (c.sync.ensures.stop honest_2 image now))

pub returns-then-byte-ne1-clause-made : goal.returns-then-byte-ne1-clause-made
returns-then-byte-ne1-clause-made g c = λ honest.
    let same = byte_read (g.D.Disk.seen c.args.disk.now) c.args.gate c.read_at.new.buffer (c.in_ok-read_at.ensures.read honest) in
    record { opened = λ is_open. absurd (c.if-byte-ne1.true (sym same ∙ is_open)); closed = λ _. c.in_ok-read_at.ensures.device.made }

pub returns-clause-made : goal.returns-clause-made
returns-clause-made g c = λ honest.
    let old = g.D.Disk.calls c.args.disk.now in
    let read = g.D.Disk.calls c.read_at.new.self in
    let wrote = g.D.Disk.calls c.write_at.new.self in
    let was_open = byte_read (g.D.Disk.seen c.args.disk.now) c.args.gate c.read_at.new.buffer (c.in_ok-read_at.ensures.read honest) ∙ c.if-byte-ne1.false in
    let two = just_joined 1 0 0 0 1 0 old read wrote c.in_ok-read_at.ensures.device.made c.in_ok-write_at.ensures.device.made in
    on_ok_weaker c.sync.result (λ made. record { opened = λ _. just_joined 1 1 0 0 0 1 old wrote _ two made; closed = λ shut. absurd (shut was_open) }) c.sync.ensures.device.made
