use Rattle.std.proofs.Common.{◌≡◌, ℕ, ◌+◌, ◌≤◌, List, length, inl, inr, ◌∙◌, ap, subst, arith}
use Rattle.std.proofs.lemmas.Result.{on_ok_weaker}
use Rattle.fe_disk.specs.Disk.{IsTorn, Follows, bytes_at, after_write}
use Rattle.fe_disk.specs.Runs.{LeavesOnly}
use Rattle.fe_disk.proofs.Images.{bytes_at-after_write}
use Rattle.fe_disk.proofs.Moments.{goes_on, weaker}
use Rattle.fe_journal.specs.Layout.{header_of, gate_of, IsGateShut}
use Rattle.fe_journal.specs.Journal.{IsLeftInShutting, IsLeftInBeginning, Shuts}
use Rattle.fe_journal.proofs.Steps.{header_torn, header_left, shuts_then}
use Rattle.fe_journal.proofs.slot.begin_slot.Goals as goal

pub returns-in_err-shut-clause-any_moment : goal.returns-in_err-shut-clause-any_moment
returns-in_err-shut-clause-any_moment g c = λ honest synced.
    let start = c.args.disk.now in
    let slot = c.args.slot in
    let seen = g.D.Disk.seen start in
    let shutting = weaker g.D.Disk start c.shut.new.disk (IsLeftInShutting seen (gate_of slot)) (IsLeftInBeginning seen slot) (λ image left. inl left)
    (subst (λ (k : ℕ). LeavesOnly g.D.Disk start c.shut.new.disk (IsLeftInShutting seen k)) c.gate_of.ensures (c.shut.ensures.any_moment honest synced)) in
    shutting

pub returns-clause-any_moment : goal.returns-clause-any_moment
returns-clause-any_moment g c = λ honest synced.
    let start = c.args.disk.now in
    let slot = c.args.slot in
    let seen = g.D.Disk.seen start in
    let shutting = weaker g.D.Disk start c.shut.new.disk (IsLeftInShutting seen (gate_of slot)) (IsLeftInBeginning seen slot) (λ image left. inl left)
    (subst (λ (k : ℕ). LeavesOnly g.D.Disk start c.shut.new.disk (IsLeftInShutting seen k)) c.gate_of.ensures (c.shut.ensures.any_moment honest synced)) in
    let honest_1 = c.shut.ensures.device.honesty.1 honest in
    let torn = subst (λ (k : ℕ). IsTorn k 1 seen (g.D.Disk.seen c.shut.new.disk)) c.gate_of.ensures (c.shut.ensures.torn honest) in
    let shut = subst (λ (k : ℕ). IsGateShut (g.D.Disk.seen c.shut.new.disk) k) c.gate_of.ensures (c.in_ok-shut.ensures.closed honest) in
    let just = c.in_ok-shut.ensures.settled honest synced in
    let follows = subst (λ (k : ℕ). Follows (IsTorn k (length c.header_fields-fields.result)) (g.D.Disk.may_leave c.shut.new.disk) (g.D.Disk.may_leave c.write_at.new.self)) c.header_of.ensures (c.write_at.ensures.stop honest_1) in
    let twenty : length c.header_fields-fields.result ≡ 20 = ap (λ (l : List ℕ). length l) c.header_fields-fields.ensures in
    let lefts = header_left seen (g.D.Disk.seen c.shut.new.disk) slot c.header_fields-fields.result (g.D.Disk.may_leave c.shut.new.disk) (g.D.Disk.may_leave c.write_at.new.self) twenty torn shut just follows in
    goes_on g.D.Disk start c.shut.new.disk c.write_at.new.self (IsLeftInBeginning seen slot) shutting (c.write_at.ensures.time honest_1) (λ image may. inr (lefts image may))

pub returns-clause-left : goal.returns-clause-left
returns-clause-left g c = λ honest synced.
    let start = c.args.disk.now in
    let slot = c.args.slot in
    let seen = g.D.Disk.seen start in
    let honest_1 = c.shut.ensures.device.honesty.1 honest in
    let torn = subst (λ (k : ℕ). IsTorn k 1 seen (g.D.Disk.seen c.shut.new.disk)) c.gate_of.ensures (c.shut.ensures.torn honest) in
    let shut = subst (λ (k : ℕ). IsGateShut (g.D.Disk.seen c.shut.new.disk) k) c.gate_of.ensures (c.in_ok-shut.ensures.closed honest) in
    let just = c.in_ok-shut.ensures.settled honest synced in
    let follows = subst (λ (k : ℕ). Follows (IsTorn k (length c.header_fields-fields.result)) (g.D.Disk.may_leave c.shut.new.disk) (g.D.Disk.may_leave c.write_at.new.self)) c.header_of.ensures (c.write_at.ensures.stop honest_1) in
    let twenty : length c.header_fields-fields.result ≡ 20 = ap (λ (l : List ℕ). length l) c.header_fields-fields.ensures in
    let lefts = header_left seen (g.D.Disk.seen c.shut.new.disk) slot c.header_fields-fields.result (g.D.Disk.may_leave c.shut.new.disk) (g.D.Disk.may_leave c.write_at.new.self) twenty torn shut just follows in
    on_ok_weaker c.write_at.result (λ _. lefts) (c.write_at.ensures.device.still)

pub returns-clause-begun : goal.returns-clause-begun
returns-clause-begun g c = λ honest.
    let start = c.args.disk.now in
    let slot = c.args.slot in
    let seen = g.D.Disk.seen start in
    let mid = g.D.Disk.seen c.shut.new.disk in
    let new = g.D.Disk.seen c.write_at.new.self in
    let honest_1 = c.shut.ensures.device.honesty.1 honest in
    let torn = subst (λ (k : ℕ). IsTorn k 1 seen mid) c.gate_of.ensures (c.shut.ensures.torn honest) in
    let shut = subst (λ (k : ℕ). IsGateShut mid k) c.gate_of.ensures (c.in_ok-shut.ensures.closed honest) in
    let twenty : length c.header_fields-fields.result ≡ 20 = ap (λ (l : List ℕ). length l) c.header_fields-fields.ensures in
    let whole : length mid ≡ g.D.Disk.size c.shut.new.disk = (g.met.D.Disk.seen_is_image c.shut.new.disk honest_1).whole in
    let written = subst (λ (k : ℕ). IsTorn k (length c.header_fields-fields.result) mid new) c.header_of.ensures (c.write_at.ensures.torn honest_1) in
    let room : header_of slot + length c.header_fields-fields.result ≤ length mid = omega (arith, whole, c.shut.ensures.device.same_size, c.requires.device, twenty, c.requires.is_slot) in
    on_ok_weaker c.write_at.result (λ wrote.
    let there : new ≡ after_write mid (header_of slot) c.header_fields-fields.result = wrote ∙ ap (λ (k : ℕ). after_write mid k c.header_fields-fields.result) c.header_of.ensures in
    record {
      header = header_torn seen mid new slot (length c.header_fields-fields.result) (omega (arith, twenty)) torn shut written;
      fields_are = subst (λ (l : List ℕ). bytes_at new (header_of slot) (length l) ≡ l) c.header_fields-fields.ensures
          (ap (λ (l : List ℕ). bytes_at l (header_of slot) (length c.header_fields-fields.result)) there ∙ bytes_at-after_write mid (header_of slot) c.header_fields-fields.result room);
    }) (c.write_at.ensures.written honest_1)

pub returns-clause-made : goal.returns-clause-made
returns-clause-made g c = λ honest.
    let seen = g.D.Disk.seen c.args.disk.now in
    let old = g.D.Disk.calls c.args.disk.now in
    let mid = g.D.Disk.calls c.shut.new.disk in
    let shut = subst (λ (k : ℕ). Shuts seen k 0 old mid) c.gate_of.ensures (c.in_ok-shut.ensures.made honest) in
    on_ok_weaker c.write_at.result (shuts_then seen (gate_of c.args.slot) 0 old mid _ shut) c.write_at.ensures.device.made
