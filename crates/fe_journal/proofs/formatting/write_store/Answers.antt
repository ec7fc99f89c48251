use Rattle.std.proofs.Common.{◌≡◌, length, sym, ◌∙◌}
use Rattle.fe_journal.proofs.FirstStore.{first_holds}
use Rattle.fe_journal.proofs.formatting.write_store.Goals as goal

pub returns-clause-holds : goal.returns-clause-holds
returns-clause-holds g c = λ honest.
    let first = c.write_first.new.disk in
    let honest_1 = c.shut_both.ensures.device.honesty.1 honest in
    let honest_2 = c.write_first.ensures.device.honesty.1 honest_1 in
    let size_0 : g.D.Disk.size c.args.disk.now ≡ 4202496 = sym c.size.ensures ∙ c.if-size-ne-DEVICE_BYTES.false in
    let whole : length (g.D.Disk.seen first) ≡ g.D.Disk.size first = (g.met.D.Disk.seen_is_image first honest_2).whole in
    let is_first = c.in_ok-write_first.ensures.first honest_1 (c.in_ok-shut_both.ensures.cleared honest) in
    first_holds c.args.format (g.D.Disk.seen first) c.area_of.result c.gate_of.result (whole ∙ c.write_first.ensures.device.same_size ∙ c.shut_both.ensures.device.same_size ∙ size_0) is_first c.area_of.ensures c.gate_of.ensures (g.D.Disk.seen c.commit.new.disk) (c.in_ok-commit.ensures.committed honest_2)

pub returns-clause-settled : goal.returns-clause-settled
returns-clause-settled g c = λ honest. c.in_ok-commit.ensures.durable (c.write_first.ensures.device.honesty.1 (c.shut_both.ensures.device.honesty.1 honest))
