use Rattle.std.proofs.Common.{◌≡◌, ◌/◌, ◌∙◌, true, false, length, Some, ap, sym, arith}
use Rattle.fe_codec.proofs.GroupReading.{group_sized, one_left, no_group, all_read, the_group}
use Rattle.fe_codec.proofs.groups.read_group.Goals as goal

pub returns-then-not-is_group_size-clause-only : goal.returns-then-not-is_group_size-clause-only
returns-then-not-is_group_size-clause-only c = λ entries is.
    let there = c.is_group_size.ensures.1 (group_sized c.args.format entries c.args.bytes.now is) in
    let clash : false ≡ true = sym c.if-not-is_group_size.true ∙ there in absurd cc

pub next_entry-requires : goal.next_entry-requires
next_entry-requires c =
    let lt = rw c.record_bytes.ensures.value at c.loop-test.true in
    one_left c.args.format c.args.bytes.now c.loop.entries.items c.loop.rest.now c.loop.counter c.loop.invariant lt

pub returns-in-None-clause-only : goal.returns-in-None-clause-only
returns-in-None-clause-only c = λ entries is.
    let lt = rw c.record_bytes.ensures.value at c.loop-test.true in
    let room = one_left c.args.format c.args.bytes.now c.loop.entries.items c.loop.rest.now c.loop.counter c.loop.invariant lt in
    absurd (no_group c.args.format c.args.bytes.now c.loop.entries.items c.loop.rest.now c.loop.counter entries c.loop.invariant room
    (λ entry more fits starts. let clash : false ≡ true = c.in-None.ensures.only entry more fits starts in absurd cc) is)

-- what was read is the group that the bytes are
pub returns-clause-found : goal.returns-clause-found
returns-clause-found c =
    let last : c.loop.counter ≡ length c.args.bytes.now / c.record_bytes.result = omega arith in
    all_read c.args.format c.args.bytes.now c.loop.entries.items c.loop.rest.now c.loop.counter (c.is_group_size.ensures.0 c.if-not-is_group_size.false) c.loop.invariant (rw c.record_bytes.ensures.value at last)

pub returns-clause-only : goal.returns-clause-only
returns-clause-only c = λ entries is. ap Some (the_group c.args.format c.args.bytes.now c.loop.entries.items entries (returns-clause-found c) is)
