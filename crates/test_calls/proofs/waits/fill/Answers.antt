use Rattle.test_calls.proofs.waits.fill.Goals as goal

pub add-requires-clause-word : goal.add-requires-clause-word
add-requires-clause-word g c = (8, rw c.request-row.ensures.array c.loop-slot.invariant, c.request-row.ensures.index)
