use Rattle.test_calls.proofs.waits.finish.Goals as goal

pub first_on-requires : goal.first_on-requires
first_on-requires g c = record { word = (8, c.loop.invariant, c.requires.word) }
