use Rattle.std.proofs.Common.{◌≡◌, ◌<◌, ◌≤◌, ℕ, length, slice_index_or, bit_or}
use Rattle.fe_desk.proofs.port_set.PortSet.add_each.Given as goal

-- the words before this one have the bits of both, and the others are as they were
abbrev pub invariant-loop-k : goal.invariant-loop-k
invariant-loop-k l =
    record { len : length l.self.words ≡ 16; each : (j : ℕ) → j < l.k → slice_index_or l.self.words j 0 ≡ bit_or (slice_index_or l.initial.self.words j 0) (slice_index_or l.others.words j 0); rest : (j : ℕ) → l.k ≤ j → slice_index_or l.self.words j 0 ≡ slice_index_or l.initial.self.words j 0 }
