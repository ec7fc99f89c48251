use Rattle.std.proofs.Common.{◌≡◌, ◌-◌}
use Rattle.fe_codec.specs.FirstFault.{repeated, next_word}
use Rattle.fe_codec.specs.Loading.{ChangesWords}
use Rattle.fe_codec.proofs.arrays.load_words.Given as goal

abbrev pub invariant-loop-index : goal.invariant-loop-index
invariant-loop-index l =
    (repeated (next_word l.array) (l.count - l.index) (l.index, l.state, l.rest) ≡ repeated (next_word l.array) l.count (0, l.fn.state, l.bytes))
    × ChangesWords l.fn.state l.state
