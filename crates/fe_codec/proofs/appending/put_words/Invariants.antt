use Rattle.std.proofs.Common.{true, take, vec_capacity, ◌<◌, ◌^◌}
use Rattle.std.specs.List.{AllByRecursion}
use Rattle.std.specs.Prelude.{flat_map}
use Rattle.fe_codec.specs.Appending.{Appends}
use Rattle.fe_codec.specs.Image.{word_spelling}
use Rattle.fe_codec.proofs.appending.put_words.Given as goal

abbrev pub invariant-loop-word : goal.invariant-loop-word
invariant-loop-word l = Appends l.fn.out.items l.out.items (vec_capacity l.fn.out) (vec_capacity l.out) true (flat_map word_spelling (take l.word-index l.words))
    × AllByRecursion (λ w. w.value < 2 ^ 64) (take l.word-index l.words)
