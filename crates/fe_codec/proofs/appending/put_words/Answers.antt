use Rattle.std.proofs.Common.{◌<◌, ◌^◌, arith}
use Rattle.fe_codec.specs.Image.{word_spelling}
use Rattle.fe_codec.proofs.Appends.{appends_nothing, item_appended, item_failed, items_appended, failed}
use Rattle.fe_codec.proofs.Elements.{all_more, all_taken}
use Rattle.fe_codec.proofs.appending.put_words.Goals as goal

pub loop-word-init : goal.loop-word-init
loop-word-init c = (appends_nothing _ _ _ (omega arith), tt)

pub returns-in_err-put_word-clause-appends : goal.returns-in_err-put_word-clause-appends
returns-in_err-put_word-clause-appends c =
    failed c.from_residual.result _ _ _ _ _ c.from_residual.ensures.0 (item_failed word_spelling c.args.words.now _ _ _ _ _ _ c.loop-word.word-index _ (omega arith) c.loop-word.invariant.0 c.in_err-put_word.ensures.appends)

pub loop-word-preserved : goal.loop-word-preserved
loop-word-preserved c = (
  item_appended word_spelling c.args.words.now _ _ _ _ _ _ _ c.loop-word.word-index _ (omega arith) c.loop-word.invariant.0 c.in_ok-put_word.ensures.appends,
  all_more (λ w. w.value < 2 ^ 64) c.args.words.now c.loop-word.word-index _ (omega arith) c.loop-word.invariant.1 c.in_ok-put_word.ensures.fits,
)

pub returns : goal.returns
returns c = record {
  appends = items_appended word_spelling c.args.words.now _ _ _ _ c.loop-word.word-index (omega arith) c.loop-word.invariant.0;
  fits = all_taken (λ w. w.value < 2 ^ 64) c.args.words.now c.loop-word.word-index (omega arith) c.loop-word.invariant.1;
}
