use Rattle.std.proofs.Common.{◌≡◌, ◌+◌, ◌∙◌, ℕ, List, Ok, ap, refl, arith}
use Rattle.std.proofs.lemmas.Result.{err_from_is_err_and}
use Rattle.fe_words.specs.declared.word.Word.{Word}
use Rattle.fe_state.specs.State.{ServerState}
use Rattle.fe_codec.specs.declared.fault.Fault.{Fault}
use Rattle.fe_codec.specs.FirstFault.{next_word, word_at, with_word_at}
use Rattle.fe_codec.specs.Loading.{GivesFault}
use Rattle.fe_codec.proofs.Repeats.{begins, goes_on, stops, stopped, is_done}
use Rattle.fe_codec.proofs.LoadingLemmas.{ids_same, ids_then, word_put}
use Rattle.fe_codec.proofs.arrays.load_words.Goals as goal

-- a word that is read goes to its index
goes : (array index : ℕ) (s t : ServerState) (w : Word) (bytes rest : List ℕ) → word_at bytes ≡ Ok (w, rest) → t ≡ with_word_at s array index w → next_word array (index, s, bytes) ≡ Ok (index + 1, t, rest)
unfolding next_word
goes array index s t w bytes rest read is = rw (read, is) refl

-- and a fault in it is one of the array
fails : (array index : ℕ) (s : ServerState) (bytes : List ℕ) (fault : Fault) → GivesFault fault (word_at bytes) → GivesFault fault (next_word array (index, s, bytes))
unfolding next_word
fails array index s bytes fault h = stopped fault (word_at bytes) _ h

pub loop-index-init : goal.loop-index-init
loop-index-init c = (begins (next_word c.args.array) c.args.count (0, c.args.state.now, c.args.bytes.now), record { ids = ids_same c.args.state.now.arrays; sessions = refl })

pub load_word-requires : goal.load_word-requires
load_word-requires c = c.loop-index.invariant.1.ids.words c.args.array c.loop-index.index (c.requires c.loop-index.index (omega arith))

pub returns-in_err-word-clause-given : goal.returns-in_err-word-clause-given
returns-in_err-word-clause-given c =
    let p = err_from_is_err_and c.from_residual.result c.from_residual.ensures.1 in
    rw (p.1, p.2) (stops (next_word c.args.array) c.args.count c.loop-index.index (c.loop-index.index, c.loop-index.state, c.loop-index.rest.now) _ c.loop-index.invariant.0 c.in_err-word.field-0.0 (omega arith)
    (fails c.args.array c.loop-index.index c.loop-index.state c.loop-index.rest.now c.in_err-word.field-0.0 c.in_err-word.ensures))

pub loop-index-preserved : goal.loop-index-preserved
loop-index-preserved c =
    let index = c.loop-index.index in
    let s = c.loop-index.state in
    let t = c.load_word.new.self in (
      goes_on (next_word c.args.array) c.args.count index (index, s, c.loop-index.rest.now) _ c.loop-index.invariant.0 _ (omega arith)
          (goes c.args.array index s t c.in_ok-word.word c.loop-index.rest.now c.in_ok-word.behind.now c.in_ok-word.ensures c.load_word.ensures),
      record {
        ids = ids_then _ _ _ c.loop-index.invariant.1.ids (rw c.load_word.ensures (word_put s.arrays c.args.array index c.in_ok-word.word));
        sessions = ap (λ (x : ServerState). x.sessions) c.load_word.ensures ∙ c.loop-index.invariant.1.sessions;
      },
    )

pub returns : goal.returns
returns c =
    let last : c.loop-index.index ≡ c.args.count = omega arith in
    record {
      given = rw last at (is_done (next_word c.args.array) c.args.count c.loop-index.index (c.loop-index.index, c.loop-index.state, c.loop-index.rest.now) _ c.loop-index.invariant.0 (omega arith));
      words = c.loop-index.invariant.1;
    }
