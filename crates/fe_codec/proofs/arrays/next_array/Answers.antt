use Rattle.std.proofs.Common.{◌≡◌, ◌∙◌, ◌+◌, Some, ap, arith}
use Rattle.std.specs.FinMap.{len}
use Rattle.fe_state.specs.Effect.{new_array}
use Rattle.fe_state.specs.State.{ServerState, directory_of}
use Rattle.fe_words.specs.declared.word.Tag.TheVariants.{Empty}
use Rattle.fe_codec.proofs.LoadingLemmas.{may_come, new_words, fresh_next, fresh_kept, one_more}
use Rattle.fe_codec.proofs.arrays.next_array.Goals as goal

pub load_array-requires : goal.load_array-requires
load_array-requires c =
    may_come (directory_of c.args.state.now) c.args.previous c.in_ok-id.id c.in-Ok.found.0 c.in_ok-length.length c.requires.fresh c.in_ok-id.ensures.after c.in_ok-id.ensures.range.0 (rw c.next_id.ensures at c.in_ok-id.ensures.range.1)
    c.in-Ok.ensures.plain c.in-Ok.ensures.free c.requires.few c.in_ok-length.ensures.range.0 c.in_ok-length.ensures.range.1

pub load_words-requires : goal.load_words-requires
load_words-requires c i lt = rw c.in_ok-load_array.ensures.ok (new_words c.args.state.now.arrays c.in_ok-id.id c.in-Ok.found.0 c.in_ok-length.length i lt)

pub returns-clause-added : goal.returns-clause-added
returns-clause-added c =
    let id = c.in_ok-id.id in
    let new = new_array c.in-Ok.found.0 c.in_ok-length.length Empty in
    let came : len c.load_array.new.self.arrays ≡ len c.args.state.now.arrays + 1 =
    rw c.in_ok-load_array.ensures.ok (one_more c.args.state.now.arrays id new (c.requires.fresh id c.in_ok-id.ensures.after)) in
    let words = c.in_ok-rest.ensures.words in
    let same : c.load_array.new.self.sessions ≡ c.args.state.now.sessions = ap (λ (s : ServerState). s.sessions) c.in_ok-load_array.ensures.ok in
    record {
      fresh = fresh_kept (Some id) c.load_array.new.self.arrays c.load_words.new.state.arrays
          (rw c.in_ok-load_array.ensures.ok (fresh_next c.args.previous c.args.state.now.arrays id new c.requires.fresh c.in_ok-id.ensures.after)) words.ids.keys;
      few = omega (arith, came, words.ids.keys.count);
      sessions = words.sessions ∙ same;
    }
