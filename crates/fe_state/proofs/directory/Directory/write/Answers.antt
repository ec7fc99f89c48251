use Rattle.std.proofs.Common.{Some, sym, ◌∙◌}
use Rattle.fe_state.proofs.DirectoryLemmas.{put_words, written_there, written_back}
use Rattle.fe_state.proofs.Limits.{put_word_kept}
use Rattle.fe_state.proofs.directory.Directory.write.Goals as goal

pub invariant_of-self : goal.invariant_of-self
invariant_of-self c =
    let there = c.get_mut.ensures.value in
    rw c.replace-before.ensures.replaced (put_word_kept _ _ _ _ (Some c.get_mut.result.now) c.self.invariant.0 there, c.self.invariant.1 ∙ sym (put_words _ _ c.args.index c.args.after c.get_mut.result.now there))

pub returns-clause-back : goal.returns-clause-back
returns-clause-back c =
    let there = c.get_mut.ensures.value in
    let before = sym c.replace-before.ensures.before in
    record {
      can_restore = rw c.replace-before.ensures.replaced (written_there c.self.inside.arrays c.args.array c.args.index c.replace-before.result c.args.after (Some c.get_mut.result.now) there before);
      restored = rw (c.replace-before.ensures.replaced, written_back c.self.inside.arrays c.args.array c.args.index c.replace-before.result c.args.after (Some c.get_mut.result.now) there before) c.self.view_is;
    }
