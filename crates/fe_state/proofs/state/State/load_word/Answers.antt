use Rattle.std.proofs.Common.{refl}
use Rattle.std.specs.FinMap.{get}
use Rattle.fe_state.specs.State.{ServerState, directory_of}
use Rattle.fe_state.proofs.Limits.{put_word_kept}
use Rattle.fe_state.proofs.Loads.{directory_within}
use Rattle.fe_state.proofs.state.State.load_word.Goals as goal

pub invariant_of-self : goal.invariant_of-self
invariant_of-self c =
    let before : ServerState = record { arrays = c.self.inside.directory.arrays; sessions = c.self.inside.sessions; next_id = c.self.inside.directory.next_id; place = c.self.inside.place } in
    rw c.write.ensures.written (directory_within before _ c.self.invariant (put_word_kept (directory_of before) c.args.array c.args.index c.args.word (get before.arrays c.args.array) c.self.invariant.directory refl) refl)
