use Rattle.std.proofs.Common.{refl}
use Rattle.fe_words.specs.declared.word.Tag.TheVariants.{Empty}
use Rattle.fe_state.specs.Effect.{MayBeAdded, new_array}
use Rattle.fe_state.specs.State.{ServerState, directory_of}
use Rattle.fe_state.proofs.DirectoryLemmas.{come_kept}
use Rattle.fe_state.proofs.Loads.{directory_within}
use Rattle.fe_state.proofs.state.State.load_array.Goals as goal

pub invariant_of-self : goal.invariant_of-self
invariant_of-self c =
    let before : ServerState = record { arrays = c.self.inside.directory.arrays; sessions = c.self.inside.sessions; next_id = c.self.inside.directory.next_id; place = c.self.inside.place } in
    let new = new_array c.args.name c.args.length Empty in
    let comes : MayBeAdded (directory_of before) c.args.id new = rw (← c.self.view_is) at c.requires in
    rw (c.insert.ensures, c.in_ok-words.ensures) (directory_within before _ c.self.invariant (come_kept (directory_of before) c.args.id new c.self.invariant.directory comes) refl)
