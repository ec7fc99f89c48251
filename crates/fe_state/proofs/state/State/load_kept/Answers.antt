use Rattle.fe_state.specs.Sessions.{IsInWindow}
use Rattle.fe_state.specs.State.{ServerState}
use Rattle.fe_state.proofs.Undone.{at_some}
use Rattle.fe_state.proofs.Loads.{kept_within}
use Rattle.fe_state.proofs.state.State.load_kept.Goals as goal

pub invariant_of-self : goal.invariant_of-self
invariant_of-self c =
    let before : ServerState = record { arrays = c.self.inside.directory.arrays; sessions = c.self.inside.sessions; next_id = c.self.inside.directory.next_id; place = c.self.inside.place } in
    rw c.keep.ensures (kept_within before c.args.session c.args.number c.get_mut.result.now c.args.kept c.self.invariant c.get_mut.ensures.value
    (at_some (λ x. IsInWindow x.floor c.args.number) _ _ (rw (← c.self.view_is) at c.requires.window) c.get_mut.ensures.value)
    (rw (← c.self.view_is) at c.requires.place))
