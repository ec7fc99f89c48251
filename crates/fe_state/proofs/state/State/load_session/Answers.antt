use Rattle.fe_state.specs.State.{ServerState}
use Rattle.fe_state.proofs.Loads.{session_within, nothing_kept}
use Rattle.fe_state.proofs.state.State.load_session.Goals as goal

pub invariant_of-self : goal.invariant_of-self
invariant_of-self c =
    let before : ServerState = record { arrays = c.self.inside.directory.arrays; sessions = c.self.inside.sessions; next_id = c.self.inside.directory.next_id; place = c.self.inside.place } in
    rw c.insert.ensures.inserted (session_within before c.args.session c.starting.result c.self.invariant (rw (← c.self.view_is) at c.requires.new) (rw (← c.self.view_is) at c.requires.few)
    (nothing_kept before.place c.starting.result (rw c.starting.ensures.floor c.requires.least) (rw c.starting.ensures.floor c.requires.most) c.starting.ensures.kept))
