use Rattle.fe_state.specs.State.{ServerState, IsLegal}
use Rattle.fe_state.proofs.LegalLimits.{limits_kept}
use Rattle.fe_state.proofs.state.State.advance.Goals as goal

pub invariant_of-self-2 : goal.invariant_of-self-2
invariant_of-self-2 c =
    let before : ServerState = record { arrays = c.self.inside.directory.arrays; sessions = c.self.inside.sessions; next_id = c.self.inside.directory.next_id; place = c.self.inside.place } in
    let legal : IsLegal before c.args.entry = rw (← c.self.view_is) at c.requires.legal in
    rw (c.in_ok-enact.ensures.ok, c.advance.ensures) (limits_kept before c.args.entry c.self.invariant legal)
