use Rattle.fe_state.proofs.sessions.advance.Goals as goal

-- by `cc` alone, so that a body that keeps nothing is refused soon
pub returns-in-Finished : goal.returns-in-Finished
returns-in-Finished c = rw (c.in-Finished.is, c.get_mut-in-Finished.ensures.value) (cc)
