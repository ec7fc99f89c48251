use Rattle.fe_server.proofs.register.dismiss_late.Given as goal

abbrev pub decreases-loop-accepted : goal.decreases-loop-accepted
decreases-loop-accepted l = goal.left-loop-accepted l
