use Rattle.fe_server.proofs.register.dismiss.Given as goal

abbrev pub decreases-loop-arrival : goal.decreases-loop-arrival
decreases-loop-arrival g l = goal.left-loop-arrival g l
