use Rattle.fe_front.proofs.Below.{NoneBelow}
use Rattle.fe_front.proofs.front.Front.waits_below.Given as goal

abbrev pub invariant-loop-number : goal.invariant-loop-number
invariant-loop-number l = NoneBelow l.self.service.waiting l.session l.number
