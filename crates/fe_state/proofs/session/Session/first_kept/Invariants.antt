use Rattle.std.proofs.Common.{◌≡◌, nat_le}
use Rattle.std.specs.FinMap.{retain_keys}
use Rattle.fe_state.proofs.session.Session.first_kept.Given as goal

abbrev pub invariant-loop-number : goal.invariant-loop-number
invariant-loop-number l = retain_keys l.fn.self.kept (nat_le l.fn.from) ≡ retain_keys l.fn.self.kept (nat_le l.number)
