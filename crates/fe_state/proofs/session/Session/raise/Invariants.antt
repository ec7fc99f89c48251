use Rattle.std.proofs.Common.{◌≡◌, nat_le}
use Rattle.std.specs.FinMap.{retain_keys}
use Rattle.fe_state.proofs.session.Session.raise.Given as goal

abbrev pub invariant-loop-number : goal.invariant-loop-number
invariant-loop-number l = record {
  floor : l.self.floor ≡ l.initial.self.floor;
  kept : l.self.kept ≡ retain_keys l.initial.self.kept (nat_le l.number);
}
