use Rattle.fe_codec.proofs.GroupReading.{IsReading}
use Rattle.fe_codec.proofs.groups.read_group.Given as goal

abbrev pub invariant-loop : goal.invariant-loop
invariant-loop l = IsReading l.format l.bytes l.entries.items l.rest l.counter
