use Rattle.std.proofs.Common.{drop, vec_len, vec_capacity}
use Rattle.fe_codec.proofs.GroupLaws.{IsPutting}
use Rattle.fe_codec.proofs.groups.put_group.Given as goal

abbrev pub invariant-loop-entry : goal.invariant-loop-entry
invariant-loop-entry l = IsPutting l.format l.fn.out.items l.out.items l.entries (drop l.entry-index l.entries) (vec_len l.out) (vec_capacity l.fn.out) (vec_capacity l.out)
