-- When a connection over a stream is over.
use Rattle.std.proofs.Common.{ℕ, List, Option, Some}
use Rattle.fe_client.specs.declared.lost.Lost.{Lost}
use Rattle.fe_client.specs.declared.lost.Lost.TheVariants as lost
use Rattle.fe_client.specs.Streams.{EndsIfEnded, IsOver}

-- a call failed, or all is read
pub over_ended : (why : Lost) (left : Option (List ℕ)) → EndsIfEnded why left → IsOver (Some why) left
over_ended (lost.Failed failure) left ends = ends
over_ended (lost.Ended ended) left ends = ends
