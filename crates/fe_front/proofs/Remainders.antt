-- All connections of a set, or none.
use Rattle.std.proofs.Common.{◌≡◌, ℕ, ◌%◌, Bool, false, replicate, arith}
use Rattle.std.specs.Prelude.{slice_index_or}
use Rattle.std.proofs.lemmas.List.{get_or-replicate}

pub all_alike : (b : Bool) (conn : ℕ) → slice_index_or (replicate 256 b) (conn % 256) false ≡ b
all_alike b conn = get_or-replicate 256 (conn % 256) b false (omega arith)
