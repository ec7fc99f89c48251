use Rattle.std.proofs.Common.{◌≡◌}
use Rattle.toml.specs.View.{members_view}
use Rattle.fe_options.specs.Settings.{has_known_keys}
use Rattle.fe_options.proofs.reading.has_known_keys.Given as goal

abbrev pub invariant-loop-name : goal.invariant-loop-name
invariant-loop-name l = has_known_keys (members_view l.name-iterator) ≡ has_known_keys (members_view l.table.entries)
