-- `Waiting`: the waiting requests, as contracts see them. `Pair`: the order of their keys. `within`: what no
-- public clause cites.
pub mod Waiting
pub mod within
