-- The names of a store's files (`docs/store.md`, "The file").
use Rattle.std.specs.Prelude.{◌++◌, ℕ, List, codes}
use Rattle.fe_disk.specs.declared.disk.Disk.{Ghosts}
use Rattle.fe_keeper.specs.Keeper.{KeeperState}
use Rattle.fe_keeper.specs.Stands.{EachStandsFor}

-- the name of a file that is being made
abbrev pub new_name : List ℕ → List ℕ
new_name path = path ++ codes ".new"

-- the name of the file that keeps the bytes which a formatting replaced
abbrev pub kept_name : List ℕ → List ℕ
kept_name path = path ++ codes ".before-format"

-- Each image that a stop may leave of the keeper's disk, if it is honest, stands for the keeper's state.
abbrev pub IsWhole : {D : Type 0} → Ghosts D → KeeperState D → Type 0
IsWhole model keeper =
    model.honest keeper.store.disk → EachStandsFor model keeper.store.disk keeper.state
