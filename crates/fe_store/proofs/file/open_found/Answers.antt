use Rattle.std.proofs.Common.{◌≡◌, ◌∙◌, ℕ, Bool, true, false, List, inl, inr, sym, subst}
use Rattle.fe_disk.specs.declared.disk.Disk.{Ghosts}
use Rattle.fe_disk.specs.declared.file_disk.FileDisk.{FileDisk}
use Rattle.fe_keeper.specs.Keeper.{KeeperState}
use Rattle.fe_state.specs.State.{ServerState}
use Rattle.fe_keeper.specs.Stands.{StandsFor}
use Rattle.fe_store.specs.Kept.{IsKept}
use Rattle.fe_store.specs.Opening.{IsOpenedAs, Opens}
use Rattle.fe_store.proofs.file.open_found.Goals as goal

-- a store that was made on the image that was found, since one was asked for
as_asked : {D : Type 0} (model : Ghosts D) (found made : List ℕ) (format : Bool) (keeper : KeeperState D) → format ≡ true → made ≡ found → IsOpenedAs model made true keeper
    → IsOpenedAs model found format keeper
as_asked model found made format keeper asked same opened =
    subst (λ (f : Bool). IsOpenedAs model found f keeper) (sym asked) (subst (λ (image : List ℕ). IsOpenedAs model image true keeper) same opened)

-- a store that was opened without formatting
not_formatted : (image : List ℕ) (s : ServerState) → Opens image false s → StandsFor image s
not_formatted image s (inl stands) = stands
not_formatted image s (inr made) = let no : false ≡ true = made.0.1 in absurd cc

-- bytes that are kept, as they were found
as_found : {F : Type 0} (model : Ghosts (FileDisk F)) (is_at : List ℕ → F → Type 0) (path bytes found : List ℕ) → bytes ≡ found → IsKept model is_at path bytes → IsKept model is_at path found
as_found model is_at path bytes found same kept = subst (λ (l : List ℕ). IsKept model is_at path l) same kept

pub returns-in-Ok-clause-kept : goal.returns-in-Ok-clause-kept
returns-in-Ok-clause-kept g c = λ honest. inl (not_formatted _ _ (c.in-Ok.ensures.opened honest).state)

pub returns-in-Ok-open_on-clause-kept : goal.returns-in-Ok-open_on-clause-kept
returns-in-Ok-open_on-clause-kept g c = λ honest.
    let one = c.in-Err-Unformatted-default.ensures in
    let seen_then = (one.reads honest (λ asks. let no : false ≡ true = asks.1 in absurd cc)).same in
    inr (as_found _ g.F.StoreFile.is_at c.args.place.now.path.now _ _ seen_then (c.in_ok-keep-in-Err-Unformatted-default.ensures.kept (one.ends.honesty.1 honest)))

-- what was found unformatted is what is formatted
pub returns-in-Ok-open_on-clause-opened : goal.returns-in-Ok-open_on-clause-opened
returns-in-Ok-open_on-clause-opened g c = λ honest.
    let one = c.in-Err-Unformatted-default.ensures in
    let honest_then = one.ends.honesty.1 honest in
    let seen_then = (one.reads honest (λ asks. let no : false ≡ true = asks.1 in absurd cc)).same in
    as_asked _ _ _ _ _ c.if-format.true (c.keep.ensures.same honest_then ∙ seen_then) (c.in-Ok-open_on.ensures.opened (c.keep.ensures.honesty.1 honest_then))
