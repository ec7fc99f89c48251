use Rattle.std.proofs.Common.{◌≡◌, ◌∙◌, ℕ, List, subst}
use Rattle.std.proofs.lemmas.Result.{on_ok_weaker}
use Rattle.fe_disk.specs.declared.disk.Disk.{Ghosts}
use Rattle.fe_disk.specs.declared.file_disk.FileDisk.{FileDisk}
use Rattle.fe_store.specs.Opening.{FoundThere}
use Rattle.fe_store.specs.Spare.{AreSpare}
use Rattle.fe_store.specs.Kept.{IsCopied, IsKept}
use Rattle.fe_store.specs.Names.{kept_name}
use Rattle.fe_store.proofs.beside.keep.Goals as goal

-- the file that keeps these bytes was found
there : {F : Type 0} (model : Ghosts (FileDisk F)) (is_at : List ℕ → F → Type 0) (path name seen bytes : List ℕ) → name ≡ kept_name path → bytes ≡ seen
    → FoundThere model (is_at name) (AreSpare bytes) → IsKept model is_at path seen
there model is_at path name seen bytes named same found =
    subst (λ (l : List ℕ). IsKept model is_at path l) same (IsKept.There (subst (λ (n : List ℕ). FoundThere model (is_at n) (AreSpare bytes)) named found))

-- a file was made that has these bytes
copied : {F : Type 0} (model : Ghosts (FileDisk F)) (is_at : List ℕ → F → Type 0) (path seen bytes : List ℕ) → bytes ≡ seen → IsCopied model bytes → IsKept model is_at path seen
copied model is_at path seen bytes same is = subst (λ (l : List ℕ). IsKept model is_at path l) same (IsKept.Copied is)

pub returns-in-Ok-clause-kept : goal.returns-in-Ok-clause-kept
returns-in-Ok-clause-kept g c = λ honest.
    on_ok_weaker c.compare.result
    (there _ g.F.StoreFile.is_at c.args.place.now.path.now _ _ _ (c.as_str-in-Ok.ensures.value ∙ c.in_ok-kept.ensures) (c.as_slice-in-Ok.ensures.value ∙ c.in_ok-bytes.ensures.bytes honest))
    c.compare.ensures

pub returns-in-Err-clause-kept : goal.returns-in-Err-clause-kept
returns-in-Err-clause-kept g c = λ honest.
    on_ok_weaker c.copy.result (copied _ g.F.StoreFile.is_at c.args.place.now.path.now _ _ (c.as_slice-in-Err.ensures.value ∙ c.in_ok-bytes.ensures.bytes honest)) c.copy.ensures
