-- How a run of device calls goes on, for the author of a layer above.
use Rattle.std.proofs.Common.{inl, inr, ⊎_elim, ℕ, List, arith}
use Rattle.fe_disk.specs.Runs.{HasElapsed, LeavesOnly}
use Rattle.fe_disk.specs.declared.disk.Disk.{Ghosts}

module _ {D : Type 0} (model : Ghosts D) where
  -- before the first call
  pub started : (old : D) (P : List ℕ → Type 0) → ((image : List ℕ) → model.left_since old (model.moment old) image → P image) → LeavesOnly model old old P
  started old P here = record { later = omega arith; each = here; before = λ t image le left. inl left }

  -- one call more, after which a stop leaves what has P
  pub goes_on : (old mid new : D) (P : List ℕ → Type 0) → LeavesOnly model old mid P → HasElapsed model mid new
      → ((image : List ℕ) → model.may_leave new image → P image) → LeavesOnly model old new P
  goes_on old mid new P so_far time here =
      record {
        later = omega (arith, so_far.later, time.later);
        each = λ image left. ⊎_elim (so_far.each image) (here image) (time.nothing_else (model.moment old) image so_far.later left);
        before = λ t image le left. ⊎_elim (so_far.before t image le) (λ now. inr (here image now)) (time.nothing_else t image (omega (arith, le, so_far.later)) left);
      }

  -- a run after a run
  pub joined : (old mid new : D) (P : List ℕ → Type 0) → LeavesOnly model old mid P → LeavesOnly model mid new P → LeavesOnly model old new P
  joined old mid new P first second =
      record {
        later = omega (arith, first.later, second.later);
        each = λ image left. ⊎_elim (first.each image) (λ has. has) (second.before (model.moment old) image first.later left);
        before = λ t image le left. ⊎_elim (first.before t image le) (λ has. inr has) (second.before t image (omega (arith, le, first.later)) left);
      }

  pub weaker : (old new : D) (P Q : List ℕ → Type 0) → ((image : List ℕ) → P image → Q image) → LeavesOnly model old new P → LeavesOnly model old new Q
  weaker old new P Q f run =
      record {
        later = run.later;
        each = λ image left. f image (run.each image left);
        before = λ t image le left. ⊎_elim (λ past. inl past) (λ has. inr (f image has)) (run.before t image le left);
      }
