-- What a clause says at the outcome that came, and how runs of device calls join.
use Rattle.std.proofs.Common.{◌≡◌, ◌⊎◌, ◌∙◌, ℕ, ◌+◌, ◌≤◌, false, Result, Ok, Err, inl, inr, subst, arith, OnOk, OnErr}
use Rattle.std.specs.Prelude.{IsErrOf}
use Rattle.std.specs.Result.{is_err}
use Rattle.fe_disk.specs.Disk.{Rises, RisesAtMost, MakesAtMost, MakesJust}
use Rattle.fe_disk.specs.Runs.{Asks, Runs}
use Rattle.fe_disk.specs.declared.calls.Calls.{Calls}
use Rattle.fe_disk.specs.declared.disk.Disk.{Ghosts}

pub at_ok : {T E P : Type 0} (r : Result T E) → is_err r ≡ false → OnOk r P → P
at_ok (Ok x) is clause = clause
at_ok (Err e) is clause = cc

pub either : {T E P Q : Type 0} (r : Result T E) → OnOk r P → OnErr r Q → P ⊎ Q
either (Ok x) ok err = inl ok
either (Err e) ok err = inr err

-- at most this many calls, and then at most this many
rises_joined : (n m old mid new : ℕ) → RisesAtMost n old mid → RisesAtMost m mid new → RisesAtMost (n + m) old new
rises_joined n m old mid new (low, high) (low', high') = (omega arith, omega arith)

pub most_joined : (r w s r' w' s' : ℕ) (old mid new : Calls) → MakesAtMost r w s old mid → MakesAtMost r' w' s' mid new → MakesAtMost (r + r') (w + w') (s + s') old new
most_joined r w s r' w' s' old mid new first second = (
  rises_joined r r' old.reads mid.reads new.reads first.0 second.0,
  rises_joined w w' old.writes mid.writes new.writes first.1 second.1,
  rises_joined s s' old.syncs mid.syncs new.syncs first.2 second.2,
)

pub most_within : (r w s r' w' s' : ℕ) (old new : Calls) → r ≤ r' → w ≤ w' → s ≤ s' → MakesAtMost r w s old new → MakesAtMost r' w' s' old new
most_within r w s r' w' s' old new few_reads few_writes few_syncs ((a, b), (c, d), (e, f)) = ((a, omega arith), (c, omega arith), (e, omega arith))

-- exactly this many, and then exactly this many
pub just_joined : (r w s r' w' s' : ℕ) (old mid new : Calls) → MakesJust r w s old mid → MakesJust r' w' s' mid new → MakesJust (r + r') (w + w') (s + s') old new
just_joined r w s r' w' s' old mid new (a, b, c) (d, e, f) = (omega arith, omega arith, omega arith)

module _ {D : Type 0} (model : Ghosts D) where
  -- a run whose result is passed on, as another type maybe
  pub runs_as : {T U E : Type 0} (r w s : ℕ) (device : E) (first : Result T E) (result : Result U E) (old new : D) → Runs model r w s device first old new
      → (IsErrOf result device → IsErrOf first device) → (IsErrOf first device → IsErrOf result device) → Runs model r w s device result old new
  runs_as r w s device first result old new run back forth =
      record { fault = λ e. run.fault (back e); still = λ none. run.still (λ e. none (forth e)); most = run.most; honesty = run.honesty; same_size = run.same_size }

  pub runs_within : {T E : Type 0} (r w s r' w' s' : ℕ) (device : E) (result : Result T E) (old new : D) → r ≤ r' → w ≤ w' → s ≤ s' → Runs model r w s device result old new
      → Runs model r' w' s' device result old new
  runs_within r w s r' w' s' device result old new few_reads few_writes few_syncs run =
      record { fault = run.fault; still = run.still; most = most_within r w s r' w' s' (model.calls old) (model.calls new) few_reads few_writes few_syncs run.most; honesty = run.honesty; same_size = run.same_size }

  -- a call that succeeded is a run without a fault
  pub asks_run : {T U E F : Type 0} (r w s : ℕ) (device : F) (x : T) (y : U) (old new : D) → Asks {E = E} model r w s (Ok x) old new → Runs model r w s device (Ok y) old new
  asks_run r w s device x y old new asks =
      record { fault = λ e. absurd (cc); still = λ _. asks.still; most = asks.most; honesty = asks.honesty; same_size = asks.same_size }

  -- a run after another that had no fault of the device
  pub runs_joined : {T U E : Type 0} (r w s r' w' s' : ℕ) (device : E) (first : Result T E) (second : Result U E) (old mid new : D) → Runs model r w s device first old mid
      → (IsErrOf first device → ⊥) → Runs model r' w' s' device second mid new → Runs model (r + r') (w + w') (s + s') device second old new
  runs_joined r w s r' w' s' device first second old mid new one none two =
      record {
        fault = λ e. subst (λ (n : ℕ). Rises n (model.failures new)) (one.still none) (two.fault e);
        still = λ no. two.still no ∙ one.still none;
        most = most_joined r w s r' w' s' (model.calls old) (model.calls mid) (model.calls new) one.most two.most;
        honesty = (λ h. one.honesty.0 (two.honesty.0 h), λ h. two.honesty.1 (one.honesty.1 h));
        same_size = two.same_size ∙ one.same_size;
      }
