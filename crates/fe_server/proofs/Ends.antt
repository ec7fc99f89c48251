-- How serving a store ends.
use Rattle.std.proofs.Common.{◌≡◌, ◌⊎◌, inl, inr, ℕ, ◌<◌, Bool, true, false, refl, List, [], ◌∷◌, Some, None, Result, Ok, Err, sym}
use Rattle.std.proofs.lemmas.Bool.{lt-ltb}
use Rattle.std.proofs.lemmas.Result.{IfOk-weaker}
use Rattle.std.specs.Prelude.{IfOk, IsTrue, nat_lt}
use Rattle.fe_keeper.specs.Keeper.{KeeperState}
use Rattle.fe_keeper.specs.Stands.{EachStandsFor}
use Rattle.fe_hall.proofs.Committed.{kept_noted, rests_itself, still_itself}
use Rattle.fe_history.specs.declared.act.Act.TheVariants.{Began}
use Rattle.fe_hall.specs.declared.commit_end.CommitEnd.{CommitEnd}
use Rattle.fe_hall.specs.declared.commit_end.CommitEnd.TheVariants.{Stopped}
use Rattle.fe_server.specs.declared.served.Served.{Served}
use Rattle.fe_server.specs.declared.stop_fault.StopFault.{StopFault}
use Rattle.fe_server.specs.declared.stop_fault.StopFault.TheVariants as fault
use Rattle.fe_server.specs.FinishedConnections.{IsSettled, lacks}
use Rattle.fe_server.specs.Acknowledged.{HasCommittedAndNoted, IsAnswerAt, fault_of_end}
use Rattle.fe_disk.specs.declared.disk.Disk.{Ghosts}

module _ {D : Type 0} (model : Ghosts D) where
  -- nothing was done
  pub none_committed : ((disk : D) (image : List ℕ) → model.honest disk → model.left_since disk (model.moment disk) image → model.may_leave disk image) → (k : KeeperState D)
      → (model.honest k.store.disk → k.store.has_failed ≡ false → EachStandsFor model k.store.disk k.state) → HasCommittedAndNoted model k k Stopped (Began k.state ∷ [])
  none_committed only_now k stands =
      let rests = rests_itself model only_now k stands in
      let kept = kept_noted model k k (Some Stopped) rests (Began k.state ∷ []) in
      (record { commits = kept.0; stands = stands; ended_as = still_itself model k; honesty = rests.honesty }, kept.1)

-- a hall that was stopped is closed
pub closed_answers : (end : CommitEnd) → fault_of_end end ≡ None → IsAnswerAt end None
closed_answers Stopped none = tt
closed_answers _ none = absurd (cc none)

-- memory was short for that, or something was strange
pub unclosed_answers : (end : CommitEnd) (given : StopFault) → fault_of_end end ≡ None → (given ≡ fault.Memory) ⊎ (given ≡ fault.Strange) → IsAnswerAt end (Some given)
unclosed_answers Stopped given none why = why
unclosed_answers _ given none why = absurd (cc none)

-- whichever it was, whether something lacked is left out
pub unclosed_fault : (given : StopFault) (short : Bool) → ((given ≡ fault.Memory) × (short ≡ true)) ⊎ ((given ≡ fault.Strange) × (short ≡ false)) → (given ≡ fault.Memory) ⊎ (given ≡ fault.Strange)
unclosed_fault given short (inl memory) = inl memory.0
unclosed_fault given short (inr strange) = inr strange.0

-- a fault of the end is the answer
pub fault_answers : (end : CommitEnd) (given : StopFault) → fault_of_end end ≡ Some given → IsAnswerAt end (Some given)
fault_answers Stopped given is = absurd (cc is)
fault_answers _ given is = sym is

-- what follows of each audit that is settled
pub settled : {D E : Type 0} (answer : Result (Served D) E) (keeps : Bool) (Q : Served D → Type 0) → ((s : Served D) → IsSettled keeps s.keeper.state s.audit → Q s)
    → IfOk answer (λ (s : Served D). IsSettled keeps s.keeper.state s.audit) → IfOk answer Q
settled answer keeps Q so = IfOk-weaker answer (λ s. IsSettled keeps s.keeper.state s.audit) Q so

-- where the number of connections is bounded, receipts are kept, and are whole
pub settled_whole : {D E : Type 0} (answer : Result (Served D) E) (accepts : ℕ) → IfOk answer (λ (s : Served D). IsSettled (nat_lt 0 accepts) s.keeper.state s.audit)
    → IfOk answer (λ (s : Served D). 0 < accepts → IsTrue s.audit.whole)
settled_whole (Err e) accepts all = tt
settled_whole (Ok s) accepts all = λ some. all.whole (lt-ltb 0 accepts some)

-- where nothing lacks and receipts are kept, they are whole
pub kept_whole : (short keeps whole : Bool) → lacks short keeps whole ≡ false → IsTrue keeps → IsTrue whole
kept_whole true keeps whole is keep = absurd (cc is)
kept_whole false true true is keep = refl
kept_whole false true false is keep = absurd (cc is)
kept_whole false false whole is keep = absurd (cc keep)
