-- A desk's answers are on the groups that are stored, whatever its steps answer.
use Rattle.std.proofs.Common.{◌≡◌, inl, inr, ℕ, Bool, true, false, true≢false, List, [], ◌∷◌, ◌++◌, length, take, take_all, Option, Some, None, Result, Ok, Err, refl, sym, ap, subst, ◌∙◌, arith}
use Rattle.std.specs.Prelude.{if◌then◌else◌, MatchBool}
use Rattle.std.specs.List.{AllByRecursion}
use Rattle.std.proofs.Math.Seq.{take-append_seam}
use Rattle.fe_state.specs.State.{ServerState}
use Rattle.fe_state.specs.declared.entry.Entry.{Entry}
use Rattle.fe_keeper.specs.declared.fault.Fault.TheVariants as keeper
use Rattle.fe_wire.specs.declared.client_message.ClientMessage.{ClientMessage}
use Rattle.fe_wire.specs.declared.client_message.ClientMessage.TheVariants as message
use Rattle.fe_desk.specs.declared.fault.DeskFault.{DeskFault}
use Rattle.fe_desk.specs.declared.fault.DeskFault.TheVariants.{Store, NoMemory, Unwritten}
use Rattle.fe_desk.specs.declared.step.Step.{Step}
use Rattle.fe_desk.specs.declared.step.Step.TheVariants as step
use Rattle.fe_desk.specs.Acknowledged.{IsWritten, AsksFor, StepAsksFor, IsAcknowledged, AnySessionMayBeAsked, AreStepsFor, AcknowledgedStand, stored_groups}
use Rattle.fe_desk.specs.Crash.{DeskState, desk_anew}
use Rattle.fe_desk.specs.Ends.{Tears, BreaksOff, Lacks, TearsStep, discharged_desk}
use Rattle.fe_desk.specs.DeskRunState.{Client, DeskRunState, IsFirstRunState, emptied, discharged}
use Rattle.fe_desk.specs.Runs.{Ends, IsStep}
use Rattle.fe_desk.proofs.Clearing.{below_after, cleared_acknowledged}
use Rattle.fe_desk.proofs.Holding.{AllTell, Tells, Holds, HoldsAt, some_holds, emptied_holds, discharged_holds}
use Rattle.fe_messages.proofs.Answers.{KeepsBelow, keeps_below}
use Rattle.fe_desk.proofs.Acknowledging.{StepAsks, acts_hold, before_holds, unread_holds, behind_holds, first_holds}
use Rattle.fe_messages.proofs.Boxes.{all_weaker}
use Rattle.fe_desk.proofs.Feeding.{discharged_reads}
use Rattle.fe_disk.specs.declared.disk.Disk.{Ghosts}

all_written : (begun : ServerState) (groups : List (List Entry)) (asked : ℕ → ℕ → Bool) (cs : List Client) → AllTell begun groups asked cs → AllByRecursion (IsWritten begun groups asked) cs
all_written begun groups asked cs =
    all_weaker (Tells begun groups asked) (IsWritten begun groups asked) (λ c t. record { mails = t.0.mails; stand = t.0.stand; written = t.0.spelling; waits = t.0.waits }) cs

all_left : (begun : ServerState) (groups : List (List Entry)) (asked : ℕ → ℕ → Bool) (cs : List Client) → AllTell begun groups asked cs → AllByRecursion (λ (c : Client). AllByRecursion (AsksFor (asked c.conn)) c.left) cs
all_left begun groups asked cs = all_weaker (Tells begun groups asked) (λ (c : Client). AllByRecursion (AsksFor (asked c.conn)) c.left) (λ c t. t.1) cs

all_written_out_back : (begun : ServerState) (groups : List (List Entry)) (asked : ℕ → ℕ → Bool) (cs : List Client) → AllByRecursion (IsWritten begun groups asked) cs
    → AllByRecursion (λ (c : Client). AllByRecursion (AsksFor (asked c.conn)) c.left) cs → AllTell begun groups asked cs
all_written_out_back begun groups asked [] written left = tt
all_written_out_back begun groups asked (c ∷ cs) written left =
    let w = written.0 in
    ((record { waits = w.waits; mails = w.mails; stand = w.stand; spelling = w.written }, left.0), all_written_out_back begun groups asked cs written.1 left.1)

discharged_groups : (s : DeskRunState) → (discharged s).groups ≡ s.groups
discharged_groups s = by s.owes
  where
    by : (b : Bool) → (if b then emptied s else s).groups ≡ s.groups
    by true = refl
    by false = refl

module _ {D : Type 0} (begun : ServerState) (asked : ℕ → ℕ → Bool) where
  abbrev HoldsIn : DeskState D → List (List Entry) → Type 0
  HoldsIn d groups = Holds begun asked d.run_state.front d.run_state.clients d.run_state.handed groups

  from_holds_in : (d : DeskState D) → HoldsIn d (stored_groups d) → (d.keeper.store.has_failed ≡ false → d.synced ≡ length d.run_state.groups) → IsAcknowledged begun asked d
  from_holds_in d h all = record {
    answers = all_written begun (stored_groups d) asked d.run_state.clients h.tell;
    boxed = h.boxes;
    left = all_left begun (stored_groups d) asked d.run_state.clients h.tell;
    holders = h.has.holders;
    sessions = h.has.sessions;
    state = h.state;
    answered = h.answered;
    way = h.way;
    all = all;
  }

  -- where all groups are stored
  whole_groups : (d : DeskState D) → d.synced ≡ length d.run_state.groups → stored_groups d ≡ d.run_state.groups
  whole_groups d all = take_all d.synced d.run_state.groups (omega (arith, all))

  pub acknowledged_by : (d : DeskState D) → d.synced ≡ length d.run_state.groups → HoldsAt begun asked d.run_state → IsAcknowledged begun asked d
  acknowledged_by d all h = from_holds_in d (subst (λ (gs : List (List Entry)). HoldsIn d gs) (sym (whole_groups d all)) h) (λ works. all)

  holds_of : (d : DeskState D) → d.synced ≡ length d.run_state.groups → IsAcknowledged begun asked d → HoldsAt begun asked d.run_state
  holds_of d all is =
      let h : HoldsIn d (stored_groups d) = record {
        state = is.state;
        answered = is.answered;
        way = is.way;
        boxes = is.boxed;
        tell = all_written_out_back begun (stored_groups d) asked d.run_state.clients is.answers is.left;
        has = record { holders = is.holders; sessions = is.sessions };
      } in
      subst (λ (gs : List (List Entry)). HoldsIn d gs) (whole_groups d all) h

  pub first_acknowledged : (d : DeskState D) → IsFirstRunState begun d.run_state → d.synced ≡ 0 → IsAcknowledged begun asked d
  first_acknowledged d first none =
      let few = ap (λ (gs : List (List Entry)). length gs) first.groups in
      acknowledged_by d (omega (arith, few, none)) (first_holds begun asked d.run_state first)

  -- the batch that was torn is not stored
  torn : (last : DeskRunState) (d : DeskState D) → Tears last d → d.keeper.store.has_failed ≡ true → HoldsAt begun asked last → IsAcknowledged begun asked d
  torn last d tears failed h =
      let batch : List Entry = tears.at_hand.batch.entries in
      let stored : stored_groups d ≡ last.groups =
      ap (λ (s : DeskRunState). take d.synced s.groups) tears.run_state ∙ ap (λ (n : ℕ). take n (last.groups ++ batch ∷ [])) tears.synced ∙ take-append_seam last.groups (batch ∷ []) in
      let here : Holds begun asked d.run_state.front d.run_state.clients d.run_state.handed last.groups =
      subst (λ (s : DeskRunState). Holds begun asked s.front s.clients s.handed last.groups) (sym tears.run_state) h in
      from_holds_in d (subst (λ (gs : List (List Entry)). HoldsIn d gs) (sym stored) here) (λ works. absurd (true≢false (sym failed ∙ works)))

  broken_off : (old new : DeskState D) → BreaksOff old new → old.synced ≡ length old.run_state.groups → HoldsAt begun asked old.run_state → IsAcknowledged begun asked new
  broken_off old new off all h =
      let same = ap (λ (s : DeskRunState). length s.groups) off.run_state in
      let synced = off.synced in
      acknowledged_by new (omega (arith, same, synced, all)) (subst (λ (s : DeskRunState). HoldsAt begun asked s) (sym off.run_state) h)

  module _ (below : KeepsBelow begun) (model : Ghosts D) where
    -- what a step at fault did, where no mails are owed
    lacks_hold : (fed : Bool) (x : Step) (old new : DeskState D) → StepAsks begun asked below old.run_state x → Lacks fed x old new → HoldsAt begun asked old.run_state → HoldsAt begun asked new.run_state
    lacks_hold false (step.Connect conn) old new asks lacks h = subst (λ (d : DeskState D). HoldsAt begun asked d.run_state) (sym lacks.1) h
    lacks_hold false (step.Bytes conn piece) old new asks lacks h = elim lacks.0 [
      | inl stops ↦ before_holds begun asked below old.run_state conn new.run_state stops h
      | inr stops ↦ unread_holds begun asked below old.run_state conn new.run_state stops.unread h
    ]
    lacks_hold true (step.Bytes conn piece) old new asks lacks h = behind_holds begun asked below old.run_state conn piece.items new.run_state asks lacks.0 h
    lacks_hold false step.Append old new asks lacks h = subst (λ (d : DeskState D). HoldsAt begun asked d.run_state) (sym lacks.1) h
    lacks_hold false step.CheckBegin old new asks lacks h = subst (λ (d : DeskState D). HoldsAt begun asked d.run_state) (sym lacks.1) h
    lacks_hold false (step.Gone conn) old new asks lacks h = absurd lacks
    lacks_hold false step.Cut old new asks lacks h = absurd lacks
    lacks_hold false step.Post old new asks lacks h = absurd lacks
    lacks_hold false step.CheckStep old new asks lacks h = absurd lacks
    lacks_hold false step.CheckFinish old new asks lacks h = absurd lacks
    lacks_hold true (step.Connect conn) old new asks lacks h = absurd lacks
    lacks_hold true (step.Gone conn) old new asks lacks h = absurd lacks
    lacks_hold true step.Cut old new asks lacks h = absurd lacks
    lacks_hold true step.Append old new asks lacks h = absurd lacks
    lacks_hold true step.Post old new asks lacks h = absurd lacks
    lacks_hold true step.CheckBegin old new asks lacks h = absurd lacks
    lacks_hold true step.CheckStep old new asks lacks h = absurd lacks
    lacks_hold true step.CheckFinish old new asks lacks h = absurd lacks

    breaks_acknowledged : (x : Step) (old new : DeskState D) → StepAsks begun asked below old.run_state x → TearsStep x old new → new.keeper.store.has_failed ≡ true → old.synced ≡ length old.run_state.groups → HoldsAt begun asked old.run_state → IsAcknowledged begun asked new
    breaks_acknowledged (step.Bytes conn piece) old new asks breaks failed all h = elim breaks.stops [
      | inl stops ↦ torn breaks.last new breaks.tears failed (before_holds begun asked below old.run_state conn breaks.last stops h)
      | inr stops ↦ torn breaks.last new breaks.tears failed (behind_holds begun asked below old.run_state conn piece.items breaks.last asks stops h)
    ]
    breaks_acknowledged step.Append old new asks breaks failed all h = torn old.run_state new breaks failed h
    breaks_acknowledged step.CheckBegin old new asks breaks failed all h = broken_off old new breaks all h
    breaks_acknowledged step.CheckStep old new asks breaks failed all h = broken_off old new breaks all h
    breaks_acknowledged step.CheckFinish old new asks breaks failed all h = broken_off old new breaks all h
    breaks_acknowledged (step.Connect conn) old new asks breaks failed all h = absurd breaks
    breaks_acknowledged (step.Gone conn) old new asks breaks failed all h = absurd breaks
    breaks_acknowledged step.Cut old new asks breaks failed all h = absurd breaks
    breaks_acknowledged step.Post old new asks breaks failed all h = absurd breaks

    -- what is read of a connection's stream is the same where mails that were owed are written
    asks_discharged : (d : DeskState D) (x : Step) → StepAsksFor asked d x → StepAsks begun asked below (discharged d.run_state) x
    asks_discharged d (step.Bytes conn piece) asks = λ before after more read reads. asks before after more (sym (discharged_reads d.run_state conn) ∙ read) reads
    asks_discharged d (step.Connect conn) asks = tt
    asks_discharged d (step.Gone conn) asks = tt
    asks_discharged d step.Cut asks = tt
    asks_discharged d step.Append asks = tt
    asks_discharged d step.Post asks = tt
    asks_discharged d step.CheckBegin asks = tt
    asks_discharged d step.CheckStep asks = tt
    asks_discharged d step.CheckFinish asks = tt

    ends_acknowledged : (old : DeskState D) (x : Step) (r : Result (Unit {0}) DeskFault) (new : DeskState D) → StepAsksFor asked old x → Ends model old x r new → old.synced ≡ length old.run_state.groups
        → HoldsAt begun asked old.run_state → IsAcknowledged begun asked new
    ends_acknowledged old x r new asks ends all h = by r ends
      where
        there : HoldsAt begun asked (discharged old.run_state)
        there = discharged_holds begun asked old.run_state h

        mine : StepAsks begun asked below (discharged old.run_state) x
        mine = asks_discharged old x asks

        by : (r : Result (Unit {0}) DeskFault) → Ends model old x r new → IsAcknowledged begun asked new
        by (Ok done) ends =
            acknowledged_by new ends.sound.stored (subst (λ (s : DeskRunState). HoldsAt begun asked s) (sym ends.took.after)
            (emptied_holds begun asked ends.took.last (acts_hold begun asked below (discharged old.run_state) x ends.took.last mine ends.took.acts there)))
        by (Err (Store cause)) ends =
            breaks_acknowledged x (discharged_desk old) new mine ends.1.breaks ends.1.failed.failed (all ∙ ap (λ (gs : List (List Entry)). length gs) (sym (discharged_groups old.run_state))) there
        by (Err (NoMemory error fed)) ends = acknowledged_by new ends.sound.stored (elim ends.finds [
          | inl still ↦ some_holds begun asked old.run_state new.run_state still.1.writes h
          | inr lacks ↦ lacks_hold fed x (discharged_desk old) new mine lacks there
        ])
        by (Err (Unwritten error)) ends =
            acknowledged_by new ends.sound.stored (some_holds begun asked ends.last new.run_state ends.writes (acts_hold begun asked below (discharged old.run_state) x ends.last mine ends.acts there))

    pub step_acknowledged : (old : DeskState D) (x : Step) (r : Result (Unit {0}) DeskFault) (new : DeskState D) → StepAsksFor asked old x → IsStep model old x r new → IsAcknowledged begun asked old
        → IsAcknowledged begun asked new
    step_acknowledged old x r new asks is h = by old.keeper.store.has_failed refl is
      where
        by : (b : Bool) → old.keeper.store.has_failed ≡ b → MatchBool b ((r ≡ Err (Store keeper.Failed)) × (new ≡ old)) (Ends model old x r new) → IsAcknowledged begun asked new
        by true failed refused = subst (λ (d : DeskState D). IsAcknowledged begun asked d) (sym refused.1) h
        by false works ends = ends_acknowledged old x r new asks ends (h.all works) (holds_of old (h.all works) h)

-- steps and clearings
steps_acknowledged : {D : Type 0} (model : Ghosts D) (begun now : ServerState) (asked : ℕ → ℕ → Bool) (old new : DeskState D) (steps : List (Option (Step × Result (Unit {0}) DeskFault))) → KeepsBelow begun
    → AreStepsFor model asked begun old steps now new → IsAcknowledged begun asked old → IsAcknowledged now asked new
steps_acknowledged {D} model begun now asked old new [] below is h =
    subst (λ (s : ServerState). IsAcknowledged s asked new) (sym is.0) (subst (λ (d : DeskState D). IsAcknowledged begun asked d) (sym is.1) h)
steps_acknowledged model begun now asked old new (Some x ∷ xs) below is h =
    steps_acknowledged model begun now asked is.0 new xs below is.3 (step_acknowledged begun asked below model old x.0 x.1 is.0 is.1 is.2 h)
steps_acknowledged model begun now asked old new (None ∷ xs) below is h =
    let kept : KeepsBelow old.keeper.state = subst KeepsBelow (sym is.1.replica) (below_after begun (stored_groups old) below) in
    steps_acknowledged model old.keeper.state now asked (desk_anew old) new xs kept is.2 (cleared_acknowledged begun asked old is.0 is.1 h)

pub acknowledged_stand : {D : Type 0} (model : Ghosts D) → AcknowledgedStand model
acknowledged_stand model begun now asked first last steps limits begins none taken =
    steps_acknowledged model begun now asked first last steps (keeps_below begun limits) taken (first_acknowledged begun asked first begins none)

-- ---- nothing is asked of a step

any_message : (m : ClientMessage) → AsksFor (λ session. true) m
any_message (message.Attach session) = refl
any_message (message.Call number request) = tt
any_message (message.Cancel number) = tt
any_message (message.Settle floor) = tt
any_message message.Bye = tt
any_message message.Report = tt

any_messages : (ms : List ClientMessage) → AllByRecursion (AsksFor (λ session. true)) ms
any_messages [] = tt
any_messages (m ∷ ms) = (any_message m, any_messages ms)

pub any_session : {D : Type 0} → AnySessionMayBeAsked D
any_session d (step.Bytes conn piece) = λ before after more is reads. any_messages more
any_session d (step.Connect conn) = tt
any_session d (step.Gone conn) = tt
any_session d step.Cut = tt
any_session d step.Append = tt
any_session d step.Post = tt
any_session d step.CheckBegin = tt
any_session d step.CheckStep = tt
any_session d step.CheckFinish = tt
