-- What emptying the boxes keeps of a desk, and how the parts of a step come together.
use Rattle.std.proofs.Common.{◌≡◌, ℕ, Bool, true, false, List, [], ◌∷◌, refl, sym, ap, subst, ◌∙◌}
use Rattle.std.specs.Prelude.{nat_eq, is_some, is_err, map, Some, Result, Ok, Err, OnOk, OnErr, if◌then◌else◌}
use Rattle.fe_memory.specs.declared.OutOfMemory.{OutOfMemory}
use Rattle.fe_mail.specs.Connections.{mails_on}
use Rattle.fe_front.specs.Front.{FrontState, is_connected}
use Rattle.fe_keeper.specs.Keeper.{KeeperState}
use Rattle.fe_desk.specs.declared.desk_inner.DeskInner.{DeskInner}
use Rattle.fe_desk.specs.declared.port.Port.{Port}
use Rattle.fe_desk.specs.declared.step.Step.{Step}
use Rattle.fe_desk.specs.DeskRunState.{Extends, Client, DeskRunState, emptied, discharged, all_written_out, all_emptied}
use Rattle.fe_desk.specs.Steps.{find, Acts, DeskStep}
use Rattle.fe_desk.specs.Ends.{WritesFirst}
use Rattle.fe_desk.specs.Messages.{outputs}
use Rattle.fe_desk.specs.within.Desk.{HasStore, KeepsFront, IsDesk, IsAhead, client_of, desk_of, run_state_of}
use Rattle.fe_desk.specs.within.Goes.{Empties, Settles}
use Rattle.fe_desk.proofs.Advancing.{desk_as, tied_as}
use Rattle.fe_desk.proofs.Outputs.{all_written_out-extends, output_of}
use Rattle.fe_desk.proofs.Emptying.{boxes_empty, no_box}
use Rattle.fe_desk.proofs.Writing.{extends_later}
use Rattle.fe_disk.specs.declared.disk.Disk.{Ghosts}

-- ---- clients by their numbers

pub found_as : (conn : ℕ) (cs ds : List Client) → map (λ (c : Client). c.conn) ds ≡ map (λ (c : Client). c.conn) cs → is_some (find conn ds) ≡ is_some (find conn cs)
found_as conn [] [] same = refl
found_as conn [] (d ∷ ds) same = cc
found_as conn (c ∷ cs) [] same = cc
found_as conn (c ∷ cs) (d ∷ ds) same =
    let head : d.conn ≡ c.conn = cc in
    let rest : map (λ (c : Client). c.conn) ds ≡ map (λ (c : Client). c.conn) cs = cc in
    subst (λ (n : ℕ). is_some (if nat_eq n conn then Some d else find conn ds) ≡ is_some (find conn (c ∷ cs))) (sym head) (by (nat_eq c.conn conn) (found_as conn cs ds rest))
  where
    by : (b : Bool) → is_some (find conn ds) ≡ is_some (find conn cs) → is_some (if b then Some d else find conn ds) ≡ is_some (if b then Some c else find conn cs)
    by true e = refl
    by false e = e

-- the numbers of ports are those of their clients
pub numbers_as : (ps qs : List Port) → map (λ (p : Port). p.conn) qs ≡ map (λ (p : Port). p.conn) ps
    → map (λ (c : Client). c.conn) (map client_of qs) ≡ map (λ (c : Client). c.conn) (map client_of ps)
numbers_as ps qs same = numbers qs ∙ same ∙ sym (numbers ps)
  where
    numbers : (ps : List Port) → map (λ (c : Client). c.conn) (map client_of ps) ≡ map (λ (p : Port). p.conn) ps
    numbers [] = refl
    numbers (p ∷ ps) = ap (λ (ns : List ℕ). p.conn ∷ ns) (numbers ps)

-- ---- mails that are owed

-- a desk that owes nothing is discharged
pub discharged_at : (s : DeskRunState) → s.owes ≡ false → discharged s ≡ s
discharged_at s none = ap (λ (b : Bool). if b then emptied s else s) none

pub discharged_owing : (s : DeskRunState) → s.owes ≡ true → discharged s ≡ emptied s
discharged_owing s owing = ap (λ (b : Bool). if b then emptied s else s) owing

-- what is discharged owes nothing
pub owes_discharged : (s : DeskRunState) → (discharged s).owes ≡ false
owes_discharged s = by s.owes refl
  where
    by : (b : Bool) → s.owes ≡ b → (if b then emptied s else s).owes ≡ false
    by true is = refl
    by false is = is

-- ---- the boxes are emptied

abbrev clients_in : {D : Type 0} → DeskInner D → List Client
clients_in p = map client_of p.trace.ports.items

module _ {D : Type 0} (p q : DeskInner D) where
  -- a desk is one still
  pub emptied_desk : (model : Ghosts D) → IsDesk model (desk_of p) → HasStore (desk_of p) (desk_of q) → q.handed ≡ p.handed → KeepsFront p.front q.front
      → map (λ (port : Port). port.conn) q.trace.ports.items ≡ map (λ (port : Port). port.conn) p.trace.ports.items → IsDesk model (desk_of q)
  emptied_desk model desk same handed kept numbers =
      desk_as model (desk_of p) (desk_of q) desk same
      (subst (λ (k : KeeperState D). IsAhead (run_state_of q) k.state) (sym same.keeper)
      (tied_as (run_state_of p) (run_state_of q) p.keeper.state handed kept.out kept.pending kept.state desk.tied))
      (λ conn there.
      found_as conn (clients_in p) (clients_in q) (numbers_as p.trace.ports.items q.trace.ports.items numbers) ∙ desk.known conn (kept.none_comes conn there))

  pub all_written : (r : Result (Unit {0}) OutOfMemory) → OnOk r (clients_in q ≡ all_written_out p.front (clients_in p)) → OnOk r (q.front ≡ all_emptied p.front (clients_in p))
      → q.owes ≡ is_err r → q.handed ≡ p.handed → q.making ≡ p.making → q.trace.groups ≡ p.trace.groups → OnOk r (run_state_of q ≡ emptied (run_state_of p))
  all_written (Ok x) written_out front owes handed making groups = cc
  all_written (Err e) written_out front owes handed making groups = tt

  -- what is written goes on from what was
  pub written_more : (r : Result (Unit {0}) OutOfMemory) → OnOk r (clients_in q ≡ all_written_out p.front (clients_in p)) → OnErr r (WritesFirst p.front (clients_in p) q.front (clients_in q))
      → Extends (outputs (run_state_of p)) (outputs (run_state_of q))
  written_more (Ok x) written_out writes =
      subst (λ (cs : List Client). Extends (map output_of (clients_in p)) (map output_of cs)) (sym written_out) (all_written_out-extends p.front (clients_in p))
  written_more (Err e) written_out writes = extends_later p.front (clients_in p) q.front (clients_in q) writes

  -- no box has a mail: those of connections were emptied, and there is no other
  pub none_boxed : (r : Result (Unit {0}) OutOfMemory) → ((conn : ℕ) → is_connected p.front conn ≡ true → is_some (find conn (clients_in p)) ≡ true) → KeepsFront p.front q.front
      → OnOk r (q.front ≡ all_emptied p.front (clients_in p)) → OnOk r ((conn : ℕ) → mails_on q.front.connections conn ≡ [])
  none_boxed (Ok x) known kept front = λ conn. by conn (is_connected q.front conn) refl
    where
      by : (conn : ℕ) (b : Bool) → is_connected q.front conn ≡ b → mails_on q.front.connections conn ≡ []
      by conn true there =
          ap (λ (f : FrontState). mails_on f.connections conn) front ∙ boxes_empty p.front (clients_in p) conn (known conn (kept.none_comes conn there))
      by conn false there = no_box q.front conn there
  none_boxed (Err e) known kept front = tt

-- mails that were owed are written, where all are
pub settles_all : (r : Result (Unit {0}) OutOfMemory) (s t : DeskRunState) → s.owes ≡ true → Empties r s t → Settles r s t
settles_all (Ok x) s t owing h = h.after ∙ sym (discharged_owing s owing)
settles_all (Err e) s t owing h = (owing, h)

-- ---- a step from its parts

pub stepped : (s mid last t : DeskRunState) (step : Step) → mid ≡ discharged s → Acts mid step last → t ≡ emptied last → DeskStep s step t
stepped s mid last t step is acts after = record { last = last; acts = subst (λ (m : DeskRunState). Acts m step last) is acts; after = after }

-- a step whose mails are owed took effect but for them
pub stepped_owing : (s mid last u : DeskRunState) (step : Step) → mid ≡ discharged s → Acts mid step last → emptied u ≡ emptied last → u.owes ≡ true → DeskStep s step (discharged u)
stepped_owing s mid last u step is acts later owing = stepped s mid last (discharged u) step is acts (discharged_owing u owing ∙ later)
