-- A desk as it is opened.
use Rattle.std.proofs.Common.{◌≡◌, ℕ, ◌≤◌, true, false, true≢false, List, [], ◌∷◌, ◌++◌, length, take, refl, sym, ap, subst, ◌∙◌, arith}
use Rattle.std.specs.Prelude.{◌≢◌, ◌↔◌, Option, Result, Ok, Err, IfOk, IfErr, is_some, map}
use Rattle.std.specs.Ordering.{nat_cmp}
use Rattle.std.specs.FinMap.{FinMap, get, get-empty}
use Rattle.std.specs.Option.{option_map_or}
use Rattle.fe_memory.specs.Memory.{out_of_memory}
use Rattle.fe_mail.specs.Connections.{mails_on}
use Rattle.fe_mail.specs.declared.connection.Connection.{Connection}
use Rattle.fe_state.specs.State.{ServerState, after_all}
use Rattle.fe_state.specs.History.{IsHistory, AreLegal, after_groups}
use Rattle.fe_state.specs.declared.entry.Entry.{Entry}
use Rattle.fe_front.specs.Front.{FrontState, IsFirst, is_connected}
use Rattle.fe_disk.specs.Disk.{Rises}
use Rattle.fe_disk.specs.Runs.{without_disk}
use Rattle.fe_journal.specs.Found.{AsksToOpen}
use Rattle.fe_disk.specs.declared.calls.Calls.{Calls}
use Rattle.fe_keeper.specs.Keeper.{KeeperState}
use Rattle.fe_keeper.specs.Stands.{StandsFor, EachStandsFor, LeavesPrefix}
use Rattle.fe_keeper.specs.declared.fault.Fault.{Fault}
use Rattle.fe_keeper.specs.declared.fault.Fault.TheVariants as keeper
use Rattle.fe_desk.specs.declared.fault.DeskFault.{DeskFault}
use Rattle.fe_desk.specs.declared.fault.DeskFault.TheVariants.{Store, NoMemory}
use Rattle.fe_keeper.specs.Damage as store
use Rattle.fe_keeper.proofs.Damages.{lacks_standing}
use Rattle.fe_desk.specs.Messages.{desk_fault_of}
use Rattle.fe_desk.specs.Runs.{disk_after, TellsOpening, IsTraceOf}
use Rattle.fe_desk.specs.declared.handed.Handed.{Handed}
use Rattle.fe_desk.specs.declared.desk_inner.DeskInner.{DeskInner}
use Rattle.fe_desk.specs.declared.port.Port.{Port}
use Rattle.fe_desk.specs.DeskRunState.{Client, DeskRunState, IsFirstRunState}
use Rattle.fe_desk.specs.Steps.{AreWritten, HasNoMail}
use Rattle.fe_desk.specs.Crash.{DeskState, IsFrom, disk_of}
use Rattle.fe_desk.specs.Acknowledged.{cut_entries}
use Rattle.fe_desk.specs.within.Desk.{IsDesk, IsAhead, IsHanded, unstored, client_of, run_state_of}
use Rattle.fe_disk.specs.declared.disk.Disk.{Ghosts}

first_tied : (begun : ServerState) (s : DeskRunState) → IsFirstRunState begun s → IsAhead s begun
first_tied begun s first =
    let none : unstored s ≡ [] =
    ap (λ (h : Handed). cut_entries h ++ s.front.service.pending) first.handed ∙ first.front.pending in
    record {
      handed = subst (λ (h : Handed). IsHanded h s.front.out) (sym first.handed) first.front.out;
      legal = subst (λ (es : List Entry). AreLegal begun es) (sym none) tt;
      state = first.front.state ∙ ap (λ (es : List Entry). after_all begun es) (sym none);
    }

-- no connection is there
none_connected : (begun : ServerState) (f : FrontState) (conn : ℕ) → IsFirst begun f → is_connected f conn ≡ true → ⊥
none_connected begun f conn first is =
    true≢false (sym is ∙ ap (λ (m : FinMap nat_cmp Connection). is_some (get m conn)) first.connections ∙ ap (λ (o : Option Connection). is_some o) (get-empty nat_cmp conn))

-- no mail is there
pub first_quiet : (begun : ServerState) (s : DeskRunState) → IsFirstRunState begun s → HasNoMail s
first_quiet begun s first = record {
  boxes = λ conn. ap (λ (m : FinMap nat_cmp Connection). mails_on m conn) first.front.connections ∙ ap (λ (o : Option Connection). option_map_or (λ (c : Connection). c.mails) o []) (get-empty nat_cmp conn);
  replies = subst AreWritten (sym first.clients) tt;
  owes = first.owes;
}

-- lack of memory is no fault of the store
none_both : (fault : DeskFault) {cause : Fault} → fault ≡ NoMemory out_of_memory false → fault ≡ Store cause → ⊥
none_both fault {cause} short is = cc

module _ {D : Type 0} where
  -- no group is there, so the history begins with the state
  pub first_from : (begun : ServerState) (d : DeskState D) → d.keeper.state ≡ begun → d.run_state.groups ≡ [] → d.synced ≡ 0 → IsFrom begun d
  first_from begun d is groups synced =
      record {
        history = subst (λ (gs : List (List Entry)). IsHistory begun gs) (sym groups) tt;
        replica = is ∙ sym (ap (λ (n : ℕ). after_groups begun (take n d.run_state.groups)) synced);
      }

  -- an image that stands for the replica stands for what is stored of the history
  pub stands_at : (begun : ServerState) (d : DeskState D) (image : List ℕ) → IsFrom begun d → d.synced ≤ length d.run_state.groups → StandsFor image d.keeper.state
      → LeavesPrefix begun d.run_state.groups d.synced image
  stands_at begun d image from few stands =
      record { state = d.keeper.state; stands = stands; prefix = record { kept = d.synced; least = omega arith; most = few; state_is = from.replica } }

  pub first_desk : (model : Ghosts D) (d : DeskState D) → IsFirstRunState d.keeper.state d.run_state → d.synced ≡ 0
      → (model.honest (disk_of d) → EachStandsFor model (disk_of d) d.keeper.state) → IsDesk model d
  first_desk model d first synced stands =
      let few : d.synced ≤ length d.run_state.groups = omega (arith, synced) in
      record {
        tied = first_tied d.keeper.state d.run_state first;
        known = λ conn is. absurd (none_connected d.keeper.state d.run_state.front conn first.front is);
        few = few;
        all = λ works. synced ∙ sym (ap (λ (gs : List (List Entry)). length gs) first.groups);
        upheld = λ h begun from image may. stands_at begun d image from few (stands h image may);
      }

-- ---- opening over a keeper

module _ {D : Type 0} (r : Result (DeskState D) (DeskFault × D)) (k : KeeperState D) where
  -- the disk is the keeper's, whether there was memory for the desk or not
  pub disk_is : IfOk r (λ d. d.keeper ≡ k) → IfErr r (λ e. e.1 ≡ k.store.disk) → disk_after r ≡ k.store.disk
  disk_is = by r
    where
      by : (x : Result (DeskState D) (DeskFault × D)) → IfOk x (λ d. d.keeper ≡ k) → IfErr x (λ e. e.1 ≡ k.store.disk) → disk_after x ≡ k.store.disk
      by (Ok d) same none = ap (λ (x : KeeperState D). x.store.disk) same
      by (Err e) none same = same

  -- and the device has the size of a store
  pub size_faulty : (A : Type 0) → A → IfErr r (λ e. e.0 ≡ NoMemory out_of_memory false) → IfErr r (λ e. (e.0 ≡ Store keeper.Unformatted) ↔ (A → ⊥))
  size_faulty A size = by r
    where
      by : (x : Result (DeskState D) (DeskFault × D)) → IfErr x (λ e. e.0 ≡ NoMemory out_of_memory false) → IfErr x (λ e. (e.0 ≡ Store keeper.Unformatted) ↔ (A → ⊥))
      by (Ok d) fault = tt
      by (Err e) fault = (λ is. absurd (none_both e.0 fault is), λ none. absurd (none size))

-- ---- what opening asked of the device

-- The fault of the one is the device's where that of the other is.
asks_as : {D T U E F : Type 0} {model : Ghosts D} {device : E} {other : F} {r : Result T E} {old new : D} (s : Result U F) (again : D) → again ≡ new → (s ≡ Err other) ↔ (r ≡ Err device)
    → AsksToOpen model device r old new → AsksToOpen model other s old again
asks_as {model = model} {other = other} {old = old} s again is same asks =
    subst (λ d. AsksToOpen model other s old d) (sym is)
    (record {
      fault = (λ e. asks.fault.0 (same.0 e), λ rises. same.1 (asks.fault.1 rises));
      still = λ none. asks.still (λ e. none (same.1 e));
      most = asks.most;
      honesty = asks.honesty;
      same_size = asks.same_size;
    })

-- the desk's fault is the device's where the keeper's is
device_fault : (f : Fault) → (desk_fault_of f false ≡ Store keeper.Device) ↔ (f ≡ keeper.Device)
device_fault keeper.Device = (λ e. refl, λ e. refl)
device_fault keeper.Failed = (λ e. cc, λ e. cc)
device_fault (keeper.NoMemory error) = (λ e. cc, λ e. cc)
device_fault (keeper.Mismatch place) = (λ e. cc, λ e. cc)
device_fault (keeper.Damaged offset) = (λ e. cc, λ e. cc)
device_fault keeper.Unformatted = (λ e. cc, λ e. cc)

module _ {D : Type 0} {model : Ghosts D} {old : D} where
  -- over a keeper that was opened, whether there was memory for the desk or not
  pub asks_over : (r : Result (DeskState D) (DeskFault × D)) (k : KeeperState D) → IfOk r (λ d. d.keeper ≡ k) → IfErr r (λ e. e.0 ≡ NoMemory out_of_memory false) → IfErr r (λ e. e.1 ≡ k.store.disk)
      → AsksToOpen model keeper.Device (Ok k) old k.store.disk → AsksToOpen model (Store keeper.Device) (without_disk r) old (disk_after r)
  asks_over r k = by r
    where
      by : (x : Result (DeskState D) (DeskFault × D)) → IfOk x (λ d. d.keeper ≡ k) → IfErr x (λ e. e.0 ≡ NoMemory out_of_memory false) → IfErr x (λ e. e.1 ≡ k.store.disk)
          → AsksToOpen model keeper.Device (Ok k) old k.store.disk → AsksToOpen model (Store keeper.Device) (without_disk x) old (disk_after x)
      by (Ok d) same short disk asks = asks_as (Ok d) (disk_of d) (ap (λ (x : KeeperState D). x.store.disk) same) (λ e. cc, λ e. cc) asks
      by (Err e) same short disk asks = asks_as (Err e.0) e.1 disk (λ is. let fault : e.0 ≡ Store keeper.Device = cc in absurd (none_both e.0 short fault), λ is. cc) asks

  -- over a store that the keeper refused
  pub asks_refused : {T U : Type 0} {new : D} (f : Fault) (fault : DeskFault) → fault ≡ desk_fault_of f false → AsksToOpen {T = T} model keeper.Device (Err f) old new
      → AsksToOpen {T = U} model (Store keeper.Device) (Err fault) old new
  asks_refused {new = new} f fault is asks =
      asks_as (Err fault) new refl (λ e. let fault_is : desk_fault_of f false ≡ Store keeper.Device = cc in ap (λ x. Err x) ((device_fault f).0 fault_is), λ e. let same : f ≡ keeper.Device = cc in ap (λ x. Err x) (is ∙ (device_fault f).1 same)) asks

  -- which fault the device's is, and that no call failed at another
  pub device_alone : {T : Type 0} {new : D} (fault : DeskFault) → AsksToOpen {T = T} model (Store keeper.Device) (Err fault) old new
      → ((fault ≡ Store keeper.Device) ↔ Rises (model.failures old) (model.failures new)) × (fault ≢ Store keeper.Device → model.failures new ≡ model.failures old)
  device_alone fault asks =
      ((λ is. asks.fault.0 (ap (λ x. Err x) is), λ rises. let e = asks.fault.1 rises in cc), λ other. asks.still (λ e. other cc))

-- ---- the trace of a desk

written_as : (ps : List Port) → map {B = ℕ × List ℕ} (λ (p : Port). (p.conn, p.written)) ps ≡ map {B = ℕ × List ℕ} (λ (c : Client). (c.conn, c.written)) (map client_of ps)
written_as [] = refl
written_as (p ∷ ps) = let here : ℕ × List ℕ = (p.conn, p.written) in ap (λ (ws : List (ℕ × List ℕ)). here ∷ ws) (written_as ps)

pub is_trace : {D : Type 0} (p : DeskInner D) → IsTraceOf p.trace (run_state_of p) p.trace.synced
is_trace p = record { groups = refl; written = written_as p.trace.ports.items; synced_is = refl }

-- ---- what is reported of a store

pub tells_opening : (image : List ℕ) (before now : Calls) (fault : Fault) → store.TellsStore fault image before now → TellsOpening (desk_fault_of fault false) image before now
tells_opening image before now keeper.Device tells = tells
tells_opening image before now keeper.Failed tells = tells
tells_opening image before now (keeper.NoMemory error) tells = tells
tells_opening image before now (keeper.Mismatch place) tells = tells
tells_opening image before now (keeper.Damaged offset) tells = tells
tells_opening image before now keeper.Unformatted tells = tells

-- the store stands for a state, and there was no memory for its desk
pub short_opening : {T D : Type 0} (model : Ghosts D) (before : Calls) (r : Result T (DeskFault × D)) (image : List ℕ) (s : ServerState) → StandsFor image s → IfErr r (λ e. e.0 ≡ NoMemory out_of_memory false) → IfErr r (λ e. TellsOpening e.0 image before (model.calls e.1))
short_opening model before (Ok desk) image s stands short = tt
short_opening model before (Err e) image s stands short = subst (λ (f : DeskFault). TellsOpening f image before (model.calls e.1)) (sym short) (lacks_standing image before (model.calls e.1) s stands)
