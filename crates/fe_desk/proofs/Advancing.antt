-- How a desk's store goes on: over calls one after the other, and over what does not touch it.
use Rattle.std.proofs.Common.{◌≡◌, ℕ, ◌≤◌, true, false, List, [], ◌++◌, length, take, refl, sym, ap, subst, ◌∙◌, append_assoc, arith}
use Rattle.std.specs.Prelude.{is_some}
use Rattle.std.proofs.lemmas.List.{append-nil, length-append, take-append-le}
use Rattle.fe_disk.specs.Runs.{LeavesOnly}
use Rattle.fe_disk.proofs.Moments.{started, joined, weaker}
use Rattle.fe_state.specs.State.{ServerState, after_all}
use Rattle.fe_state.specs.History.{IsHistory, AreLegal, after_groups}
use Rattle.fe_state.specs.declared.entry.Entry.{Entry}
use Rattle.fe_front.specs.Front.{is_connected}
use Rattle.fe_keeper.specs.Keeper.{KeeperState}
use Rattle.fe_keeper.specs.Stands.{LeavesPrefix}
use Rattle.fe_desk.specs.declared.handed.Handed.{Handed}
use Rattle.fe_desk.specs.DeskRunState.{DeskRunState}
use Rattle.fe_desk.specs.Steps.{find}
use Rattle.fe_desk.specs.Crash.{DeskState, IsFrom, Advances, disk_of}
use Rattle.fe_desk.specs.Acknowledged.{cut_entries}
use Rattle.fe_desk.specs.within.Desk.{HasStore, IsAhead, IsDesk, IsHanded, unstored}
use Rattle.fe_disk.specs.declared.disk.Disk.{Ghosts}
use Rattle.fe_keeper.specs.Ends.{Works}

-- an image that stands for a prefix of a history stands for one of the history that goes on from it, which holds as many
-- groups or fewer
pub prefix_more : (begun : ServerState) (groups more : List (List Entry)) (k j : ℕ) (image : List ℕ) → j ≤ k → LeavesPrefix begun groups k image → LeavesPrefix begun (groups ++ more) j image
prefix_more begun groups more k j image le p =
    let q = p.prefix in
    record {
      state = p.state;
      stands = p.stands;
      prefix =
          record {
            kept = q.kept;
            least = omega (arith, le, q.least);
            most = omega (arith, q.most, length-append groups more);
            state_is = q.state_is ∙ ap (λ (gs : List (List Entry)). after_groups begun gs) (sym (take-append-le q.kept groups more q.most));
          };
    }

pub prefix_as : (begun : ServerState) (groups others : List (List Entry)) (k : ℕ) (image : List ℕ) → others ≡ groups → LeavesPrefix begun groups k image → LeavesPrefix begun others k image
prefix_as begun groups others k image same p = subst (λ (gs : List (List Entry)). LeavesPrefix begun gs k image) (sym same) p

pub store_itself : {D : Type 0} (d : DeskState D) → HasStore d d
store_itself d = record { keeper = refl; groups = refl; synced = refl }

from_as : {D : Type 0} (begun : ServerState) (old new : DeskState D) → HasStore old new → IsFrom begun old → IsFrom begun new
from_as {D} begun old new same f =
    record {
      history = subst (λ (gs : List (List Entry)). IsHistory begun gs) (sym same.groups) f.history;
      replica =
          ap (λ (k : KeeperState D). k.state) same.keeper ∙ f.replica ∙ ap (λ (n : ℕ). after_groups begun (take n old.run_state.groups)) (sym same.synced)
          ∙ ap (λ (gs : List (List Entry)). after_groups begun (take new.synced gs)) (sym same.groups);
    }

disk_as : {D : Type 0} (old new : DeskState D) → HasStore old new → disk_of new ≡ disk_of old
disk_as {D} old new same = ap (λ (k : KeeperState D). k.store.disk) same.keeper

-- the same front as far as the store goes: what is pending, the batch that is out and the state
pub tied_as : (s t : DeskRunState) (replica : ServerState) → t.handed ≡ s.handed → t.front.out ≡ s.front.out → t.front.service.pending ≡ s.front.service.pending → t.front.service.state ≡ s.front.service.state
    → IsAhead s replica → IsAhead t replica
tied_as s t replica handed out pending state tied =
    let same : unstored t ≡ unstored s =
    ap (λ (h : Handed). cut_entries h ++ t.front.service.pending) handed ∙ ap (λ (es : List Entry). cut_entries s.handed ++ es) pending in
    record {
      handed = subst (λ (h : Handed). IsHanded h t.front.out) (sym handed) (subst (λ o. IsHanded s.handed o) (sym out) tied.handed);
      legal = subst (λ (es : List Entry). AreLegal replica es) (sym same) tied.legal;
      state = state ∙ tied.state ∙ ap (λ (es : List Entry). after_all replica es) (sym same);
    }

module _ {D : Type 0} (model : Ghosts D) where
  -- what is always true of a desk's store stays where the store does
  pub desk_as : (old new : DeskState D) → IsDesk model old → HasStore old new → IsAhead new.run_state new.keeper.state
      → ((conn : ℕ) → is_connected new.run_state.front conn ≡ true → is_some (find conn new.run_state.clients) ≡ true) → IsDesk model new
  desk_as old new desk same tied known =
      let disk = disk_as old new same in
      let back : HasStore new old = record { keeper = sym same.keeper; groups = sym same.groups; synced = sym same.synced } in
      record {
        tied = tied;
        known = known;
        few = let few = desk.few in let e = ap (λ (gs : List (List Entry)). length gs) same.groups in let s = same.synced in omega arith;
        all = λ works.
            same.synced ∙ desk.all (ap (λ (k : KeeperState D). k.store.has_failed) (sym same.keeper) ∙ works) ∙ ap (λ (gs : List (List Entry)). length gs) (sym same.groups);
        upheld = λ h begun from image may.
            prefix_as begun old.run_state.groups new.run_state.groups new.synced image same.groups
            (subst (λ (n : ℕ). LeavesPrefix begun old.run_state.groups n image) (sym same.synced)
            (desk.upheld (subst model.honest disk h) begun (from_as begun new old back from) image (subst (λ (d : D). model.may_leave d image) disk may)));
      }

module _ {D : Type 0} (model : Ghosts D) where
  -- nothing happened: a stop leaves now what it would have left before
  pub advances_as : ((disk : D) (image : List ℕ) → model.honest disk → model.left_since disk (model.moment disk) image → model.may_leave disk image) → (old new : DeskState D)
      → IsDesk model old → HasStore old new → Advances model old new
  advances_as only_now old new desk same =
      let disk = disk_as old new same in
      record {
        more = [];
        groups = same.groups ∙ sym (append-nil old.run_state.groups);
        synced = let s = same.synced in omega arith;
        from = λ begun from. from_as begun old new same from;
        any_moment = λ h works begun from.
            let here = started model (disk_of old) (LeavesPrefix begun new.run_state.groups old.synced)
            (λ image left. prefix_as begun old.run_state.groups new.run_state.groups old.synced image same.groups
            (desk.upheld h begun from image (only_now (disk_of old) image h left))) in
            subst (λ (d : D). LeavesOnly model (disk_of old) d (LeavesPrefix begun new.run_state.groups old.synced)) (sym disk) here;
        honesty = (λ h. subst model.honest disk h, λ h. subst model.honest (sym disk) h);
      }

  pub advances_itself : ((disk : D) (image : List ℕ) → model.honest disk → model.left_since disk (model.moment disk) image → model.may_leave disk image) → (d : DeskState D)
      → IsDesk model d → Advances model d d
  advances_itself only_now d desk = advances_as only_now d d desk (store_itself d)

  -- calls after calls
  pub advances_both : (a b c : DeskState D) → b.keeper.store.has_failed ≡ false → Advances model a b → Advances model b c → Advances model a c
  advances_both a b c works ab bc =
      record {
        more = ab.more ++ bc.more;
        groups = bc.groups ∙ ap (λ (gs : List (List Entry)). gs ++ bc.more) ab.groups ∙ append_assoc a.run_state.groups ab.more bc.more;
        synced = omega (arith, ab.synced, bc.synced);
        from = λ begun from. bc.from begun (ab.from begun from);
        any_moment = λ h fine begun from.
            joined model (disk_of a) (disk_of b) (disk_of c) (LeavesPrefix begun c.run_state.groups a.synced)
            (weaker model (disk_of a) (disk_of b) (LeavesPrefix begun b.run_state.groups a.synced) (LeavesPrefix begun c.run_state.groups a.synced)
            (λ image p. prefix_as begun (b.run_state.groups ++ bc.more) c.run_state.groups a.synced image bc.groups
            (prefix_more begun b.run_state.groups bc.more a.synced a.synced image (omega arith) p))
            (ab.any_moment h fine begun from))
            (weaker model (disk_of b) (disk_of c) (LeavesPrefix begun c.run_state.groups b.synced) (LeavesPrefix begun c.run_state.groups a.synced)
            (λ image p. fewer begun c.run_state.groups b.synced a.synced image ab.synced p)
            (bc.any_moment (ab.honesty.1 h) works begun (ab.from begun from)));
        honesty = (λ h. ab.honesty.0 (bc.honesty.0 h), λ h. bc.honesty.1 (ab.honesty.1 h));
      }
    where
      fewer : (begun : ServerState) (groups : List (List Entry)) (k j : ℕ) (image : List ℕ) → j ≤ k → LeavesPrefix begun groups k image → LeavesPrefix begun groups j image
      fewer begun groups k j image le p = record {
        state = p.state;
        stands = p.stands;
        prefix = record { kept = p.prefix.kept; least = omega (arith, le, p.prefix.least); most = p.prefix.most; state_is = p.prefix.state_is };
      }

  -- calls, and then what does not touch the store, or the other way round
  pub advances_then : (a b c : DeskState D) → Advances model a b → HasStore b c → Advances model a c
  advances_then a b c ab same =
      let disk = disk_as b c same in
      record {
        more = ab.more;
        groups = same.groups ∙ ab.groups;
        synced = let s = same.synced in omega (arith, ab.synced);
        from = λ begun from. from_as begun b c same (ab.from begun from);
        any_moment = λ h fine begun from.
            subst (λ (d : D). LeavesOnly model (disk_of a) d (LeavesPrefix begun c.run_state.groups a.synced)) (sym disk)
            (weaker model (disk_of a) (disk_of b) (LeavesPrefix begun b.run_state.groups a.synced) (LeavesPrefix begun c.run_state.groups a.synced)
            (λ image p. prefix_as begun b.run_state.groups c.run_state.groups a.synced image same.groups p) (ab.any_moment h fine begun from));
        honesty = (λ h. ab.honesty.0 (subst model.honest disk h), λ h. subst model.honest (sym disk) (ab.honesty.1 h));
      }

  pub advances_after : (a b c : DeskState D) → HasStore a b → Advances model b c → Advances model a c
  advances_after a b c same bc =
      let disk = disk_as a b same in
      record {
        more = bc.more;
        groups = bc.groups ∙ ap (λ (gs : List (List Entry)). gs ++ bc.more) same.groups;
        synced = let s = same.synced in omega (arith, bc.synced);
        from = λ begun from. bc.from begun (from_as begun a b same from);
        any_moment = λ h fine begun from.
            subst (λ (d : D). LeavesOnly model d (disk_of c) (LeavesPrefix begun c.run_state.groups a.synced)) disk
            (subst (λ (n : ℕ). LeavesOnly model (disk_of b) (disk_of c) (LeavesPrefix begun c.run_state.groups n)) same.synced
            (bc.any_moment (subst model.honest (sym disk) h) (ap (λ (k : KeeperState D). k.store.has_failed) same.keeper ∙ fine) begun (from_as begun a b same from)));
        honesty = (λ h. subst model.honest disk (bc.honesty.0 h), λ h. bc.honesty.1 (subst model.honest (sym disk) h));
      }

module _ {D : Type 0} (model : Ghosts D) where
  pub fine_both : (a b c : DeskState D) → Works model a.keeper b.keeper → Works model b.keeper c.keeper → Works model a.keeper c.keeper
  fine_both a b c ab bc = record { before = ab.before; after = bc.after; still = bc.still ∙ ab.still }

  pub fine_as : (a b : DeskState D) → a.keeper.store.has_failed ≡ false → HasStore a b → Works model a.keeper b.keeper
  fine_as a b works same = record {
    before = works;
    after = ap (λ (k : KeeperState D). k.store.has_failed) same.keeper ∙ works;
    still = ap (λ (k : KeeperState D). model.failures k.store.disk) same.keeper;
  }
