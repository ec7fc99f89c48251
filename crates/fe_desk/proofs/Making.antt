-- Room is made, and a checkpoint goes on: what that leaves of a desk.
use Rattle.std.proofs.Common.{◌≡◌, ℕ, ◌≤◌, Bool, true, false, List, [], length, Some, None, is_some, refl, sym, ap, subst, ◌∙◌, arith, if◌then◌else◌}
use Rattle.std.specs.Prelude.{◌↔◌, ◌||◌, nat_eq, nat_le}
use Rattle.std.proofs.lemmas.Bool.Decides.{nat_tests}
use Rattle.fe_disk.specs.Runs.{LeavesOnly}
use Rattle.fe_state.specs.State.{ServerState}
use Rattle.fe_state.specs.declared.entry.Entry.{Entry}
use Rattle.fe_front.specs.Front.{FrontState, has_room}
use Rattle.fe_front.specs.Steps as front
use Rattle.fe_keeper.specs.Keeper.{KeeperState}
use Rattle.fe_keeper.specs.Stands.{StandsFor}
use Rattle.fe_desk.specs.declared.handed.Handed.{Handed}
use Rattle.fe_desk.specs.declared.handed.Handed.TheVariants.{Nothing, Cut, Stored}
use Rattle.fe_desk.specs.DeskRunState.{DeskRunState, cut, cleared}
use Rattle.fe_desk.specs.Room.{begun_room, is_making, made, with_room}
use Rattle.fe_desk.specs.Crash.{DeskState, Advances, disk_of}
use Rattle.fe_desk.proofs.Reading.{committed}
use Rattle.fe_desk.specs.within.Desk.{IsDesk, IsAhead, IsHanded}
use Rattle.fe_front.proofs.Keeping.{posted_all-keeps}
use Rattle.fe_desk.proofs.Groups.{advances_kept, desk_kept}
use Rattle.fe_disk.specs.declared.disk.Disk.{Ghosts}

-- ---- room

-- what is out is posted, and then none is
cleared_out : (s : DeskRunState) → IsHanded s.handed s.front.out → (cleared s).front.out ≡ None
cleared_out s handed = by s.handed handed
  where
    by : (h : Handed) → IsHanded h s.front.out → (cleared (record s { handed = h })).front.out ≡ None
    by Nothing out = out
    by (Cut batch) out = refl
    by (Stored batch) out = refl

-- what is pending stays so
pub cleared_pending : (s : DeskRunState) → (cleared s).front.service.pending ≡ s.front.service.pending
cleared_pending s = by s.handed
  where
    by : (h : Handed) → (cleared (record s { handed = h })).front.service.pending ≡ s.front.service.pending
    by Nothing = refl
    by (Cut batch) = (posted_all-keeps s.front batch.entries batch.first).pending
    by (Stored batch) = (posted_all-keeps s.front batch.entries batch.first).pending

-- where no batch is out, a cut leaves nothing pending
cut_pending : (f : FrontState) → f.out ≡ None → length (front.cut f).service.pending ≡ 0
cut_pending f none = by (front.has_no_cut f) refl
  where
    zero_by : (n : ℕ) → nat_eq n 0 ≡ true → n ≡ 0
    zero_by n e = grind (arith, nat_tests)

    by : (b : Bool) → front.has_no_cut f ≡ b
        → length (if b then f else record f { service = record f.service { pending = [] }; out = Some (record { first = f.durable; length = length f.service.pending }) }).service.pending ≡ 0
    by false is = refl
    by true is = zero_by (length f.service.pending) (ap (λ o. is_some o || nat_eq (length f.service.pending) 0) (sym none) ∙ is)

-- there is room where what is out was posted, and then what was pending
pub committed_room : (s : DeskRunState) → IsHanded s.handed s.front.out → has_room (committed (cleared s)).front ≡ true
committed_room s handed =
    let mid : DeskRunState = cleared s in
    let none : length (committed mid).front.service.pending ≡ 0 = ap (λ (es : List Entry). length es) (cleared_pending (cut mid)) ∙ cut_pending mid.front (cleared_out s handed) in
    ap (λ (n : ℕ). nat_le n 2048) none

pub begun_by : (s : DeskRunState) (conn : ℕ) (b : Bool) → is_making s conn ≡ b → begun_room s conn ≡ (if b then made (cleared s) else s)
begun_by s conn b is = ap (λ (c : Bool). if c then made (cleared s) else s) is

pub room_by : (s : DeskRunState) (b : Bool) → has_room s.front ≡ b → with_room s ≡ (if b then s else made (committed (cleared s)))
room_by s b is = ap (λ (c : Bool). if c then s else made (committed (cleared s))) is

-- ---- a call of the keeper that keeps the replica

module _ {D : Type 0} (model : Ghosts D) (d : DeskState D) (k : KeeperState D) where
  pub desk_checked : ((disk : D) (t : ℕ) (image : List ℕ) → model.honest disk → t ≤ model.moment disk → model.may_leave disk image → model.left_since disk t image) → IsDesk model d
      → d.keeper.store.has_failed ≡ false → k.state ≡ d.keeper.state
      → (model.honest (disk_of d) → d.keeper.store.has_failed ≡ false → LeavesOnly model (disk_of d) k.store.disk (λ image. StandsFor image d.keeper.state))
      → (model.honest k.store.disk ↔ model.honest (disk_of d)) → IsDesk model (record d { keeper = k })
  desk_checked counts_now desk works state run honesty =
      desk_kept model counts_now d (record d { keeper = k }) desk works refl refl state run honesty
      (subst (λ (s : ServerState). IsAhead d.run_state s) (sym state) desk.tied) desk.known

  pub advances_checked : IsDesk model d → k.state ≡ d.keeper.state
      → (model.honest (disk_of d) → d.keeper.store.has_failed ≡ false → LeavesOnly model (disk_of d) k.store.disk (λ image. StandsFor image d.keeper.state))
      → (model.honest k.store.disk ↔ model.honest (disk_of d)) → Advances model d (record d { keeper = k })
  advances_checked desk state run honesty = advances_kept model d (record d { keeper = k }) refl refl state desk.few run honesty
