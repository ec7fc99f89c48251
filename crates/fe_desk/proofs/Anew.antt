-- A trace that begins anew.
use Rattle.std.proofs.Common.{◌≡◌, ℕ, ◌+◌, ◌<◌, ◌≤◌, Bool, true, false, List, [], ◌∷◌, ◌++◌, Some, length, map, take, take_all, get_or, slice_set, nat_eq, if◌then◌else◌, refl, sym, ap, subst, ◌∙◌, arith, Vec, Global}
use Rattle.std.specs.Prelude.{is_some}
use Rattle.std.proofs.lemmas.List.{map-append, take_more_set}
use Rattle.std.proofs.Math.Seq.{map-set_same}
use Rattle.fe_state.specs.declared.entry.Entry.{Entry}
use Rattle.fe_keeper.specs.Stands.{EachStandsFor}
use Rattle.fe_desk.specs.Crash.{unwritten_to, anew, desk_anew, DeskState, disk_of}
use Rattle.fe_desk.specs.Steps.{AreWritten, HasNoMail, find}
use Rattle.fe_desk.specs.DeskRunState.{Client, DeskRunState}
use Rattle.fe_desk.specs.declared.desk_inner.DeskInner.{DeskInner}
use Rattle.fe_desk.specs.declared.port.Port.{Port}
use Rattle.fe_desk.specs.declared.trace.Trace.{Trace}
use Rattle.fe_desk.specs.within.Desk.{client_of, run_state_of, desk_of, IsDesk}
use Rattle.fe_desk.proofs.Openings.{stands_at}
use Rattle.fe_disk.specs.declared.disk.Disk.{Ghosts}

-- the client of a port, without what is written
abbrev pub bare : Port → Client
bare p = unwritten_to (client_of p)

-- Nothing is written to the ports before this one, and all else is as it was.
pub record AreCleared (old ports : List Port) (at : ℕ) : Type 0 where
  pub same : map bare ports ≡ map bare old
  pub none : map client_of (take at ports) ≡ map bare (take at ports)

pub one_cleared : (old ports : List Port) (at : ℕ) (p q : Port) → at < length ports → bare q ≡ bare (get_or ports at p) → client_of q ≡ bare q → AreCleared old ports at → AreCleared old (slice_set ports at q) (at + 1)
one_cleared old ports at p q lt same none so = record {
  same = map-set_same bare ports at q p same ∙ so.same;
  none = ap (λ (ps : List Port). map client_of ps) (take_more_set ports at q lt) ∙ map-append client_of (take at ports) (q ∷ []) ∙ ap (λ (cs : List Client). cs ++ client_of q ∷ []) so.none
      ∙ ap (λ (c : Client). map bare (take at ports) ++ c ∷ []) none ∙ sym (map-append bare (take at ports) (q ∷ [])) ∙ ap (λ (ps : List Port). map bare ps) (sym (take_more_set ports at q lt));
}

pub bare_each : (ports : List Port) → map bare ports ≡ map unwritten_to (map client_of ports)
bare_each [] = refl
bare_each (p ∷ ports) = ap (λ (cs : List Client). bare p ∷ cs) (bare_each ports)

pub all_cleared : (old ports : List Port) (at : ℕ) → length ports ≤ at → AreCleared old ports at → map client_of ports ≡ map unwritten_to (map client_of old)
all_cleared old ports at le so =
    let whole : take at ports ≡ ports = take_all at ports le in
    ap (λ (ps : List Port). map client_of ps) (sym whole) ∙ so.none ∙ ap (λ (ps : List Port). map bare ps) whole ∙ so.same ∙ bare_each old

-- ---- a desk

found : (conn : ℕ) (cs : List Client) → is_some (find conn cs) ≡ true → is_some (find conn (map unwritten_to cs)) ≡ true
found conn [] is = is
found conn (c ∷ cs) is = by (nat_eq c.conn conn) (λ there. found conn cs there) is
  where
    by : (b : Bool) → (is_some (find conn cs) ≡ true → is_some (find conn (map unwritten_to cs)) ≡ true) → is_some (if b then Some c else find conn cs) ≡ true
        → is_some (if b then Some (unwritten_to c) else find conn (map unwritten_to cs)) ≡ true
    by true rest is = refl
    by false rest is = rest is

pub written_still : (cs : List Client) → AreWritten cs → AreWritten (map unwritten_to cs)
written_still [] all = tt
written_still (c ∷ cs) all = (all.0, written_still cs all.1)

module _ {D : Type 0} where
  -- the parts with a trace that was cleared
  pub is_anew : (p : DeskInner D) (t : Trace) → t.groups.items ≡ [] → t.synced ≡ 0 → map client_of t.ports.items ≡ map unwritten_to (map client_of p.trace.ports.items)
      → desk_of (record p { trace = t }) ≡ desk_anew (desk_of p)
  is_anew p t groups synced ports =
      let s : DeskRunState = run_state_of p in
      let k = p.keeper in
      ap (λ (gs : List (Vec Entry Global)). record { run_state = record s { groups = map (λ g. g.items) gs; clients = map client_of t.ports.items }; keeper = k; synced = t.synced }) groups
      ∙ ap (λ (cs : List Client). record { run_state = record s { groups = []; clients = cs }; keeper = k; synced = t.synced }) ports
      ∙ ap (λ (n : ℕ). record { run_state = anew s; keeper = k; synced = n }) synced

  anew_desk : (model : Ghosts D) (d : DeskState D) → IsDesk model d → (model.honest (disk_of d) → EachStandsFor model (disk_of d) d.keeper.state)
      → IsDesk model (desk_anew d)
  anew_desk model d is stands = record {
    tied = record { handed = is.tied.handed; legal = is.tied.legal; state = is.tied.state };
    known = λ conn there. found conn d.run_state.clients (is.known conn there);
    few = omega arith;
    all = λ works. refl;
    upheld = λ h begun from image may. stands_at begun (desk_anew d) image from (omega arith) (stands h image may);
  }

  -- a desk with such a trace is one
  pub still_desk : (model : Ghosts D) (p : DeskInner D) (t : Trace) → t.groups.items ≡ [] → t.synced ≡ 0 → map client_of t.ports.items ≡ map unwritten_to (map client_of p.trace.ports.items)
      → IsDesk model (desk_of p) → (model.honest p.keeper.store.disk → EachStandsFor model p.keeper.store.disk p.keeper.state) → IsDesk model (desk_of (record p { trace = t }))
  still_desk model p t groups synced ports is stands =
      subst (λ (d : DeskState D). IsDesk model d) (sym (is_anew p t groups synced ports)) (anew_desk model (desk_of p) is stands)

  -- and where there was no mail there is none
  pub still_quiet : (p : DeskInner D) (t : Trace) → map client_of t.ports.items ≡ map unwritten_to (map client_of p.trace.ports.items) → HasNoMail (run_state_of p) → HasNoMail (run_state_of (record p { trace = t }))
  still_quiet p t ports quiet = record {
    boxes = quiet.boxes;
    replies = subst AreWritten (sym ports) (written_still (map client_of p.trace.ports.items) quiet.replies);
    owes = quiet.owes;
  }
