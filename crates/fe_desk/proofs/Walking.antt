-- The boxes of the clients of a set are emptied; nothing is to be written to the others.
use Rattle.std.proofs.Common.{◌≡◌, ℕ, zero, suc, ◌+◌, ◌<◌, ◌≤◌, List, [], ◌∷◌, ◌++◌, length, take_all, drop, map, get_or, slice_set, refl, sym, ap, ◌∙◌, subst, arith, append-nil, add-one, ⊎_elim}
use Rattle.std.proofs.lemmas.List.{drop-set-lt}
use Rattle.fe_front.specs.Front.{FrontState}
use Rattle.fe_desk.specs.DeskRunState.{Client, all_emptied, all_written_out, emptied_box, written_out}
use Rattle.fe_desk.specs.declared.port.Port.{Port}
use Rattle.fe_desk.specs.declared.port_set.PortSet.{PortSet}
use Rattle.fe_desk.specs.within.Desk.{IsMailedFrom, IsQuiet, client_of, port_bit}
use Rattle.fe_desk.proofs.Emptying.{from_here, nothing_emptied, port_there, quiet_written_out, same_set}
use Rattle.fe_desk.proofs.Writing.{AreWrittenTo, port_done}

-- The ports before this one are done with, and the others are as they were. Nothing is to be written to those of them that are not in the
-- set.
pub record IsWalkedTo (begun : FrontState) (first : List Client) (set : PortSet) (f : FrontState) (ports : List Port) (at : ℕ) : Type 0 where
  pub written : AreWrittenTo begun first f ports at
  pub mailed : IsMailedFrom at f (map client_of (drop at ports)) set

pub walk_begun : (f : FrontState) (ports : List Port) (set : PortSet) → IsMailedFrom 0 f (map client_of ports) set → IsWalkedTo f (map client_of ports) set f ports 0
walk_begun f ports set mailed = record {
  written = record { before = []; all = refl; front = refl; written_out = refl };
  mailed = mailed;
}

-- the clients from a port on
still_mailed : (set : PortSet) (f : FrontState) (ports : List Port) (at : ℕ) (p : Port) → at < length ports → p ≡ get_or ports at p → IsMailedFrom at f (map client_of (drop at ports)) set
    → IsMailedFrom at f (client_of p ∷ map client_of (drop (at + 1) ports)) set
still_mailed set f ports at p lt is mailed = subst (λ (cs : List Client). IsMailedFrom at f cs set) (from_here client_of ports at p lt is) mailed

-- a port more
pub one_walked : (begun : FrontState) (first : List Client) (set : PortSet) (f g : FrontState) (ports : List Port) (at : ℕ) (p q : Port) → at < length ports → p ≡ get_or ports at p
    → g ≡ emptied_box f p.conn → client_of q ≡ written_out f (client_of p) → IsWalkedTo begun first set f ports at → IsWalkedTo begun first set g (slice_set ports at q) (at + 1)
one_walked begun first set f g ports at p q lt is front client far = record {
  written = port_done begun first f g ports at p q lt is far.written front client;
  mailed = subst (λ (k : ℕ). IsMailedFrom k g (map client_of (drop (at + 1) (slice_set ports at q))) set) (sym (add-one at))
      (subst (λ (ps : List Port). IsMailedFrom (suc at) g (map client_of ps) set) (sym (drop-set-lt (at + 1) ports at q (omega arith)))
      (subst (λ (x : FrontState). IsMailedFrom (suc at) x (map client_of (drop (at + 1) ports)) set) (sym front) (still_mailed set f ports at p lt is far.mailed).1));
}

-- one that is not in the set is passed over
one_passed : (begun : FrontState) (first : List Client) (set : PortSet) (f : FrontState) (ports : List Port) (at : ℕ) → at < length ports → port_bit set at ≡ 0
    → IsWalkedTo begun first set f ports at → IsWalkedTo begun first set f ports (at + 1)
one_passed begun first set f ports at lt none far =
    let (p, is) = port_there ports at lt in
    let quiet : IsQuiet f (client_of p) = ⊎_elim (λ e. absurd (omega (arith, e, none))) (λ quiet. quiet) (still_mailed set f ports at p lt is far.mailed).0 in
    subst (λ (ps : List Port). IsWalkedTo begun first set f ps (at + 1)) (same_set ports at p lt is)
    (one_walked begun first set f f ports at p p lt is (sym (nothing_emptied f p.conn quiet.box)) (sym (quiet_written_out f (client_of p) quiet)) far)

pub walked_past : (d at to : ℕ) (begun : FrontState) (first : List Client) (set : PortSet) (f : FrontState) (ports : List Port) → d + at ≡ to → to ≤ length ports
    → ((i : ℕ) → at ≤ i → i < to → port_bit set i ≡ 0) → IsWalkedTo begun first set f ports at → IsWalkedTo begun first set f ports to
walked_past zero at to begun first set f ports e le none far = subst (λ (k : ℕ). IsWalkedTo begun first set f ports k) (omega (arith, e)) far
walked_past (suc d) at to begun first set f ports e le none far =
    walked_past d (at + 1) to begun first set f ports (omega (arith, e)) le (λ i above below. none i (omega (arith, above)) below)
    (one_passed begun first set f ports at (omega (arith, e, le)) (none at (omega arith) (omega (arith, e))) far)

-- at the end none is left
none_left : (at : ℕ) (ports : List Port) → length ports ≤ at → drop at ports ≡ []
none_left zero [] le = refl
none_left zero (p ∷ ports) le = absurd (omega (arith, le))
none_left (suc at) [] le = refl
none_left (suc at) (p ∷ ports) le = none_left at ports (omega (arith, le))

module _ (begun : FrontState) (first : List Client) (f : FrontState) (ports : List Port) (at : ℕ) (le : length ports ≤ at) (far : AreWrittenTo begun first f ports at) where
  whole : far.before ≡ first
  whole =
      sym (far.all ∙ ap (λ (ps : List Port). far.before ++ map client_of ps) (none_left at ports le) ∙ append-nil far.before)

  pub walked_out : map client_of ports ≡ all_written_out begun first
  walked_out = ap (λ (ps : List Port). map client_of ps) (sym (take_all at ports le)) ∙ far.written_out ∙ ap (λ (cs : List Client). all_written_out begun cs) whole

  pub walked_empty : f ≡ all_emptied begun first
  walked_empty = far.front ∙ ap (λ (cs : List Client). all_emptied begun cs) whole
