-- To which ports something may have been written, and which of them are cleared.
use Rattle.std.proofs.Common.{◌≡◌, ℕ, zero, suc, ◌+◌, ◌-◌, ◌<◌, ◌≤◌, Bool, true, false, List, [], ◌∷◌, ◌++◌, length, take, drop, map, get_or, slice_set, refl, sym, ap, ◌∙◌, subst, arith, ⊎_elim, inl, inr, add-one, if◌then◌else◌}
use Rattle.std.specs.Prelude.{MatchBool, is_some}
use Rattle.std.proofs.lemmas.List.{drop-set-lt, map-append}
use Rattle.fe_front.specs.Front.{FrontState, is_connected}
use Rattle.fe_wire.specs.Stream.{Decoding}
use Rattle.fe_desk.specs.DeskRunState.{Client, DeskRunState, all_written_out, emptied_box, stored, posted}
use Rattle.fe_desk.specs.Crash.{unwritten_to}
use Rattle.fe_desk.specs.Messages.{outputs}
use Rattle.fe_desk.specs.Runs.{AreSilent}
use Rattle.fe_desk.specs.Steps.{Acts, Connects, clients_with, find, new_client, on_client}
use Rattle.fe_desk.specs.declared.port.Port.{Port}
use Rattle.fe_desk.specs.declared.port_set.PortSet.{PortSet}
use Rattle.fe_desk.specs.declared.step.Step.{Step}
use Rattle.fe_desk.specs.declared.step.Step.TheVariants as step
use Rattle.fe_desk.specs.within.Desk.{IsMailedFrom, IsSilentFrom, client_of, port_bit}
use Rattle.fe_desk.proofs.Anew.{AreCleared, all_cleared, bare, one_cleared}
use Rattle.fe_desk.proofs.Emptying.{from_here, port_there, quiet_written_out, same_set}
use Rattle.fe_desk.proofs.Outputs.{bytes_output, gone_output, same_outputs, stored_clients, posted_clients, output_of}
use Rattle.fe_desk.proofs.Reading.{each-on_client}

-- what was written to a port
abbrev pub out_of : Port → ℕ × List ℕ
out_of p = (p.conn, p.written)

pub outs_of : (ps : List Port) → map output_of (map client_of ps) ≡ map out_of ps
outs_of [] = refl
outs_of (p ∷ ps) = ap (λ (os : List (ℕ × List ℕ)). out_of p ∷ os) (outs_of ps)

-- ---- nothing was written

-- a set with more ports says less
pub wider : (at : ℕ) (os : List (ℕ × List ℕ)) (a b : PortSet) → ((i : ℕ) → port_bit a i ≡ 1 → port_bit b i ≡ 1) → IsSilentFrom at os a → IsSilentFrom at os b
wider at [] a b more is = tt
wider at (o ∷ os) a b more is = (⊎_elim (λ e. inl (more at e)) (λ e. inr e) is.0, wider (suc at) os a b more is.1)

-- one with all ports says nothing
pub widest : (at : ℕ) (os : List (ℕ × List ℕ)) (set : PortSet) → ((i : ℕ) → port_bit set i ≡ 1) → IsSilentFrom at os set
widest at [] set all = tt
widest at (o ∷ os) set all = (inl (all at), widest (suc at) os set all)

pub none_written : (at : ℕ) (os : List (ℕ × List ℕ)) (set : PortSet) → AreSilent os → IsSilentFrom at os set
none_written at [] set all = tt
none_written at (o ∷ os) set all = (inr all.0, none_written (suc at) os set all.1)

-- another connection comes
one_came : (at : ℕ) (os : List (ℕ × List ℕ)) (o : ℕ × List ℕ) (set : PortSet) → o.1 ≡ [] → IsSilentFrom at os set → IsSilentFrom at (os ++ o ∷ []) set
one_came at [] o set none is = (inr none, tt)
one_came at (x ∷ os) o set none is = (is.0, one_came (suc at) os o set none is.1)

came_silent : (set : PortSet) (cs : List Client) (conn : ℕ) (d : Decoding) → IsSilentFrom 0 (map output_of cs) set → IsSilentFrom 0 (map output_of (clients_with cs conn d)) set
came_silent set cs conn d is = by (is_some (find conn cs))
  where
    by : (b : Bool) → IsSilentFrom 0 (map output_of (if b then on_client conn (λ c. record c { decoder = d; left = [] }) cs else cs ++ new_client conn d ∷ [])) set
    by true = subst (λ xs. IsSilentFrom 0 xs set) (sym (each-on_client output_of conn (λ c. record c { decoder = d; left = [] }) cs (λ c. refl))) is
    by false = subst (λ xs. IsSilentFrom 0 xs set) (sym (map-append output_of cs (new_client conn d ∷ []))) (one_came 0 (map output_of cs) (conn, []) set refl is)

-- nothing is written before a step's end
pub acts_silent : (set : PortSet) (s : DeskRunState) (x : Step) (t : DeskRunState) → Acts s x t → IsSilentFrom 0 (outputs s) set → IsSilentFrom 0 (outputs t) set
acts_silent set s (step.Connect conn) t e is = by (is_connected s.front conn) e
  where
    by : (b : Bool) → MatchBool b (t ≡ s) (Connects s conn t) → IsSilentFrom 0 (outputs t) set
    by true r = subst (λ (u : DeskRunState). IsSilentFrom 0 (outputs u) set) (sym r) is
    by false r = subst (λ (u : DeskRunState). IsSilentFrom 0 (outputs u) set) (sym r.after) (came_silent set s.clients conn r.decoder is)
acts_silent set s (step.Bytes conn piece) t e is = subst (λ xs. IsSilentFrom 0 xs set) (sym (bytes_output s (find conn s.clients) piece.items t e)) is
acts_silent set s (step.Gone conn) t e is = subst (λ xs. IsSilentFrom 0 xs set) (sym (ap outputs e ∙ gone_output s conn)) is
acts_silent set s step.Cut t e is = subst (λ xs. IsSilentFrom 0 xs set) (sym (ap outputs e)) is
acts_silent set s step.Append t e is = subst (λ xs. IsSilentFrom 0 xs set) (sym (ap outputs e ∙ same_outputs s (stored s) (stored_clients s.handed s))) is
acts_silent set s step.Post t e is = subst (λ xs. IsSilentFrom 0 xs set) (sym (ap outputs e ∙ same_outputs s (posted s) (posted_clients s.handed s))) is
acts_silent set s step.CheckBegin t e is = subst (λ xs. IsSilentFrom 0 xs set) (sym (ap outputs e)) is
acts_silent set s step.CheckStep t e is = subst (λ xs. IsSilentFrom 0 xs set) (sym (ap outputs e)) is
acts_silent set s step.CheckFinish t e is = subst (λ xs. IsSilentFrom 0 xs set) (sym (ap outputs e)) is

-- at its end something is written only to ports of the set
pub written_silent : (at : ℕ) (f : FrontState) (cs : List Client) (set : PortSet) → IsMailedFrom at f cs set → IsSilentFrom at (map output_of cs) set → IsSilentFrom at (map output_of (all_written_out f cs)) set
written_silent at f [] set mailed is = tt
written_silent at f (c ∷ cs) set mailed is = (
  ⊎_elim (λ e. inl e) (λ quiet. ⊎_elim (λ e. inl e) (λ none. inr (ap (λ (d : Client). d.written) (quiet_written_out f c quiet) ∙ none)) is.0) mailed.0,
  written_silent (suc at) (emptied_box f c.conn) cs set mailed.1 is.1,
)

-- at a step's end: it emptied the boxes, after it added the ports to which something was to be written to the set
pub stepped_silent : (quiet : Bool) (f : FrontState) (ps qs : List Port) (a b : PortSet) → (quiet ≡ true → IsSilentFrom 0 (map output_of (map client_of ps)) a) → (quiet ≡ false → (i : ℕ) → port_bit b i ≡ 1)
    → ((i : ℕ) → port_bit a i ≡ 1 → port_bit b i ≡ 1) → IsMailedFrom 0 f (map client_of ps) b → map client_of qs ≡ all_written_out f (map client_of ps) → IsSilentFrom 0 (map output_of (map client_of qs)) b
stepped_silent true f ps qs a b silent all more mailed out =
    subst (λ (cs : List Client). IsSilentFrom 0 (map output_of cs) b) (sym out) (written_silent 0 f (map client_of ps) b mailed (wider 0 (map output_of (map client_of ps)) a b more (silent refl)))
stepped_silent false f ps qs a b silent all more mailed out = widest 0 (map output_of (map client_of qs)) b (all refl)

-- ---- the next port to which something may have been written

later : (n at to : ℕ) (os : List (ℕ × List ℕ)) (set : PortSet) → n + at ≡ to → IsSilentFrom at os set → IsSilentFrom to (drop n os) set
later zero at to os set e is = subst (λ (k : ℕ). IsSilentFrom k os set) (omega (arith, e)) is
later (suc n) at to [] set e is = tt
later (suc n) at to (o ∷ os) set e is = later n (suc at) to os set (omega (arith, e)) is.1

passed : (n at : ℕ) (os : List (ℕ × List ℕ)) (set : PortSet) → ((i : ℕ) → at ≤ i → i < at + n → port_bit set i ≡ 0) → IsSilentFrom at os set → AreSilent (take n os)
passed zero at os set none is = tt
passed (suc n) at [] set none is = tt
passed (suc n) at (o ∷ os) set none is = (
  ⊎_elim (λ e. absurd (omega (arith, e, none at (omega arith) (omega arith)))) (λ e. e) is.0,
  passed n (suc at) os set (λ i le lt. none i (omega (arith, le)) (omega (arith, lt))) is.1,
)

pub none_between : (from to : ℕ) (os : List (ℕ × List ℕ)) (set : PortSet) → from ≤ to → ((i : ℕ) → from ≤ i → i < to → port_bit set i ≡ 0) → IsSilentFrom 0 os set → AreSilent (take (to - from) (drop from os))
none_between from to os set le none is =
    passed (to - from) from (drop from os) set (λ i above below. none i above (omega (arith, le, below)))
    (later from 0 from os set (omega arith) is)

-- ---- nothing is written any more

-- the ports before this one are cleared, and nothing was written to those from there on that are not in the set
pub record AreClearedTo (old ports : List Port) (set : PortSet) (at : ℕ) : Type 0 where
  pub cleared : AreCleared old ports at
  pub silent : IsSilentFrom at (map out_of (drop at ports)) set

pub none_cleared : (ports : List Port) (set : PortSet) → IsSilentFrom 0 (map out_of ports) set → AreClearedTo ports ports set 0
none_cleared ports set silent = record { cleared = record { same = refl; none = refl }; silent = silent }

pub next_cleared : (old ports : List Port) (set : PortSet) (at : ℕ) (p q : Port) → at < length ports → p ≡ get_or ports at p → bare q ≡ bare p → client_of q ≡ bare q → AreClearedTo old ports set at → AreClearedTo old (slice_set ports at q) set (at + 1)
next_cleared old ports set at p q lt is same none so = record {
  cleared = one_cleared old ports at p q lt (same ∙ ap (λ (x : Port). bare x) is) none so.cleared;
  silent = subst (λ (k : ℕ). IsSilentFrom k (map out_of (drop (at + 1) (slice_set ports at q))) set) (sym (add-one at))
      (subst (λ (ps : List Port). IsSilentFrom (suc at) (map out_of ps) set) (sym (drop-set-lt (at + 1) ports at q (omega arith)))
      (subst (λ (os : List (ℕ × List ℕ)). IsSilentFrom at os set) (from_here out_of ports at p lt is) so.silent).1);
}

-- a port that is not in the set is clear already
pass_cleared : (old ports : List Port) (set : PortSet) (at : ℕ) → at < length ports → port_bit set at ≡ 0 → AreClearedTo old ports set at → AreClearedTo old ports set (at + 1)
pass_cleared old ports set at lt none so =
    let (p, is) = port_there ports at lt in
    let here = subst (λ (os : List (ℕ × List ℕ)). IsSilentFrom at os set) (from_here out_of ports at p lt is) so.silent in
    let nothing : p.written ≡ [] = ⊎_elim (λ e. absurd (omega (arith, e, none))) (λ e. e) here.0 in
    subst (λ (ps : List Port). AreClearedTo old ps set (at + 1)) (same_set ports at p lt is)
    (next_cleared old ports set at p p lt is refl (ap (λ (w : List ℕ). record (client_of p) { written = w }) nothing) so)

pub cleared_past : (d at to : ℕ) (old ports : List Port) (set : PortSet) → d + at ≡ to → to ≤ length ports → ((i : ℕ) → at ≤ i → i < to → port_bit set i ≡ 0) → AreClearedTo old ports set at → AreClearedTo old ports set to
cleared_past zero at to old ports set e le none so = subst (λ (k : ℕ). AreClearedTo old ports set k) (omega (arith, e)) so
cleared_past (suc d) at to old ports set e le none so =
    cleared_past d (at + 1) to old ports set (omega (arith, e)) le (λ i above below. none i (omega (arith, above)) below)
    (pass_cleared old ports set at (omega (arith, e, le)) (none at (omega arith) (omega (arith, e))) so)

pub cleared_all : (old ports : List Port) (set : PortSet) (at : ℕ) → length ports ≤ at → AreClearedTo old ports set at → map client_of ports ≡ map unwritten_to (map client_of old)
cleared_all old ports set at le so = all_cleared old ports at le so.cleared

pub anew_silent : (cs : List Client) → AreSilent (map output_of (map unwritten_to cs))
anew_silent [] = tt
anew_silent (c ∷ cs) = (refl, anew_silent cs)
