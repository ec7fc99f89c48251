use Rattle.std.proofs.Common.{◌≡◌, Bool, false, sym, ap, subst, ◌∙◌}
use Rattle.std.specs.Prelude.{MatchBool}
use Rattle.fe_front.specs.Front.{is_connected}
use Rattle.fe_desk.specs.Crash.{DeskState}
use Rattle.fe_desk.specs.DeskRunState.{DeskRunState}
use Rattle.fe_desk.specs.Steps.{Connects}
use Rattle.fe_desk.specs.declared.desk_inner.DeskInner.{DeskInner}
use Rattle.fe_desk.specs.within.Desk.{desk_of, run_state_of, Stays}
use Rattle.fe_desk.proofs.Connecting.{connects, connects_stays, refused_same}
use Rattle.fe_desk.proofs.Goes.{stays_itself, stays_same}
use Rattle.fe_desk.proofs.desk_inner.DeskInner.connect.Goals as goal

pub returns-then-connected-clause-stays : goal.returns-then-connected-clause-stays
returns-then-connected-clause-stays g c = stays_itself

pub returns-in_err-join-clause-stays : goal.returns-in_err-join-clause-stays
returns-in_err-join-clause-stays g c =
    let old = c.args.self.now in
    let e = c.in_err-join.ensures.err in
    stays_same (ap (λ (s : DeskRunState). record (desk_of old) { run_state = s }) (refused_same (run_state_of old) _ _ e.0 e.1))

pub returns-clause-connected : goal.returns-clause-connected
returns-clause-connected g c =
    let old = c.args.self.now in
    let s = run_state_of old in
    let new = c.unmake.new.self in
    let none : is_connected old.front c.args.conn ≡ false = sym c.connected.ensures ∙ c.if-connected.false in
    let is = ap (λ (p : DeskInner g.row.D.Denot). run_state_of p) c.unmake.ensures in
    subst (λ (b : Bool). MatchBool b (run_state_of new ≡ s) (Connects s c.args.conn (run_state_of new))) (sym none)
    (subst (Connects s c.args.conn) (sym is) (connects s _ _ c.args.conn c.in_ok-join.ensures.joined))

pub returns-clause-stays : goal.returns-clause-stays
returns-clause-stays g c =
    let old = c.args.self.now in
    subst (λ (d : DeskState g.row.D.Denot). Stays g.D.Disk (desk_of old) d) (sym (ap (λ (p : DeskInner g.row.D.Denot). desk_of p) c.unmake.ensures))
    (connects_stays g.D.Disk (run_state_of old) old.keeper old.trace.synced _ _ c.args.conn c.in_ok-join.ensures.joined)
