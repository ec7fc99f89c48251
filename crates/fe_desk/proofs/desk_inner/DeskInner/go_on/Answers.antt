use Rattle.std.proofs.Common.{None, true, false, sym, ap, ◌∙◌}
use Rattle.fe_desk.specs.DeskRunState.{DeskRunState}
use Rattle.fe_desk.specs.Room.{made}
use Rattle.fe_desk.specs.within.Desk.{run_state_of}
use Rattle.fe_desk.proofs.Connecting.{making_stays}
use Rattle.fe_desk.proofs.Making.{begun_by}
use Rattle.fe_desk.proofs.Goes.{passed_on, after, stays, stays_itself, making_there, making_not}
use Rattle.fe_desk.proofs.desk_inner.DeskInner.go_on.Goals as goal

pub returns-in_err-clear : goal.returns-in_err-clear
returns-in_err-clear g c =
    passed_on c.from_residual.ensures.1 (λ last is. (making_there c.args.self.now.making c.args.conn c.eq.result c.eq.ensures c.if-eq.true, is)) c.in_err-clear.ensures

pub returns-else-eq : goal.returns-else-eq
returns-else-eq g c =
    stays {k = g.D.Disk} g.met.D.Disk.only_now c.requires stays_itself
    (sym (begun_by (run_state_of c.args.self.now) c.args.conn false (making_not c.args.self.now.making c.args.conn c.eq.result c.eq.ensures c.if-eq.false)))

pub returns-in_ok-clear : goal.returns-in_ok-clear
returns-in_ok-clear g c =
    let goes = c.in_ok-clear.ensures in
    let mid = c.clear.new.self in
    after goes (making_stays g.D.Disk (run_state_of mid) mid.keeper mid.trace.synced None)
    (ap (λ (s : DeskRunState). made s) goes.ends.1 ∙ sym (begun_by (run_state_of c.args.self.now) c.args.conn true (making_there c.args.self.now.making c.args.conn c.eq.result c.eq.ensures c.if-eq.true)))
