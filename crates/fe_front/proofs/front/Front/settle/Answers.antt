use Rattle.fe_service.specs.Events.{MaySettle}
use Rattle.fe_front.specs.Front.{FrontState}
use Rattle.std.proofs.Common.{sym, subst, ◌∙◌}
use Rattle.fe_front.proofs.Admitted.{settles, own_there, may_settle_to}
use Rattle.fe_front.proofs.front.Front.settle.Goals as goal

pub settle-requires : goal.settle-requires
settle-requires c =
    let old = c.args.self.now in
    let (mine, may) = settles old c.args.conn c.in_ok-session.session c.args.floor (sym c.settling.ensures ∙ c.in_ok-session.was) in
    subst (λ (f : FrontState). MaySettle f.service c.in_ok-session.session c.args.floor) (sym c.self.view_is)
    (may_settle_to old c.in_ok-session.session c.args.floor (own_there old c.args.conn c.in_ok-session.session c.state.ensures.front.service c.state.ensures.front.tied.agree mine) may c.requires.room)

pub returns-clause-session : goal.returns-clause-session
returns-clause-session c =
    (settles c.args.self.now c.args.conn c.in_ok-session.session c.args.floor (sym c.settling.ensures ∙ c.in_ok-session.was)).0.has
