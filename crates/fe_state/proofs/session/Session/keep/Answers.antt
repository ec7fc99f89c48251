use Rattle.fe_state.proofs.SessionLemmas.{kept_insert}
use Rattle.fe_state.proofs.session.Session.keep.Goals as goal

pub returns : goal.returns
returns c =
    rw c.cell_of.ensures
    (kept_insert c.self.inside.cells c.self.inside.floor _ c.self.view_is c.args.number c.args.kept c.self.invariant.whole c.requires)
