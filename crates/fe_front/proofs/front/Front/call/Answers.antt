use Rattle.std.proofs.Common.{sym, ◌∙◌}
use Rattle.fe_front.proofs.Admitted.{addresses}
use Rattle.fe_front.proofs.front.Front.call.Goals as goal

-- the front is the same once its session is looked at
pub call_within-requires : goal.call_within-requires
call_within-requires c = record {
  room = rw c.addressed.ensures.same c.requires.room;
  addressed = rw c.addressed.ensures.same (sym c.addressed.ensures.session ∙ c.in-Ok.is);
}

-- what is returned is the session of the connection
pub returns-in-Ok-call_within-clause-session : goal.returns-in-Ok-call_within-clause-session
returns-in-Ok-call_within-clause-session c =
    (addresses c.args.self.now c.args.conn c.in-Ok.session c.args.number (sym c.addressed.ensures.session ∙ c.in-Ok.is)).0.has
