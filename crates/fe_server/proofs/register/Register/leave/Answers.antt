use Rattle.std.proofs.Common.{rules}
use Rattle.std.proofs.lemmas.Fn.{filter_same}
use Rattle.fe_server.proofs.register.Register.leave.Goals as goal

pub returns-clause-handles : goal.returns-clause-handles
returns-clause-handles g c = filter_same _ _ _ (λ x b f' k. search rules) _ _ c.retain.ensures.filtered
