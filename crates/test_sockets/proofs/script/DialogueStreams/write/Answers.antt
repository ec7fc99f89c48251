use Rattle.std.proofs.Common.{◌≡◌, ◌++◌, List, ℕ, refl, sym, subst, rules}
use Rattle.fe_client.specs.Events.{Event}
use Rattle.fe_client.proofs.Leads.{same_of}
use Rattle.test_sockets.specs.Scripts.{code}
use Rattle.test_sockets.proofs.script.DialogueStreams.write.Goals as goal

pub returns-clause-ok : goal.returns-clause-ok
returns-clause-ok c =
    let logged : c.happened.new.self.log.items ≡ c.args.self.now.log.items ++ c.args.text.now = search rules in
    subst (λ (xs : List ℕ). c.happened.new.self.log.items ≡ c.args.self.now.log.items ++ xs) (sym (same_of code Event.Written (λ b. refl) c.args.text.now)) logged
