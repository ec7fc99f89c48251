use Rattle.std.proofs.Common.{sym, subst, arith}
use Rattle.fe_state.specs.Effect.{MayBeAdded}
use Rattle.fe_state.proofs.DirectoryLemmas.{come_kept, come_words}
use Rattle.fe_state.proofs.directory.Directory.insert.Goals as goal

pub invariant_of-self : goal.invariant_of-self
invariant_of-self c =
    let comes = subst (λ d. MayBeAdded d c.args.id c.args.array) (sym c.self.view_is) c.requires in
    rw c.insert.ensures.inserted (come_kept _ _ _ c.self.invariant.0 comes, omega (arith, come_words c.self.inside.arrays c.args.id c.args.array comes.id_free, c.self.invariant.1, c.len.ensures))
