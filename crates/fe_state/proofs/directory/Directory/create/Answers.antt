use Rattle.std.proofs.Common.{◌≡◌, ◌∙◌, refl, sym, ap, arith, subst, length}
use Rattle.std.proofs.lemmas.List.{length-replicate}
use Rattle.fe_state.specs.Directory.{Directory, creation}
use Rattle.fe_state.specs.declared.answer.Answer.TheVariants as answer
use Rattle.fe_state.proofs.DirectoryLemmas.{raise_kept, creation_comes, creation_free, made_last, made_restored}
use Rattle.fe_state.proofs.directory.Directory.create.Goals as goal

pub invariant_of-self : goal.invariant_of-self
invariant_of-self c = (raise_kept _ _ c.self.invariant.0 (omega arith), c.self.invariant.1)

pub insert-requires : goal.insert-requires
insert-requires c =
    let d : Directory = record { arrays = c.self.inside.arrays; next_id = c.self.inside.next_id } in
    let made = subst (λ (x : Directory). creation x c.args.name c.args.length ≡ answer.Array x.next_id c.args.length) (sym c.self.view_is) c.requires.answered in
    creation_comes d c.args.name c.args.length _ _ _ c.self.invariant.0 made refl (ap length c.in_ok-words.ensures ∙ length-replicate _ _)

pub returns-clause-back : goal.returns-clause-back
returns-clause-back c =
    let d : Directory = record { arrays = c.self.inside.arrays; next_id = c.self.inside.next_id } in
    let made = subst (λ (x : Directory). creation x c.args.name c.args.length ≡ answer.Array x.next_id c.args.length) (sym c.self.view_is) c.requires.answered in
    record {
      can_restore = rw c.insert.ensures (made_last c.self.inside.arrays c.self.inside.next_id _ _ refl);
      restored = rw c.insert.ensures (made_restored d.arrays d.next_id _ _ refl (creation_free d c.args.name c.args.length _ _ c.self.invariant.0 made) ∙ c.self.view_is);
    }
