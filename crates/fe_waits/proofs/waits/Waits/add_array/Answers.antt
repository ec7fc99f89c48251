use Rattle.std.proofs.Common.{refl, ap, ◌∙◌, subst, ◌<◌, length, rules}
use Rattle.std.proofs.lemmas.List.{length-replicate}
use Rattle.std.specs.FinMap.{insert}
use Rattle.fe_waits.specs.within.Inner.{lengths, empty_chain}
use Rattle.fe_waits.proofs.KeptLemmas.{kept-array_added}
use Rattle.fe_waits.proofs.WordLemmas.{get-lengths_none, len-lengths, lengths-insert}
use Rattle.fe_waits.proofs.waits.Waits.add_array.Goals as goal

pub insert-requires : goal.insert-requires
insert-requires c = let asked = rw (← c.self.view_is) at c.requires in (search rules, (get-lengths_none _ _ asked.new, subst (λ n. n < 64) (len-lengths _) asked.room))

pub invariant_of-self : goal.invariant_of-self
invariant_of-self c =
    let asked = rw (← c.self.view_is) at c.requires in
    rw (c.insert.ensures.inserted, c.in_ok-chains.ensures)
    (kept-array_added _ _ _ _ c.self.invariant c.args.array c.args.length (get-lengths_none _ _ asked.new) (subst (λ n. n < 64) (len-lengths _) asked.room))

pub returns-clause-ok : goal.returns-clause-ok
returns-clause-ok c =
    rw (← c.self.view_is) (record {
      arrays = ap lengths c.insert.ensures.inserted ∙ lengths-insert _ _ _ ∙ ap (insert (lengths c.self.inside.words) c.args.array) (ap length c.in_ok-chains.ensures ∙ length-replicate c.args.length empty_chain);
      members = refl;
    })
