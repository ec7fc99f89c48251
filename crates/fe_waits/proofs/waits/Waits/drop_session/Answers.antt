use Rattle.std.proofs.Common.{◌≡◌, ap, sym, ◌∙◌, subst, ◌<◌}
use Rattle.std.specs.FinMap.{remove}
use Rattle.fe_waits.specs.declared.row.Row.{Row}
use Rattle.fe_waits.specs.Waiting.{key_of, count_of, without_slot}
use Rattle.fe_waits.proofs.MemberLemmas.{some_same, count-falls, without-remove, without-none}
use Rattle.fe_waits.proofs.waits.Waits.drop_session.Goals as goal

pub loop-node-smaller : goal.loop-node-smaller
loop-node-smaller c =
    let of_slot = c.in-Some.ensures.of_slot in
    let in_slot : c.finish.result.slot ≡ c.args.slot = ap (λ (row : Row). row.slot) (some_same (sym c.finish.ensures.row ∙ of_slot.1)) ∙ of_slot.2 in
    let fewer = count-falls c.loop-node.self.members (key_of c.finish.result) _ c.finish.ensures.member in
    rw c.finish.ensures.removed.members (subst (λ slot. count_of (remove c.loop-node.self.members (key_of c.finish.result)) slot < count_of c.loop-node.self.members slot) in_slot fewer)

pub loop-node-preserved : goal.loop-node-preserved
loop-node-preserved c =
    let of_slot = c.in-Some.ensures.of_slot in
    let in_slot : c.finish.result.slot ≡ c.args.slot = ap (λ (row : Row). row.slot) (some_same (sym c.finish.ensures.row ∙ of_slot.1)) ∙ of_slot.2 in
    record {
      others =
          ap (λ m. without_slot m c.args.slot) c.finish.ensures.removed.members
          ∙ subst (λ slot. without_slot (remove c.loop-node.self.members (key_of c.finish.result)) slot ≡ without_slot c.loop-node.self.members slot) in_slot (without-remove c.loop-node.self.members (key_of c.finish.result))
          ∙ c.loop-node.invariant.others;
      arrays = c.finish.ensures.removed.arrays ∙ c.loop-node.invariant.arrays;
    }

pub returns-clause-removed : goal.returns-clause-removed
returns-clause-removed c = record {
  members = sym (without-none _ _ c.in_default.ensures.none) ∙ c.loop-node.invariant.others;
  arrays = c.loop-node.invariant.arrays;
}
