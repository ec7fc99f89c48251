use Rattle.std.proofs.Common.{◌≡◌, [], ◌∷◌, ◌++◌, ap, ◌∙◌, arith}
use Rattle.fe_service.specs.within.Slots.{slots_below}
use Rattle.fe_service.proofs.KeptLemmas.{slots_below-zero, slots_below-more}
use Rattle.fe_service.proofs.slots.all_slots.Goals as goal

pub loop-slot-init : goal.loop-slot-init
loop-slot-init c = record { so_far = c.in_ok-slots.ensures.items ∙ slots_below-zero; reserved = omega (arith, c.in_ok-slots.ensures.capacity) }

pub loop-slot-preserved : goal.loop-slot-preserved
loop-slot-preserved c = record {
  so_far = c.in_ok-push.ensures.items ∙ ap (λ l. l ++ c.loop-slot.slot ∷ []) c.loop-slot.invariant.so_far ∙ slots_below-more c.loop-slot.slot;
  reserved = omega (arith, c.in_ok-push.ensures.capacity);
}

pub returns-clause-slots : goal.returns-clause-slots
returns-clause-slots c = let all : c.loop-slot.slot ≡ 64 = omega arith in c.loop-slot.invariant.so_far ∙ ap slots_below all
