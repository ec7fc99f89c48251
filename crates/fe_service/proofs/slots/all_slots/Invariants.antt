use Rattle.std.proofs.Common.{◌≡◌, ◌≤◌}
use Rattle.std.specs.Prelude.{vec_capacity}
use Rattle.fe_service.specs.within.Slots.{slots_below}
use Rattle.fe_service.proofs.slots.all_slots.Given as goal

abbrev pub invariant-loop-slot : goal.invariant-loop-slot
invariant-loop-slot l = record {
  so_far : l.slots.items ≡ slots_below l.slot;
  reserved : 64 ≤ vec_capacity l.slots;
}
