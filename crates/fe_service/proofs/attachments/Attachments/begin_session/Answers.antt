use Rattle.std.proofs.Common.{false, refl, ap, ◌∙◌, arith}
use Rattle.fe_service.specs.within.Slots.{attachments_of}
use Rattle.fe_service.proofs.KeptLemmas.{begin_session-below, kept-begin_session, waiting-begin_session}
use Rattle.fe_service.proofs.AttachmentLemmas.{no_occupant, len-attachments, attachments-insert}
use Rattle.fe_service.proofs.attachments.Attachments.begin_session.Goals as goal

pub unwrap-slot-requires : goal.unwrap-slot-requires
unwrap-slot-requires c =
    let asked = rw (← c.self.view_is) at c.requires in
    c.pop.ensures.variant.1 (omega (arith, asked.room, len-attachments c.self.inside.occupants, c.self.invariant.counted, c.self.inside.slots.ok.0))

pub index_mut-requires : goal.index_mut-requires
index_mut-requires c =
    let asked = rw (← c.self.view_is) at c.requires in
    let popped = rw c.unwrap-slot.ensures at c.pop.ensures.items in
    omega (
      arith,
      begin_session-below _ _ _ _ _ c.self.invariant c.args.session c.unwrap-slot.result _ (record { slot = c.unwrap-slot.result; attachment = record { holder = c.args.holder; closing = false } }) (no_occupant _ _ asked.new) popped refl,
      c.self.inside.owners.ok.0,
    )

pub insert-requires : goal.insert-requires
insert-requires c =
    let asked = rw (← c.self.view_is) at c.requires in
    (omega arith, (no_occupant _ _ asked.new, omega (arith, asked.room, len-attachments c.self.inside.occupants)))

pub invariant_of-self : goal.invariant_of-self
invariant_of-self c =
    let asked = rw (← c.self.view_is) at c.requires in
    let popped = rw c.unwrap-slot.ensures at c.pop.ensures.items in
    rw (c.insert.ensures.inserted, c.pop.ensures.capacity)
    (kept-begin_session _ _ _ _ _ c.self.invariant c.args.session c.unwrap-slot.result _ (record { slot = c.unwrap-slot.result; attachment = record { holder = c.args.holder; closing = false } }) (no_occupant _ _ asked.new) popped refl)

pub returns : goal.returns
returns c =
    let asked = rw (← c.self.view_is) at c.requires in
    let popped = rw c.unwrap-slot.ensures at c.pop.ensures.items in
    rw (← c.self.view_is) (record {
      attachments = ap attachments_of c.insert.ensures.inserted ∙ attachments-insert _ _ _;
      waiting = waiting-begin_session _ _ _ _ _ c.self.invariant c.args.session c.unwrap-slot.result _ (record { slot = c.unwrap-slot.result; attachment = record { holder = c.args.holder; closing = false } }) (no_occupant _ _ asked.new) popped refl;
      arrays = refl;
    })
