use Rattle.fe_service.proofs.Completing.{free_in}
use Rattle.fe_state.specs.State.{directory_of}
use Rattle.std.proofs.Common.{◌≡◌, is_some, refl, sym, ap, ◌∙◌, arith}
use Rattle.std.specs.FinMap.{get, insert}
use Rattle.fe_waits.specs.Waiting.{WaitingAccess}
use Rattle.fe_service.specs.AttachmentsState.{count_of}
use Rattle.fe_service.specs.Service.{service_of}
use Rattle.fe_service.specs.within.Slots.{by_session}
use Rattle.fe_service.proofs.AttachmentLemmas.{is_occupant, has_slot}
use Rattle.fe_service.proofs.Attaching.{usable_there}
use Rattle.fe_service.proofs.KeptLemmas.{slot-below, kept-waits}
use Rattle.fe_service.proofs.OwnerLemmas.{get-in_slot, owned-insert, by_session-insert}
use Rattle.fe_service.proofs.Quiet.{word_below}
use Rattle.fe_service.proofs.Replies.{waits_there}
use Rattle.fe_service.proofs.RequestLemmas.{count-in_slot}
use Rattle.fe_service.proofs.Staying.{same_service, waited_service, room_for}
use Rattle.fe_service.proofs.service.Service.wait.Goals.{After-add}
use Rattle.fe_service.proofs.service.Service.wait.Goals as goal

pub unwrap-slot-requires : goal.unwrap-slot-requires
unwrap-slot-requires c =
    let there = usable_there (service_of c.self.inside.inner) c.args.session _ c.self.invariant.service (free_in c.self.view_is c.requires.free).usable in
    ap is_some c.slot_of.ensures ∙ has_slot _ _ (is_occupant _ _ (ap (λ s. is_some (get s.attachments c.args.session)) c.attachments.view_is ∙ there))

pub add-requires-clause-slot : goal.add-requires-clause-slot
add-requires-clause-slot c = slot-below _ _ _ _ _ c.attachments.invariant _ _ (sym c.slot_of.ensures ∙ c.unwrap-slot.ensures)

pub add-requires-clause-new : goal.add-requires-clause-new
add-requires-clause-new c =
    sym (get-in_slot _ _ c.attachments.invariant.agree _ c.attachments.invariant.owned _ _ _ (sym c.slot_of.ensures ∙ c.unwrap-slot.ensures))
    ∙ ap (λ s. get s.waiting (c.args.session, c.args.number)) c.attachments.view_is
    ∙ (free_in c.self.view_is c.requires.free).new

pub add-requires-clause-room : goal.add-requires-clause-room
add-requires-clause-room c =
    let in_slot = count-in_slot _ _ c.attachments.invariant.agree _ c.attachments.invariant.owned _ _ (sym c.slot_of.ensures ∙ c.unwrap-slot.ensures) in
    let same = ap (λ s. count_of s.waiting c.args.session) c.attachments.view_is in
    let room = room_for (service_of c.self.inside.inner) c.args.session c.args.number c.self.invariant.service (free_in c.self.view_is c.requires.free) in
    omega (arith, sym in_slot ∙ same, room)

pub add-requires-clause-word : goal.add-requires-clause-word
add-requires-clause-word c =
    let old = c.self.inside.inner in
    let asked = rw (← c.self.view_is) at c.requires.waits in
    let at = waits_there (directory_of old.state) c.args.array c.args.index c.args.op asked in
    let (n, length, below) = word_below (get old.state.arrays c.args.array) c.args.index at.word at.there in
    (n, ap (λ s. get s.arrays c.args.array) c.attachments.view_is ∙ c.self.invariant.arrays c.args.array ∙ length, below)

pub invariant_of-attachments : goal.invariant_of-attachments
invariant_of-attachments c =
    kept-waits _ _ _ _ _ c.attachments.invariant _
    (rw c.add.ensures.added.members (owned-insert _ _ c.attachments.invariant.agree _ c.attachments.invariant.owned _ _ c.args.number (sym c.slot_of.ensures ∙ c.unwrap-slot.ensures) _))

-- the request waits
added : (c : After-add) → by_session c.attachments.inside.owners.items c.add.new.self.members ≡ insert c.self.inside.inner.attachments.waiting (c.args.session, c.args.number) (record { array = c.args.array; index = c.args.index; op = c.args.op })
added c =
    ap (by_session c.attachments.inside.owners.items) c.add.ensures.added.members
    ∙ by_session-insert _ _ c.attachments.invariant.agree _ c.attachments.invariant.owned _ _ _ (sym c.slot_of.ensures ∙ c.unwrap-slot.ensures) _
    ∙ ap (λ s. insert s.waiting (c.args.session, c.args.number) (record { array = c.args.array; index = c.args.index; op = c.args.op })) c.attachments.view_is

pub invariant_of-self : goal.invariant_of-self
invariant_of-self c =
    let waiter : WaitingAccess = record { array = c.args.array; index = c.args.index; op = c.args.op } in
    let asked = rw (← c.self.view_is) at c.requires.waits in
    record {
      service =
          same_service _ _ refl (ap (λ s. s.attachments) c.attachments.view_is) (added (goal.at.invariant_of-self c).After-add) refl
          (waited_service (service_of c.self.inside.inner) c.args.session c.args.number waiter (free_in c.self.view_is c.requires.free).usable asked c.self.invariant.service);
      arrays = λ id. ap (λ m. get m id) c.add.ensures.added.arrays ∙ ap (λ s. get s.arrays id) c.attachments.view_is ∙ c.self.invariant.arrays id;
    }

pub returns : goal.returns
returns c =
    let attachments = ap (λ s. s.attachments) c.attachments.view_is in
    let waiting = added (goal.at.returns c).After-add in
    rw (← c.self.view_is) (λ i. record { state = c.self.inside.inner.state; attachments = attachments i; waiting = waiting i; pending = c.self.inside.inner.pending })
