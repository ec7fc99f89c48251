use Rattle.std.proofs.Common.{◌≡◌, ℕ, ◌+◌, ◌-◌, ◌<◌, List, true, Err, ap, arith}
use Rattle.fe_journal.specs.Contents.{Lists}
use Rattle.fe_journal.specs.Layout.{area_bytes}
use Rattle.fe_replica.specs.declared.replaying.ReplayFault.{ReplayFault}
use Rattle.fe_keeper.specs.within.Replaying.{IsNext}
use Rattle.fe_keeper.proofs.Going.{IsRead, going_on, going_ends, listing_on, no_next, is_next, not_bad, bad_here, bad_within, goes_up}
use Rattle.fe_keeper.proofs.recovering.replay_all.Goals as goal

pub loop-payload-smaller : goal.loop-payload-smaller
loop-payload-smaller c =
    let listing = c.loop-payload.invariant.listing in
    let is : IsRead c.loop-payload.groups c.in-Some.payload.now = record { some = λ none. (let e = c.in-Some.ensures.none none in cc); first = c.in-Some.ensures.next } in
    let up = goes_up listing.0 c.loop-payload.groups c.skip.new.self c.in-Some.payload.now is listing.1 c.skip.ensures.at c.in-Some.ensures.within in
    let fewer : area_bytes - c.skip.new.self.at < area_bytes - c.loop-payload.groups.at = omega (arith, up.0, up.1) in
    fewer

pub loop-payload-preserved : goal.loop-payload-preserved
loop-payload-preserved c =
    let groups = c.loop-payload.groups in
    let is : IsRead groups c.in-Some.payload.now = record { some = λ none. (let e = c.in-Some.ensures.none none in cc); first = c.in-Some.ensures.next } in
    let next : (left : List (List ℕ)) → Lists groups left → IsNext c.args.format left c.skip.new.self c.loop-payload.state c.replay.new.state true = λ left lists.
    is_next c.args.format left groups c.skip.new.self c.in-Some.payload.now c.loop-payload.state c.replay.new.state is c.skip.ensures.rest c.in-Ok.ensures.ok lists in
    record {
      listing = listing_on c.args.format groups c.skip.new.self c.loop-payload.state c.replay.new.state c.loop-payload.invariant.listing c.skip.ensures.at next;
      going = λ payloads lists.
          going_on c.args.format payloads (c.args.groups.now.start + c.args.groups.now.at) groups c.skip.new.self c.args.state.now c.loop-payload.state c.replay.new.state
          (c.loop-payload.invariant.going payloads lists) c.skip.ensures.at next;
    }

pub overflow_add-result : goal.overflow_add-result
overflow_add-result c =
    omega (arith, c.offset.ensures.within, bad_within c.args.format c.in-Some.payload.now c.loop-payload.state c.in-Err-Damaged.offset (c.in-Err-Damaged.ensures.damaged c.in-Err-Damaged.offset (ap (λ (f : ReplayFault). Err f) c.in-Err-Damaged.field-0-is)), c.in-Some.ensures.within)

pub returns-in-Err-Damaged-clause-refused : goal.returns-in-Err-Damaged-clause-refused
returns-in-Err-Damaged-clause-refused c = λ payloads lists can.
    let h = c.loop-payload.invariant.going payloads lists in
    let is : IsRead c.loop-payload.groups c.in-Some.payload.now = record { some = λ none. (let e = c.in-Some.ensures.none none in cc); first = c.in-Some.ensures.next } in
    absurd (not_bad c.args.format h.left c.loop-payload.groups c.in-Some.payload.now c.loop-payload.state c.in-Err-Damaged.offset is h.lists (h.goes can) (c.in-Err-Damaged.ensures.damaged c.in-Err-Damaged.offset (ap (λ (f : ReplayFault). Err f) c.in-Err-Damaged.field-0-is)))

pub returns-in-Err-Damaged-clause-damaged : goal.returns-in-Err-Damaged-clause-damaged
returns-in-Err-Damaged-clause-damaged c = λ offset payloads asked lists.
    let h = c.loop-payload.invariant.going payloads lists in
    let is : IsRead c.loop-payload.groups c.in-Some.payload.now = record { some = λ none. (let e = c.in-Some.ensures.none none in cc); first = c.in-Some.ensures.next } in
    let told : c.offset.result + c.in-Err-Damaged.offset ≡ offset = cc in
    h.bad offset (bad_here c.args.format h.left c.loop-payload.groups c.in-Some.payload.now c.loop-payload.state c.in-Err-Damaged.offset offset is h.lists
    (c.in-Err-Damaged.ensures.damaged c.in-Err-Damaged.offset (ap (λ (f : ReplayFault). Err f) c.in-Err-Damaged.field-0-is)) (omega (arith, told, c.offset.ensures.value)))

pub returns-clause-all : goal.returns-clause-all
returns-clause-all c = λ payloads lists.
    let groups = c.loop-payload.groups in
    going_ends c.args.format payloads (c.args.groups.now.start + c.args.groups.now.at) groups groups c.args.state.now c.loop-payload.state c.loop-payload.state (c.loop-payload.invariant.going payloads lists)
    (λ left more. no_next c.args.format left groups c.loop-payload.state (λ payload rest some. absurd (c.in_default.ensures.next payload rest some)) more)
