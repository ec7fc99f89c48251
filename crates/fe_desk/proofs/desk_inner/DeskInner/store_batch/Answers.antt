use Rattle.std.proofs.Common.{◌≡◌, inl, inr, ◌∷◌, [], ◌++◌, length, refl, sym, ap, subst, ◌∙◌, arith}
use Rattle.std.specs.Prelude.{map, is_err, true, false}
use Rattle.std.proofs.lemmas.List.{length-map}
use Rattle.fe_state.specs.State.{after_all}
use Rattle.fe_state.specs.declared.batch.Batch.{Batch}
use Rattle.fe_keeper.specs.declared.fault.Fault.{Fault}
use Rattle.fe_keeper.specs.declared.fault.Fault.TheVariants.{Device}
use Rattle.fe_desk.specs.declared.handed.Handed.TheVariants.{Cut, Stored}
use Rattle.fe_desk.specs.within.Goes.{Faults, Is, IsUnstored}
use Rattle.fe_desk.proofs.Goes.{unstored}
use Rattle.fe_desk.specs.within.Desk.{desk_of, run_state_of, IsAhead, with_handed, handing}
use Rattle.fe_desk.proofs.Growing.{stores_one, handed_back}
use Rattle.fe_desk.proofs.Groups.{legal_both, tied_stored, tied_cut, pushed, unpushed, popped, advances_group, begins_there, no_mismatch, desk_stored, desk_torn}
use Rattle.fe_desk.proofs.Failing.{short_given, device_fault, only_device}
use Rattle.fe_keeper.specs.Ends.{ForBatch}
use Rattle.fe_desk.proofs.desk_inner.DeskInner.store_batch.Goals as goal

pub returns-in-Err : goal.returns-in-Err
returns-in-Err g c =
    unstored {k = g.D.Disk} g.met.D.Disk.only_now refl c.requires
    (record { batch = c.args.batch; handed = refl }) refl

pub returns-in-Err-push : goal.returns-in-Err-push
returns-in-Err-push g c =
    let old = c.args.self.now in
    unstored {k = g.D.Disk} g.met.D.Disk.only_now refl c.requires
    (record { batch = c.args.batch; handed = refl })
    (handed_back (with_handed (desk_of old) (Cut c.args.batch)) c.args.batch c.args.batch _ _ refl
    (unpushed (λ g. g.items) old.trace.groups.items c.push.new.self.items _ c.push.result true c.push.ensures.items (sym (ap is_err c.in-Err-push.is)) refl) refl)

pub returns-in-Ok-append : goal.returns-in-Ok-append
returns-in-Ok-append g c =
    let old = c.args.self.now in
    let batch = c.args.batch in
    let new = c.append.new.self in
    let desk = c.requires.desk in
    let e = c.in-Ok-append.ensures in
    let back : c.in-Ok-append.batch ≡ batch = e.returned in
    let replica : new.state ≡ after_all old.keeper.state batch.entries = e.appended.state in
    let next : new.state ≡ after_all old.keeper.state c.in-Ok-append.batch.entries = replica ∙ ap (λ (b : Batch). after_all old.keeper.state b.entries) (sym back) in
    let tied = subst (λ (b : Batch). IsAhead (handing (run_state_of old) (Cut b)) old.keeper.state) (sym back) desk.tied in
    let stored : c.len.result ≡ length (map (λ g. g.items) c.push.new.self.items) =
    c.len.ensures ∙ omega (arith, c.push.new.self.ok.0, length-map c.push.new.self.items (λ g. g.items)) in
    let groups : map (λ g. g.items) c.push.new.self.items ≡ map (λ g. g.items) old.trace.groups.items ++ batch.entries ∷ [] =
    pushed (λ g. g.items) old.trace.groups.items c.push.new.self.items c.in-Ok.group batch.entries c.push.result false c.push.ensures.items (sym (ap is_err c.in_default.is)) refl
    (c.in-Ok.ensures ∙ c.as_slice.ensures.entries) in
    record {
      desk =
          desk_stored g.D.Disk _
          (tied_stored (run_state_of old) (map (λ g. g.items) c.push.new.self.items) old.keeper.state new.state c.in-Ok-append.batch next tied)
          desk.known stored (λ honest. c.append.ensures.durable honest e.ends.after);
      owes = refl;
      advances =
          advances_group g.D.Disk (with_handed (desk_of old) (Cut batch)) _ batch.entries groups
          (desk.all c.requires.works) desk.tied.handed.1 (legal_both old.keeper.state batch.entries old.front.service.pending desk.tied.legal).0
          (inr (stored, replica)) c.append.ensures.any_moment c.append.ensures.honesty;
      ends = (
        record { fine = record { before = e.ends.before; after = e.ends.after; still = e.ends.still }; grows = stores_one (with_handed (desk_of old) (Cut batch)) _ batch.entries groups e.appended.state e.appended.store },
        ap (λ (b : Batch). record (handing (run_state_of old) (Stored b)) { groups = map (λ g. g.items) c.push.new.self.items }) e.returned ∙ ap (λ gs. record (handing (run_state_of old) (Stored batch)) { groups = gs }) groups,
      );
    }

pub returns-in-NoMemory : goal.returns-in-NoMemory
returns-in-NoMemory g c =
    let old = c.args.self.now in
    let batch = c.args.batch in
    let new = c.append.new.self in
    let kept : new ≡ old.keeper = (short_given g.D.Disk (ForBatch old.keeper batch.first batch.entries) c.in-Err-append.fault old.keeper new c.in-NoMemory.is c.in-Err-append.ensures.ends).1.same in
    let groups : map (λ g. g.items) c.pop.new.self.items ≡ map (λ g. g.items) old.trace.groups.items =
    popped (λ g. g.items) old.trace.groups.items c.push.new.self.items c.pop.new.self.items _ _ c.push.result false c.push.ensures.items (sym (ap is_err c.in_default.is)) refl
    c.push.new.self.ok.0 c.pop.ensures.rest in
    unstored {k = g.D.Disk} g.met.D.Disk.only_now c.in-NoMemory.is c.requires
    (record { batch = batch; handed = refl }) (handed_back (with_handed (desk_of old) (Cut batch)) c.in-Err-append.batch batch _ _ c.in-Err-append.ensures.returned groups kept)

pub returns-in_default-fault : goal.returns-in_default-fault
returns-in_default-fault g c =
    let old = c.args.self.now in
    let batch = c.args.batch in
    let new = c.append.new.self in
    let tied = c.requires.desk.tied in
    let all = c.requires.desk.all c.requires.works in
    let back : c.in-Err-append.batch ≡ batch = c.in-Err-append.ensures.returned in
    let replica : new.state ≡ old.keeper.state = c.in-Err-append.ensures.err in
    let groups : map (λ g. g.items) c.push.new.self.items ≡ map (λ g. g.items) old.trace.groups.items ++ batch.entries ∷ [] =
    pushed (λ g. g.items) old.trace.groups.items c.push.new.self.items c.in-Ok.group batch.entries c.push.result false c.push.ensures.items (sym (ap is_err c.in_default.is)) refl
    (c.in-Ok.ensures ∙ c.as_slice.ensures.entries) in
    let legal = (legal_both old.keeper.state batch.entries old.front.service.pending tied.legal).0 in
    let begins : batch.first ≡ old.keeper.state.place = begins_there old.front old.keeper.state batch c.state.ensures.front.tied tied.handed.0 tied.state in
    let Cause : Fault → Type 0 = ForBatch old.keeper batch.first batch.entries in
    let device : c.in-Err-append.fault ≡ Device =
    only_device g.D.Disk Cause c.in-Err-append.fault old.keeper new c.requires.works (λ is. c.in_default-fault.not-NoMemory _ is)
    (λ place is. no_mismatch old.keeper.state batch.first batch.entries place begins tied.handed.1 legal is) c.in-Err-append.ensures.ends in
    let breaks = (device_fault g.D.Disk Cause c.in-Err-append.fault old.keeper new device c.in-Err-append.ensures.ends).1 in
    record {
      desk =
          desk_torn g.D.Disk g.met.D.Disk.counts_now (with_handed (desk_of old) (Cut batch)) _ batch.entries c.requires.works
          groups all refl replica breaks.failed c.append.ensures.any_moment c.append.ensures.honesty
          (tied_cut (run_state_of old) (map (λ g. g.items) c.push.new.self.items) old.keeper.state new.state batch c.in-Err-append.batch back replica tied) c.requires.desk.known;
      owes = refl;
      advances =
          advances_group g.D.Disk (with_handed (desk_of old) (Cut batch)) _ batch.entries groups all tied.handed.1 legal
          (inl (refl, replica)) c.append.ensures.any_moment c.append.ensures.honesty;
      ends =
          subst
          (Faults g.D.Disk (IsUnstored (with_handed (desk_of old) (Cut batch))) (Is (handing (run_state_of old) (Cut batch))) (with_handed (desk_of old) (Cut batch))
          (with_handed (desk_of (record old { keeper = new; trace = record old.trace { groups = c.push.new.self } })) (Cut c.in-Err-append.batch))) (sym device)
          (record {
            last = handing (run_state_of old) (Cut batch);
            until = refl;
            tears = record {
              at_hand = record { batch = batch; handed = refl };
              run_state = ap (λ (b : Batch). record (handing (run_state_of old) (Cut b)) { groups = map (λ g. g.items) c.push.new.self.items }) back ∙ ap (λ gs. record (handing (run_state_of old) (Cut batch)) { groups = gs }) groups;
              synced = all;
            };
            failed = record { before = breaks.before; failed = breaks.failed; rises = breaks.rises };
          });
    }
