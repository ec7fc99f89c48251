use Rattle.std.proofs.Common.{◌≡◌, ℕ, Some, None, [], ◌∷◌, ◌++◌, sym, ap, subst, rules}
use Rattle.fe_state.specs.declared.batch.Batch.{Batch}
use Rattle.fe_history.specs.Acts.{HasStoredNext, IsStored, stores_in}
use Rattle.fe_hall.specs.Commits.{AppendsAreNoted, Commits, EndsAs, end_of}
use Rattle.fe_hall.specs.declared.commit_end.CommitEnd.{CommitEnd}
use Rattle.fe_hall.specs.declared.commit_end.CommitEnd.TheVariants.{Strange}
use Rattle.fe_hall.proofs.Committed.{group_noted, commits_fault, fault_tells, appended_works, post_tells, still_works}
use Rattle.fe_hall.proofs.Noted.{none_noted, one_noted, one_unnoted}
use Rattle.fe_hall.proofs.committing.commit.Goals as goal

pub note-requires-clause-stored : goal.note-requires-clause-stored
note-requires-clause-stored g c =
    let e = c.in-Ok.ensures.appended in
    let new = c.append.new.self in
    let stored : IsStored c.into_batch-batch.result.0 new.state = record { before = c.args.keeper.now.state; continues = e.continues; state_is = e.state } in
    subst (λ (b : Batch). IsStored b new.state) (sym c.in-Ok.ensures.returned) stored

pub returns-in-Ok-post-clause-commits : goal.returns-in-Ok-post-clause-commits
returns-in-Ok-post-clause-commits g c =
    let e = c.in-Ok.ensures.appended in
    let old = c.args.keeper.now in
    let new = c.append.new.self in
    let batch : Batch = c.into_batch-batch.result.0 in
    let moment : ℕ = g.D.Disk.moment new.store.disk in
    let noted : HasStoredNext c.args.seat.now c.in-Ok.batch moment c.note.new.self = search rules in
    record {
      commits =
          group_noted g.D.Disk g.met.D.Disk.only_now old new None batch c.args.seat.now c.note.new.self e.continues.some e.continues.legal e.state
          (appended_works old.store new.store batch.entries new.store.disk e.store) c.append.ensures.honesty c.append.ensures.durable c.append.ensures.any_moment
          (one_noted g.D.Disk (record { batch = batch; before = old; after = new }) _ c.args.seat.now c.note.new.self noted.0
          (subst (λ (b : Batch). stores_in c.note.new.self ≡ stores_in c.args.seat.now ++ (b, moment) ∷ []) c.in-Ok.ensures.returned noted.1));
      durable = c.append.ensures.durable;
      ended_as = still_works g.D.Disk old new c.in-Ok.ensures.ends;
      honesty = c.append.ensures.honesty;
    }

pub returns-in-Ok-clause-commits : goal.returns-in-Ok-clause-commits
returns-in-Ok-clause-commits g c =
    let e = c.in-Ok.ensures.appended in
    let old = c.args.keeper.now in
    let new = c.append.new.self in
    let batch : Batch = c.into_batch-batch.result.0 in
    let moment : ℕ = g.D.Disk.moment new.store.disk in
    let noted : HasStoredNext c.args.seat.now c.in-Ok.batch moment c.note.new.self = search rules in
    record {
      commits =
          group_noted g.D.Disk g.met.D.Disk.only_now old new (Some c.of_post.result) batch c.args.seat.now c.note.new.self e.continues.some e.continues.legal e.state
          (appended_works old.store new.store batch.entries new.store.disk e.store) c.append.ensures.honesty c.append.ensures.durable c.append.ensures.any_moment
          (one_noted g.D.Disk (record { batch = batch; before = old; after = new }) _ c.args.seat.now c.note.new.self noted.0
          (subst (λ (b : Batch). stores_in c.note.new.self ≡ stores_in c.args.seat.now ++ (b, moment) ∷ []) c.in-Ok.ensures.returned noted.1));
      durable = c.append.ensures.durable;
      ended_as =
          subst (λ (end : CommitEnd). EndsAs g.D.Disk old new (Some end)) (sym c.of_post.ensures)
          (post_tells g.D.Disk old new c.in-Err-post.why (still_works g.D.Disk old new c.in-Ok.ensures.ends));
      honesty = c.append.ensures.honesty;
    }

pub returns-in-Err-note-clause-commits : goal.returns-in-Err-note-clause-commits
returns-in-Err-note-clause-commits g c =
    let e = c.in-Ok.ensures.appended in
    let old = c.args.keeper.now in
    let new = c.append.new.self in
    let seat = c.args.seat.now in
    let batch : Batch = c.into_batch-batch.result.0 in
    record {
      commits =
          subst (λ (end : CommitEnd). (all : Commits g.D.Disk old new (Some end)) × AppendsAreNoted g.D.Disk all.appends (Some end) seat c.note.new.self)
          (sym c.of_note.ensures)
          (group_noted g.D.Disk g.met.D.Disk.only_now old new (Some Strange) batch c.args.seat.now c.note.new.self e.continues.some e.continues.legal e.state
          (appended_works old.store new.store batch.entries new.store.disk e.store) c.append.ensures.honesty c.append.ensures.durable c.append.ensures.any_moment
          (one_unnoted g.D.Disk (record { batch = batch; before = old; after = new }) c.args.seat.now c.note.new.self c.in-Err-note.ensures.unnoted));
      durable = c.append.ensures.durable;
      ended_as =
          subst (λ (end : CommitEnd). EndsAs g.D.Disk old new (Some end)) (sym c.of_note.ensures) (still_works g.D.Disk old new c.in-Ok.ensures.ends);
      honesty = c.append.ensures.honesty;
    }

pub returns-clause-commits : goal.returns-clause-commits
returns-clause-commits g c =
    let e = c.in-Err.ensures in
    let batch : Batch = c.into_batch-batch.result.0 in
    let all =
    commits_fault g.D.Disk g.met.D.Disk.only_now c.args.keeper.now c.append.new.self c.append.ensures.durable c.in-Err.fault
    batch.first batch.entries e.ends e.err c.append.ensures.any_moment in
    let seat = c.args.seat.now in
    record {
      commits =
          subst (λ (end : CommitEnd). (all : Commits g.D.Disk c.args.keeper.now c.append.new.self (Some end)) × AppendsAreNoted g.D.Disk all.appends (Some end) seat seat)
          (sym c.of_store.ensures) (all.0, none_noted g.D.Disk all.0.appends (Some (end_of c.in-Err.fault)) seat all.1);
      durable = c.append.ensures.durable;
      ended_as =
          subst (λ (end : CommitEnd). EndsAs g.D.Disk c.args.keeper.now c.append.new.self (Some end)) (sym c.of_store.ensures)
          (fault_tells g.D.Disk c.args.keeper.now c.append.new.self c.in-Err.fault batch.first batch.entries c.in-Err.ensures.ends);
      honesty = c.append.ensures.honesty;
    }

pub returns-in-Ok-post-clause-stored : goal.returns-in-Ok-post-clause-stored
returns-in-Ok-post-clause-stored g c =
    let e = c.in-Ok.ensures.appended in
    let new = c.append.new.self in
    let stored : IsStored c.into_batch-batch.result.0 new.state = record { before = c.args.keeper.now.state; continues = e.continues; state_is = e.state } in
    subst (λ (b : Batch). IsStored b new.state) (ap (λ (p : Batch × ℕ). p.0) c.into_batch-batch.ensures) stored
