use Rattle.std.proofs.Common.{◌≡◌, inr, false, refl, sym, ap, subst, ◌∙◌, arith, rules}
use Rattle.std.specs.Prelude.{Err, IfSome}
use Rattle.fe_state.specs.State.{ServerState, after_all}
use Rattle.fe_replica.proofs.Following.{place_after}
use Rattle.fe_replica.proofs.Numbered.{legal_can_be_put}
use Rattle.fe_keeper.specs.Ends.{Breaks, Refuses, ForBatch}
use Rattle.fe_keeper.specs.Stands.{EachStandsFor}
use Rattle.fe_keeper.specs.within.Faults.{fault_of_refused, fault_of_journal}
use Rattle.fe_keeper.specs.within.Ends.{IsImageOf}
use Rattle.fe_keeper.specs.within.Upholds.{kept_of, Upholds}
use Rattle.fe_keeper.specs.declared.keeper.Keeper.TheInside.{Inside}
use Rattle.fe_keeper.proofs.Ends.{append_fails, take_fails, device_fails, memory_fails}
use Rattle.fe_keeper.proofs.Taking.{each_stands, same_kept, none_put, calls_there}
use Rattle.fe_keeper.proofs.keeper.Keeper.append.Goals as goal

pub put-requires : goal.put-requires
put-requires g c =
    let before = c.self.inside.state in
    let entries = c.as_slice-entries.result.now in
    let continues = c.in_default.ensures.continues in
    let now = place_after before entries in
    let stored : c.whole_before.new.state ≡ after_all before entries = c.in-Ok.ensures.taken.state_is ∙ ap (λ (s : ServerState). after_all s entries) c.in_default.ensures.beginning in
    let there : c.whole_before.new.state.place ≡ _ = ap (λ (s : ServerState). s.place) stored in
    record {
      can = record {
        batch = record {
          sound = c.self.invariant.store;
          works = sym c.has_failed.ensures ∙ c.if-has_failed.false;
          some = continues.some;
          few = c.as_slice-entries.ensures.most;
          each = legal_can_be_put before entries c.limits.ensures continues.legal;
          place = omega (arith, now, there, c.self.invariant.place, c.limits-2.ensures.place);
        };
        made = c.in-Ok.ensures.made.made;
      };
    }

pub returns-in-Err-clause-ends : goal.returns-in-Err-clause-ends
returns-in-Err-clause-ends g c =
    let old = c.self.inside in
    let new : Inside g.row.D.Denot = record { store = old.store; state = c.take.new.state; log = c.take.new.log; alloc = old.alloc } in
    let batch = c.args.batch in
    let entries = c.as_slice-entries.result.now in
    let works : old.store.journal.has_failed ≡ false = sym c.has_failed.ensures ∙ c.if-has_failed.false in
    let none : Refuses (kept_of old) (kept_of new) = record { before = works; same = same_kept old new c.in-Err.ensures.err.0 refl } in
    append_fails g.D.Disk (kept_of old) c.args.self.now (kept_of new) batch batch c.from.result (fault_of_refused c.in-Err.refused) entries c.from.ensures c.self.view_is c.as_slice-entries.ensures.entries
    (take_fails g.D.Disk c.in-Err.refused (kept_of old) (kept_of new) batch.first entries (λ place is. c.in-Err.ensures.mismatch place (ap Err is)) (λ is. c.in-Err.ensures.memory (ap Err is)) none)

pub returns-in-Err-whole_before-clause-ends : goal.returns-in-Err-whole_before-clause-ends
returns-in-Err-whole_before-clause-ends g c =
    let old = c.self.inside in
    let new : Inside g.row.D.Denot = record { store = old.store; state = c.whole_before.new.state; log = c.whole_before.new.log; alloc = old.alloc } in
    let batch = c.args.batch in
    let entries = c.as_slice-entries.result.now in
    let fault = c.in-Err-whole_before.fault in
    let memory = c.in-Err-whole_before.ensures.memory in
    let works : old.store.journal.has_failed ≡ false = sym c.has_failed.ensures ∙ c.if-has_failed.false in
    let none : Refuses (kept_of old) (kept_of new) = record { before = works; same = same_kept old new (c.in-Err-whole_before.ensures.err.0 ∙ c.in_default.ensures.beginning) refl } in
    append_fails g.D.Disk (kept_of old) c.args.self.now (kept_of new) batch batch fault fault entries refl c.self.view_is c.as_slice-entries.ensures.entries
    (memory_fails g.D.Disk (ForBatch (kept_of old) batch.first entries) fault (kept_of old) (kept_of new) memory.0 (inr memory.1) none)

pub returns-in-Err-put-clause-ends : goal.returns-in-Err-put-clause-ends
returns-in-Err-put-clause-ends g c =
    let old = c.self.inside in
    let new : Inside g.row.D.Denot = record { store = c.put.new.self; state = c.rewind.new.self; log = c.rewind.new.log; alloc = old.alloc } in
    let batch = c.args.batch in
    let entries = c.as_slice-entries.result.now in
    let fault = c.in-Err-put.fault in
    let failed = c.in-Err-put.ensures.stored.ends.outcome in
    let works : old.store.journal.has_failed ≡ false = sym c.has_failed.ensures ∙ c.if-has_failed.false in
    let breaks : Breaks g.D.Disk (kept_of old) (kept_of new) = record { before = works; failed = failed.1.failed; rises = failed.1.rises } in
    append_fails g.D.Disk (kept_of old) c.args.self.now (kept_of new) batch batch c.from-in-Err-put.result (fault_of_journal fault) entries c.from-in-Err-put.ensures c.self.view_is c.as_slice-entries.ensures.entries
    (device_fails g.D.Disk (ForBatch (kept_of old) batch.first entries) fault (kept_of old) (kept_of new) failed.0 c.in_default.ensures.continues breaks)

pub returns-in-Err-whole_before-clause-any_moment : goal.returns-in-Err-whole_before-clause-any_moment
returns-in-Err-whole_before-clause-any_moment g c =
    none_put g.D.Disk c.self.inside c.whole_before.new.state c.args.self.now c.args.batch.entries c.self.invariant c.self.view_is
    (λ image honest left. g.met.D.Disk.only_now c.self.inside.store.journal.disk image honest left)

pub returns-in-Err-whole_before-clause-durable : goal.returns-in-Err-whole_before-clause-durable
returns-in-Err-whole_before-clause-durable g c = λ honest works.
    let old = c.self.inside in
    let back : c.whole_before.new.state ≡ old.state = c.in-Err-whole_before.ensures.err.0 ∙ c.in_default.ensures.beginning in
    subst (λ (s : ServerState). EachStandsFor g.D.Disk old.store.journal.disk s) (sym back)
    (each_stands g.D.Disk old.store old.state (c.self.invariant.upheld honest works))

pub invariant_of-self-in-Ok-put : goal.invariant_of-self-in-Ok-put
invariant_of-self-in-Ok-put g c =
    let old = c.self.inside in
    let entries = c.as_slice-entries.result.now in
    let works : old.store.journal.has_failed ≡ false = sym c.has_failed.ensures ∙ c.if-has_failed.false in
    let image : IfSome c.in-Ok.whole (λ made. IsImageOf made old.state) = subst (λ (s : ServerState). IfSome c.in-Ok.whole (λ made. IsImageOf made s)) c.in_default.ensures.beginning c.in-Ok.ensures.made.image in
    let stored : c.whole_before.new.state ≡ after_all old.state entries = c.in-Ok.ensures.taken.state_is ∙ ap (λ (s : ServerState). after_all s entries) c.in_default.ensures.beginning in
    let there : c.whole_before.new.state.place ≡ _ = ap (λ (s : ServerState). s.place) stored in
    let now = place_after old.state entries in
    record {
      store = c.in-Ok-put.ensures.stored.counts.sound;
      place = omega (arith, now, there, c.self.invariant.place, c.in-Ok-put.ensures.stored.counts.place);
      log = search rules;
      room = search rules;
      upheld = λ honest still.
          let before = c.put.ensures.stored.ends.honesty.0 honest in
          subst (λ (s : ServerState). Upholds g.D.Disk c.put.new.self s) (sym stored)
          (c.in-Ok-put.ensures.stored.leads before old.state (c.self.invariant.upheld before works) image c.in_default.ensures.continues.legal).upheld;
    }

pub returns-in-Ok-put-clause-durable : goal.returns-in-Ok-put-clause-durable
returns-in-Ok-put-clause-durable g c = λ honest still.
    let old = c.self.inside in
    let entries = c.as_slice-entries.result.now in
    let works : old.store.journal.has_failed ≡ false = sym c.has_failed.ensures ∙ c.if-has_failed.false in
    let image : IfSome c.in-Ok.whole (λ made. IsImageOf made old.state) = subst (λ (s : ServerState). IfSome c.in-Ok.whole (λ made. IsImageOf made s)) c.in_default.ensures.beginning c.in-Ok.ensures.made.image in
    let stored : c.whole_before.new.state ≡ after_all old.state entries = c.in-Ok.ensures.taken.state_is ∙ ap (λ (s : ServerState). after_all s entries) c.in_default.ensures.beginning in
    let before = c.put.ensures.stored.ends.honesty.0 honest in
    subst (λ (s : ServerState). EachStandsFor g.D.Disk c.put.new.self.journal.disk s) (sym stored)
    (each_stands g.D.Disk c.put.new.self (after_all old.state entries)
    (c.in-Ok-put.ensures.stored.leads before old.state (c.self.invariant.upheld before works) image c.in_default.ensures.continues.legal).upheld)

pub returns-in-Ok-put-clause-calls : goal.returns-in-Ok-put-clause-calls
returns-in-Ok-put-clause-calls g c =
    let image : IfSome c.in-Ok.whole (λ made. IsImageOf made c.self.inside.state) = subst (λ (s : ServerState). IfSome c.in-Ok.whole (λ made. IsImageOf made s)) c.in_default.ensures.beginning c.in-Ok.ensures.made.image in
    calls_there g.D.Disk c.self.inside c.args.self.now c.put.new.self.journal.disk c.as_slice-entries.result.now c.args.batch.entries c.in-Ok.whole c.self.view_is c.as_slice-entries.ensures.entries image c.put.ensures.calls

pub returns-in-Err-put-clause-calls : goal.returns-in-Err-put-clause-calls
returns-in-Err-put-clause-calls g c =
    let image : IfSome c.in-Ok.whole (λ made. IsImageOf made c.self.inside.state) = subst (λ (s : ServerState). IfSome c.in-Ok.whole (λ made. IsImageOf made s)) c.in_default.ensures.beginning c.in-Ok.ensures.made.image in
    calls_there g.D.Disk c.self.inside c.args.self.now c.put.new.self.journal.disk c.as_slice-entries.result.now c.args.batch.entries c.in-Ok.whole c.self.view_is c.as_slice-entries.ensures.entries image c.put.ensures.calls
