use Rattle.std.proofs.Common.{◌≡◌, ℕ, ◌-◌, List, take, Option, None, IfSome, sym, ◌∙◌, ap, subst, arith}
use Rattle.fe_journal.specs.Contents.{end_of_groups}
use Rattle.fe_journal.specs.Journal.{JournalState, catch_up_groups, area_start}
use Rattle.fe_journal.specs.declared.begun.Begun.{Begun}
use Rattle.fe_journal.proofs.Buffers.{buffer_whole, start_end}
use Rattle.fe_disk.proofs.Outcomes.{at_ok}
use Rattle.fe_journal.proofs.Begins.{finish_run, finish_kept, each_whole}
use Rattle.fe_journal.proofs.journal.Journal.slot_finish.Goals as goal

pub returns-clause-any_moment : goal.returns-clause-any_moment
returns-clause-any_moment g c =
    let buffer = c.put_area_start-count.new.buffer in
    let count = c.put_area_start-count.result in
    let whole : c.deref.result.now ≡ buffer = c.deref.ensures.value ∙ buffer_whole buffer c.self.inside.buffer.items c.self.inside.buffer.len (omega (arith, c.put_area_start-count.ensures.put.same, c.deref_mut.ensures.len)) in
    let bytes_are : take count c.deref.result.now ≡ area_start c.args.catch_up.now = ap (λ (l : List ℕ). take count l) whole ∙ c.put_area_start-count.ensures.put.bytes_are in
    finish_run g.D.Disk c.self.inside c.args.self.now c.self.view_is (g.met.D.Disk.seen_may_stay c.self.inside.disk) c.args.catch_up.now _ c.area_of.result c.gate_of.result c.area_of.ensures c.gate_of.ensures bytes_are (each_whole c.args.self.now.begun c.args.catch_up.now c.requires.begun) c.commit-outcome.new.disk c.commit-outcome.ensures.any_moment

pub returns-then-is_err-clause-any_moment : goal.returns-then-is_err-clause-any_moment
returns-then-is_err-clause-any_moment g c =
    let buffer = c.put_area_start-count.new.buffer in
    let count = c.put_area_start-count.result in
    let whole : c.deref.result.now ≡ buffer = c.deref.ensures.value ∙ buffer_whole buffer c.self.inside.buffer.items c.self.inside.buffer.len (omega (arith, c.put_area_start-count.ensures.put.same, c.deref_mut.ensures.len)) in
    let bytes_are : take count c.deref.result.now ≡ area_start c.args.catch_up.now = ap (λ (l : List ℕ). take count l) whole ∙ c.put_area_start-count.ensures.put.bytes_are in
    finish_run g.D.Disk c.self.inside c.args.self.now c.self.view_is (g.met.D.Disk.seen_may_stay c.self.inside.disk) c.args.catch_up.now _ c.area_of.result c.gate_of.result c.area_of.ensures c.gate_of.ensures bytes_are (each_whole c.args.self.now.begun c.args.catch_up.now c.requires.begun) c.commit-outcome.new.disk c.commit-outcome.ensures.any_moment

pub returns-clause-finished : goal.returns-clause-finished
returns-clause-finished g c =
    let buffer = c.put_area_start-count.new.buffer in
    let count = c.put_area_start-count.result in
    let whole : c.deref.result.now ≡ buffer = c.deref.ensures.value ∙ buffer_whole buffer c.self.inside.buffer.items c.self.inside.buffer.len (omega (arith, c.put_area_start-count.ensures.put.same, c.deref_mut.ensures.len)) in
    let bytes_are : take count c.deref.result.now ≡ area_start c.args.catch_up.now = ap (λ (l : List ℕ). take count l) whole ∙ c.put_area_start-count.ensures.put.bytes_are in
    let works = sym c.is_err.ensures.value ∙ c.if-is_err.false in
    let end = start_end buffer c.args.catch_up.now count (omega (arith, c.put_area_start-count.ensures.within, c.put_area_start-count.ensures.put.same)) c.put_area_start-count.ensures.put.bytes_are in
    finish_kept g.D.Disk c.self.inside c.args.self.now c.self.view_is (g.met.D.Disk.seen_may_stay c.self.inside.disk) c.args.catch_up.now _ c.area_of.result c.gate_of.result c.area_of.ensures c.gate_of.ensures bytes_are (each_whole c.args.self.now.begun c.args.catch_up.now c.requires.begun) c.commit-outcome.new.disk c.in-Some.begun (count - 1) c.in-Some.is end
    (λ honest. at_ok c.commit-outcome.result works (c.commit-outcome.ensures.committed honest)) (λ honest. at_ok c.commit-outcome.result works (c.commit-outcome.ensures.durable honest))

pub returns-clause-value : goal.returns-clause-value
returns-clause-value g c =
    let end = start_end c.put_area_start-count.new.buffer c.args.catch_up.now c.put_area_start-count.result (omega (arith, c.put_area_start-count.ensures.within, c.put_area_start-count.ensures.put.same)) c.put_area_start-count.ensures.put.bytes_are in
    let made : ℕ → Begun → JournalState g.row.D.Denot → JournalState g.row.D.Denot = λ used b s. record { disk = c.commit-outcome.new.disk; slot = 1 - s.slot; format = b.format; generation = b.generation; used = used; begun = None; has_failed = s.has_failed } in
    let mine : JournalState g.row.D.Denot = record { disk = c.self.inside.disk; slot = c.self.inside.slot; format = c.self.inside.format; generation = c.self.inside.generation; used = c.self.inside.used; begun = c.self.inside.begun; has_failed = c.self.inside.has_failed } in
    subst (λ (s : JournalState g.row.D.Denot). IfSome s.begun (λ b. made (c.put_area_start-count.result - 1) c.in-Some.begun mine ≡ made (end_of_groups (catch_up_groups c.args.catch_up.now)) b s)) c.self.view_is
    (subst (λ (o : Option Begun). IfSome o (λ b. made (c.put_area_start-count.result - 1) c.in-Some.begun mine ≡ made (end_of_groups (catch_up_groups c.args.catch_up.now)) b mine)) (sym c.in-Some.is)
    (ap (λ (k : ℕ). made k c.in-Some.begun mine) end))
