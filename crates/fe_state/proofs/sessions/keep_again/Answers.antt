use Rattle.std.proofs.Common.{ℕ, ap, ◌∙◌, sym, take, add-one}
use Rattle.std.specs.Ordering.{nat_cmp}
use Rattle.std.specs.FinMap.{FinMap, insert}
use Rattle.fe_state.specs.declared.kept.Kept.{Kept}
use Rattle.fe_state.specs.DroppedAnswers.{keeping_all}
use Rattle.fe_state.specs.Sessions.{Session}
use Rattle.fe_state.proofs.DroppedLemmas.{keeping_all-append}
use Rattle.fe_table.proofs.TableCopyLemmas.{take-push}
use Rattle.fe_state.proofs.sessions.keep_again.Goals as goal

pub loop-position-preserved : goal.loop-position-preserved
loop-position-preserved c =
    let d = c.dropped_at-dropped.result.now in
    record {
      floor = ap (λ (x : Session). x.floor) c.keep.ensures ∙ c.loop-position.invariant.floor;
      kept = ap (λ (x : Session). x.kept) c.keep.ensures
          ∙ ap (λ (m : FinMap nat_cmp Kept). insert m d.number d.kept) c.loop-position.invariant.kept
          ∙ sym (keeping_all-append c.args.here.now.kept (take c.loop-position.position c.args.log.now.dropped) d)
          ∙ ap (keeping_all c.args.here.now.kept) (sym (ap (λ (n : ℕ). take n c.args.log.now.dropped) (add-one c.loop-position.position) ∙ take-push c.args.log.now.dropped c.loop-position.position d (sym c.dropped_at-dropped.ensures)));
    }
