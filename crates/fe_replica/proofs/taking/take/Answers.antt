use Rattle.std.proofs.Common.{◌≡◌, ◌≤◌, ℕ, zero, suc, ◌+◌, Bool, false, List, [], ◌∷◌, ◌++◌, length, take, drop, ap, refl, sym, subst, ◌∙◌, arith}
use Rattle.std.specs.Prelude.{◌==◌}
use Rattle.std.proofs.Math.Seq.{split_at}
use Rattle.std.proofs.lemmas.List.{take_more, take_all}
use Rattle.fe_state.specs.State.{after_all}
use Rattle.fe_state.specs.History.{AreLegal}
use Rattle.fe_state.specs.UndoLog.{empty_log}
use Rattle.fe_state.specs.declared.entry.Entry.{Entry}
use Rattle.fe_replica.specs.Replaying.{AreTaken, IsMismatch}
use Rattle.fe_replica.proofs.Taken.{one_taken, illegal_at}
use Rattle.fe_replica.proofs.taking.take.Goals as goal

pub returns-in_default-clause-mismatch : goal.returns-in_default-clause-mismatch
returns-in_default-clause-mismatch c = λ place is.
    let es : List Entry = c.args.entries.now in
    let i : ℕ = c.loop-entry.entry-index in
    let e : Entry = c.entry-item.result in
    let parts : es ≡ take i es ++ e ∷ drop (suc i) es = split_at es i e c.loop-entry-test.true ∙ ap (λ (x : Entry). take i es ++ x ∷ drop (suc i) es) (sym c.entry-item.is) in
    let at = illegal_at c.args.state.now c.loop-entry.state c.loop-entry.log es (take i es) (drop (suc i) es) e place c.loop-entry.invariant.taken parts
    (λ legal. let e = c.in_default.ensures.legal.1 legal in cc) (cc (is, c.place-place.ensures.place)) in
    IsMismatch.Illegal at.front at.rest at.entry (c.if-first-place.false ∙ c.place.ensures.place) at.parts at.legal at.illegal at.place_is

pub returns-in_default-clause-err : goal.returns-in_default-clause-err
returns-in_default-clause-err c = (
  c.rewind.ensures.beginning ∙ c.loop-entry.invariant.taken.beginning,
  c.rewind.ensures.empty ∙ ap empty_log c.loop-entry.invariant.room ∙ sym c.requires.empty,
)

pub loop-entry-preserved : goal.loop-entry-preserved
loop-entry-preserved c =
    let es : List Entry = c.args.entries.now in
    let i : ℕ = c.loop-entry.entry-index in
    let e : Entry = c.entry-item.result in
    let more : take (i + 1) es ≡ take i es ++ e ∷ [] = take_more es i e c.loop-entry-test.true ∙ ap (λ (x : Entry). take i es ++ x ∷ []) (sym c.entry-item.is) in
    let h = c.in_default-apply.ensures in
    record {
      taken = subst (λ (front : List Entry). AreTaken c.args.state.now front c.apply.new.self c.apply.new.log) (sym more)
          (one_taken c.args.state.now c.loop-entry.state c.apply.new.self c.loop-entry.log c.apply.new.log (take i es) e c.loop-entry.invariant.taken (c.in-Ok.ensures.legal.0 refl) h.ok h.log h.beginning h.length);
      room = h.room ∙ c.loop-entry.invariant.room;
    }

pub returns-clause-taken : goal.returns-clause-taken
returns-clause-taken c = c.loop-entry.invariant.taken.state_is ∙ ap (after_all c.args.state.now) (take_all c.loop-entry.entry-index c.args.entries.now (omega arith))

-- what is not empty has one item at least
positive : (n : ℕ) (b : Bool) → b ≡ (n == 0) → b ≡ false → 1 ≤ n
positive zero b is none = absurd cc
positive (suc n) b is none = omega arith

pub returns-clause-continues : goal.returns-clause-continues
returns-clause-continues c = record {
  begins = c.if-first-place.false ∙ c.place.ensures.place;
  some = positive (length c.args.entries.now) c.is_empty.result c.is_empty.ensures c.if-is_empty.false;
  legal = subst (AreLegal c.args.state.now) (take_all c.loop-entry.entry-index c.args.entries.now (omega arith)) c.loop-entry.invariant.taken.legal;
}
