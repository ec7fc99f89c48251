use Rattle.std.proofs.Common.{ℕ, List, Option, sym, ap, subst, ◌∙◌, refl}
use Rattle.std.specs.Prelude.{IfSome}
use Rattle.fe_wire.specs.declared.client_message.ClientMessage.{ClientMessage}
use Rattle.fe_history.specs.declared.act.Act.{Act}
use Rattle.fe_history.specs.declared.act.Act.TheVariants.{Asked, Called}
use Rattle.fe_history.specs.Acts.{StandsIn}
use Rattle.fe_history.proofs.Moves.{adds_moves, ask_may, call_may}
use Rattle.fe_history.proofs.history.History.hear.Goals as goal

pub load-requires : goal.load-requires
load-requires g c =
    let h = c.args.history_words.now.stores_are in
    let offer = c.plain-offer.ensures in
    let conn : ℕ = c.into_parts-conn.result.0 in (
      ap (λ w. w.tracked) h,
      c.self.invariant.0 ∙ sym (ap (λ w. w.book) h),
      offer.0,
      rw (ap (λ w. w.key) h, offer.1, offer.3) (adds_moves c.self.inside.seen.log (Asked conn c.in-Attach.session) refl refl (λ log legal pre. ask_may log conn c.in-Attach.session legal)),
    )

pub load-requires-in-Call : goal.load-requires-in-Call
load-requires-in-Call g c =
    let h = c.args.history_words.now.stores_are in
    let offer = c.plain-offer-in-Call.ensures in
    let seen : List Act = c.self.inside.seen.log in
    let conn : ℕ = c.into_parts-conn.result.0 in
    let place : ℕ = c.into_parts-conn.result.2 in
    let asked : IfSome c.args.took.had (λ s. StandsIn seen (Asked c.args.took.conn s)) = rw c.self.view_is c.requires.asked in
    let here : StandsIn seen (Asked conn c.in-Some.session) =
    subst (λ (o : Option ℕ). IfSome o (λ s. StandsIn seen (Asked conn s))) c.in-Some.is
    (subst (λ (p : ℕ × Option ℕ × ℕ × ClientMessage). IfSome p.1 (λ s. StandsIn seen (Asked p.0 s))) (sym c.into_parts-conn.ensures) asked) in (
      ap (λ w. w.tracked) h,
      c.self.invariant.0 ∙ sym (ap (λ w. w.book) h),
      offer.0,
      rw (ap (λ w. w.key) h, offer.1, offer.3)
          (adds_moves seen (Called conn c.in-Some.session c.in-Call.number c.in-Call.request place) refl refl
          (λ log legal pre. call_may seen log conn c.in-Some.session c.in-Call.number c.in-Call.request place legal pre here)),
    )
