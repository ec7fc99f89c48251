use Rattle.std.proofs.Common.{◌≡◌, ℕ, List, [], ◌∷◌, length, sym, ap, subst, ◌∙◌, arith, rules, length-append}
use Rattle.fe_state.specs.declared.batch.Batch.{Batch}
use Rattle.fe_history.specs.Acts.{HasStoredNext, WasCut, stores_in}
use Rattle.fe_history.specs.declared.act.Act.{Act}
use Rattle.fe_history.specs.declared.act.Act.TheVariants.{Stored}
use Rattle.fe_history.specs.Rules.{WasAppended}
use Rattle.fe_history.proofs.Acts.{appended_rise, cut_later, note_adds, prefix_trans}
use Rattle.fe_history.proofs.store_seat.StoreSeat.note.Goals as goal

pub store-requires-clause-cut : goal.store-requires-clause-cut
store-requires-clause-cut g c =
    subst (λ (n : ℕ). WasCut c.learn.new.self n c.args.batch.now) (sym c.if-self-count.false)
    (cut_later c.args.cuts.now c.learn.new.self c.args.count c.args.batch.now c.learn.ensures.1 c.requires.cut)

pub invariant_of-self : goal.invariant_of-self
invariant_of-self g c =
    let batch : Batch = c.args.batch.now in
    let moment : ℕ = g.D.Disk.moment c.args.keeper.now.store.disk in
    let before : List Act = c.again-history.result in
    let s = c.store.ensures.stored (search rules) in
    let count : c.self.inside.stored ≡ length (stores_in before) = c.self.invariant ∙ ap (λ (h : List Act). length (stores_in h)) (sym c.again-history.ensures) in
    let adds =
    note_adds before c.store.new.self batch moment c.self.inside.stored count
    (record { earlier = s.0.earlier; seen = prefix_trans before c.learn.new.self s.0.earlier c.learn.ensures.0 s.0.seen; is = s.0.is }) s.1 in
    omega (arith, count, ap length adds, length-append (stores_in before) ((batch, moment) ∷ []))

pub returns-clause-noted : goal.returns-clause-noted
returns-clause-noted g c =
    let batch : Batch = c.args.batch.now in
    let moment : ℕ = g.D.Disk.moment c.args.keeper.now.store.disk in
    let before : List Act = c.again-history.result in
    let s = c.store.ensures.stored (search rules) in
    let count : c.self.inside.stored ≡ length (stores_in before) = c.self.invariant ∙ ap (λ (h : List Act). length (stores_in h)) (sym c.again-history.ensures) in
    let added : WasAppended before (Stored batch moment) c.store.new.self =
    record { earlier = s.0.earlier; seen = prefix_trans before c.learn.new.self s.0.earlier c.learn.ensures.0 s.0.seen; is = s.0.is } in
    subst (λ (h : List Act). HasStoredNext h batch moment c.store.new.self) (c.again-history.ensures ∙ c.self.view_is)
    (appended_rise before c.store.new.self (Stored batch moment) added, note_adds before c.store.new.self batch moment c.self.inside.stored count added s.1)
