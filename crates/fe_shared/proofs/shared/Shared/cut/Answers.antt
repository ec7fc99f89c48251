use Rattle.std.proofs.Common.{◌≡◌, Bool, List, Some, None, sym, ap, subst, ◌∙◌, arith, rules}
use Rattle.std.specs.Prelude.{if◌then◌else◌}
use Rattle.std.proofs.lemmas.Option.{same_Some}
use Rattle.fe_state.specs.declared.batch.Batch.{Batch}
use Rattle.fe_front.specs.Steps.{has_no_cut}
use Rattle.fe_history.specs.Acts.{WasCut}
use Rattle.fe_shared.specs.Marks.{IsMarked}
use Rattle.fe_history.specs.Rules.{pending_batch}
use Rattle.fe_history.specs.declared.act.Act.{Act}
use Rattle.fe_history.proofs.Acts.{cut_later}
use Rattle.fe_shared.proofs.Marks.{cut_marked, cut_next, cut_was, posted_few, some_pending}
use Rattle.fe_shared.proofs.shared.Shared.cut.Goals as goal

-- each batch that was posted has an entry, and there are fewer than 2^63
pub cut-requires-clause-few : goal.cut-requires-clause-few
cut-requires-clause-few g c =
    let s = c.self.inside in
    let few = posted_few s.front s.posted s.history c.self.invariant.0 in
    let tied = c.state-2.ensures.front.tied.place in
    let limit = c.state-2.ensures.limits.place in
    omega (arith, few, tied, limit)

pub cut-requires-clause-next : goal.cut-requires-clause-next
cut-requires-clause-next g c =
    let s = c.self.inside in
    let some = some_pending (has_no_cut s.front) c.has_cut.result c.has_cut.ensures (search rules) in
    let marked = subst (λ (h : List Act). IsMarked s.front s.posted h) (sym c.again-history.ensures) c.self.invariant.0 in
    cut_next s.front s.posted c.again-history.result marked some

pub invariant_of-self-2 : goal.invariant_of-self-2
invariant_of-self-2 g c =
    let s = c.self.inside in
    let some = some_pending (has_no_cut s.front) c.has_cut.result c.has_cut.ensures (search rules) in
    let marked = subst (λ (h : List Act). IsMarked s.front s.posted h) (sym c.again-history.ensures) c.self.invariant.0 in
    let noted = c.cut.ensures.cut (search rules) in
    (cut_marked s.front s.posted c.again-history.result marked some c.cut.new.self c.shows_legal.ensures.legal noted.0 noted.1 c.cut-2.new.self c.cut-2.ensures.cut, c.self.invariant.1)

pub returns-clause-noted : goal.returns-clause-noted
returns-clause-noted g c =
    let s = c.self.inside in
    let some = some_pending (has_no_cut s.front) c.has_cut.result c.has_cut.ensures (search rules) in
    let marked = subst (λ (h : List Act). IsMarked s.front s.posted h) (sym c.again-history.ensures) c.self.invariant.0 in
    let noted = c.cut.ensures.cut (search rules) in
    let was = cut_was s.front s.posted c.again-history.result marked some c.cut.new.self c.shows_legal.ensures.legal noted.0 noted.1 in
    let next : Some c.in-Some.batch ≡ Some (pending_batch s.front) =
    sym c.in-Some.is ∙ c.cut-2.ensures.batch ∙ ap (λ (b : Bool). if b then None else Some (pending_batch s.front)) some in
    subst (λ (b : Batch). WasCut c.learn.new.self s.posted b) (sym (same_Some _ _ next))
    (cut_later c.cut.new.self c.learn.new.self s.posted (pending_batch s.front) c.learn.ensures.1 was)
