use Rattle.std.proofs.Common.{◌≡◌, ◌<◌, None, sym, ap, ◌∙◌, arith, rules}
use Rattle.std.specs.FinMap as map
use Rattle.std.specs.FinMap.{len-empty}
use Rattle.std.specs.Ordering.{nat_cmp}
use Rattle.fe_table.proofs.TableCopyLemmas.{shown_there, get-made, made-next, made_all, len-insert_absent}
use Rattle.fe_table.proofs.table.TableCopied.copied.Goals as goal

pub loop-position-init : goal.loop-position-init
loop-position-init g c = (c.in_ok-copy.ensures.empty, rw (c.in_ok-copy.ensures.empty, len-empty nat_cmp) (omega arith))

pub unwrap-key-requires : goal.unwrap-key-requires
unwrap-key-requires g c = shown_there _ _ _ c.at.ensures.entry (omega arith)

pub insert-requires : goal.insert-requires
insert-requires g c =
    let here = sym (rw c.unwrap-key.ensures at c.at.ensures.entry) in
    let room : map.len c.loop-position.copy < g.row.ROOM = omega arith in
    let absent : map.get c.loop-position.copy c.unwrap-key.result.0 ≡ None = rw c.loop-position.invariant.0 (get-made _ _ _ here) in
    (search rules, (absent, room))

pub loop-position-preserved : goal.loop-position-preserved
loop-position-preserved g c =
    let here = sym (rw c.unwrap-key.ensures at c.at.ensures.entry) in
    let absent : map.get c.loop-position.copy c.unwrap-key.result.0 ≡ None = rw c.loop-position.invariant.0 (get-made _ _ _ here) in
    let next : c.insert.new.self ≡ map.insert c.loop-position.copy c.unwrap-key.result.0 c.unwrap-key.result.1.now = c.insert.ensures.inserted ∙ ap (map.insert c.loop-position.copy c.unwrap-key.result.0) c.in_ok-copied.ensures in
    let more = ap map.len next ∙ len-insert_absent _ _ _ absent in
    (next ∙ ap (λ m. map.insert m c.unwrap-key.result.0 c.unwrap-key.result.1.now) c.loop-position.invariant.0 ∙ made-next _ _ _ here, omega arith)

pub returns : goal.returns
returns g c = c.loop-position.invariant.0 ∙ made_all _ _ (omega arith)
