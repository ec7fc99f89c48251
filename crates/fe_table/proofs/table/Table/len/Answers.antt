use Rattle.std.proofs.Common.{◌∙◌, sym}
use Rattle.fe_table.proofs.Pairs.{len_keys}
use Rattle.fe_table.proofs.table.Table.len.Goals as goal

pub returns-clause-len : goal.returns-clause-len
returns-clause-len g c =
    let kept = c.self.invariant in
    c.len.ensures ∙ c.self.inside.keys.ok.0 ∙ sym (len_keys _ _ _ kept.paired kept.ascending c.self.view_is)
