use Rattle.std.proofs.Common.{true, refl}
use Rattle.std.specs.Prelude.{is_ok}
use Rattle.fe_codec.proofs.Appends.{appends_both}
use Rattle.fe_codec.proofs.writing.put_session.Goals as goal

pub returns-clause-appends : goal.returns-clause-appends
returns-clause-appends c =
    let two = appends_both _ _ _ _ _ _ true true _ _ refl c.in_ok-put_u64.ensures c.in_ok-put_u64-2.ensures in
    let three = appends_both _ _ _ _ _ _ true true _ _ refl two c.in_ok-put_u32.ensures in
    rw (← c.len.ensures.count) (appends_both _ _ _ _ _ _ true (is_ok c.put_answers.result) _ _ refl three c.put_answers.ensures.appends)
