use Rattle.std.proofs.Common.{ap, ◌∙◌}
use Rattle.fe_desk.specs.DeskRunState.{DeskRunState, posted}
use Rattle.fe_desk.proofs.Goes.{passed, after, unstored_short}
use Rattle.fe_desk.proofs.desk_inner.DeskInner.clear.Goals as goal

pub returns-in_err-store : goal.returns-in_err-store
returns-in_err-store g c = passed c.from_residual.ensures.1 unstored_short (λ last is tears. is) c.in_err-store.ensures

pub post-requires : goal.post-requires
post-requires g c = c.in_ok-store.ensures.desk

pub returns : goal.returns
returns g c =
    let goes = c.in_ok-store.ensures in
    after goes c.post.ensures.stays (c.post.ensures.posted ∙ ap (λ (s : DeskRunState). posted s) goes.ends.1)
