use Rattle.std.proofs.Common.{◌≡◌, ℕ, List, length, ◌∙◌, subst}
use Rattle.fe_look.specs.Slot.{IsHeaderOf}
use Rattle.fe_look.proofs.Headers.{chosen_counts}
use Rattle.fe_look.proofs.header.read_counting.Goals as goal

pub returns-clause-counts : goal.returns-clause-counts
returns-clause-counts g c = λ honest.
    let disk = c.args.disk.now in
    let seen = g.D.Disk.seen disk in
    let whole : length seen ≡ g.D.Disk.size disk = (g.met.D.Disk.seen_is_image disk honest).whole in
    let first = c.in_ok-first.ensures.header honest in
    let there = c.in_ok-second.ensures.header (c.in_ok-first.ensures.device.kept.honesty.1 honest) in
    let second = subst (λ (l : List ℕ). IsHeaderOf l 1 c.in_ok-second.second) (c.in_ok-first.ensures.device.kept.reads honest).same there in
    chosen_counts seen c.in_ok-first.first c.in_ok-second.second (whole ∙ c.requires.device) first second c.chosen.result c.chosen.ensures.counts
