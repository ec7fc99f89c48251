use Rattle.std.proofs.Common.{◌≡◌, Some, ap, sym, ◌∙◌}
use Rattle.std.specs.Prelude.{slice_get}
use Rattle.std.specs.Option.{option_copied}
use Rattle.fe_state.specs.State.{ServerState}
use Rattle.fe_state.proofs.LogLemmas.{latest_follows, latest_change}
use Rattle.fe_state.proofs.state.State.undo.Goals as goal

pub restore-requires : goal.restore-requires
restore-requires c =
    let after : ServerState = record { arrays = c.self.inside.directory.arrays; sessions = c.self.inside.sessions; next_id = c.self.inside.directory.next_id; place = c.self.inside.place } in
    let there : slice_get c.args.log.now.undos 0 ≡ Some c.in-Some.latest.now = sym c.latest.ensures ∙ ap option_copied c.in-Some.is in
    (latest_follows c.args.log.now.undos c.args.log.now.dropped after c.in-Some.latest.now (rw (← c.self.view_is) at c.requires) there).sessions

pub invariant_of-self : goal.invariant_of-self
invariant_of-self c =
    let after : ServerState = record { arrays = c.self.inside.directory.arrays; sessions = c.self.inside.sessions; next_id = c.self.inside.directory.next_id; place = c.self.inside.place } in
    let there : slice_get c.args.log.now.undos 0 ≡ Some c.in-Some.latest.now = sym c.latest.ensures ∙ ap option_copied c.in-Some.is in
    let taken = latest_change _ c.in-Some.latest.now c.take.result c.take.ensures.change there in
    rw (c.restore-2.ensures, c.restore.ensures, taken) (latest_follows c.args.log.now.undos c.args.log.now.dropped after c.in-Some.latest.now (rw (← c.self.view_is) at c.requires) there).limits
