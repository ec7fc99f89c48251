use Rattle.std.proofs.Common.{◌≡◌, None, rules}
use Rattle.fe_keeper.specs.Keeper.{is_behind}
use Rattle.fe_keeper.proofs.Checkpoints.{none_under_way, begin_moments, begin_upheld}
use Rattle.fe_keeper.proofs.keeper_store.KeeperStore.begin.Goals as goal

pub returns-in_err-slot_close-clause-step : goal.returns-in_err-slot_close-clause-step
returns-in_err-slot_close-clause-step g c =
    let old = c.args.self.now in
    let none : old.checkpoint ≡ None = none_under_way old.checkpoint (is_behind old.journal.format old.journal.used) c.requires.can.can in
    record {
      stays = search rules;
      ends = search rules;
      carries = λ honest s upholds image. record {
        any_moment = begin_moments g.D.Disk old s c.slot_close.new.self.disk none upholds (c.slot_close.ensures.any_moment honest);
        upheld = search rules;
      };
    }

pub returns-clause-step : goal.returns-clause-step
returns-clause-step g c =
    let old = c.args.self.now in
    let fresh = c.requires.can.fresh in
    let none : old.checkpoint ≡ None = none_under_way old.checkpoint (is_behind old.journal.format old.journal.used) c.requires.can.can in
    record {
      stays = search rules;
      ends = search rules;
      carries = λ honest s upholds image. record {
        any_moment = begin_moments g.D.Disk old s c.slot_close.new.self.disk none upholds (c.slot_close.ensures.any_moment honest);
        upheld =
            begin_upheld g.D.Disk old s c.slot_close.new.self c.args.checkpoint _ _ none upholds (c.in_ok-slot_close.ensures.closed honest) image.fits image.image_is
            fresh.written image.place_is fresh.empty;
      };
    }
