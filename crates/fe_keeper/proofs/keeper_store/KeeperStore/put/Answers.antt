use Rattle.std.proofs.Common.{length, rules}
use Rattle.fe_keeper.proofs.Ends.{passed_ends, then_counts, then_ends}
use Rattle.fe_keeper.proofs.Taking.{stays, then_stored}
use Rattle.fe_keeper.proofs.keeper_store.KeeperStore.put.Goals as goal

pub returns-in_err-make_room-clause-stored : goal.returns-in_err-make_room-clause-stored
returns-in_err-make_room-clause-stored g c =
    let room = c.in_err-make_room.ensures.step in
    record {
      counts = search rules;
      ends = passed_ends g.D.Disk c.from_residual.result c.in_err-make_room.field-0.0 c.args.self.now.journal c.make_room.new.self.journal c.from_residual.ensures.1 room.ends;
      leads = λ honest s upholds image legal. record {
        any_moment = stays g.D.Disk c.args.self.now.journal.disk c.make_room.new.self.journal.disk s c.args.entries.now (room.carries honest s upholds image).any_moment;
        upheld = search rules;
      };
    }

pub returns-clause-stored : goal.returns-clause-stored
returns-clause-stored g c =
    let first = c.in_ok-make_room.ensures.step in
    let second = c.append.ensures.stored in
    record {
      counts = then_counts c.append.result c.args.self.now c.make_room.new.self c.append.new.self (length c.args.entries.now) first.stays.place second.counts;
      ends = then_ends g.D.Disk c.append.result c.args.self.now.journal c.make_room.new.self.journal c.append.new.self.journal first.ends.outcome first.ends.honesty second.ends;
      leads = λ honest s upholds image legal.
          let room = first.carries honest s upholds image in
          let stored = second.leads (first.ends.honesty.1 honest) s room.upheld tt legal in
          record {
            any_moment =
                then_stored g.D.Disk c.args.self.now.journal.disk c.make_room.new.self.journal.disk c.append.new.self.journal.disk s c.args.entries.now room.any_moment
                stored.any_moment;
            upheld = stored.upheld;
          };
    }
