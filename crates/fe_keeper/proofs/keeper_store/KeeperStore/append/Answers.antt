use Rattle.std.proofs.Common.{◌+◌, length, refl, sym, subst, arith, rules}
use Rattle.std.specs.List.{AllByRecursion}
use Rattle.fe_codec.specs.Record.{CanPut}
use Rattle.fe_format.specs.Layout.{IsPayloadLength}
use Rattle.fe_format.specs.declared.format.Format.{Format}
use Rattle.fe_keeper.specs.within.Upholds.{store_of}
use Rattle.fe_keeper.specs.declared.keeper_store.KeeperStore.{KeeperStore}
use Rattle.fe_keeper.proofs.Appending.{put_in, fits_parts, room_to_catch_up, batch_group, group_size, batch_is_payload, append_leaves, append_upholds, sound_then, value_then}
use Rattle.fe_keeper.proofs.keeper_store.KeeperStore.append.Goals as goal

pub spell-requires-clause-each : goal.spell-requires-clause-each
spell-requires-clause-each g c =
    let old = c.args.self.now in
    let entries = c.args.entries.now in
    subst (λ (f : Format). AllByRecursion (CanPut f) entries) (sym c.store_format-format.ensures) (put_in old.journal.format entries (fits_parts (store_of old) entries c.requires.fits).spellable c.requires.can.each)

pub append_group-requires-clause-allowed : goal.append_group-requires-clause-allowed
append_group-requires-clause-allowed g c =
    let format = c.args.self.now.journal.format in
    let entries = c.args.entries.now in
    let is = batch_group c.store_format-format.result format entries c.deref.result.now c.spell.new.group.items c.deref.ensures.value c.spell.ensures.spelled c.spell.ensures.fits c.store_format-format.ensures c.requires.can.some c.requires.can.few in
    subst (IsPayloadLength format) (sym (group_size format entries c.deref.result.now is)) (batch_is_payload format (length entries) c.requires.can.some c.requires.can.few)

pub append_group-requires-clause-fits : goal.append_group-requires-clause-fits
append_group-requires-clause-fits g c =
    let old = c.args.self.now in
    let entries = c.args.entries.now in
    let is = batch_group c.store_format-format.result old.journal.format entries c.deref.result.now c.spell.new.group.items c.deref.ensures.value c.spell.ensures.spelled c.spell.ensures.fits c.store_format-format.ensures c.requires.can.some c.requires.can.few in
    let size = group_size old.journal.format entries c.deref.result.now is in
    let parts = fits_parts (store_of old) entries c.requires.fits in
    omega (arith, size, parts.room)

pub catch_up-requires-clause-room : goal.catch_up-requires-clause-room
catch_up-requires-clause-room g c =
    let old = c.args.self.now in
    let entries = c.args.entries.now in
    room_to_catch_up old.place (length entries) old.journal old.checkpoint c.requires.can.sound.checkpoint (fits_parts (store_of old) entries c.requires.fits).catches_up

pub returns-in_err-append_group-clause-stored : goal.returns-in_err-append_group-clause-stored
returns-in_err-append_group-clause-stored g c = record {
  counts = search rules;
  ends = search rules;
  leads = λ honest s upheld always legal.
      let old = c.args.self.now in
      let entries = c.args.entries.now in
      let is = batch_group c.store_format-format.result old.journal.format entries c.deref.result.now c.spell.new.group.items c.deref.ensures.value c.spell.ensures.spelled c.spell.ensures.fits c.store_format-format.ensures c.requires.can.some c.requires.can.few in
      record {
        any_moment = append_leaves g.D.Disk old c.append_group.new.self.disk s entries c.deref.result.now upheld is legal (c.append_group.ensures.any_moment honest);
        upheld = search rules;
      };
}

pub returns-clause-stored : goal.returns-clause-stored
returns-clause-stored g c =
    let old = c.args.self.now in
    let entries = c.args.entries.now in
    let new : KeeperStore g.row.D.Denot = record { journal = c.append_group.new.self; group = c.spell.new.group; place = old.place + length c.args.entries.now; checkpoint = c.catch_up.new.checkpoint } in
    record {
      counts = record {
        sound =
            sound_then old new c.args.entries.now c.append_group.new.self.disk (old.journal.used + (5 + length c.deref.result.now)) c.requires.can.sound c.requires.fits c.in_ok-append_group.ensures.value c.requires.can.some refl c.requires.can.place c.spell.ensures.room c.catch_up.ensures;
        place = refl;
      };
      ends = search rules;
      leads = λ honest s upheld always legal.
          let is = batch_group c.store_format-format.result old.journal.format entries c.deref.result.now c.spell.new.group.items c.deref.ensures.value c.spell.ensures.spelled c.spell.ensures.fits c.store_format-format.ensures c.requires.can.some c.requires.can.few in
          record {
            any_moment = append_leaves g.D.Disk old c.append_group.new.self.disk s entries c.deref.result.now upheld is legal (c.append_group.ensures.any_moment honest);
            upheld = append_upholds g.D.Disk old new s entries c.deref.result.now upheld is legal (c.in_ok-append_group.ensures.appended honest) c.catch_up.ensures;
          };
    }

pub returns-clause-value : goal.returns-clause-value
returns-clause-value g c =
    let old = c.args.self.now in
    let entries = c.args.entries.now in
    let new : KeeperStore g.row.D.Denot = record { journal = c.append_group.new.self; group = c.spell.new.group; place = old.place + length entries; checkpoint = c.catch_up.new.checkpoint } in
    let is = batch_group c.store_format-format.result old.journal.format entries c.deref.result.now c.spell.new.group.items c.deref.ensures.value c.spell.ensures.spelled c.spell.ensures.fits c.store_format-format.ensures c.requires.can.some c.requires.can.few in
    value_then old new entries c.append_group.new.self.disk (length c.deref.result.now) c.in_ok-append_group.ensures.value (group_size old.journal.format entries c.deref.result.now is) refl c.catch_up.ensures
