use Rattle.std.proofs.Common.{◌≡◌, ◌+◌, [], ◌∷◌, ◌++◌, refl, ◌∙◌}
use Rattle.std.specs.Int.{w32, w64, to_be_bytes}
use Rattle.fe_wire.specs.Spelling.{is_long, name_room, name_field, find_kind}
use Rattle.fe_wire.proofs.MessageLaws.{find_built}
use Rattle.fe_wire.proofs.message_frames.find_frame.Goals as goal

pub returns-clause-spelled : goal.returns-clause-spelled
returns-clause-spelled c =
    let built : c.put_name.new.frame ≡ (to_be_bytes w32 (name_room (is_long c.args.name.now) + 10) ++ find_kind (is_long c.args.name.now) ∷ []) ++ to_be_bytes w64 c.args.number ++ name_field c.args.name.now =
    rw (c.put_name.ensures.field, c.put_u64.ensures.bytes, c.frame_of-frame.ensures, c.from.ensures, c.name_room.ensures, c.find_kind.ensures, c.is_long-is_long.ensures) refl in
    built ∙ find_built c.args.number c.args.name.now c.put_name.ensures.short
