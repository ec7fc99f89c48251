use Rattle.std.proofs.Common.{◌≡◌, ◌+◌, [], ◌∷◌, ◌++◌, refl, ◌∙◌}
use Rattle.std.specs.Int.{w32, w64, to_be_bytes}
use Rattle.fe_codes.specs.Codes.{tag_code}
use Rattle.fe_wire.specs.Spelling.{is_long, name_room, name_field, create_kind}
use Rattle.fe_wire.proofs.MessageLaws.{create_built}
use Rattle.fe_wire.proofs.message_frames.create_frame.Goals as goal

pub returns-clause-spelled : goal.returns-clause-spelled
returns-clause-spelled c =
    let built : c.put_u8.new.self ≡ (to_be_bytes w32 (name_room (is_long c.args.name.now) + 15) ++ create_kind (is_long c.args.name.now) ∷ []) ++ to_be_bytes w64 c.args.number ++ name_field c.args.name.now ++ to_be_bytes w32 c.args.words ++ tag_code c.args.tag ∷ [] =
    rw (c.put_u8.ensures.bytes, c.tag_code.ensures, c.put_u32.ensures.bytes, c.put_name.ensures.field, c.put_u64.ensures.bytes, c.frame_of-frame.ensures, c.from.ensures, c.name_room.ensures, c.create_kind.ensures, c.is_long-is_long.ensures) refl in
    built ∙ create_built c.args.number c.args.name.now c.args.words c.args.tag c.put_name.ensures.short
