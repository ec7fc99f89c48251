use Rattle.std.proofs.Common.{◌≡◌, ℕ, ◌-◌, ◌≤◌, List, [], ◌∷◌, ◌++◌, length, take, replicate, append_assoc, arith}
use Rattle.std.proofs.lemmas.List.{take-replicate}
use Rattle.fe_wire.specs.Spelling.{is_long, name_room, name_field}
use Rattle.fe_wire.proofs.FieldLaws.{room_le}
use Rattle.fe_wire.proofs.frame.put_name.Goals as goal

abbrev row : List ℕ
row = replicate 32 0

-- the three parts of the field, one after another
built : (old name bytes a b d : List ℕ) (room : ℕ) → bytes ≡ name → room ≡ name_room (is_long name) → a ≡ old ++ length bytes ∷ [] → b ≡ a ++ bytes → d ≡ b ++ take (room - length bytes) row → d ≡ old ++ name_field name
built old name bytes a b d room same room_is first second third =
    let high = room_le (is_long name) in
    let fits : room - length bytes ≤ 32 = omega arith in
    rw (third, take-replicate {X = ℕ} (room - length bytes) 32 0 fits, second, first, room_is, same) (simp append_assoc)

pub returns-clause-field : goal.returns-clause-field
returns-clause-field c =
    let room : c.from-room.result ≡ name_room (is_long c.args.name.now) = cc in
    built c.args.frame.now c.args.name.now c.bytes-bytes.result.now _ _ _ c.from-room.result c.bytes-bytes.ensures.bytes room c.put_u8.ensures.bytes c.put.ensures.bytes c.put-2.ensures.bytes
