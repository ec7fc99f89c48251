use Rattle.std.proofs.Common.{◌≡◌, ℕ, ◌-◌, List, ◌++◌, replicate, append_assoc}
use Rattle.std.specs.Int.{w64, to_be_bytes}
use Rattle.fe_format.specs.Layout.{name_bytes}
use Rattle.fe_codec.proofs.FieldLaws.{zeros_part}
use Rattle.fe_codec.proofs.record.put_array.Goals as goal

-- the three parts of the row, one after another
built : (old one two three a b d : List ℕ) → a ≡ old ++ one → b ≡ a ++ two → d ≡ b ++ three → d ≡ old ++ (one ++ two ++ three)
built old one two three a b d first second third = rw (third, second, first) (simp append_assoc)

pub returns-clause-bytes : goal.returns-clause-bytes
returns-clause-bytes c =
    let zeros = zeros_part 16 (name_bytes c.args.format) c.name_bytes.ensures.most in
    built c.args.fields.now (to_be_bytes w64 c.args.array) (to_be_bytes w64 c.args.operand) (replicate (name_bytes c.args.format - 16) 0) _ _ _ c.put_u64.ensures.bytes c.put_u64-2.ensures.bytes
    (rw zeros at (rw c.name_bytes.ensures.value at c.put.ensures.bytes))
