use Rattle.std.proofs.Common.{◌≡◌, ℕ, ◌-◌, ◌≤◌, List, ◌++◌, length, take, drop, replicate, append_assoc}
use Rattle.fe_codec.proofs.FieldLaws.{zeros_part}
use Rattle.fe_codec.proofs.record.put_name.Goals as goal

-- the bytes of the name, and the zeros after them
built : (old name bytes a d : List ℕ) (n m : ℕ) → n ≤ 32 → m ≡ n → bytes ≡ name → a ≡ old ++ bytes → d ≡ a ++ take (m - length bytes) (drop (length bytes) (replicate 32 0)) → d ≡ old ++ (name ++ replicate (n - length name) 0)
built old name bytes a d n m le value same first second =
    rw (second, value, zeros_part (length bytes) n le, first, same) (simp append_assoc)

pub returns-clause-bytes : goal.returns-clause-bytes
returns-clause-bytes c =
    built c.args.fields.now c.args.name.now c.bytes-bytes.result.now _ _ _ _ c.name_bytes.ensures.most c.name_bytes.ensures.value c.bytes-bytes.ensures.bytes c.put.ensures.bytes c.put-2.ensures.bytes
