-- The records of a group, one after another.
use Rattle.std.proofs.Common.{◌≡◌, ℕ, true, false, ◌+◌, ◌*◌, ◌≤◌, List, [], ◌∷◌, ◌++◌, length, Result, Ok, Err, IsOk, refl, sym, ap, subst, ◌∙◌, append_assoc, arith}
use Rattle.std.specs.Prelude.{OnOk}
use Rattle.std.specs.List.{AllByRecursion}
use Rattle.fe_memory.specs.declared.OutOfMemory.{OutOfMemory}
use Rattle.std.proofs.lemmas.List.{length-append}
use Rattle.std.proofs.Math.Nat.{add-mul}
use Rattle.fe_state.specs.declared.entry.Entry.{Entry}
use Rattle.fe_format.specs.Layout.{record_bytes}
use Rattle.fe_codec.specs.Record.{entry_spelling, group_spelling, FitsRecord, FitsGroup, CanPut}
use Rattle.fe_format.specs.declared.format.Format.{Format}
use Rattle.fe_format.specs.declared.format.Format.TheVariants.{One, Two}
use Rattle.fe_codec.proofs.RecordLaws.{one_record_first, length-entry_spelling}

some_record : (format : Format) → 64 ≤ record_bytes format
some_record One = omega arith
some_record Two = omega arith

-- a group with an entry is not nothing
pub not_empty : (format : Format) (entry : Entry) (entries : List Entry) → FitsRecord format entry → group_spelling format (entry ∷ entries) ≡ [] → ⊥
not_empty format entry entries fits same =
    omega (arith, length-append (entry_spelling format entry) (group_spelling format entries), length-entry_spelling format entry fits, some_record format, ap length same)

-- no two groups have one spelling
pub one_group : (format : Format) (xs ys : List Entry) → FitsGroup format xs → FitsGroup format ys → group_spelling format xs ≡ group_spelling format ys → xs ≡ ys
one_group format [] [] a_fits b_fits same = refl
one_group format [] (b ∷ ys) a_fits b_fits same = absurd (not_empty format b ys b_fits.0 (sym same))
one_group format (a ∷ xs) [] a_fits b_fits same = absurd (not_empty format a xs a_fits.0 same)
one_group format (a ∷ xs) (b ∷ ys) a_fits b_fits same =
    let first = one_record_first format a b (group_spelling format xs) (group_spelling format ys) a_fits.0 b_fits.0 same in
    let rest = one_group format xs ys a_fits.1 b_fits.1 first.1 in
    ap (λ (e : Entry). e ∷ xs) first.0 ∙ ap (λ (es : List Entry). b ∷ es) rest

-- what holds in the midst of a group that is put: what is put and what is left are the whole
pub record IsPutting (format : Format) (before out : List ℕ) (entries left : List Entry) (len old_capacity capacity : ℕ) : Type 0 where
  pub items : out ++ group_spelling format left ≡ before ++ group_spelling format entries
  pub each : AllByRecursion (CanPut format) left
  pub room : len + length left * record_bytes format ≤ capacity
  pub grows : old_capacity ≤ capacity
  pub fits : FitsGroup format left → FitsGroup format entries

-- one entry more, for which there is room
pub puts_one : (format : Format) (before out more : List ℕ) (entries left rest : List Entry) (entry : Entry) (len len' old_capacity capacity capacity' : ℕ) (r : Result (Unit {0}) OutOfMemory)
    → left ≡ entry ∷ rest → OnOk r (more ≡ out ++ entry_spelling format entry) → (len + record_bytes format ≤ capacity → IsOk r) → len ≡ length out → len' ≡ length more → capacity ≤ capacity'
    → FitsRecord format entry → IsPutting format before out entries left len old_capacity capacity → IsPutting format before more entries rest len' old_capacity capacity'
puts_one format before out more entries left rest entry len len' old_capacity capacity capacity' r is ok room len_is len'_is grows fits h =
    let h' : IsPutting format before out entries (entry ∷ rest) len old_capacity capacity = subst (λ (es : List Entry). IsPutting format before out entries es len old_capacity capacity) is h in
    let more_room : (length rest + 1) * record_bytes format ≡ length rest * record_bytes format + record_bytes format = add-mul (length rest) 1 (record_bytes format) ∙ omega arith in
    let more_is : more ≡ out ++ entry_spelling format entry = done r ok (room (omega (arith, h'.room, more_room))) in
    let joined : more ++ group_spelling format rest ≡ out ++ (entry_spelling format entry ++ group_spelling format rest) = ap (λ (t : List ℕ). t ++ group_spelling format rest) more_is ∙ append_assoc out (entry_spelling format entry) (group_spelling format rest) in
    let grown : length more ≡ length out + length (entry_spelling format entry) = ap length more_is ∙ length-append out (entry_spelling format entry) in
    record {
      items = joined ∙ h'.items;
      each = h'.each.1;
      room = omega (arith, h'.room, more_room, grown, length-entry_spelling format entry fits, len_is, len'_is, grows);
      grows = omega (arith, h'.grows, grows);
      fits = λ g. h'.fits (fits, g);
    }
  where
    done : (r : Result (Unit {0}) OutOfMemory) → OnOk r (more ≡ out ++ entry_spelling format entry) → IsOk r → more ≡ out ++ entry_spelling format entry
    done (Ok u) ok is_ok = ok
    done (Err e) ok is_ok = let clash : false ≡ true = is_ok in absurd cc
