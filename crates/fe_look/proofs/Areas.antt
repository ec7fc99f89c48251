-- A journal area that is copied up to the gate that ends its groups has the same groups.
use Rattle.std.proofs.Common.{◌≡◌, ℕ, ◌+◌, ◌<◌, ◌≤◌, List, [], ◌∷◌, length, get_or, sym, ◌∙◌, subst, refl, arith}
use Rattle.fe_format.specs.declared.format.Format.{Format}
use Rattle.fe_journal.specs.Layout.{number_at, IsGateOpen, IsGateShut}
use Rattle.fe_journal.specs.Contents.{StandFrom, end_of_groups, GroupFits}
use Rattle.fe_journal.proofs.Bytes.{SameBytes, same_part, same_byte, same_number_at}
use Rattle.fe_journal.proofs.Frames.{stand_same}
use Rattle.fe_look.specs.Slot.{GatesEnd}

pub gates_le : (bytes : List ℕ) (area at : ℕ) (ns : List ℕ) (end : ℕ) → GatesEnd bytes area at ns end → at ≤ end
gates_le bytes area at [] end gates = omega (arith, gates.0)
gates_le bytes area at (n ∷ ns) end gates = let le = gates_le bytes area (at + (5 + n)) ns end gates.2 in omega (arith, le)

-- the gates after one that is open
pub gates_behind : (bytes : List ℕ) (area at n end : ℕ) (ns : List ℕ) → IsGateOpen bytes (area + at) → number_at bytes (area + at + 1) 4 ≡ n → GatesEnd bytes area at ns end
    → (rest : List ℕ) × GatesEnd bytes area (at + (5 + n)) rest end
gates_behind bytes area at n end [] opened number gates = absurd (gates.1 opened)
gates_behind bytes area at n end (m ∷ ms) opened number gates =
    let same : m ≡ n = sym gates.1 ∙ number in
    (ms, subst (λ (k : ℕ). GatesEnd bytes area (at + (5 + k)) ms end) same gates.2)

-- the gates after groups that stand
gates_after : (format : Format) (bytes : List ℕ) (area at : ℕ) (ns : List ℕ) (end : ℕ) (payloads : List (List ℕ)) → GatesEnd bytes area at ns end → StandFrom format bytes area at payloads
    → (rest : List ℕ) × GatesEnd bytes area (at + end_of_groups payloads) rest end
gates_after format bytes area at ns end [] gates stand = let here : at ≡ at + 0 = omega arith in (ns, subst (λ (k : ℕ). GatesEnd bytes area k ns end) here gates)
gates_after format bytes area at [] end (payload ∷ payloads) gates stand = absurd (gates.1 stand.0.is_open)
gates_after format bytes area at (n ∷ ns) end (payload ∷ payloads) gates stand =
    let same : n ≡ length payload = sym gates.1 ∙ stand.0.length_is in
    let rest = gates_after format bytes area (at + (5 + length payload)) ns end payloads (subst (λ (k : ℕ). GatesEnd bytes area (at + (5 + k)) ns end) same gates.2) stand.1 in
    let there : at + (5 + length payload) + end_of_groups payloads ≡ at + (5 + length payload + end_of_groups payloads) = omega arith in
    (rest.0, subst (λ (k : ℕ). GatesEnd bytes area k rest.0 end) there rest.1)

-- the same of the gates of a copy, which is the same up to their end
pub gates_same : (xs ys : List ℕ) (a at : ℕ) (ns : List ℕ) (end : ℕ) → SameBytes xs a ys a end → IsGateShut ys (a + end) → GatesEnd xs a at ns end → GatesEnd ys a at ns end
gates_same xs ys a at [] end s shut gates = (gates.0, subst (λ (k : ℕ). IsGateShut ys (a + k)) (sym gates.0) shut)
gates_same xs ys a at (n ∷ ns) end s shut gates =
    let le = gates_le xs a (at + (5 + n)) ns end gates.2 in (
      sym (same_byte s at (a + at) (a + at) (omega (arith, le)) refl refl) ∙ gates.0,
      sym (same_number_at (same_part s (at + 1) 4 (a + at + 1) (a + at + 1) (omega (arith, le)) (omega arith) (omega arith))) ∙ gates.1,
      gates_same xs ys a (at + (5 + n)) ns end s shut gates.2,
    )

-- The groups that stand in xs stand in ys, and so it goes on after them: with a gate that is open or not, and with the same odd length.
pub record SameGroups (xs ys : List ℕ) (a : ℕ) : Type 0 where
  pub stand : (format : Format) (payloads : List (List ℕ)) → StandFrom format xs a 0 payloads → StandFrom format ys a 0 payloads
  pub shut : (format : Format) (payloads : List (List ℕ)) → StandFrom format xs a 0 payloads → IsGateShut xs (a + end_of_groups payloads) → IsGateShut ys (a + end_of_groups payloads)
  pub opens : (format : Format) (payloads : List (List ℕ)) → StandFrom format xs a 0 payloads → IsGateOpen xs (a + end_of_groups payloads) → IsGateOpen ys (a + end_of_groups payloads)
  pub fits : (format : Format) (payloads : List (List ℕ)) → StandFrom format xs a 0 payloads → IsGateOpen xs (a + end_of_groups payloads)
      → GroupFits format (end_of_groups payloads) (number_at ys (a + end_of_groups payloads + 1) 4) → GroupFits format (end_of_groups payloads) (number_at xs (a + end_of_groups payloads + 1) 4)

-- the same up to the end of the groups
module _ (xs ys : List ℕ) (a end : ℕ) (s : SameBytes xs a ys a end) (ended : IsGateShut ys (a + end)) where
  gate_shut : (at : ℕ) (ns : List ℕ) → GatesEnd xs a at ns end → IsGateShut xs (a + at) → IsGateShut ys (a + at)
  gate_shut at [] gates shut = subst (λ (k : ℕ). IsGateShut ys (a + k)) (sym gates.0) ended
  gate_shut at (n ∷ ns) gates shut = absurd (shut gates.0)

  gate_open : (at : ℕ) (ns : List ℕ) → GatesEnd xs a at ns end → IsGateOpen xs (a + at) → IsGateOpen ys (a + at)
  gate_open at [] gates is_open = absurd (gates.1 is_open)
  gate_open at (n ∷ ns) gates is_open = (gates_same xs ys a at (n ∷ ns) end s ended gates).0

  gate_length : (at : ℕ) (ns : List ℕ) → GatesEnd xs a at ns end → IsGateOpen xs (a + at) → number_at ys (a + at + 1) 4 ≡ number_at xs (a + at + 1) 4
  gate_length at [] gates is_open = absurd (gates.1 is_open)
  gate_length at (n ∷ ns) gates is_open = (gates_same xs ys a at (n ∷ ns) end s ended gates).1 ∙ sym gates.1

  pub same_to_end : (ns : List ℕ) → GatesEnd xs a 0 ns end → SameGroups xs ys a
  same_to_end ns gates =
      record {
        stand = λ format payloads stand.
            let g = gates_after format xs a 0 ns end payloads gates stand in
            let le = gates_le xs a (0 + end_of_groups payloads) g.0 end g.1 in
            stand_same format xs ys a a 0 payloads (same_part s 0 (0 + end_of_groups payloads) a a (omega (arith, le)) (omega arith) (omega arith)) stand;
        shut = λ format payloads stand shut. let g = gates_after format xs a 0 ns end payloads gates stand in gate_shut (end_of_groups payloads) g.0 (at_end payloads g.0 g.1) shut;
        opens = λ format payloads stand is_open. let g = gates_after format xs a 0 ns end payloads gates stand in gate_open (end_of_groups payloads) g.0 (at_end payloads g.0 g.1) is_open;
        fits = λ format payloads stand is_open fits.
            let g = gates_after format xs a 0 ns end payloads gates stand in
            subst (λ (n : ℕ). GroupFits format (end_of_groups payloads) n) (gate_length (end_of_groups payloads) g.0 (at_end payloads g.0 g.1) is_open) fits;
      }
    where
      at_end : (payloads : List (List ℕ)) (rest : List ℕ) → GatesEnd xs a (0 + end_of_groups payloads) rest end → GatesEnd xs a (end_of_groups payloads) rest end
      at_end payloads rest gates = let there : 0 + end_of_groups payloads ≡ end_of_groups payloads = omega arith in subst (λ (k : ℕ). GatesEnd xs a k rest end) there gates

-- groups that stand leave room for a gate
stand_within : (format : Format) (bytes : List ℕ) (area at : ℕ) (payloads : List (List ℕ)) → at < 1048576 → StandFrom format bytes area at payloads → at + end_of_groups payloads < 1048576
stand_within format bytes area at [] within stand = omega arith
stand_within format bytes area at (payload ∷ payloads) within stand =
    let fits : at + 6 + length payload ≤ 1048576 = stand.0.fits.within in
    let rest = stand_within format bytes area (at + (5 + length payload)) payloads (omega arith) stand.1 in
    omega (arith, rest)

-- the same area
pub same_whole : (xs ys : List ℕ) (a : ℕ) → SameBytes xs a ys a 1048576 → SameGroups xs ys a
same_whole xs ys a s =
    record {
      stand = λ format payloads stand.
          let low = stand_within format xs a 0 payloads (omega arith) stand in
          stand_same format xs ys a a 0 payloads (same_part s 0 (0 + end_of_groups payloads) a a (omega (arith, low)) (omega arith) (omega arith)) stand;
      shut = λ format payloads stand shut is_open. shut (gate format payloads stand ∙ is_open);
      opens = λ format payloads stand is_open. sym (gate format payloads stand) ∙ is_open;
      fits = λ format payloads stand is_open fits.
          let e = end_of_groups payloads in
          let room : e + 6 ≤ 1048576 = let w = fits.within in omega (arith, w) in
          subst (λ (n : ℕ). GroupFits format e n) (sym (same_number_at (same_part s (e + 1) 4 (a + e + 1) (a + e + 1) (omega (arith, room)) (omega arith) (omega arith)))) fits;
    }
  where
    gate : (format : Format) (payloads : List (List ℕ)) → StandFrom format xs a 0 payloads → get_or xs (a + end_of_groups payloads) 0 ≡ get_or ys (a + end_of_groups payloads) 0
    gate format payloads stand =
        let low = stand_within format xs a 0 payloads (omega arith) stand in
        same_byte s (end_of_groups payloads) (a + end_of_groups payloads) (a + end_of_groups payloads) (omega (arith, low)) refl refl
