-- What the parts of opening read.
use Rattle.std.proofs.Common.{◌≡◌, ℕ, ◌+◌, List, [], ◌∷◌, ◌++◌, length, get_or, drop, sym, ◌∙◌, ap, subst, refl, arith}
use Rattle.byteorder.specs.Endian.{big_number}
use Rattle.byteorder.specs.Numbers.{big_from-take}
use Rattle.fe_disk.specs.Disk.{bytes_at}
use Rattle.fe_disk.proofs.Images.{length-bytes_at}
use Rattle.fe_journal.specs.Layout.{number_at, IsGateOpen, IsGateShut}
use Rattle.fe_journal.specs.Contents.{IsGroup, HoldsGroups, GroupFits, end_of_groups}
use Rattle.fe_journal.specs.Store.{Reaches, GroupsEndAt, IsOddAt}
use Rattle.fe_format.specs.declared.format.Format.{Format}
use Rattle.fe_journal.proofs.Frames.{stand_more, end_of_groups-more}

-- the number that a reader of a slice gives
pub number_read : (bytes : List ℕ) (at n : ℕ) → number_at bytes at n ≡ big_number n (drop at bytes)
number_read bytes at n = big_from-take 0 n n (drop at bytes) (omega arith)

pub reaches_none : (format : Format) (bytes : List ℕ) → Reaches format bytes 0
reaches_none format bytes = record { groups = []; stand = tt; at_is = refl }

-- one group further
pub reaches_more : (format : Format) (bytes : List ℕ) (at n : ℕ) → length bytes ≡ 1048576 → Reaches format bytes at → IsGateOpen bytes at → n ≡ number_at bytes (at + 1) 4 → GroupFits format at n → Reaches format bytes (at + (5 + n))
reaches_more format bytes at n long so_far is_open n_is fits =
    let payload = bytes_at bytes (at + 5) n in
    let size : length payload ≡ n = length-bytes_at bytes (at + 5) n (let w = fits.within in omega arith) in
    let here : at ≡ 0 + end_of_groups so_far.groups = omega (arith, so_far.at_is) in
    let group : IsGroup format bytes 0 at payload = record {
      is_open = let there : at ≡ 0 + at = omega arith in subst (λ (k : ℕ). get_or bytes k 0 ≡ 1) there is_open;
      length_is = let there : at + 1 ≡ 0 + at + 1 = omega arith in subst (λ (k : ℕ). number_at bytes k 4 ≡ length payload) there (sym n_is ∙ sym size);
      fits = subst (λ (k : ℕ). GroupFits format at k) (sym size) fits;
      payload_is = let there : at + 5 ≡ 0 + at + 5 = omega arith in subst (λ (k : ℕ). bytes_at bytes k (length payload) ≡ payload) there (ap (λ (k : ℕ). bytes_at bytes (at + 5) k) size);
    } in
    record {
      groups = so_far.groups ++ payload ∷ [];
      stand = stand_more format bytes 0 0 so_far.groups payload so_far.stand (subst (λ (k : ℕ). IsGroup format bytes 0 k payload) here group);
      at_is = omega (arith, end_of_groups-more so_far.groups payload, size, so_far.at_is);
    }

pub reaches_end : (format : Format) (bytes : List ℕ) (at : ℕ) → Reaches format bytes at → IsGateShut bytes at → GroupsEndAt format bytes at
reaches_end format bytes at so_far shut =
    record {
      groups = so_far.groups;
      holds = record { stand = so_far.stand; ended = let there : at ≡ 0 + (0 + end_of_groups so_far.groups) = omega (arith, so_far.at_is) in subst (λ (k : ℕ). IsGateShut bytes k) there shut };
      at_is = so_far.at_is;
    }

pub reaches_odd : (format : Format) (bytes : List ℕ) (at : ℕ) → Reaches format bytes at → IsGateOpen bytes at → (GroupFits format at (number_at bytes (at + 1) 4) → ⊥) → IsOddAt format bytes at
reaches_odd format bytes at so_far is_open odd = record { groups = so_far.groups; stand = so_far.stand; at_is = so_far.at_is; is_open = is_open; odd = odd }

-- the groups after the first
pub rest_holds : (format : Format) (bytes : List ℕ) (at : ℕ) (payload : List ℕ) (rest : List (List ℕ)) → HoldsGroups format bytes 0 at (payload ∷ rest) → HoldsGroups format bytes 0 (at + (5 + length payload)) rest
rest_holds format bytes at payload rest holds =
    let there : 0 + (at + (5 + length payload + end_of_groups rest)) ≡ 0 + (at + (5 + length payload) + end_of_groups rest) = omega arith in
    record { stand = holds.stand.1; ended = subst (λ (k : ℕ). IsGateShut bytes k) there holds.ended }
