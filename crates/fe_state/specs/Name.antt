-- Which names an array may have (`docs/model.md`, "The state of the server").
use Rattle.std.specs.Prelude.{ℕ, Bool, ◌&&◌, ◌||◌, ◌==◌, nat_le, List, length, ◌≡◌, ◌≤◌, ◌-◌, ◌++◌, take}
use Rattle.std.specs.Prelude.{drop, replicate}
use Rattle.std.specs.List.{list_all}
use Rattle.fe_state.specs.Limits.{longest_name}
use Rattle.std.proofs.Common.{arith, sym, ap, ◌∙◌, take-append-drop, length-take-le}

-- a lowercase letter of ASCII, a digit or an underscore
abbrev pub is_plain_byte : ℕ → Bool
is_plain_byte b = (nat_le 97 b && nat_le b 122) || (nat_le 48 b && nat_le b 57) || b == 95

-- what an array may be named: 1 to 32 plain bytes
abbrev pub is_plain : List ℕ → Bool
is_plain name = nat_le 1 (length name) && nat_le (length name) longest_name && list_all is_plain_byte name

-- the bytes, and zeros up to n cells
abbrev pub padded : ℕ → List ℕ → List ℕ
padded n bytes = bytes ++ replicate (n - length bytes) 0

-- if all cells after the first n are zeros, the first n cells, padded, are the cells
pub padded-take : (n : ℕ) (cells : List ℕ)
    → (n ≤ longest_name) × (length cells ≡ longest_name) × (drop n cells ≡ replicate (longest_name - n) 0)
    → (length (take n cells) ≡ n) × (padded longest_name (take n cells) ≡ cells)
padded-take n cells h =
    let long : length (take n cells) ≡ n = length-take-le n cells (omega (arith, h.0, h.1)) in (
      long,
      ap (λ k. take n cells ++ replicate (longest_name - k) 0) long
          ∙ ap (λ r. take n cells ++ r) (sym h.2) ∙ take-append-drop n cells,
    )
