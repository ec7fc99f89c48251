-- What is read is the field that was written, and what was written is read again.
use Rattle.std.proofs.Common.{◌≡◌, ℕ, zero, suc, ◌-◌, ◌^◌, ◌<◌, ◌≤◌, Bool, true, false, cond, ltb, leb, eqb, ◌&&◌, List, [], ◌∷◌, ◌++◌, length, take, drop, replicate, Option, Some, None, refl, sym, ap, subst, ◌∙◌, arith, inl, inr}
use Rattle.std.specs.Int.{Width, w32, w64, byte_len, from_be_bytes, to_be_bytes}
use Rattle.std.proofs.lemmas.Bool.{cases_lt, ltb-false, lt-ltb, le-ltb, leb-true, le-leb, eqb-true, and_parts}
use Rattle.std.proofs.lemmas.Option.{cond_some}
use Rattle.std.proofs.lemmas.List.{take_at, drop_at, take-append-drop, length-append, length-take, length-take-le, length-drop, length-replicate}
use Rattle.std.proofs.lemmas.Nat.{be_bytes_4, be_bytes_8, from_be_bytes-to_be_bytes_4, from_be_bytes-to_be_bytes_8}
use Rattle.fe_wire.specs.Spelling.{is_long, name_room, name_field}
use Rattle.fe_codes.specs.Reading.{IsBytes, ◌>>=◌}
use Rattle.fe_codes.proofs.BindingLaws.{bind_some, bind_at}
use Rattle.fe_codes.proofs.Splits.{IsBytes-drop, IsBytes-take, Splits}
use Rattle.fe_wire.specs.Reading.{next_number, next_byte, next_bytes, are_zero, least_name, name_of, next_name, number_of, two_numbers_of, ended}

-- a test that succeeded
pub guard_some : {A : Type 0} (b : Bool) (x y : A) → cond b None (Some x) ≡ Some y → (b ≡ false) × (x ≡ y)
guard_some true x y e = absurd cc
guard_some false x y e = (refl, cc)

pub ended_takes : {A : Type 0} (rest : List ℕ) (x y : A) → ended rest x ≡ Some y → (rest ≡ []) × (x ≡ y)
ended_takes [] x y e = (refl, cc)
ended_takes (b ∷ rest) x y e = absurd cc

-- ---- numbers

pub record IsWide (w : Width) (limit : ℕ) : Type 0 where
  pub len : (n : ℕ) → length (to_be_bytes w n) ≡ byte_len w
  pub back : (bytes : List ℕ) → length bytes ≡ byte_len w → IsBytes bytes → to_be_bytes w (from_be_bytes w bytes) ≡ bytes
  pub again : (n : ℕ) → n < limit → from_be_bytes w (to_be_bytes w n) ≡ n
  pub below : (bytes : List ℕ) → IsBytes bytes → from_be_bytes w bytes < limit

pub wide32 : IsWide w32 (2 ^ 32)
wide32 = record {
  len = λ n. refl;
  back = λ bytes len fits. be_bytes_4 bytes _ len fits refl;
  again = λ n lt. from_be_bytes-to_be_bytes_4 n lt;
  below = λ bytes fits. omega (arith, fits 0, fits 1, fits 2, fits 3);
}

pub wide64 : IsWide w64 (2 ^ 64)
wide64 = record {
  len = λ n. refl;
  back = λ bytes len fits. be_bytes_8 bytes _ len fits refl;
  again = λ n lt. from_be_bytes-to_be_bytes_8 n lt;
  below = λ bytes fits. omega (arith, fits 0, fits 1, fits 2, fits 3, fits 4, fits 5, fits 6, fits 7);
}

pub number_takes : (w : Width) (limit : ℕ) (wide : IsWide w limit) (bytes : List ℕ) (n : ℕ) (rest : List ℕ) → IsBytes bytes → next_number w bytes ≡ Some (n, rest) → Splits bytes (to_be_bytes w n) rest × (n < limit)
number_takes w limit wide bytes n rest fits e =
    let g = guard_some (ltb (length bytes) (byte_len w)) (from_be_bytes w (take (byte_len w) bytes), drop (byte_len w) bytes) (n, rest) e in
    let long : byte_len w ≤ length bytes = ltb-false _ _ g.0 in
    let n-is : from_be_bytes w (take (byte_len w) bytes) ≡ n = ap (λ (p : ℕ × List ℕ). p.0) g.1 in
    let rest-is : drop (byte_len w) bytes ≡ rest = ap (λ (p : ℕ × List ℕ). p.1) g.1 in
    let front : to_be_bytes w n ≡ take (byte_len w) bytes = rw (← n-is) (wide.back (take (byte_len w) bytes) (omega (arith, length-take (byte_len w) bytes)) (IsBytes-take (byte_len w) bytes fits)) in
    (record { parts = rw (front, ← rest-is) (sym (take-append-drop (byte_len w) bytes)); rest_fits = rw (← rest-is) (IsBytes-drop (byte_len w) bytes fits) }, rw (← n-is) (wide.below (take (byte_len w) bytes) (IsBytes-take (byte_len w) bytes fits)))

pub number_again : (w : Width) (limit : ℕ) (wide : IsWide w limit) (n : ℕ) (rest : List ℕ) → n < limit → next_number w (to_be_bytes w n ++ rest) ≡ Some (n, rest)
number_again w limit wide n rest lt =
    let len = wide.len n in
    let long : ltb (length (to_be_bytes w n ++ rest)) (byte_len w) ≡ false = le-ltb _ _ (omega (arith, length-append (to_be_bytes w n) rest)) in
    rw (long, take_at (to_be_bytes w n) rest (byte_len w) len, drop_at (to_be_bytes w n) rest (byte_len w) len, wide.again n lt) refl

-- ---- bytes

pub byte_takes : (bytes : List ℕ) (b : ℕ) (rest : List ℕ) → IsBytes bytes → next_byte bytes ≡ Some (b, rest) → Splits bytes (b ∷ []) rest
byte_takes [] b rest fits e = absurd cc
byte_takes (c ∷ bytes) b rest fits e =
    let same : (c, bytes) ≡ (b, rest) = cc in
    let head-is : c ≡ b = ap (λ (p : ℕ × List ℕ). p.0) same in
    let rest-is : bytes ≡ rest = ap (λ (p : ℕ × List ℕ). p.1) same in
    record { parts = rw (head-is, rest-is) refl; rest_fits = subst IsBytes rest-is (λ i. fits (suc i)) }

pub bytes_takes : (n : ℕ) (bytes cells rest : List ℕ) → IsBytes bytes → next_bytes n bytes ≡ Some (cells, rest) → Splits bytes cells rest × (length cells ≡ n)
bytes_takes n bytes cells rest fits e =
    let g = guard_some (ltb (length bytes) n) (take n bytes, drop n bytes) (cells, rest) e in
    let long : n ≤ length bytes = ltb-false _ _ g.0 in
    let cells-is : take n bytes ≡ cells = ap (λ (p : List ℕ × List ℕ). p.0) g.1 in
    let rest-is : drop n bytes ≡ rest = ap (λ (p : List ℕ × List ℕ). p.1) g.1 in
    (record { parts = rw (← cells-is, ← rest-is) (sym (take-append-drop n bytes)); rest_fits = rw (← rest-is) (IsBytes-drop n bytes fits) }, rw (← cells-is) (length-take-le n bytes long))

pub bytes_again : (n : ℕ) (cells rest : List ℕ) → length cells ≡ n → next_bytes n (cells ++ rest) ≡ Some (cells, rest)
bytes_again n cells rest len =
    let long : ltb (length (cells ++ rest)) n ≡ false = le-ltb _ _ (omega (arith, length-append cells rest)) in
    rw (long, take_at cells rest n len, drop_at cells rest n len) refl

-- ---- names

zeros_takes : (bytes : List ℕ) → are_zero bytes ≡ true → bytes ≡ replicate (length bytes) 0
zeros_takes [] e = refl
zeros_takes (b ∷ bytes) e =
    let p = and_parts (eqb b 0) (are_zero bytes) e in
    let head-is : b ≡ 0 = eqb-true b 0 p.0 in
    let rest-is = zeros_takes bytes p.1 in
    ap (λ (c : ℕ). c ∷ bytes) head-is ∙ ap (λ (r : List ℕ). 0 ∷ r) rest-is

zeros_again : (n : ℕ) → are_zero (replicate n 0) ≡ true
zeros_again zero = refl
zeros_again (suc n) = zeros_again n

-- the length of a name decides its field
is_long_by : (long : Bool) (name : List ℕ) → least_name long ≤ length name → length name ≤ name_room long → is_long name ≡ long
is_long_by true name low high = lt-ltb 16 (length name) (omega arith)
is_long_by false name low high = le-ltb 16 (length name) high

in_room : (name : List ℕ) → length name ≤ 32 → (least_name (is_long name) ≤ length name) × (length name ≤ name_room (is_long name))
in_room name le =
    elim (cases_lt 16 (length name)) [
      | inl lt ↦ rw (lt-ltb 16 (length name) lt) (omega arith, le)
      | inr short ↦ rw (le-ltb 16 (length name) short) (omega arith, short)
    ]

abbrev pub cells_of : List ℕ → List ℕ
cells_of name = name ++ replicate (name_room (is_long name) - length name) 0

name_takes : (long : Bool) (n : ℕ) (cells name : List ℕ) → length cells ≡ name_room long → name_of long n cells ≡ Some name → (length name ≡ n) × (is_long name ≡ long) × (cells ≡ cells_of name) × (length name ≤ name_room long)
unfolding name_of
name_takes long n cells name len e =
    let g = cond_some (leb (least_name long) n && leb n (length cells) && are_zero (drop n cells)) (take n cells) name e in
    let p = and_parts (leb (least_name long) n && leb n (length cells)) (are_zero (drop n cells)) g.0 in
    let q = and_parts (leb (least_name long) n) (leb n (length cells)) p.0 in
    let low : least_name long ≤ n = leb-true _ _ q.0 in
    let high : n ≤ length cells = leb-true _ _ q.1 in
    let same : length (take n cells) ≡ n = length-take-le n cells high in
    let kind : is_long (take n cells) ≡ long = is_long_by long (take n cells) (omega arith) (omega arith) in
    let behind : drop n cells ≡ replicate (name_room long - n) 0 = zeros_takes (drop n cells) p.1 ∙ ap (λ (k : ℕ). replicate k 0) (length-drop n cells ∙ ap (λ (k : ℕ). k - n) len) in
    let room : replicate (name_room long - n) 0 ≡ replicate (name_room (is_long (take n cells)) - length (take n cells)) 0 = ap (λ (k : ℕ). replicate (name_room long - k) 0) (sym same) ∙ ap (λ (b : Bool). replicate (name_room b - length (take n cells)) 0) (sym kind) in
    let whole : cells ≡ cells_of (take n cells) = sym (take-append-drop n cells) ∙ ap (λ (r : List ℕ). take n cells ++ r) (behind ∙ room) in
    subst (λ (t : List ℕ). (length t ≡ n) × (is_long t ≡ long) × (cells ≡ cells_of t) × (length t ≤ name_room long)) g.1 (same, kind, whole, omega arith)

pub length-cells_of : (name : List ℕ) → length name ≤ 32 → length (cells_of name) ≡ name_room (is_long name)
length-cells_of name le =
    let room : ℕ = name_room (is_long name) in
    let fits = (in_room name le).1 in
    omega (arith, fits, length-append name (replicate (room - length name) 0), length-replicate {A = ℕ} (room - length name) 0)

name_again : (name : List ℕ) → length name ≤ 32 → name_of (is_long name) (length name) (cells_of name) ≡ Some name
unfolding name_of
name_again name le =
    let room : ℕ = name_room (is_long name) in
    let fits = in_room name le in
    let len = length-cells_of name le in
    let low : leb (least_name (is_long name)) (length name) ≡ true = le-leb _ _ fits.0 in
    let high : leb (length name) (length (cells_of name)) ≡ true = le-leb _ _ (omega (arith, fits.1)) in
    rw (low, high, drop_at name (replicate (room - length name) 0) (length name) refl, zeros_again (room - length name), take_at name (replicate (room - length name) 0) (length name) refl) refl

pub room_le : (long : Bool) → name_room long ≤ 32
room_le true = omega arith
room_le false = omega arith

abbrev kept_rest : List ℕ → List ℕ → Option (List ℕ × List ℕ)
kept_rest rest name = Some (name, rest)

abbrev celled : Bool → ℕ → List ℕ × List ℕ → Option (List ℕ × List ℕ)
celled long count cells = name_of long count cells.0 >>= kept_rest cells.1

abbrev counted : Bool → ℕ × List ℕ → Option (List ℕ × List ℕ)
counted long count = next_bytes (name_room long) count.1 >>= celled long count.0

pub next_name_takes : (long : Bool) (bytes name rest : List ℕ) → IsBytes bytes → next_name long bytes ≡ Some (name, rest) → Splits bytes (name_field name) rest × (is_long name ≡ long) × (length name ≤ 32)
next_name_takes long bytes name rest fits e =
    let a = bind_some (next_byte bytes) (counted long) (name, rest) e in
    let b = bind_some (next_bytes (name_room long) a.0.1) (celled long a.0.0) (name, rest) a.2 in
    let c = bind_some (name_of long a.0.0 b.0.0) (kept_rest b.0.1) (name, rest) b.2 in
    let t0 = byte_takes bytes a.0.0 a.0.1 fits a.1 in
    let t1 = bytes_takes (name_room long) a.0.1 b.0.0 b.0.1 t0.rest_fits b.1 in
    let t2 = name_takes long a.0.0 b.0.0 c.0 t1.1 c.1 in
    let same : (c.0, b.0.1) ≡ (name, rest) = cc in
    let name-is : c.0 ≡ name = ap (λ (p : List ℕ × List ℕ). p.0) same in
    let rest-is : b.0.1 ≡ rest = ap (λ (p : List ℕ × List ℕ). p.1) same in
    let text : bytes ≡ name_field c.0 ++ b.0.1 = t0.parts ∙ ap (λ (r : List ℕ). a.0.0 ∷ r) (t1.0.parts ∙ ap (λ (r : List ℕ). r ++ b.0.1) t2.2) ∙ ap (λ (n : ℕ). n ∷ cells_of c.0 ++ b.0.1) (sym t2.0) in
    let room = room_le long in
    let short : length c.0 ≤ 32 = omega (arith, room, t2.3) in
    (record { parts = text ∙ ap (λ (t : List ℕ). name_field t ++ b.0.1) name-is ∙ ap (λ (r : List ℕ). name_field name ++ r) rest-is; rest_fits = subst IsBytes rest-is t1.0.rest_fits }, subst (λ (t : List ℕ). is_long t ≡ long) name-is t2.1, subst (λ (t : List ℕ). length t ≤ 32) name-is short)

pub next_name_again : (name rest : List ℕ) → length name ≤ 32 → next_name (is_long name) (name_field name ++ rest) ≡ Some (name, rest)
next_name_again name rest le =
    bind_at (next_bytes (name_room (is_long name)) (cells_of name ++ rest)) (celled (is_long name) (length name)) (cells_of name, rest) (bytes_again (name_room (is_long name)) (cells_of name) rest (length-cells_of name le))
    ∙ bind_at (name_of (is_long name) (length name) (cells_of name)) (kept_rest rest) name (name_again name le)

-- ---- whole bodies of numbers

abbrev pub ended_number : ℕ × List ℕ → Option ℕ
ended_number number = ended number.1 number.0

pub number_of_takes : (body : List ℕ) (n : ℕ) → IsBytes body → number_of body ≡ Some n → (body ≡ to_be_bytes w64 n) × (n < 2 ^ 64)
number_of_takes body n fits e =
    let a = bind_some (next_number w64 body) ended_number n e in
    let t = number_takes w64 (2 ^ 64) wide64 body a.0.0 a.0.1 fits a.1 in
    let d = ended_takes a.0.1 a.0.0 n a.2 in
    let whole : body ≡ to_be_bytes w64 a.0.0 = t.0.parts ∙ ap (λ (r : List ℕ). to_be_bytes w64 a.0.0 ++ r) d.0 in
    (whole ∙ ap (to_be_bytes w64) d.1, subst (λ (k : ℕ). k < 2 ^ 64) d.1 t.1)

pub number_of_again : (n : ℕ) → n < 2 ^ 64 → number_of (to_be_bytes w64 n) ≡ Some n
number_of_again n lt = bind_at (next_number w64 (to_be_bytes w64 n)) ended_number (n, []) (number_again w64 (2 ^ 64) wide64 n [] lt)

abbrev ended_pair : ℕ → ℕ × List ℕ → Option (ℕ × ℕ)
ended_pair first second = ended second.1 (first, second.0)

abbrev paired : ℕ × List ℕ → Option (ℕ × ℕ)
paired first = next_number w64 first.1 >>= ended_pair first.0

abbrev pub two_numbers : ℕ → ℕ → List ℕ
two_numbers a b = to_be_bytes w64 a ++ to_be_bytes w64 b

pub two_numbers_of_takes : (body : List ℕ) (n k : ℕ) → IsBytes body → two_numbers_of body ≡ Some (n, k) → (body ≡ two_numbers n k) × (n < 2 ^ 64) × (k < 2 ^ 64)
two_numbers_of_takes body n k fits e =
    let a = bind_some (next_number w64 body) paired (n, k) e in
    let b = bind_some (next_number w64 a.0.1) (ended_pair a.0.0) (n, k) a.2 in
    let t0 = number_takes w64 (2 ^ 64) wide64 body a.0.0 a.0.1 fits a.1 in
    let t1 = number_takes w64 (2 ^ 64) wide64 a.0.1 b.0.0 b.0.1 t0.0.rest_fits b.1 in
    let d = ended_takes b.0.1 (a.0.0, b.0.0) (n, k) b.2 in
    let first : a.0.0 ≡ n = ap (λ (p : ℕ × ℕ). p.0) d.1 in
    let second : b.0.0 ≡ k = ap (λ (p : ℕ × ℕ). p.1) d.1 in
    let last : a.0.1 ≡ to_be_bytes w64 b.0.0 = t1.0.parts ∙ ap (λ (r : List ℕ). to_be_bytes w64 b.0.0 ++ r) d.0 in
    let whole : body ≡ two_numbers a.0.0 b.0.0 = t0.0.parts ∙ ap (λ (r : List ℕ). to_be_bytes w64 a.0.0 ++ r) last in
    (whole ∙ ap (λ (p : ℕ × ℕ). two_numbers p.0 p.1) d.1, subst (λ (x : ℕ). x < 2 ^ 64) first t0.1, subst (λ (x : ℕ). x < 2 ^ 64) second t1.1)

pub two_numbers_of_again : (n k : ℕ) → n < 2 ^ 64 → k < 2 ^ 64 → two_numbers_of (two_numbers n k) ≡ Some (n, k)
two_numbers_of_again n k n_fits k_fits =
    let last : List ℕ = to_be_bytes w64 k in
    bind_at (next_number w64 (two_numbers n k)) paired (n, last) (number_again w64 (2 ^ 64) wide64 n last n_fits)
    ∙ bind_at (next_number w64 last) (ended_pair n) (k, []) (number_again w64 (2 ^ 64) wide64 k [] k_fits)
