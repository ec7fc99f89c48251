-- The bytes of the buffer that go onto the device.
use Rattle.std.proofs.Common.{◌≡◌, ℕ, Bool, false, eqb, ◌+◌, ◌-◌, ◌≤◌, List, [], ◌∷◌, ◌++◌, length, take, drop, set, append_assoc, length-append, length-drop, sym, ◌∙◌, ap, subst, refl, arith}
use Rattle.std.proofs.lemmas.List.{length-set, length-take-le, take_all, take_at, take_more_set, take-append-le}
use Rattle.fe_journal.specs.Contents.{after_gate, end_of_groups}
use Rattle.fe_journal.specs.Journal.{catch_up_groups, area_start, BeginsWith}
use Rattle.fe_journal.proofs.Bytes.{SameBytes, same_part, same_bytes_at, part_same}
use Rattle.fe_journal.proofs.Spelled.{length-after_gate, bytes_whole}

-- the whole of a buffer that was lent whole
pub buffer_whole : (new items : List ℕ) (len : ℕ) → length new ≡ len → take len (new ++ drop (length new) items) ≡ new
buffer_whole new items len long = take-append-le len new (drop (length new) items) (omega arith) ∙ take_all len new (omega arith)

-- what is in it after the first byte
pub buffer_tail : (new payload : List ℕ) (m : ℕ) → 6 + length payload ≤ length new → take (6 + length payload) new ≡ 1 ∷ after_gate payload → m ≡ 5 + length payload → take m (drop 1 new) ≡ after_gate payload
buffer_tail new payload m room staged size =
    let long = length-after_gate payload in
    let all = subst (λ (l : List ℕ). SameBytes new 0 l 0 (6 + length payload)) staged (part_same new 0 (6 + length payload) (omega arith)) in
    let tail = same_part all 1 m 1 1 (omega arith) refl refl in
    same_bytes_at tail ∙ bytes_whole (after_gate payload) m (omega arith)

-- the bytes of a group after its gate, read from a buffer that was lent whole
pub group_read : (lent new items payload : List ℕ) (len count : ℕ) → lent ≡ take len (new ++ drop (length new) items) → length new ≡ len → 6 + length payload ≤ length new → take (6 + length payload) new ≡ 1 ∷ after_gate payload
    → count ≡ 6 + length payload → take (count - 1) (drop 1 lent) ≡ after_gate payload
group_read lent new items payload len count is long room staged size =
    ap (λ (l : List ℕ). take (count - 1) (drop 1 l)) (is ∙ buffer_whole new items len long) ∙ buffer_tail new payload (count - 1) room staged (omega arith)

-- a group put together from its three pieces: the head, the payload and the last gate
pub group_put : (buffer head payload one two : List ℕ) → length head ≡ 5 → one ≡ head → two ≡ payload → 6 + length payload ≤ length buffer
    → BeginsWith (5 + length payload + 1) (head ++ (payload ++ 0 ∷ [])) buffer
    (set (take 5 (one ++ drop 5 buffer) ++ (two ++ drop (5 + length payload - 5) (drop 5 (one ++ drop 5 buffer)))) (5 + length payload) 0)
group_put buffer head payload one two five one_is two_is room =
    let staged : List ℕ = one ++ drop 5 buffer in
    let rest : List ℕ = drop (5 + length payload - 5) (drop 5 staged) in
    let long_one : length one ≡ 5 = ap (λ (l : List ℕ). length l) one_is ∙ five in
    let long_two : length two ≡ length payload = ap (λ (l : List ℕ). length l) two_is in
    let front : take 5 staged ≡ one = take_at one (drop 5 buffer) 5 long_one in
    let written : List ℕ = take 5 staged ++ (two ++ rest) in
    let long_staged : length staged ≡ length buffer = length-append one (drop 5 buffer) ∙ (let d = length-drop 5 buffer in omega (arith, d, long_one, room)) in
    let long_rest : length rest ≡ length buffer - 5 - length payload =
    length-drop (5 + length payload - 5) (drop 5 staged) ∙ (let d = length-drop 5 staged in omega (arith, d, long_staged, room)) in
    let long : length written ≡ length buffer =
    length-append (take 5 staged) (two ++ rest) ∙ (let f = ap (λ (l : List ℕ). length l) front in let t = length-append two rest in omega (arith, f, t, long_one, long_two, long_rest, room)) in
    let apart : written ≡ (one ++ two) ++ rest = ap (λ (l : List ℕ). l ++ (two ++ rest)) front ∙ sym (append_assoc one two rest) in
    let both : take (5 + length payload) written ≡ one ++ two =
    ap (λ (l : List ℕ). take (5 + length payload) l) apart ∙ take_at (one ++ two) rest (5 + length payload) (length-append one two ∙ omega (arith, long_one, long_two)) in
    let pieces : one ++ two ≡ head ++ payload = ap (λ (l : List ℕ). l ++ two) one_is ∙ ap (λ (l : List ℕ). head ++ l) two_is in
    record {
      bytes_are = take_more_set written (5 + length payload) 0 (omega (arith, long, room)) ∙ ap (λ (l : List ℕ). l ++ 0 ∷ []) (both ∙ pieces) ∙ append_assoc head payload (0 ∷ []);
      same = length-set written (5 + length payload) 0 ∙ long;
    }

-- a closed gate alone
pub none_put : (buffer catch_up : List ℕ) → 1 ≤ length buffer → length catch_up ≡ 0 → take 1 (set buffer 0 0) ≡ area_start catch_up
none_put [] catch_up some none = absurd (omega arith)
none_put (byte ∷ bytes) [] some none = refl
none_put (byte ∷ bytes) (x ∷ xs) some none = absurd (omega arith)

-- a catch-up that has bytes, as a group
pub start_put : (buffer new catch_up : List ℕ) (count : ℕ) (empty : Bool) → empty ≡ eqb (length catch_up) 0 → empty ≡ false → BeginsWith count (1 ∷ after_gate catch_up) buffer new → BeginsWith count (area_start catch_up) buffer new
start_put buffer new [] count empty is some put = absurd (cc)
start_put buffer new (x ∷ xs) count empty is some put = put

-- how many bytes a new area begins with, and where the gate after them stands
pub start_end : (buffer catch_up : List ℕ) (count : ℕ) → count ≤ length buffer → take count buffer ≡ area_start catch_up → count - 1 ≡ end_of_groups (catch_up_groups catch_up)
start_end buffer [] count fits is = let long : count ≡ 1 = sym (length-take-le count buffer fits) ∙ ap (λ (l : List ℕ). length l) is in omega arith
start_end buffer (x ∷ xs) count fits is =
    let long : count ≡ length (area_start (x ∷ xs)) = sym (length-take-le count buffer fits) ∙ ap (λ (l : List ℕ). length l) is in omega (arith, length-after_gate (x ∷ xs))
