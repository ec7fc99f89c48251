-- The frame at the front of bytes: the message it spells, and that it spells no other.
use Rattle.std.proofs.Common.{◌≡◌, ℕ, suc, ◌+◌, ◌-◌, ◌^◌, ◌<◌, ◌≤◌, List, ◌∷◌, ◌++◌, length, get_or, take, drop, Option, Some, None, refl, sym, ap, ◌∙◌, arith, inl, inr, lit≤}
use Rattle.std.specs.Prelude.{IfSome}
use Rattle.std.specs.Int.{w32, to_be_bytes, from_be_bytes}
use Rattle.std.proofs.lemmas.Option.{none-some, same_Some}
use Rattle.std.proofs.lemmas.List.{take_at, take-take, drop-take, drop_more, take-append-drop, take-append-le, length-append, length-take, length-take-le, length-drop, append_cancel_left, get_or_append_left}
use Rattle.fe_wire.specs.declared.version.Version.{Version}
use Rattle.fe_wire.specs.declared.version.Version.TheVariants.{One, Two}
use Rattle.fe_wire.specs.declared.client_message.ClientMessage.{ClientMessage}
use Rattle.fe_wire.specs.Spelling.{frame, spelling, Fits, FitsIn}
use Rattle.fe_wire.specs.Reading.{message_of}
use Rattle.fe_wire.specs.Stream.{first_lengths, length_of_kind, longest, length_field, kind_field, front_frame, IsWhole, IsBad, IsUnfinished, HasBadBody}
use Rattle.fe_codes.proofs.Splits.{IsBytes-take, IsBytes-drop}
use Rattle.fe_codes.specs.Reading.{IsBytes}
use Rattle.fe_wire.proofs.FieldLaws.{wide32}
use Rattle.fe_codes.proofs.CodeLaws.{row, some_at}
use Rattle.fe_wire.proofs.MessageLaws.{IsRead, message_takes, message_again, has_kind}

-- the bytes after the kind, as many as the length field says
abbrev pub body_field : List ℕ → List ℕ
body_field bytes = take (4 + length_field bytes - 5) (drop 5 bytes)

take-cons : (n : ℕ) (x : ℕ) (xs : List ℕ) → 1 ≤ n → take n (x ∷ xs) ≡ x ∷ take (n - 1) xs
take-cons n x xs low =
    let e : n ≡ suc (n - 1) = omega arith in
    ap (λ (k : ℕ). take k (x ∷ xs)) e

front_is : (bytes : List ℕ) → IsBytes bytes → IsWhole bytes → 1 ≤ length_field bytes → front_frame bytes ≡ frame (kind_field bytes) (body_field bytes)
front_is bytes fits whole low =
    let n : ℕ = length_field bytes in
    let four : 4 < length bytes = omega arith in
    let rest : drop 4 bytes ≡ kind_field bytes ∷ drop 5 bytes = drop_more bytes 4 0 four in
    let same : n - 1 ≡ 4 + n - 5 = omega arith in
    let behind : drop 4 (take (4 + n) bytes) ≡ kind_field bytes ∷ body_field bytes =
    drop-take 4 n bytes ∙ ap (take n) rest ∙ take-cons n (kind_field bytes) (drop 5 bytes) low ∙ ap (λ (k : ℕ). kind_field bytes ∷ take k (drop 5 bytes)) same in
    let long : length (body_field bytes) + 1 ≡ n = omega (arith, length-take (4 + n - 5) (drop 5 bytes), length-drop 5 bytes) in
    let first : take 4 bytes ≡ to_be_bytes w32 (length (body_field bytes) + 1) =
    sym (wide32.back (take 4 bytes) (length-take-le 4 bytes (omega arith)) (IsBytes-take 4 bytes fits)) ∙ ap (to_be_bytes w32) (sym long) in
    sym (take-append-drop 4 (take (4 + n) bytes)) ∙ ap (λ (r : List ℕ). r ++ drop 4 (take (4 + n) bytes)) (take-take 4 (4 + n) bytes (omega arith) ∙ first) ∙ ap (λ (r : List ℕ). to_be_bytes w32 (length (body_field bytes) + 1) ++ r) behind

-- a body that spells a message makes the frame whole
pub reads_frame : (v : Version) (bytes : List ℕ) (m : ClientMessage) → IsBytes bytes → IsWhole bytes → 1 ≤ length_field bytes → length_of_kind v (kind_field bytes) ≡ Some (length_field bytes) → message_of (kind_field bytes) (body_field bytes) ≡ Some m → FitsIn v m × (front_frame bytes ≡ spelling m)
reads_frame v bytes m fits whole low kind e =
    let t = message_takes (kind_field bytes) (body_field bytes) m (IsBytes-take (4 + length_field bytes - 5) (drop 5 bytes) (IsBytes-drop 5 bytes fits)) e in
    let known : length_of_kind v (kind_field (spelling m)) ≡ Some (length_field bytes) = ap (λ (t : List ℕ). length_of_kind v (kind_field t)) t.1 ∙ kind in
    ((t.0, has_kind v m (length_field bytes) known), front_is bytes fits whole low ∙ sym t.1)

-- a body that spells none makes the frame bad
pub reads_none : (v : Version) (bytes : List ℕ) → IsBytes bytes → IsWhole bytes → 1 ≤ length_field bytes → message_of (kind_field bytes) (body_field bytes) ≡ None → HasBadBody v bytes
reads_none v bytes fits whole low e = (
  whole,
  λ m known same.
      let r = message_again m known.0 in
      let frames : frame (kind_field bytes) (body_field bytes) ≡ frame r.kind r.body = sym (front_is bytes fits whole low) ∙ same ∙ r.spelled in
      let kinds : kind_field bytes ≡ r.kind = ap (λ (t : List ℕ). get_or t 4 0) frames in
      let bodies : body_field bytes ≡ r.body = ap (drop 5) frames in
      none-some m (sym e ∙ ap (λ (k : ℕ). message_of k (body_field bytes)) kinds ∙ ap (message_of r.kind) bodies ∙ r.read),
)

-- ---- a frame, and the bytes after it

frame_front : (kind : ℕ) (body behind : List ℕ) → length body + 1 < 2 ^ 32 → front_frame (frame kind body ++ behind) ≡ frame kind body
frame_front kind body behind short =
    let n : length_field (frame kind body ++ behind) ≡ length body + 1 = wide32.again (length body + 1) short in
    let long : length (frame kind body) ≡ 4 + length_field (frame kind body ++ behind) = omega (arith, n) in
    ap (λ (k : ℕ). take k (frame kind body ++ behind)) (sym long) ∙ take_at (frame kind body) behind (length (frame kind body)) refl

-- two frames spell the same message if one is a prefix of the other
pub one_frame : {M : Type 0} (read : ℕ → List ℕ → Option M) (j k : ℕ) (b c x y : List ℕ) (m n : M)
    → length b + 1 < 2 ^ 32 → length c + 1 < 2 ^ 32 → read j b ≡ Some m → read k c ≡ Some n
    → frame j b ++ x ≡ frame k c ++ y → (m ≡ n) × (x ≡ y)
one_frame read j k b c x y m n b_short c_short is_m is_n same =
    let frames : frame j b ≡ frame k c = sym (frame_front j b x b_short) ∙ ap front_frame same ∙ frame_front k c y c_short in
    let kinds : j ≡ k = ap (λ (t : List ℕ). get_or t 4 0) frames in
    let bodies : b ≡ c = ap (drop 5) frames in
    let one : Some m ≡ Some n = sym is_m ∙ ap (λ (kind : ℕ). read kind b) kinds ∙ ap (read k) bodies ∙ is_n in
    (same_Some m n one, append_cancel_left (frame j b) x y (same ∙ ap (λ (t : List ℕ). t ++ y) (sym frames)))

-- ---- a message's frame, and the bytes after it

pub record IsFront (m : ClientMessage) (bytes : List ℕ) : Type 0 where
  pub read : IsRead m
  pub long : length_field bytes ≡ length read.body + 1
  pub kind : kind_field bytes ≡ read.kind
  pub front : front_frame bytes ≡ spelling m
  pub whole : IsWhole bytes

pub spelled_front : (m : ClientMessage) (behind : List ℕ) → Fits m → IsFront m (spelling m ++ behind)
spelled_front m behind fits =
    let r = message_again m fits in
    let short : length r.body + 1 < 2 ^ 32 = omega (arith, r.high) in
    let same : frame r.kind r.body ++ behind ≡ spelling m ++ behind = ap (λ (t : List ℕ). t ++ behind) (sym r.spelled) in
    let n : length_field (spelling m ++ behind) ≡ length r.body + 1 = ap length_field (sym same) ∙ wide32.again (length r.body + 1) short in
    record {
      read = r;
      long = n;
      kind = ap kind_field (sym same);
      front = ap front_frame (sym same) ∙ frame_front r.kind r.body behind short ∙ sym r.spelled;
      whole = omega (arith, n, ap length r.spelled, length-append (spelling m) behind);
    }

-- no message's frame is a prefix of another's
pub one_front : (a b : ClientMessage) (x y : List ℕ) → Fits a → Fits b → spelling a ++ x ≡ spelling b ++ y → (a ≡ b) × (x ≡ y)
one_front a b x y a_fits b_fits same =
    let f = message_again a a_fits in
    let g = message_again b b_fits in
    let frames : frame f.kind f.body ++ x ≡ frame g.kind g.body ++ y = ap (λ (t : List ℕ). t ++ x) (sym f.spelled) ∙ same ∙ ap (λ (t : List ℕ). t ++ y) g.spelled in
    one_frame message_of f.kind g.kind f.body g.body x y a b (omega (arith, f.high)) (omega (arith, g.high)) f.read g.read frames

-- the frames of a kind are at most as long as the longest
first_row : (limit kind : ℕ) → 31 ≤ limit → IfSome (first_lengths kind) (λ n. n ≤ limit)
first_row limit kind le =
    let P : ℕ → Type 0 = λ n. n ≤ limit in
    row P kind 1 _ _ (λ e. omega arith) (row P kind 2 _ _ (λ e. omega arith) (row P kind 3 _ _ (λ e. omega arith)
    (row P kind 4 _ _ (λ e. omega arith) (row P kind 5 _ _ (λ e. omega arith) (row P kind 6 _ _ (λ e. omega arith)
    (row P kind 7 _ _ (λ e. omega arith) (row P kind 8 _ _ (λ e. omega arith) (row P kind 9 _ _ (λ e. omega arith) tt))))))))

length_row : (v : Version) (kind : ℕ) → IfSome (length_of_kind v kind) (λ n. n ≤ longest v)
length_row One kind = first_row 31 kind (lit≤ tt)
length_row Two kind =
    let P : ℕ → Type 0 = λ n. n ≤ 47 in
    row P kind 11 _ _ (λ e. lit≤ tt) (row P kind 12 _ _ (λ e. lit≤ tt) (row P kind 13 _ _ (λ e. lit≤ tt) (first_row 47 kind (lit≤ tt))))

-- bytes that begin with a message's frame are neither bad nor unfinished
pub front_not_bad : (v : Version) (m : ClientMessage) (behind : List ℕ) → FitsIn v m → IsBad v (spelling m ++ behind) → ⊥
front_not_bad v m behind fits bad =
    let f = spelled_front m behind fits.0 in
    let known : length_of_kind v (kind_field (spelling m ++ behind)) ≡ Some (length_field (spelling m ++ behind)) = ap (length_of_kind v) f.kind ∙ f.read.long v fits.1 ∙ ap (λ (k : ℕ). Some k) (sym f.long) in
    let within : length_field (spelling m ++ behind) ≤ longest v = some_at (λ n. n ≤ longest v) (length_of_kind v (kind_field (spelling m ++ behind))) (length_field (spelling m ++ behind)) known (length_row v (kind_field (spelling m ++ behind))) in
    elim bad [
      | inl h ↦ elim h.1 [ inl z ↦ omega (arith, f.long, z) | inr over ↦ omega (arith, within, over) ]
      | inr rest ↦ elim rest [ inl h ↦ h.1 known | inr h ↦ h.1 m fits f.front ]
    ]

pub front_not_unfinished : (v : Version) (m : ClientMessage) (behind : List ℕ) → Fits m → IsUnfinished v (spelling m ++ behind) → ⊥
front_not_unfinished v m behind fits h = h.0 (spelled_front m behind fits).whole

-- ---- more bytes

pub length_field-append : (r more : List ℕ) → 4 ≤ length r → length_field (r ++ more) ≡ length_field r
length_field-append r more le = ap (from_be_bytes w32) (take-append-le 4 r more le)

pub bad_more : (v : Version) (r more : List ℕ) → IsBad v r → IsBad v (r ++ more)
bad_more v r more bad =
    let longer : length r ≤ length (r ++ more) = omega (arith, length-append r more) in
    elim bad [
      | inl h ↦
          let n = length_field-append r more h.0 in
          inl (omega (arith, h.0, longer), elim h.1 [ inl z ↦ inl (n ∙ z) | inr over ↦ inr (omega (arith, n, over)) ])
      | inr rest ↦ elim rest [
        | inl h ↦
            let n = length_field-append r more (omega (arith, h.0)) in
            let k : kind_field (r ++ more) ≡ kind_field r = get_or_append_left r more 0 4 (omega (arith, h.0)) in
            inr (inl (omega (arith, h.0, longer), λ e. h.1 (ap (length_of_kind v) (sym k) ∙ e ∙ ap (λ (x : ℕ). Some x) n)))
        | inr h ↦
            let n = length_field-append r more (omega (arith, h.0)) in
            let front : front_frame (r ++ more) ≡ front_frame r = ap (λ (x : ℕ). take (4 + x) (r ++ more)) n ∙ take-append-le (4 + length_field r) r more h.0 in
            inr (inr (omega (arith, n, h.0, longer), λ m fits e. h.1 m fits (sym front ∙ e)))
      ]
    ]
