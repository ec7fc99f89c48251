-- What is written is read again.
use Rattle.std.proofs.Common.{◌≡◌, ℕ, ◌+◌, ◌-◌, ◌^◌, ◌<◌, ◌≤◌, List, [], ◌∷◌, ◌++◌, length, get_or, sym, ◌∙◌, ap, refl, arith, length-append}
use Rattle.std.proofs.lemmas.List.{ext_get_or, get_or_append_left, get_or-append_right, append-nil}
use Rattle.byteorder.specs.Endian.{big_number, big_bytes}
use Rattle.byteorder.specs.Numbers.{big_from-take, big_number-reads_back, length-bytes_high_first}
use Rattle.fe_disk.specs.Disk.{bytes_at}
use Rattle.fe_disk.proofs.Images.{length-bytes_at, get_or-bytes_at}
use Rattle.fe_journal.specs.Layout.{number_at}
use Rattle.fe_format.specs.Layout.{magic_of}
use Rattle.fe_journal.specs.Contents.{after_gate}
use Rattle.fe_journal.specs.Journal.{header_fields}
use Rattle.fe_format.specs.declared.format.Format.{Format}
use Rattle.fe_format.specs.declared.format.Format.TheVariants.{One, Two}
use Rattle.fe_journal.proofs.Bytes.{SameBytes, same_part, same_byte, same_bytes_at, same_number_at}

pub length-big_bytes : (n x : ℕ) → length (big_bytes n x) ≡ n
length-big_bytes n x = length-bytes_high_first n x

-- the part of a list after its front
pub behind_same : (xs ys : List ℕ) (n : ℕ) → length xs ≡ n → SameBytes (xs ++ ys) n ys 0 (length ys)
behind_same xs ys n long =
    record {
      here = omega (arith, length-append xs ys);
      there = omega arith;
      same = λ i p q low at_p at_q.
          let less : p - n ≡ q = omega arith in
          get_or-append_right xs ys n p 0 long (omega arith) ∙ ap (λ (k : ℕ). get_or ys k 0) less;
    }

pub front_same : (xs ys : List ℕ) → SameBytes (xs ++ ys) 0 xs 0 (length xs)
front_same xs ys =
    record {
      here = omega (arith, length-append xs ys);
      there = omega arith;
      same = λ i p q low at_p at_q.
          let p_is : p ≡ q = omega arith in
          get_or_append_left xs ys 0 p (omega arith) ∙ ap (λ (k : ℕ). get_or xs k 0) p_is;
    }

pub bytes_whole : (xs : List ℕ) (n : ℕ) → length xs ≡ n → bytes_at xs 0 n ≡ xs
bytes_whole xs n long =
    let size = length-bytes_at xs 0 n (omega arith) in
    ext_get_or 0 (bytes_at xs 0 n) xs (size ∙ sym long) (λ i low.
    let at_i : 0 + i ≡ i = omega arith in
    get_or-bytes_at xs 0 n i (omega (arith, low, size)) ∙ ap (λ (k : ℕ). get_or xs k 0) at_i)

-- the number that these bytes begin with
pub number_first : (n x : ℕ) (rest : List ℕ) → x < 256 ^ n → number_at (big_bytes n x ++ rest) 0 n ≡ x
number_first n x rest fits = big_from-take 0 n n (big_bytes n x ++ rest) (omega arith) ∙ big_number-reads_back n x rest fits

pub length-after_gate : (payload : List ℕ) → length (after_gate payload) ≡ 5 + length payload
length-after_gate payload =
    omega (arith, length-append (big_bytes 4 (length payload)) (payload ++ 0 ∷ []), length-append payload (0 ∷ []), length-big_bytes 4 (length payload))

-- what stands where a group was written
pub record IsSpelled (bytes : List ℕ) (at : ℕ) (payload : List ℕ) : Type 0 where
  pub length_is : number_at bytes at 4 ≡ length payload
  pub payload_is : bytes_at bytes (at + 4) (length payload) ≡ payload
  pub ended : get_or bytes (at + 4 + length payload) 0 ≡ 0

pub spelled : (bytes : List ℕ) (at : ℕ) (payload : List ℕ) → length payload ≤ 1048576 → SameBytes bytes at (after_gate payload) 0 (5 + length payload) → IsSpelled bytes at payload
spelled bytes at payload short s =
    let four = length-big_bytes 4 (length payload) in
    let rest = behind_same (big_bytes 4 (length payload)) (payload ++ 0 ∷ []) 4 four in
    let long : length (payload ++ 0 ∷ []) ≡ length payload + 1 = length-append payload (0 ∷ []) in
    let mine = same_part s 4 (length payload) (at + 4) 4 (omega arith) refl (omega arith) in
    let theirs = same_part rest 0 (length payload) 4 0 (omega (arith, long)) (omega arith) (omega arith) in
    let first = same_part (front_same payload (0 ∷ [])) 0 (length payload) 0 0 (omega arith) (omega arith) (omega arith) in
    record {
      length_is = same_number_at (same_part s 0 4 at 0 (omega arith) (omega arith) (omega arith)) ∙ number_first 4 (length payload) (payload ++ 0 ∷ []) (omega arith);
      payload_is = same_bytes_at mine ∙ same_bytes_at theirs ∙ same_bytes_at first ∙ bytes_whole payload (length payload) refl;
      ended =
          same_byte s (4 + length payload) (at + 4 + length payload) (4 + length payload) (omega arith) (omega arith) (omega arith)
          ∙ same_byte rest (length payload) (4 + length payload) (length payload) (omega (arith, long)) refl (omega arith)
          ∙ get_or-append_right payload (0 ∷ []) (length payload) (length payload) 0 refl (omega arith)
          ∙ ap (λ (k : ℕ). get_or (0 ∷ []) k 0) (let none : length payload - length payload ≡ 0 = omega arith in none);
    }

-- the fields where a header was written
pub record HasFields (bytes : List ℕ) (at : ℕ) (format : Format) (generation image_length : ℕ) : Type 0 where
  pub magic : number_at bytes at 8 ≡ magic_of format
  pub generation_is : number_at bytes (at + 8) 8 ≡ generation
  pub length_is : number_at bytes (at + 16) 4 ≡ image_length

magic_fits : (format : Format) → magic_of format < 256 ^ 8
magic_fits One = omega arith
magic_fits Two = omega arith

pub length-header_fields : (format : Format) (generation image_length : ℕ) → length (header_fields format generation image_length) ≡ 20
length-header_fields format generation image_length =
    omega (
      arith,
      length-append (big_bytes 8 (magic_of format)) (big_bytes 8 generation ++ big_bytes 4 image_length),
      length-append (big_bytes 8 generation) (big_bytes 4 image_length),
      length-big_bytes 8 (magic_of format),
      length-big_bytes 8 generation,
      length-big_bytes 4 image_length,
    )

big_number_none : (xs : List ℕ) → big_number 4 (xs ++ []) ≡ big_number 4 xs
big_number_none xs = ap (λ (l : List ℕ). big_number 4 l) (append-nil xs)

pub fields_spelled : (bytes : List ℕ) (at : ℕ) (format : Format) (generation image_length : ℕ) → generation < 256 ^ 8 → image_length < 256 ^ 4 → SameBytes bytes at (header_fields format generation image_length) 0 20
    → HasFields bytes at format generation image_length
fields_spelled bytes at format generation image_length small short s =
    let magic = big_bytes 8 (magic_of format) in
    let last = big_bytes 4 image_length in
    let eight = length-big_bytes 8 (magic_of format) in
    let again = length-big_bytes 8 generation in
    let four = length-big_bytes 4 image_length in
    let long : length (big_bytes 8 generation ++ last) ≡ 12 = omega (arith, length-append (big_bytes 8 generation) last, again, four) in
    let rest = behind_same magic (big_bytes 8 generation ++ last) 8 eight in
    let end = behind_same (big_bytes 8 generation) last 8 again in
    let last_whole : number_at last 0 4 ≡ image_length =
    big_from-take 0 4 4 last (omega arith) ∙ sym (big_number_none last) ∙ big_number-reads_back 4 image_length [] short in
    record {
      magic = same_number_at (same_part s 0 8 at 0 (omega arith) (omega arith) (omega arith)) ∙ number_first 8 (magic_of format) (big_bytes 8 generation ++ last) (magic_fits format);
      generation_is =
          same_number_at (same_part s 8 8 (at + 8) 8 (omega arith) refl (omega arith)) ∙ same_number_at (same_part rest 0 8 8 0 (omega (arith, long)) (omega arith) (omega arith))
          ∙ number_first 8 generation last small;
      length_is =
          same_number_at (same_part s 16 4 (at + 16) 16 (omega arith) refl (omega arith)) ∙ same_number_at (same_part rest 8 4 16 8 (omega (arith, long)) (omega arith) (omega arith))
          ∙ same_number_at (same_part end 0 4 8 0 (omega (arith, four)) (omega arith) (omega arith)) ∙ last_whole;
    }
