-- What has been read of a group, and what is left of its bytes.
use Rattle.std.proofs.Common.{◌≡◌, ℕ, ◌+◌, ◌*◌, ◌/◌, ◌<◌, ◌≤◌, List, [], ◌∷◌, ◌++◌, length, refl, sym, ap, ◌∙◌, append_assoc, arith}
use Rattle.std.proofs.lemmas.List.{append-nil, length-append}
use Rattle.std.proofs.Math.Nat.{add-mul}
use Rattle.fe_state.specs.declared.entry.Entry.{Entry}
use Rattle.fe_format.specs.Layout.{record_bytes, group_records}
use Rattle.fe_codec.specs.Record.{entry_spelling, group_spelling, FitsRecord, FitsGroup, IsGroupSize, IsGroupOf}
use Rattle.fe_format.specs.declared.format.Format.{Format}
use Rattle.fe_format.specs.declared.format.Format.TheVariants.{One, Two}
use Rattle.fe_codec.proofs.RecordLaws.{one_record_first, length-entry_spelling}
use Rattle.fe_codec.proofs.GroupLaws.{one_group}

nothing : (bytes : List ℕ) → length bytes ≡ 0 → bytes ≡ []
nothing [] none = refl
nothing (b ∷ bytes) none = absurd (omega arith)

-- a group has as many bytes as its records
length-group_spelling : (format : Format) (entries : List Entry) → FitsGroup format entries → length (group_spelling format entries) ≡ length entries * record_bytes format
length-group_spelling format [] fits = omega arith
length-group_spelling format (entry ∷ entries) fits =
    let more : (length entries + 1) * record_bytes format ≡ length entries * record_bytes format + record_bytes format = add-mul (length entries) 1 (record_bytes format) ∙ omega arith in
    omega (arith, length-append (entry_spelling format entry) (group_spelling format entries), length-entry_spelling format entry fits.0, length-group_spelling format entries fits.1, more)

-- a group has the length of a group, and only a group is spelled by that many bytes
size_of : (format : Format) (count size : ℕ) → 1 ≤ count → count ≤ group_records format → size ≡ count * record_bytes format → IsGroupSize format size
size_of One count size least most is = record { whole = omega arith; least = omega arith; most = omega arith }
size_of Two count size least most is = record { whole = omega arith; least = omega arith; most = omega arith }

pub group_sized : (format : Format) (entries : List Entry) (bytes : List ℕ) → IsGroupOf format entries bytes → IsGroupSize format (length bytes)
group_sized format entries bytes is = size_of format (length entries) (length bytes) is.least is.most (ap length is.spelled ∙ length-group_spelling format entries is.fits)

at_least : (format : Format) (count size : ℕ) → size ≡ count * record_bytes format → IsGroupSize format size → 1 ≤ count
at_least One count size is h = omega (arith, h.least)
at_least Two count size is h = omega (arith, h.least)

at_most : (format : Format) (count size : ℕ) → size ≡ count * record_bytes format → IsGroupSize format size → count ≤ group_records format
at_most One count size is h = omega (arith, h.most)
at_most Two count size is h = omega (arith, h.most)

-- what holds in the midst of a group that is read: what was read is spelled first, and the rest is left
pub record IsReading (format : Format) (bytes : List ℕ) (entries : List Entry) (rest : List ℕ) (i : ℕ) : Type 0 where
  pub spelled : bytes ≡ group_spelling format entries ++ rest
  pub fits : FitsGroup format entries
  pub count : length entries ≡ i

-- how many bytes are left
left : (format : Format) (bytes : List ℕ) (entries : List Entry) (rest : List ℕ) (i : ℕ) → IsReading format bytes entries rest i → length bytes ≡ i * record_bytes format + length rest
left format bytes entries rest i h =
    let long : length (group_spelling format entries) ≡ i * record_bytes format = length-group_spelling format entries h.fits ∙ ap (λ (n : ℕ). n * record_bytes format) h.count in
    omega (arith, ap length h.spelled, length-append (group_spelling format entries) rest, long)

a_record : (format : Format) (size i rest : ℕ) → size ≡ i * record_bytes format + rest → i < size / record_bytes format → record_bytes format ≤ rest
a_record One size i rest is lt = omega arith
a_record Two size i rest is lt = omega arith

none_left : (format : Format) (size i rest : ℕ) → IsGroupSize format size → size ≡ i * record_bytes format + rest → i ≡ size / record_bytes format → rest ≡ 0
none_left One size i rest h is last = omega (arith, h.whole)
none_left Two size i rest h is last = omega (arith, h.whole)

-- before the last record, one is left
pub one_left : (format : Format) (bytes : List ℕ) (entries : List Entry) (rest : List ℕ) (i : ℕ) → IsReading format bytes entries rest i → i < length bytes / record_bytes format → record_bytes format ≤ length rest
one_left format bytes entries rest i h lt = a_record format (length bytes) i (length rest) (left format bytes entries rest i h) lt

-- what begins with no record is not the rest of a group
no_rest : (format : Format) (xs ys : List Entry) (rest : List ℕ) → FitsGroup format xs → FitsGroup format ys → group_spelling format ys ≡ group_spelling format xs ++ rest → 1 ≤ length rest
    → ((entry : Entry) (more : List ℕ) → FitsRecord format entry → rest ≡ entry_spelling format entry ++ more → ⊥) → ⊥
no_rest format [] [] rest x_fits y_fits same some h = absurd (omega (arith, ap length same))
no_rest format [] (y ∷ ys) rest x_fits y_fits same some h = h y (group_spelling format ys) y_fits.0 (sym same)
no_rest format (x ∷ xs) [] rest x_fits y_fits same some h = absurd (omega (arith, ap length same, length-append (group_spelling format (x ∷ xs)) rest))
no_rest format (x ∷ xs) (y ∷ ys) rest x_fits y_fits same some h =
    let first = one_record_first format y x (group_spelling format ys) (group_spelling format xs ++ rest) y_fits.0 x_fits.0 (same ∙ append_assoc (entry_spelling format x) (group_spelling format xs) rest) in
    no_rest format xs ys rest x_fits.1 y_fits.1 first.1 some h

some_byte : (format : Format) (n : ℕ) → record_bytes format ≤ n → 1 ≤ n
some_byte One n le = omega arith
some_byte Two n le = omega arith

-- where no record follows, the bytes are no group
pub no_group : (format : Format) (bytes : List ℕ) (read : List Entry) (rest : List ℕ) (i : ℕ) (entries : List Entry) → IsReading format bytes read rest i → record_bytes format ≤ length rest
    → ((entry : Entry) (more : List ℕ) → FitsRecord format entry → rest ≡ entry_spelling format entry ++ more → ⊥) → IsGroupOf format entries bytes → ⊥
no_group format bytes read rest i entries h room none is =
    no_rest format read entries rest h.fits is.fits (sym is.spelled ∙ h.spelled) (some_byte format (length rest) room) none

-- all is read
pub all_read : (format : Format) (bytes : List ℕ) (entries : List Entry) (rest : List ℕ) (i : ℕ) → IsGroupSize format (length bytes) → IsReading format bytes entries rest i → i ≡ length bytes / record_bytes format → IsGroupOf format entries bytes
all_read format bytes entries rest i size h last =
    let none : rest ≡ [] = nothing rest (none_left format (length bytes) i (length rest) size (left format bytes entries rest i h) last) in
    let spelled : bytes ≡ group_spelling format entries = h.spelled ∙ ap (λ (t : List ℕ). group_spelling format entries ++ t) none ∙ append-nil (group_spelling format entries) in
    let long : length bytes ≡ length entries * record_bytes format = ap length spelled ∙ length-group_spelling format entries h.fits in
    record { least = at_least format (length entries) (length bytes) long size; most = at_most format (length entries) (length bytes) long size; fits = h.fits; spelled = spelled }

-- and is the one group that the bytes are
pub the_group : (format : Format) (bytes : List ℕ) (xs ys : List Entry) → IsGroupOf format xs bytes → IsGroupOf format ys bytes → xs ≡ ys
the_group format bytes xs ys x y = one_group format xs ys x.fits y.fits (sym x.spelled ∙ y.spelled)
