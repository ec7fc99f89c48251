-- The fields of an entry that is read from a record's bytes fit the bytes that they have.
use Rattle.std.proofs.Common.{◌≡◌, ℕ, ◌+◌, ◌^◌, ◌<◌, ◌≤◌, Bool, true, false, cond, eqb, ltb, Ok, List, length, take, drop, Option, Some, None, refl, sym, subst, arith}
use Rattle.std.specs.Prelude.{nat_le, slice_index}
use Rattle.std.specs.Int.{w32, w64, from_be_bytes}
use Rattle.std.proofs.lemmas.Bool.{leb-true}
use Rattle.std.proofs.lemmas.List.{length-take}
use Rattle.fe_words.specs.declared.word.Tag.{Tag}
use Rattle.fe_state.specs.declared.answer.Answer.{Answer}
use Rattle.fe_state.specs.declared.request.Request.{Request}
use Rattle.fe_state.specs.declared.request.Request.TheVariants.{Create, Find, Remove, Access}
use Rattle.fe_state.specs.declared.entry.Entry.{Entry}
use Rattle.fe_state.specs.declared.entry.Entry.TheVariants.{Attached, Closed, Settled, Finished}
use Rattle.fe_format.specs.Layout.{name_bytes}
use Rattle.fe_format.specs.declared.format.Format.{Format}
use Rattle.fe_format.specs.declared.format.Format.TheVariants.{One, Two}
use Rattle.fe_codes.specs.Reading.{IsBytes, tag_of, op_of, answer_of, ◌>>=◌}
use Rattle.fe_codes.specs.Codes.{operand_of, answer_number, answer_length}
use Rattle.fe_codes.proofs.CodeLaws.{op_takes, answer_takes}
use Rattle.fe_codec.specs.Record.{RequestFits, FieldsFit}
use Rattle.fe_codec.specs.Reading.{field_at, name_of, create_of, find_of, access_of, request_of, finished_of, entry_of}
use Rattle.fe_codec.specs.FirstFault.{number}
use Rattle.fe_codes.proofs.Splits.{IsBytes-take, IsBytes-drop}
use Rattle.fe_codec.proofs.ImageFields.{guard_not}

-- ---- numbers

pub below32 : (bytes : List ℕ) → IsBytes bytes → from_be_bytes w32 bytes < 2 ^ 32
below32 bytes h = omega (arith, h 0, h 1, h 2, h 3)

pub below64 : (bytes : List ℕ) → IsBytes bytes → from_be_bytes w64 bytes < 2 ^ 64
below64 bytes h = omega (arith, h 0, h 1, h 2, h 3, h 4, h 5, h 6, h 7)

pub number_below : (bytes : List ℕ) (x : ℕ × List ℕ) → IsBytes bytes → number w64 bytes ≡ Ok x → x.0 < 2 ^ 64
unfolding number
number_below bytes x fits e =
    let g = guard_not (ltb (length bytes) 8) 0 (from_be_bytes w64 (take 8 bytes), drop 8 bytes) x e in
    subst (λ (y : ℕ × List ℕ). y.0 < 2 ^ 64) g.1 (below64 (take 8 bytes) (IsBytes-take 8 bytes fits))

at32 : (bytes : List ℕ) (at : ℕ) → IsBytes bytes → field_at w32 bytes at < 2 ^ 32
at32 bytes at h = below32 (take 4 (drop at bytes)) (IsBytes-take 4 (drop at bytes) (IsBytes-drop at bytes h))

at64 : (bytes : List ℕ) (at : ℕ) → IsBytes bytes → field_at w64 bytes at < 2 ^ 64
at64 bytes at h = below64 (take 8 (drop at bytes)) (IsBytes-take 8 (drop at bytes) (IsBytes-drop at bytes h))

-- ---- what a value that may be missing is, where it is there

abbrev IfGiven : {A : Type 0} → (A → Type 0) → Option A → Type 0
IfGiven P o = (x : _) → o ≡ Some x → P x

value_is : {A : Type 0} (x y : A) → Some x ≡ Some y → x ≡ y
value_is x y e = cc

is_given : {A : Type 0} (P : A → Type 0) (x : A) → P x → IfGiven P (Some x)
is_given P x p y e = subst P (value_is x y e) p

not_given : {A : Type 0} (P : A → Type 0) → IfGiven P None
not_given P y e = absurd cc

either : {A : Type 0} (P : A → Type 0) (b : Bool) (x y : Option A) → (b ≡ true → IfGiven P x) → IfGiven P y → IfGiven P (cond b x y)
either P true x y p q = p refl
either P false x y p q = q

then : {A B : Type 0} (Q : A → Type 0) (P : B → Type 0) (o : Option A) (f : A → Option B) → IfGiven Q o → ((x : A) → Q x → IfGiven P (f x)) → IfGiven P (o >>= f)
then Q P (Some x) f q p = p x (q x refl)
then Q P None f q p = not_given P

-- ---- fields

op_fits : (code operand : ℕ) → operand < 2 ^ 64 → IfGiven (λ op. operand_of op < 2 ^ 64) (op_of code operand)
op_fits code operand lt op e = subst (λ (k : ℕ). k < 2 ^ 64) (sym (op_takes code operand op e).1) lt

abbrev AnswerFits : Answer → Type 0
AnswerFits answer = (answer_number answer < 2 ^ 64) × (answer_length answer < 2 ^ 32)

answer_fits : (code number size : ℕ) → number < 2 ^ 64 → size < 2 ^ 32 → IfGiven AnswerFits (answer_of code number size)
answer_fits code number size n s answer e =
    let t = answer_takes code number size answer e in
    (subst (λ (k : ℕ). k < 2 ^ 64) (sym t.1) n, subst (λ (k : ℕ). k < 2 ^ 32) (sym t.2) s)

row_within : (format : Format) → name_bytes format ≤ 32
row_within One = omega arith
row_within Two = omega arith

abbrev IsRowLong : List ℕ → Type 0
IsRowLong name = length name ≤ 32

name_fits : (format : Format) (bytes : List ℕ) → IfGiven IsRowLong (name_of format bytes)
unfolding name_of
name_fits format bytes =
    let P : List ℕ → Type 0 = λ name. IsRowLong name in
    let n = slice_index bytes 3 in
    either P (nat_le n (name_bytes format)) _ _
    (λ le. is_given P (take n (drop 24 bytes)) (let low = leb-true n (name_bytes format) le in omega (arith, length-take n (drop 24 bytes), row_within format))) (not_given P)

any_tag : (code : ℕ) → IfGiven (λ (tag : Tag). Unit {0}) (tag_of code)
any_tag code x e = tt

request_fits : (format : Format) (bytes : List ℕ) → IsBytes bytes → IfGiven RequestFits (request_of format bytes)
unfolding request_of create_of find_of access_of
request_fits format bytes h =
    let P : Request → Type 0 = λ request. RequestFits request in
    let size = at32 bytes (24 + name_bytes format) h in
    either P (eqb (slice_index bytes 1) 1) _ _ (λ _. then IsRowLong P (name_of format bytes) _ (name_fits format bytes) (λ name short. then (λ (tag : Tag). Unit {0}) P (tag_of (slice_index bytes 4)) _ (any_tag (slice_index bytes 4)) (λ tag _. is_given P (Create name (field_at w32 bytes (24 + name_bytes format)) tag) (short, size))))
    (either P (eqb (slice_index bytes 1) 2) _ _ (λ _. then IsRowLong P (name_of format bytes) _ (name_fits format bytes) (λ name short. is_given P (Find name) short))
    (either P (eqb (slice_index bytes 1) 3) _ _ (λ _. is_given P (Remove (field_at w64 bytes 24)) (at64 bytes 24 h))
    (then (λ op. operand_of op < 2 ^ 64) P (op_of (slice_index bytes 1) (field_at w64 bytes 32)) _ (op_fits (slice_index bytes 1) (field_at w64 bytes 32) (at64 bytes 32 h))
    (λ op low. is_given P (Access (field_at w64 bytes 24) (field_at w32 bytes (24 + name_bytes format)) op (eqb (slice_index bytes 5) 1)) (at64 bytes 24 h, size, low)))))

finished_fits : (format : Format) (bytes : List ℕ) → IsBytes bytes → IfGiven FieldsFit (finished_of format bytes)
unfolding finished_of
finished_fits format bytes h =
    let P : Entry → Type 0 = λ entry. FieldsFit entry in
    let number = field_at w64 bytes (32 + name_bytes format) in
    let size = field_at w32 bytes (28 + name_bytes format) in
    then RequestFits P (request_of format bytes) _ (request_fits format bytes h) (λ request fits.
    then AnswerFits P (answer_of (slice_index bytes 2) number size) _ (answer_fits (slice_index bytes 2) number size (at64 bytes (32 + name_bytes format) h) (at32 bytes (28 + name_bytes format) h)) (λ answer small.
    is_given P (Finished (field_at w64 bytes 8) (field_at w64 bytes 16) request answer) (at64 bytes 8 h, fits, small.0, small.1)))

-- an entry that a record's bytes may spell
pub entry_fits : (format : Format) (bytes : List ℕ) (entry : Entry) → IsBytes bytes → entry_of format bytes ≡ Some entry → FieldsFit entry
unfolding entry_of
entry_fits format bytes entry h e =
    let P : Entry → Type 0 = λ entry. FieldsFit entry in
    let session = at64 bytes 8 h in
    (either P (eqb (slice_index bytes 0) 1) _ _ (λ _. is_given P (Attached (field_at w64 bytes 8) (field_at w64 bytes 16)) session)
    (either P (eqb (slice_index bytes 0) 2) _ _ (λ _. is_given P (Closed (field_at w64 bytes 8)) session)
    (either P (eqb (slice_index bytes 0) 3) _ _ (λ _. is_given P (Settled (field_at w64 bytes 8) (field_at w64 bytes 16)) session)
    (either P (eqb (slice_index bytes 0) 4) _ _ (λ _. finished_fits format bytes h) (not_given P))))) entry e
