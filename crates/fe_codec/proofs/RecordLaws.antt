-- What is spelled as a record is read again.
use Rattle.std.proofs.Common.{◌≡◌, ℕ, ◌+◌, ◌-◌, ◌^◌, ◌<◌, ◌≤◌, Bool, true, false, cond, eqb, ◌&&◌, List, ◌++◌, length, take, drop, replicate, Option, Some, refl, sym, ap, ◌∙◌, append_assoc, arith}
use Rattle.std.specs.Int.{w32, w64, to_be_bytes}
use Rattle.std.proofs.lemmas.Bool.{le-leb, leb-true}
use Rattle.std.proofs.lemmas.Option.{same_Some}
use Rattle.std.proofs.lemmas.List.{take_at, drop_at, length-append, length-replicate}
use Rattle.fe_state.specs.Format.{request_fits_format_1, answer_fits_format_1}
use Rattle.fe_words.specs.declared.op.Op.{Op}
use Rattle.fe_words.specs.declared.op.Op.TheVariants.{ReadFe, ReadFf, ReadXx, WriteEf, WriteFf, WriteXf, Purge, IntFetchAdd}
use Rattle.fe_state.specs.declared.answer.Answer.{Answer}
use Rattle.fe_state.specs.declared.request.Request.{Request}
use Rattle.fe_state.specs.declared.request.Request.TheVariants.{Create, Find, Remove, Access}
use Rattle.fe_state.specs.declared.entry.Entry.{Entry}
use Rattle.fe_state.specs.declared.entry.Entry.TheVariants.{Attached, Closed, Settled, Finished}
use Rattle.fe_codes.specs.Codes.{tag_code, op_code, operand_of, answer_code, answer_number, answer_length}
use Rattle.fe_codes.specs.Reading.{tag_of, op_of, answer_of, ◌>>=◌}
use Rattle.fe_codes.proofs.CodeLaws.{tag_again, op_again, answer_again}
use Rattle.fe_format.specs.Layout.{name_bytes, record_bytes}
use Rattle.fe_codec.specs.Record.{flag_code, codes_field, name_row, array_row, record_spelling, short_spelling, entry_spelling, request_codes, request_row, request_size, FitsRecord, IsShort, HasRow, HasRoomForEntry, IsOfFormat, RequestFits}
use Rattle.fe_codec.specs.Reading.{field_at, name_of, create_of, find_of, access_of, request_of, finished_of, entry_of}
use Rattle.fe_format.specs.declared.format.Format.{Format}
use Rattle.fe_format.specs.declared.format.Format.TheVariants.{One, Two}
use Rattle.fe_codes.proofs.BindingLaws.{bind_at}
use Rattle.fe_codec.proofs.FieldLaws.{wide32, wide64, number_again}

-- ---- codes

flag_again : (flag : Bool) → eqb (flag_code flag) 1 ≡ flag
flag_again true = refl
flag_again false = refl

-- no operation has the code of another request
op_alone : {A : Type 0} (op : Op) (x y z w : A) → cond (eqb (op_code op) 1) x (cond (eqb (op_code op) 2) y (cond (eqb (op_code op) 3) z w)) ≡ w
op_alone ReadFe x y z w = refl
op_alone ReadFf x y z w = refl
op_alone ReadXx x y z w = refl
op_alone (WriteEf operand) x y z w = refl
op_alone (WriteFf operand) x y z w = refl
op_alone (WriteXf operand) x y z w = refl
op_alone Purge x y z w = refl
op_alone (IntFetchAdd operand) x y z w = refl

-- ---- the numbers of a record

behind_row : (a b c d e f g h : List ℕ) → a ++ b ++ c ++ d ++ e ++ f ++ g ++ h ≡ (a ++ b ++ c ++ d) ++ (e ++ (f ++ g ++ h))
behind_row a b c d e f g h = simp append_assoc

behind_size : (a b c d e f g h : List ℕ) → a ++ b ++ c ++ d ++ e ++ f ++ g ++ h ≡ (a ++ b ++ c ++ d ++ e) ++ (f ++ (g ++ h))
behind_size a b c d e f g h = simp append_assoc

behind_length : (a b c d e f g h : List ℕ) → a ++ b ++ c ++ d ++ e ++ f ++ g ++ h ≡ (a ++ b ++ c ++ d ++ e ++ f) ++ (g ++ h)
behind_length a b c d e f g h = simp append_assoc

-- what a record's fields are, given its codes and its row
pub record Fields (kind request answer count tag flag session number : ℕ) (row : List ℕ) (size answer_size answer_value : ℕ) : Type 0 where
  pub session_fits : session < 2 ^ 64
  pub number_fits : number < 2 ^ 64
  pub size_fits : size < 2 ^ 32
  pub answer_size_fits : answer_size < 2 ^ 32
  pub answer_value_fits : answer_value < 2 ^ 64

abbrev text : ℕ → ℕ → ℕ → ℕ → ℕ → ℕ → ℕ → ℕ → List ℕ → ℕ → ℕ → ℕ → List ℕ
text kind request answer count tag flag session number row size answer_size answer_value =
    record_spelling (codes_field kind request answer count tag flag) session number row size answer_size answer_value

module _ (format : Format) (kind request answer count tag flag session number : ℕ) (row : List ℕ) (size answer_size answer_value : ℕ) (long : length row ≡ name_bytes format) (fits : Fields kind request answer count tag flag session number row size answer_size answer_value) where
  abbrev the_text : List ℕ
  the_text = text kind request answer count tag flag session number row size answer_size answer_value

  abbrev front : List ℕ
  front = codes_field kind request answer count tag flag ++ to_be_bytes w64 session ++ to_be_bytes w64 number ++ row

  front_long : length front ≡ 24 + name_bytes format
  front_long = omega (arith, long)

  pub session_again : field_at w64 the_text 8 ≡ session
  session_again = wide64.again session fits.session_fits

  pub size_again : field_at w32 the_text (24 + name_bytes format) ≡ size
  size_again =
      ap (λ (t : List ℕ). field_at w32 t (24 + name_bytes format)) (behind_row (codes_field kind request answer count tag flag) (to_be_bytes w64 session) (to_be_bytes w64 number) row (to_be_bytes w32 size) (to_be_bytes w32 answer_size) (to_be_bytes w64 answer_value) (replicate 8 0))
      ∙ number_again w32 (2 ^ 32) wide32 front size (to_be_bytes w32 answer_size ++ to_be_bytes w64 answer_value ++ replicate 8 0) (24 + name_bytes format) front_long fits.size_fits

  pub answer_size_again : field_at w32 the_text (28 + name_bytes format) ≡ answer_size
  answer_size_again =
      ap (λ (t : List ℕ). field_at w32 t (28 + name_bytes format)) (behind_size (codes_field kind request answer count tag flag) (to_be_bytes w64 session) (to_be_bytes w64 number) row (to_be_bytes w32 size) (to_be_bytes w32 answer_size) (to_be_bytes w64 answer_value) (replicate 8 0))
      ∙ number_again w32 (2 ^ 32) wide32 (front ++ to_be_bytes w32 size) answer_size (to_be_bytes w64 answer_value ++ replicate 8 0) (28 + name_bytes format) (omega (arith, length-append front (to_be_bytes w32 size), front_long)) fits.answer_size_fits

  pub answer_value_again : field_at w64 the_text (32 + name_bytes format) ≡ answer_value
  answer_value_again =
      ap (λ (t : List ℕ). field_at w64 t (32 + name_bytes format)) (behind_length (codes_field kind request answer count tag flag) (to_be_bytes w64 session) (to_be_bytes w64 number) row (to_be_bytes w32 size) (to_be_bytes w32 answer_size) (to_be_bytes w64 answer_value) (replicate 8 0))
      ∙ number_again w64 (2 ^ 64) wide64 (front ++ to_be_bytes w32 size ++ to_be_bytes w32 answer_size) answer_value (replicate 8 0) (32 + name_bytes format) (omega (arith, length-append front (to_be_bytes w32 size), length-append (front ++ to_be_bytes w32 size) (to_be_bytes w32 answer_size), front_long)) fits.answer_value_fits

-- ---- requests

pub length-name_row : (format : Format) (name : List ℕ) → length name ≤ name_bytes format → length (name_row format name) ≡ name_bytes format
length-name_row format name le = omega (arith, length-append name (replicate (name_bytes format - length name) 0), length-replicate {A = ℕ} (name_bytes format - length name) 0)

-- a name of at most 32 bytes that the format has room for is no longer than its row
pub row_short : (format : Format) (name : List ℕ) → IsShort format name → length name ≤ 32 → length name ≤ name_bytes format
row_short One name short le = short
row_short Two name short le = le

least_row : (format : Format) → 16 ≤ name_bytes format
least_row One = omega arith
least_row Two = omega arith

length-array_row : (format : Format) (array operand : ℕ) → length (array_row format array operand) ≡ name_bytes format
length-array_row format array operand = omega (arith, least_row format, length-replicate {A = ℕ} (name_bytes format - 16) 0)

pub length-request_row : (format : Format) (request : Request) → HasRow format request → RequestFits request → length (request_row format request) ≡ name_bytes format
length-request_row format (Create name size tag) room fits = length-name_row format name (row_short format name room fits.0)
length-request_row format (Find name) room fits = length-name_row format name (row_short format name room fits)
length-request_row format (Remove array) room fits = length-array_row format array 0
length-request_row format (Access array index op no_wait) room fits = length-array_row format array (operand_of op)

-- the name at the front of a row, with fields after it
row_name : (name zeros c d e f : List ℕ) → take (length name) ((name ++ zeros) ++ c ++ d ++ e ++ f) ≡ name
row_name name zeros c d e f =
    let same : (name ++ zeros) ++ c ++ d ++ e ++ f ≡ name ++ (zeros ++ c ++ d ++ e ++ f) = simp append_assoc in
    ap (λ (t : List ℕ). take (length name) t) same ∙ take_at name (zeros ++ c ++ d ++ e ++ f) (length name) refl

name_again : (format : Format) (kind request answer tag flag session number : ℕ) (name : List ℕ) (size answer_size answer_value : ℕ) → length name ≤ name_bytes format
    → name_of format (text kind request answer (length name) tag flag session number (name_row format name) size answer_size answer_value) ≡ Some name
unfolding name_of
name_again format kind request answer tag flag session number name size answer_size answer_value le =
    rw (le-leb (length name) (name_bytes format) le)
    (ap (λ (t : List ℕ). Some t) (row_name name (replicate (name_bytes format - length name) 0) (to_be_bytes w32 size) (to_be_bytes w32 answer_size) (to_be_bytes w64 answer_value) (replicate 8 0)))

-- the request in a record whose numbers fit
request_again : (format : Format) (session number : ℕ) (request : Request) (answer answer_size answer_value : ℕ)
    → session < 2 ^ 64 → number < 2 ^ 64 → answer_size < 2 ^ 32 → answer_value < 2 ^ 64 → RequestFits request → HasRow format request
    → request_of format (record_spelling (request_codes answer request) session number (request_row format request) (request_size request) answer_size answer_value) ≡ Some request
unfolding request_of create_of find_of access_of
request_again format session number (Create name size tag) answer answer_size answer_value s n a v fits room =
    let t : List ℕ = text 4 1 answer (length name) (tag_code tag) 0 session number (name_row format name) size answer_size answer_value in
    let given : Fields 4 1 answer (length name) (tag_code tag) 0 session number (name_row format name) size answer_size answer_value = record { session_fits = s; number_fits = n; size_fits = fits.1; answer_size_fits = a; answer_value_fits = v } in
    bind_at (name_of format t) (λ name'. tag_of (tag_code tag) >>= λ tag'. Some (Create name' (field_at w32 t (24 + name_bytes format)) tag')) name (name_again format 4 1 answer (tag_code tag) 0 session number name size answer_size answer_value (row_short format name room fits.0))
    ∙ bind_at (tag_of (tag_code tag)) (λ tag'. Some (Create name (field_at w32 t (24 + name_bytes format)) tag')) tag (tag_again tag)
    ∙ ap (λ (k : ℕ). Some (Create name k tag)) (size_again format 4 1 answer (length name) (tag_code tag) 0 session number (name_row format name) size answer_size answer_value (length-name_row format name (row_short format name room fits.0)) given)
request_again format session number (Find name) answer answer_size answer_value s n a v fits room =
    let t : List ℕ = text 4 2 answer (length name) 0 0 session number (name_row format name) 0 answer_size answer_value in
    bind_at (name_of format t) (λ name'. Some (Find name')) name (name_again format 4 2 answer 0 0 session number name 0 answer_size answer_value (row_short format name room fits))
request_again format session number (Remove array) answer answer_size answer_value s n a v fits room =
    ap (λ (k : ℕ). Some (Remove k)) (wide64.again array fits)
request_again format session number (Access array index op no_wait) answer answer_size answer_value s n a v fits room =
    let row : List ℕ = array_row format array (operand_of op) in
    let t : List ℕ = text 4 (op_code op) answer 0 0 (flag_code no_wait) session number row index answer_size answer_value in
    let given : Fields 4 (op_code op) answer 0 0 (flag_code no_wait) session number row index answer_size answer_value = record { session_fits = s; number_fits = n; size_fits = fits.1; answer_size_fits = a; answer_value_fits = v } in
    let built : ℕ → ℕ → Op → Bool → Option Request = λ id i o flag. Some (Access id i o flag) in
    op_alone op _ _ _ _
    ∙ bind_at (op_of (op_code op) (field_at w64 t 32)) (λ o. built (field_at w64 t 24) (field_at w32 t (24 + name_bytes format)) o (eqb (flag_code no_wait) 1)) op (ap (λ (k : ℕ). op_of (op_code op) k) (wide64.again (operand_of op) fits.2) ∙ op_again op)
    ∙ ap (λ (k : ℕ). built k (field_at w32 t (24 + name_bytes format)) op (eqb (flag_code no_wait) 1)) (wide64.again array fits.0)
    ∙ ap (λ (k : ℕ). built array k op (eqb (flag_code no_wait) 1)) (size_again format 4 (op_code op) answer 0 0 (flag_code no_wait) session number row index answer_size answer_value (length-array_row format array (operand_of op)) given)
    ∙ ap (built array index op) (flag_again no_wait)

-- what the format has room for
fits_both : (a b : Bool) → (a && b) ≡ true → a ≡ true
fits_both true b e = refl
fits_both false b e = absurd cc

request_room : (request : Request) → request_fits_format_1 request ≡ true → HasRow One request
request_room (Create name size tag) fits = leb-true _ _ fits
request_room (Find name) fits = leb-true _ _ fits
request_room (Remove array) fits = tt
request_room (Access array index op no_wait) fits = tt

row_of_two : (request : Request) → HasRow Two request
row_of_two (Create name size tag) = tt
row_of_two (Find name) = tt
row_of_two (Remove array) = tt
row_of_two (Access array index op no_wait) = tt

pub entry_room : (format : Format) (entry : Entry) → IsOfFormat format entry → HasRoomForEntry format entry
entry_room format (Attached session floor) fits = tt
entry_room format (Closed session) fits = tt
entry_room format (Settled session floor) fits = tt
entry_room One (Finished session number request answer) fits = request_room request (fits_both (request_fits_format_1 request) (answer_fits_format_1 answer) fits)
entry_room Two (Finished session number request answer) fits = row_of_two request

-- ---- entries

-- a record of a request that finished, where its request is read again
finished_as : (format : Format) (code count tag flag session number : ℕ) (row : List ℕ) (size : ℕ) (request : Request) (answer : Answer) → length row ≡ name_bytes format
    → Fields 4 code (answer_code answer) count tag flag session number row size (answer_length answer) (answer_number answer)
    → request_of format (text 4 code (answer_code answer) count tag flag session number row size (answer_length answer) (answer_number answer)) ≡ Some request
    → entry_of format (text 4 code (answer_code answer) count tag flag session number row size (answer_length answer) (answer_number answer)) ≡ Some (Finished session number request answer)
unfolding entry_of finished_of
finished_as format code count tag flag session number row size request answer long given read =
    let t : List ℕ = text 4 code (answer_code answer) count tag flag session number row size (answer_length answer) (answer_number answer) in
    let value : ℕ = field_at w64 t (32 + name_bytes format) in
    let words : ℕ = field_at w32 t (28 + name_bytes format) in
    let built : Request → Answer → Option Entry = λ r a. Some (Finished (field_at w64 t 8) (field_at w64 t 16) r a) in
    let value_is : value ≡ answer_number answer = answer_value_again format 4 code (answer_code answer) count tag flag session number row size (answer_length answer) (answer_number answer) long given in
    let words_is : words ≡ answer_length answer = answer_size_again format 4 code (answer_code answer) count tag flag session number row size (answer_length answer) (answer_number answer) long given in
    bind_at (request_of format t) (λ r. answer_of (answer_code answer) value words >>= built r) request read
    ∙ bind_at (answer_of (answer_code answer) value words) (built request) answer
    (ap (λ (k : ℕ). answer_of (answer_code answer) k words) value_is ∙ ap (λ (k : ℕ). answer_of (answer_code answer) (answer_number answer) k) words_is ∙ answer_again answer)
    ∙ ap (λ (k : ℕ). Some (Finished k (field_at w64 t 16) request answer)) (wide64.again session given.session_fits)
    ∙ ap (λ (k : ℕ). Some (Finished session k request answer)) (wide64.again number given.number_fits)

finished_again : (format : Format) (session number : ℕ) (request : Request) (answer : Answer) → session < 2 ^ 64 → number < 2 ^ 64 → RequestFits request → answer_number answer < 2 ^ 64 → answer_length answer < 2 ^ 32 → HasRow format request
    → entry_of format (entry_spelling format (Finished session number request answer)) ≡ Some (Finished session number request answer)
finished_again format session number (Create name size tag) answer s n fits v a room =
    finished_as format 1 (length name) (tag_code tag) 0 session number (name_row format name) size (Create name size tag) answer (length-request_row format (Create name size tag) room fits)
    (record { session_fits = s; number_fits = n; size_fits = fits.1; answer_size_fits = a; answer_value_fits = v })
    (request_again format session number (Create name size tag) (answer_code answer) (answer_length answer) (answer_number answer) s n a v fits room)
finished_again format session number (Find name) answer s n fits v a room =
    finished_as format 2 (length name) 0 0 session number (name_row format name) 0 (Find name) answer (length-request_row format (Find name) room fits)
    (record { session_fits = s; number_fits = n; size_fits = omega arith; answer_size_fits = a; answer_value_fits = v })
    (request_again format session number (Find name) (answer_code answer) (answer_length answer) (answer_number answer) s n a v fits room)
finished_again format session number (Remove array) answer s n fits v a room =
    finished_as format 3 0 0 0 session number (array_row format array 0) 0 (Remove array) answer (length-array_row format array 0)
    (record { session_fits = s; number_fits = n; size_fits = omega arith; answer_size_fits = a; answer_value_fits = v })
    (request_again format session number (Remove array) (answer_code answer) (answer_length answer) (answer_number answer) s n a v fits room)
finished_again format session number (Access array index op no_wait) answer s n fits v a room =
    finished_as format (op_code op) 0 0 (flag_code no_wait) session number (array_row format array (operand_of op)) index (Access array index op no_wait) answer (length-array_row format array (operand_of op))
    (record { session_fits = s; number_fits = n; size_fits = fits.1; answer_size_fits = a; answer_value_fits = v })
    (request_again format session number (Access array index op no_wait) (answer_code answer) (answer_length answer) (answer_number answer) s n a v fits room)

pub entry_again : (format : Format) (entry : Entry) → FitsRecord format entry → entry_of format (entry_spelling format entry) ≡ Some entry
unfolding entry_of
entry_again format (Attached session floor) fits =
    ap (λ (k : ℕ). Some (Attached k (field_at w64 (short_spelling format 1 session floor) 16))) (wide64.again session fits.fields)
    ∙ ap (λ (k : ℕ). Some (Attached session k)) (wide64.again floor (omega (arith, fits.numbered)))
entry_again format (Closed session) fits = ap (λ (k : ℕ). Some (Closed k)) (wide64.again session fits.fields)
entry_again format (Settled session floor) fits =
    ap (λ (k : ℕ). Some (Settled k (field_at w64 (short_spelling format 3 session floor) 16))) (wide64.again session fits.fields)
    ∙ ap (λ (k : ℕ). Some (Settled session k)) (wide64.again floor (omega (arith, fits.numbered)))
entry_again format (Finished session number request answer) fits =
    finished_again format session number request answer fits.fields.0 (omega (arith, fits.numbered)) fits.fields.1 fits.fields.2 fits.fields.3 (entry_room format (Finished session number request answer) fits.of_format)

-- ---- records

-- each entry has one record
pub one_record : (format : Format) (a b : Entry) → FitsRecord format a → FitsRecord format b → entry_spelling format a ≡ entry_spelling format b → a ≡ b
one_record format a b a_fits b_fits same = same_Some a b (sym (entry_again format a a_fits) ∙ ap (entry_of format) same ∙ entry_again format b b_fits)

-- a record has the length of its format
record_long : (format : Format) (codes row : List ℕ) (session number size answer_size answer_value : ℕ) → length codes ≡ 8 → length row ≡ name_bytes format → length (record_spelling codes session number row size answer_size answer_value) ≡ record_bytes format
record_long One codes row session number size answer_size answer_value first long = simp length-append (omega (arith, first, long))
record_long Two codes row session number size answer_size answer_value first long = simp length-append (omega (arith, first, long))

length-request_codes : (answer : ℕ) (request : Request) → length (request_codes answer request) ≡ 8
length-request_codes answer (Create name size tag) = refl
length-request_codes answer (Find name) = refl
length-request_codes answer (Remove array) = refl
length-request_codes answer (Access array index op no_wait) = refl

short_long : (format : Format) (kind session number : ℕ) → length (short_spelling format kind session number) ≡ record_bytes format
short_long format kind session number = record_long format (codes_field kind 0 0 0 0 0) (replicate (name_bytes format) 0) session number 0 0 0 refl (length-replicate (name_bytes format) 0)

pub length-entry_spelling : (format : Format) (entry : Entry) → FitsRecord format entry → length (entry_spelling format entry) ≡ record_bytes format
length-entry_spelling format (Attached session floor) fits = short_long format 1 session floor
length-entry_spelling format (Closed session) fits = short_long format 2 session 0
length-entry_spelling format (Settled session floor) fits = short_long format 3 session floor
length-entry_spelling format (Finished session number request answer) fits =
    record_long format (request_codes (answer_code answer) request) (request_row format request) session number (request_size request) (answer_length answer) (answer_number answer) (length-request_codes (answer_code answer) request)
    (length-request_row format request (entry_room format (Finished session number request answer) fits.of_format) fits.fields.1)

-- no record begins another
pub one_record_first : (format : Format) (a b : Entry) (x y : List ℕ) → FitsRecord format a → FitsRecord format b → entry_spelling format a ++ x ≡ entry_spelling format b ++ y → (a ≡ b) × (x ≡ y)
one_record_first format a b x y a_fits b_fits same =
    let n : ℕ = record_bytes format in
    let front : entry_spelling format a ≡ entry_spelling format b =
    sym (take_at (entry_spelling format a) x n (length-entry_spelling format a a_fits)) ∙ ap (λ (t : List ℕ). take n t) same ∙ take_at (entry_spelling format b) y n (length-entry_spelling format b b_fits) in
    let back : x ≡ y =
    sym (drop_at (entry_spelling format a) x n (length-entry_spelling format a a_fits)) ∙ ap (λ (t : List ℕ). drop n t) same ∙ drop_at (entry_spelling format b) y n (length-entry_spelling format b b_fits) in
    (one_record format a b a_fits b_fits front, back)
