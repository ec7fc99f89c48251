-- The frame of a reply at the front of some bytes.
use Rattle.std.proofs.Common.{◌≡◌, ℕ, ◌+◌, ◌^◌, ◌<◌, Bool, true, false, List, [], ◌∷◌, ◌++◌, length, Option, Some, refl, sym, ap, ◌∙◌, arith, rules, nat_eq, zero, suc}
use Rattle.std.specs.List.{flat_map, AllByRecursion}
use Rattle.std.specs.Int.{w32, w64, to_be_bytes}
use Rattle.std.proofs.lemmas.Option.{same_Some}
use Rattle.std.proofs.lemmas.Bool.Decides.{nat_tests}
use Rattle.std.proofs.lemmas.Bool.{le-ltb, false≢true}
use Rattle.std.proofs.lemmas.List.{take_at, drop_at, length-append}
use Rattle.fe_wire.specs.declared.server_message.ServerMessage.{ServerMessage}
use Rattle.fe_wire.specs.declared.server_message.ServerMessage.TheVariants as server
use Rattle.fe_wire.specs.Spelling.{frame, reply_spelling, ReplyFits}
use Rattle.fe_wire.specs.Stream.{length_field}
use Rattle.fe_codes.specs.Codes.{answer_code, answer_number, answer_length}
use Rattle.fe_wire.proofs.FieldLaws.{wide32}
use Rattle.fe_schedules.specs.within.Frames.{frame_at}

-- a frame with this body is the first of what it begins
framed : (kind : ℕ) (body rest : List ℕ) → length body + 1 < 2 ^ 32 → frame_at (frame kind body ++ rest) ≡ Some (frame kind body, rest)
unfolding frame_at
framed kind body rest few =
    let text : List ℕ = frame kind body ++ rest in
    let n : length_field text ≡ length body + 1 = wide32.again (length body + 1) few in
    let long : length (frame kind body) ≡ 4 + length_field text = omega (arith, n) in
    let whole : length text ≡ length (frame kind body) + length rest = length-append (frame kind body) rest in
    rw (le-ltb (length text) 4 (omega arith), le-ltb (length text) (4 + length_field text) (omega arith), ← long, take_at (frame kind body) rest (length (frame kind body)) refl, drop_at (frame kind body) rest (length (frame kind body)) refl) refl

pub reply_first : (m : ServerMessage) (rest : List ℕ) → ReplyFits m → frame_at (reply_spelling m ++ rest) ≡ Some (reply_spelling m, rest)
reply_first (server.Welcome session floor) rest h = framed 65 (to_be_bytes w64 session ++ to_be_bytes w64 floor) rest (omega arith)
reply_first (server.Answer number answer) rest h = framed 66 (to_be_bytes w64 number ++ answer_code answer ∷ to_be_bytes w64 (answer_number answer) ++ to_be_bytes w32 (answer_length answer)) rest (omega arith)
reply_first (server.Refused number code) rest h = framed 70 (to_be_bytes w64 number ++ code ∷ []) rest (omega arith)
reply_first (server.Withdrawn number) rest h = framed 67 (to_be_bytes w64 number) rest (omega arith)
reply_first (server.Settled floor) rest h = framed 68 (to_be_bytes w64 floor) rest (omega arith)
reply_first (server.Goodbye session) rest h = framed 69 (to_be_bytes w64 session) rest (omega arith)
reply_first (server.Report text) rest h = framed 71 text rest (omega (arith, h.1))

pub reply_some : (m : ServerMessage) → ReplyFits m → 0 < length (reply_spelling m)
reply_some (server.Welcome session floor) h = omega arith
reply_some (server.Answer number answer) h = omega arith
reply_some (server.Refused number code) h = omega arith
reply_some (server.Withdrawn number) h = omega arith
reply_some (server.Settled floor) h = omega arith
reply_some (server.Goodbye session) h = omega arith
reply_some (server.Report text) h = omega arith

-- the reply whose frame is the first of the bytes, and those after it
pub record IsFirst (bytes : List ℕ) (left : List ServerMessage) : Type 0 where
  pub reply : ServerMessage
  pub others : List ServerMessage
  pub parts : left ≡ reply ∷ others
  pub fits : ReplyFits reply
  pub each : AllByRecursion ReplyFits others
  pub front : frame_at bytes ≡ Some (reply_spelling reply, flat_map reply_spelling others)

pub first : (bytes : List ℕ) (left : List ServerMessage) → AllByRecursion ReplyFits left → bytes ≡ flat_map reply_spelling left → (length bytes ≡ 0 → ⊥) → IsFirst bytes left
first bytes [] fits e some = absurd (some (ap length e))
first bytes (m ∷ ms) fits e some = record {
  reply = m;
  others = ms;
  parts = refl;
  fits = fits.0;
  each = fits.1;
  front = ap frame_at e ∙ reply_first m (flat_map reply_spelling ms) fits.0;
}

pub not_empty : (n : ℕ) (b : Bool) → b ≡ nat_eq n 0 → b ≡ false → n ≡ 0 → ⊥
not_empty zero b e f z = let bad : true ≡ false = sym e ∙ f in absurd (false≢true (sym bad))
not_empty (suc n) b e f z = let bad : suc n ≡ 0 = z in absurd (omega arith)

eqb-suc : (n : ℕ) → nat_eq (suc n) 0 ≡ false
eqb-suc n = search (rules, nat_tests)

pub pair_of : {x y a b : List ℕ} → ◌≡◌ {A = Option (List ℕ × List ℕ)} (Some (x, y)) (Some (a, b)) → (x ≡ a) × (y ≡ b)
pair_of e = let f = same_Some _ _ e in (ap (λ (p : List ℕ × List ℕ). p.0) f, ap (λ (p : List ℕ × List ℕ). p.1) f)

pub is_nothing : (xs : List ℕ) (b : Bool) → b ≡ nat_eq (length xs) 0 → b ≡ true → xs ≡ []
is_nothing [] b e t = refl
is_nothing (x ∷ xs) b e t = absurd (false≢true (sym (eqb-suc (length xs)) ∙ sym e ∙ t))

-- no bytes are the frames of no replies
pub none_left : (left : List ServerMessage) → AllByRecursion ReplyFits left → [] ≡ flat_map reply_spelling left → left ≡ []
none_left [] fits e = refl
none_left (m ∷ ms) fits e =
    let some = reply_some m fits.0 in
    let len : 0 ≡ length (reply_spelling m ++ flat_map reply_spelling ms) = ap (length {A = ℕ}) e in
    absurd (omega (arith, length-append (reply_spelling m) (flat_map reply_spelling ms)))
