-- Frames of replies, and bytes that begin none.
use Rattle.std.proofs.Common.{◌≡◌, ◌≢◌, ◌⊎◌, ℕ, ◌+◌, ◌-◌, ◌<◌, ◌≤◌, List, [], ◌∷◌, ◌++◌, length, take, drop, refl, sym, ap, ◌∙◌, append-nil, arith, inl, inr}
use Rattle.std.specs.Int.{w32, w64, to_be_bytes, from_be_bytes}
use Rattle.std.proofs.lemmas.List.{length-append, length-take, length-drop, take-append-le, take_at}
use Rattle.std.proofs.lemmas.Slice.{take-put_mid}
use borrow.Rule.Slice.PartMut.{put_mid}
use Rattle.fe_codes.specs.Codes.{answer_code, answer_number, answer_length}
use Rattle.fe_wire.proofs.FieldLaws.{wide32}
use Rattle.fe_wire.specs.Spelling.{frame, reply_spelling, ReplyFits}
use Rattle.fe_wire.specs.Stream.{length_field}
use Rattle.fe_wire.specs.declared.server_message.ServerMessage.{ServerMessage}
use Rattle.fe_wire.specs.declared.server_message.ServerMessage.TheVariants as server
use Rattle.fe_client.specs.declared.fault.CallFault.{CallFault}
use Rattle.fe_client.specs.Ends.{Cause, BeginsNoReply, Unreceived}

-- the length that a frame begins with is that of what follows, which is a reply's
pub record HasSize (bytes : List ℕ) : Type 0 where
  pub some : 1 ≤ length_field bytes
  pub few : length_field bytes ≤ 262145
  pub whole : length bytes ≡ 4 + length_field bytes

sized : (kind : ℕ) (body : List ℕ) → length body ≤ 262144 → HasSize (frame kind body)
sized kind body few =
    let n : length_field (frame kind body) ≡ length body + 1 = wide32.again (length body + 1) (omega (arith, few)) in
    record { some = omega (arith, n); few = omega (arith, n, few); whole = omega (arith, n) }

pub reply_sized : (m : ServerMessage) → ReplyFits m → HasSize (reply_spelling m)
reply_sized (server.Welcome session floor) h = sized 65 (to_be_bytes w64 session ++ to_be_bytes w64 floor) (omega arith)
reply_sized (server.Answer number answer) h = sized 66 (to_be_bytes w64 number ++ answer_code answer ∷ to_be_bytes w64 (answer_number answer) ++ to_be_bytes w32 (answer_length answer)) (omega arith)
reply_sized (server.Refused number code) h = sized 70 (to_be_bytes w64 number ++ code ∷ []) (omega arith)
reply_sized (server.Withdrawn number) h = sized 67 (to_be_bytes w64 number) (omega arith)
reply_sized (server.Settled floor) h = sized 68 (to_be_bytes w64 floor) (omega arith)
reply_sized (server.Goodbye session) h = sized 69 (to_be_bytes w64 session) (omega arith)
reply_sized (server.Report text) h = sized 71 text (omega (arith, h.1))

-- the length is there once four bytes are
field_there : (bytes more all : List ℕ) → 4 ≤ length bytes → bytes ++ more ≡ all → length_field bytes ≡ length_field all
field_there bytes more all four e = ap (from_be_bytes w32) (sym (take-append-le 4 bytes more four) ∙ ap (take 4) e)

pub bad_length : (bytes : List ℕ) → 4 ≤ length bytes → (length_field bytes ≡ 0) ⊎ (262145 < length_field bytes) → BeginsNoReply bytes
bad_length bytes four (inl none) m more fits e =
    let size = reply_sized m fits in
    let same = field_there bytes more (reply_spelling m) four e in
    let some = size.some in
    omega (arith, same, none, some)
bad_length bytes four (inr many) m more fits e =
    let size = reply_sized m fits in
    let same = field_there bytes more (reply_spelling m) four e in
    let few = size.few in
    omega (arith, same, many, few)

none_behind : (more : List ℕ) → length more ≡ 0 → more ≡ []
none_behind [] e = refl
none_behind (x ∷ xs) e = absurd (omega (arith, e))

pub bad_whole : (bytes : List ℕ) → 4 ≤ length bytes → length bytes ≡ 4 + length_field bytes → ((m : ServerMessage) → ReplyFits m → bytes ≢ reply_spelling m) → BeginsNoReply bytes
bad_whole bytes four whole none m more fits e =
    let size = (reply_sized m fits).whole in
    let same = field_there bytes more (reply_spelling m) four e in
    let len : length (bytes ++ more) ≡ length (reply_spelling m) = ap (length {A = ℕ}) e in
    let end : more ≡ [] = none_behind more (omega (arith, size, same, len, whole, length-append bytes more)) in
    none m fits (sym (append-nil bytes) ∙ ap (λ (t : List ℕ). bytes ++ t) (sym end) ∙ e)

-- ---- a frame that comes in two parts, its length and what follows

-- both parts are at the front of the room
pub parts_at_front : (head body behind : List ℕ) (count room : ℕ) → length head ≡ 4 → length body ≡ count → take (4 + count) (put_mid 4 room (head ++ behind) body) ≡ head ++ body
parts_at_front head body behind count room four all =
    let within : 4 ≤ length (head ++ behind) = omega (arith, four, length-append head behind) in
    take-put_mid 4 room (head ++ behind) body (4 + count) (omega (arith, all)) within ∙ ap (λ (t : List ℕ). t ++ body) (take_at head behind 4 four)

-- how long the second part is
pub body_length : (head old body : List ℕ) (count : ℕ) → length head ≡ 4 → length old ≡ 262149 → count ≤ 262145 → length body ≡ length (take (4 + count - 4) (drop 4 (head ++ drop 4 old))) → length body ≡ count
body_length head old body count four room few is =
    omega (arith, four, room, few, is, length-take (4 + count - 4) (drop 4 (head ++ drop 4 old)), length-drop 4 (head ++ drop 4 old), length-append head (drop 4 old), length-drop 4 old)

-- a whole frame that no reply has
pub no_reply : (head body : List ℕ) (count : ℕ) → length head ≡ 4 → length body ≡ count → count ≡ length_field head → ((m : ServerMessage) → ReplyFits m → head ++ body ≢ reply_spelling m) → BeginsNoReply (head ++ body)
no_reply head body count four all field none =
    let long = length-append head body in
    let same = field_there head body (head ++ body) (omega (arith, four)) refl in
    bad_whole (head ++ body) (omega (arith, four, long)) (omega (arith, four, all, field, long, same)) none

-- the same fault, where more came before
pub incomplete : (end : CallFault) (because : Cause → Type 0) (earlier now : ℕ) (head bytes : List ℕ) → now ≤ earlier + length head → Unreceived end because now bytes → Unreceived end because earlier (head ++ bytes)
incomplete end because earlier now head bytes few (inl broke) = inl broke
incomplete end because earlier now head bytes few (inr many) =
    let most = many.1 in
    inr (many.0, omega (arith, few, most, length-append head bytes))
