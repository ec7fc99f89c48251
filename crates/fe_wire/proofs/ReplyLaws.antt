-- The laws of replies: what is read has this spelling, each spelling is read, and replies are read in only one way.
use Rattle.std.proofs.Common.{◌≡◌, ◌≢◌, ℕ, ◌+◌, ◌^◌, ◌<◌, Bool, true, false, cond, ltb, leb, eqb, ◌&&◌, List, [], ◌∷◌, ◌++◌, length, Option, Some, None, refl, sym, ap, subst, ◌∙◌, arith, lit<}
use Rattle.std.specs.Prelude.{IfSome}
use Rattle.std.proofs.lemmas.List.{length-append}
use Rattle.std.specs.List.{flat_map, AllByRecursion}
use Rattle.std.specs.Int.{w32, w64, to_be_bytes}
use Rattle.std.proofs.lemmas.Bool.{ltb-false, ltb-true, lt-ltb, le-ltb, leb-true, le-leb, eqb-true, eq-eqb, ne_eqb, and_parts}
use Rattle.std.proofs.lemmas.Option.{cond_some}
use Rattle.std.specs.Str.{IsUtf8, is_utf8}
use Rattle.std.proofs.lemmas.Str.{IsUtf8-from_is_utf8, is_utf8-from_IsUtf8}
use Rattle.fe_state.specs.declared.answer.Answer.{Answer}
use Rattle.fe_wire.specs.declared.server_message.ServerMessage.{ServerMessage}
use Rattle.fe_wire.specs.declared.server_message.ServerMessage.TheVariants.{Welcome, Answer as Answered, Withdrawn, Settled, Goodbye, Refused, Report}
use Rattle.fe_codes.specs.Codes.{answer_code, answer_number, answer_length}
use Rattle.fe_codes.specs.Reading.{answer_of, ◌>>=◌, IsBytes}
use Rattle.fe_wire.specs.Spelling.{frame, reply_spelling, ReplyFits, IsReport}
use Rattle.fe_wire.specs.Reading.{next_number, next_byte, ended, number_of, two_numbers_of, made_of, made_of_two}
use Rattle.fe_wire.specs.within.Replies.{answered_of, refused_of, report_of, reply_of_kind, parts_of}
use Rattle.fe_codes.proofs.BindingLaws.{bind_some, bind_at}
use Rattle.fe_wire.proofs.FieldLaws.{ended_takes, wide32, wide64, number_takes, number_again, byte_takes, number_of_takes, number_of_again, two_numbers, two_numbers_of_takes, two_numbers_of_again}
use Rattle.fe_codes.proofs.CodeLaws.{answer_takes, answer_again, row, some_at}
use Rattle.fe_wire.proofs.FrameLaws.{one_frame}

abbrev pub IsReplyOf : ℕ → List ℕ → ServerMessage → Type 0
IsReplyOf kind body m = ReplyFits m × (reply_spelling m ≡ frame kind body)

-- ---- answer

abbrev answered : ℕ → List ℕ → Answer → Option ServerMessage
answered number rest answer = ended rest (Answered number answer)

abbrev sized : ℕ → ℕ → ℕ → ℕ × List ℕ → Option ServerMessage
sized number code value size = answer_of code value size.0 >>= answered number size.1

abbrev valued : ℕ → ℕ → ℕ × List ℕ → Option ServerMessage
valued number code value = next_number w32 value.1 >>= sized number code value.0

abbrev coded : ℕ → ℕ × List ℕ → Option ServerMessage
coded number code = next_number w64 code.1 >>= valued number code.0

abbrev numbered : ℕ × List ℕ → Option ServerMessage
numbered number = next_byte number.1 >>= coded number.0

abbrev answer_body : ℕ → Answer → List ℕ
answer_body number answer = to_be_bytes w64 number ++ answer_code answer ∷ (to_be_bytes w64 (answer_number answer) ++ to_be_bytes w32 (answer_length answer))

answered_takes : (body : List ℕ) (m : ServerMessage) → IsBytes body → answered_of body ≡ Some m → IsReplyOf 66 body m
unfolding answered_of
answered_takes body m fits e =
    let a = bind_some (next_number w64 body) numbered m e in
    let b = bind_some (next_byte a.0.1) (coded a.0.0) m a.2 in
    let c = bind_some (next_number w64 b.0.1) (valued a.0.0 b.0.0) m b.2 in
    let d = bind_some (next_number w32 c.0.1) (sized a.0.0 b.0.0 c.0.0) m c.2 in
    let f = bind_some (answer_of b.0.0 c.0.0 d.0.0) (answered a.0.0 d.0.1) m d.2 in
    let k = ended_takes d.0.1 (Answered a.0.0 f.0) m f.2 in
    let t0 = number_takes w64 (2 ^ 64) wide64 body a.0.0 a.0.1 fits a.1 in
    let t1 = byte_takes a.0.1 b.0.0 b.0.1 t0.0.rest_fits b.1 in
    let t2 = number_takes w64 (2 ^ 64) wide64 b.0.1 c.0.0 c.0.1 t1.rest_fits c.1 in
    let t3 = number_takes w32 (2 ^ 32) wide32 c.0.1 d.0.0 d.0.1 t2.0.rest_fits d.1 in
    let t4 = answer_takes b.0.0 c.0.0 d.0.0 f.0 f.1 in
    let last : c.0.1 ≡ to_be_bytes w32 (answer_length f.0) = t3.0.parts ∙ ap (λ (r : List ℕ). to_be_bytes w32 d.0.0 ++ r) k.0 ∙ ap (to_be_bytes w32) (sym t4.2) in
    let middle : b.0.1 ≡ to_be_bytes w64 (answer_number f.0) ++ to_be_bytes w32 (answer_length f.0) = t2.0.parts ∙ ap (λ (r : List ℕ). to_be_bytes w64 c.0.0 ++ r) last ∙ ap (λ (n : ℕ). to_be_bytes w64 n ++ to_be_bytes w32 (answer_length f.0)) (sym t4.1) in
    let field : a.0.1 ≡ answer_code f.0 ∷ (to_be_bytes w64 (answer_number f.0) ++ to_be_bytes w32 (answer_length f.0)) = t1.parts ∙ ap (λ (r : List ℕ). b.0.0 ∷ r) middle ∙ ap (λ (n : ℕ). n ∷ (to_be_bytes w64 (answer_number f.0) ++ to_be_bytes w32 (answer_length f.0))) (sym t4.0) in
    let whole : body ≡ answer_body a.0.0 f.0 = t0.0.parts ∙ ap (λ (r : List ℕ). to_be_bytes w64 a.0.0 ++ r) field in
    subst (IsReplyOf 66 body) k.1 ((t0.1, omega (arith, t4.1, t2.1), omega (arith, t4.2, t3.1)), ap (frame 66) (sym whole))

answered_again : (number : ℕ) (answer : Answer) → ReplyFits (Answered number answer) → answered_of (answer_body number answer) ≡ Some (Answered number answer)
unfolding answered_of
answered_again number answer fits =
    let last : List ℕ = to_be_bytes w32 (answer_length answer) in
    let middle : List ℕ = to_be_bytes w64 (answer_number answer) ++ last in
    bind_at (next_number w64 (to_be_bytes w64 number ++ answer_code answer ∷ middle)) numbered (number, answer_code answer ∷ middle) (number_again w64 (2 ^ 64) wide64 number (answer_code answer ∷ middle) fits.0)
    ∙ bind_at (next_number w64 middle) (valued number (answer_code answer)) (answer_number answer, last) (number_again w64 (2 ^ 64) wide64 (answer_number answer) last fits.1)
    ∙ bind_at (next_number w32 last) (sized number (answer_code answer) (answer_number answer)) (answer_length answer, []) (number_again w32 (2 ^ 32) wide32 (answer_length answer) [] fits.2)
    ∙ bind_at (answer_of (answer_code answer) (answer_number answer) (answer_length answer)) (answered number []) answer (answer_again answer)

-- ---- refused

abbrev refused : ℕ → ℕ × List ℕ → Option ServerMessage
refused number code = cond (ltb code.0 1) None (cond (ltb 10 code.0) None (ended code.1 (Refused number code.0)))

abbrev refusing : ℕ × List ℕ → Option ServerMessage
refusing number = next_byte number.1 >>= refused number.0

guarded : {A : Type 0} (b : Bool) (o : Option A) (y : A) → cond b None o ≡ Some y → (b ≡ false) × (o ≡ Some y)
guarded true o y e = absurd cc
guarded false o y e = (refl, e)

refused_takes : (body : List ℕ) (m : ServerMessage) → IsBytes body → refused_of body ≡ Some m → IsReplyOf 70 body m
unfolding refused_of
refused_takes body m fits e =
    let a = bind_some (next_number w64 body) refusing m e in
    let b = bind_some (next_byte a.0.1) (refused a.0.0) m a.2 in
    let low = guarded (ltb b.0.0 1) (cond (ltb 10 b.0.0) None (ended b.0.1 (Refused a.0.0 b.0.0))) m b.2 in
    let high = guarded (ltb 10 b.0.0) (ended b.0.1 (Refused a.0.0 b.0.0)) m low.1 in
    let k = ended_takes b.0.1 (Refused a.0.0 b.0.0) m high.1 in
    let t0 = number_takes w64 (2 ^ 64) wide64 body a.0.0 a.0.1 fits a.1 in
    let t1 = byte_takes a.0.1 b.0.0 b.0.1 t0.0.rest_fits b.1 in
    let last : a.0.1 ≡ b.0.0 ∷ [] = t1.parts ∙ ap (λ (r : List ℕ). b.0.0 ∷ r) k.0 in
    let whole : body ≡ to_be_bytes w64 a.0.0 ++ b.0.0 ∷ [] = t0.0.parts ∙ ap (λ (r : List ℕ). to_be_bytes w64 a.0.0 ++ r) last in
    subst (IsReplyOf 70 body) k.1 ((t0.1, ltb-false _ _ low.0, ltb-false _ _ high.0), ap (frame 70) (sym whole))

refused_again : (number code : ℕ) → ReplyFits (Refused number code) → refused_of (to_be_bytes w64 number ++ code ∷ []) ≡ Some (Refused number code)
unfolding refused_of
refused_again number code fits =
    let rest : cond (ltb code 1) None (cond (ltb 10 code) None (Some (Refused number code))) ≡ Some (Refused number code) = rw (le-ltb code 1 fits.1, le-ltb 10 code fits.2) refl in
    bind_at (next_number w64 (to_be_bytes w64 number ++ code ∷ [])) refusing (number, code ∷ []) (number_again w64 (2 ^ 64) wide64 number (code ∷ []) fits.0)
    ∙ rest

-- ---- bodies of numbers

made_takes : (kind : ℕ) (make : ℕ → ServerMessage) → ((n : ℕ) → n < 2 ^ 64 → ReplyFits (make n)) → ((n : ℕ) → reply_spelling (make n) ≡ frame kind (to_be_bytes w64 n)) → (body : List ℕ) (m : ServerMessage) → IsBytes body → made_of make body ≡ Some m → IsReplyOf kind body m
made_takes kind make fitting spelled body m fits e =
    let a = bind_some (number_of body) (λ n. Some (make n)) m e in
    let t = number_of_takes body a.0 fits a.1 in
    let same : make a.0 ≡ m = cc (a.2) in
    subst (IsReplyOf kind body) same (fitting a.0 t.1, spelled a.0 ∙ ap (frame kind) (sym t.0))

welcome_takes : (body : List ℕ) (m : ServerMessage) → IsBytes body → made_of_two (λ session floor. Welcome session floor) body ≡ Some m → IsReplyOf 65 body m
welcome_takes body m fits e =
    let a = bind_some (two_numbers_of body) (λ n. Some (Welcome n.0 n.1)) m e in
    let t = two_numbers_of_takes body a.0.0 a.0.1 fits a.1 in
    let same : Welcome a.0.0 a.0.1 ≡ m = cc (a.2) in
    subst (IsReplyOf 65 body) same ((t.1, t.2), ap (frame 65) (sym t.0))

made_again : (make : ℕ → ServerMessage) (n : ℕ) → n < 2 ^ 64 → made_of make (to_be_bytes w64 n) ≡ Some (make n)
made_again make n lt = bind_at (number_of (to_be_bytes w64 n)) (λ k. Some (make k)) n (number_of_again n lt)

welcome_again : (session floor : ℕ) → session < 2 ^ 64 → floor < 2 ^ 64 → made_of_two (λ n k. Welcome n k) (two_numbers session floor) ≡ Some (Welcome session floor)
welcome_again session floor s_fits f_fits = bind_at (two_numbers_of (two_numbers session floor)) (λ p. Some (Welcome p.0 p.1)) (session, floor) (two_numbers_of_again session floor s_fits f_fits)

-- ---- any kind except a report's

if_each : (P : ServerMessage → Type 0) (o : Option ServerMessage) → ((x : ServerMessage) → o ≡ Some x → P x) → IfSome o P
if_each P (Some x) h = h x refl
if_each P None h = tt

-- a row of the table of kinds
given : (kind k : ℕ) (body : List ℕ) (o : Option ServerMessage) → ((x : ServerMessage) → o ≡ Some x → IsReplyOf k body x) → kind ≡ k → IfSome o (IsReplyOf kind body)
given kind k body o h same = if_each (IsReplyOf kind body) o (λ x is. subst (λ (n : ℕ). IsReplyOf n body x) (sym same) (h x is))

reply_row : (kind : ℕ) (body : List ℕ) → IsBytes body → IfSome (reply_of_kind kind body) (IsReplyOf kind body)
unfolding reply_of_kind
reply_row kind body fits =
    let P : ServerMessage → Type 0 = IsReplyOf kind body in
    row P kind 65 _ _ (given kind 65 body (made_of_two (λ session floor. Welcome session floor) body) (λ x is. welcome_takes body x fits is))
    (row P kind 66 _ _ (given kind 66 body (answered_of body) (λ x is. answered_takes body x fits is))
    (row P kind 67 _ _ (given kind 67 body (made_of (λ number. Withdrawn number) body) (λ x is. made_takes 67 (λ number. Withdrawn number) (λ n lt. lt) (λ n. refl) body x fits is))
    (row P kind 68 _ _ (given kind 68 body (made_of (λ floor. Settled floor) body) (λ x is. made_takes 68 (λ floor. Settled floor) (λ n lt. lt) (λ n. refl) body x fits is))
    (row P kind 69 _ _ (given kind 69 body (made_of (λ session. Goodbye session) body) (λ x is. made_takes 69 (λ session. Goodbye session) (λ n lt. lt) (λ n. refl) body x fits is))
    (row P kind 70 _ _ (given kind 70 body (refused_of body) (λ x is. refused_takes body x fits is)) tt)))))

-- ---- any kind

-- what a frame with this kind and body spells, including a report
abbrev pub any_reply_of : ℕ → List ℕ → Option ServerMessage
any_reply_of kind body = cond (eqb kind 71) (report_of body) (reply_of_kind kind body)

pub report_kind : (kind : ℕ) (body : List ℕ) → kind ≡ 71 → any_reply_of kind body ≡ report_of body
report_kind kind body e = rw (eq-eqb kind 71 e) refl

pub other_kind : (kind : ℕ) (body : List ℕ) → kind ≢ 71 → any_reply_of kind body ≡ reply_of_kind kind body
other_kind kind body ne = rw (ne_eqb kind 71 ne) refl

report_takes : (body : List ℕ) (m : ServerMessage) → report_of body ≡ Some m → IsReplyOf 71 body m
report_takes body m e =
    let g = cond_some (ltb 0 (length body) && leb (length body) 262144 && is_utf8 body) (Report body) m e in
    let p = and_parts (ltb 0 (length body) && leb (length body) 262144) (is_utf8 body) g.0 in
    let q = and_parts (ltb 0 (length body)) (leb (length body) 262144) p.0 in
    subst (IsReplyOf 71 body) g.1 ((ltb-true _ _ q.0, leb-true _ _ q.1, IsUtf8-from_is_utf8 body p.1), refl)

any_takes : (kind : ℕ) (body : List ℕ) (m : ServerMessage) → IsBytes body → any_reply_of kind body ≡ Some m → IsReplyOf kind body m
any_takes kind body m fits e =
    some_at (IsReplyOf kind body) (any_reply_of kind body) m e (row (IsReplyOf kind body) kind 71 (report_of body) (reply_of_kind kind body) (given kind 71 body (report_of body) (λ x is. report_takes body x is)) (reply_row kind body fits))

by_test : {A : Type 0} (a b : Bool) (x : A) → (b ≡ true → ⊥) → cond (a && b) (Some x) None ≡ None
by_test a true x none = absurd (none refl)
by_test true false x none = refl
by_test false false x none = refl

pub report_again : (text : List ℕ) → ReplyFits (Report text) → report_of text ≡ Some (Report text)
report_again text fits = rw (lt-ltb 0 (length text) fits.0, le-leb (length text) 262144 fits.1, is_utf8-from_IsUtf8 text fits.2) refl

-- bytes that are not a text are not a report
pub no_report : (bytes : List ℕ) → ¬ (IsUtf8 bytes) → report_of bytes ≡ None
no_report bytes none = by_test (ltb 0 (length bytes) && leb (length bytes) 262144) (is_utf8 bytes) (Report bytes) (λ e. none (IsUtf8-from_is_utf8 bytes e))

-- a reply that fits is read again
record IsReadReply (m : ServerMessage) : Type 0 where
  kind : ℕ
  body : List ℕ
  spelled : reply_spelling m ≡ frame kind body
  read : any_reply_of kind body ≡ Some m
  short : length body + 1 < 2 ^ 32

reply_again : (m : ServerMessage) → ReplyFits m → IsReadReply m
unfolding reply_of_kind
reply_again (Welcome session floor) fits = record { kind = 65; body = two_numbers session floor; spelled = refl; read = welcome_again session floor fits.0 fits.1; short = lit< tt }
reply_again (Answered number answer) fits = record { kind = 66; body = answer_body number answer; spelled = refl; read = answered_again number answer fits; short = lit< tt }
reply_again (Withdrawn number) fits = record { kind = 67; body = to_be_bytes w64 number; spelled = refl; read = made_again (λ n. Withdrawn n) number fits; short = lit< tt }
reply_again (Settled floor) fits = record { kind = 68; body = to_be_bytes w64 floor; spelled = refl; read = made_again (λ n. Settled n) floor fits; short = lit< tt }
reply_again (Goodbye session) fits = record { kind = 69; body = to_be_bytes w64 session; spelled = refl; read = made_again (λ n. Goodbye n) session fits; short = lit< tt }
reply_again (Refused number code) fits = record { kind = 70; body = to_be_bytes w64 number ++ code ∷ []; spelled = refl; read = refused_again number code fits; short = lit< tt }
reply_again (Report text) fits = let few = fits.1 in record { kind = 71; body = text; spelled = refl; read = report_again text fits; short = omega arith }

-- ---- whole frames

chosen : {A : Type 0} (b : Bool) (o : Option A) (y : A) → cond b o None ≡ Some y → (b ≡ true) × (o ≡ Some y)
chosen true o y e = (refl, e)
chosen false o y e = absurd cc

abbrev lengthed : ℕ × List ℕ → Option (ℕ × List ℕ)
lengthed size = cond (eqb size.0 (length size.1)) (next_byte size.1) None

parts_takes : (bytes : List ℕ) (kind : ℕ) (body : List ℕ) → IsBytes bytes → parts_of bytes ≡ Some (kind, body) → (bytes ≡ frame kind body) × IsBytes body
unfolding parts_of
parts_takes bytes kind body fits e =
    let a = bind_some (next_number w32 bytes) lengthed (kind, body) e in
    let g = chosen (eqb a.0.0 (length a.0.1)) (next_byte a.0.1) (kind, body) a.2 in
    let t0 = number_takes w32 (2 ^ 32) wide32 bytes a.0.0 a.0.1 fits a.1 in
    let t1 = byte_takes a.0.1 kind body t0.0.rest_fits g.1 in
    let long : a.0.0 ≡ length body + 1 = eqb-true a.0.0 (length a.0.1) g.0 ∙ ap length t1.parts ∙ omega arith in
    (t0.0.parts ∙ ap (λ (n : ℕ). to_be_bytes w32 n ++ a.0.1) long ∙ ap (λ (t : List ℕ). to_be_bytes w32 (length body + 1) ++ t) t1.parts, t1.rest_fits)

parts_again : (kind : ℕ) (body : List ℕ) → length body + 1 < 2 ^ 32 → parts_of (frame kind body) ≡ Some (kind, body)
unfolding parts_of
parts_again kind body short =
    let rest : List ℕ = kind ∷ body in
    let long : eqb (length body + 1) (length rest) ≡ true = eq-eqb _ _ (omega arith) in
    bind_at (next_number w32 (frame kind body)) lengthed (length body + 1, rest) (number_again w32 (2 ^ 32) wide32 (length body + 1) rest short)
    ∙ ap (λ (b : Bool). cond b (Some (kind, body)) None) long

-- the reply that exactly these bytes spell
abbrev pub any_kind : ℕ × List ℕ → Option ServerMessage
any_kind parts = any_reply_of parts.0 parts.1

abbrev pub reply_at : List ℕ → Option ServerMessage
reply_at bytes = parts_of bytes >>= any_kind

pub reply_at_takes : (bytes : List ℕ) (m : ServerMessage) → IsBytes bytes → reply_at bytes ≡ Some m → ReplyFits m × (bytes ≡ reply_spelling m)
reply_at_takes bytes m fits e =
    let a = bind_some (parts_of bytes) any_kind m e in
    let t = parts_takes bytes a.0.0 a.0.1 fits a.1 in
    let r = any_takes a.0.0 a.0.1 m t.1 a.2 in
    (r.0, t.0 ∙ sym r.1)

pub reply_at_again : (bytes : List ℕ) (m : ServerMessage) → ReplyFits m → bytes ≡ reply_spelling m → reply_at bytes ≡ Some m
reply_at_again bytes m fits same =
    let r = reply_again m fits in
    ap reply_at (same ∙ r.spelled) ∙ bind_at (parts_of (frame r.kind r.body)) any_kind (r.kind, r.body) (parts_again r.kind r.body r.short) ∙ r.read

-- the frame of a report
pub report_at : (bytes : List ℕ) (kind : ℕ) (body : List ℕ) → IsBytes bytes → parts_of bytes ≡ Some (kind, body) → kind ≡ 71 → ReplyFits (Report body) → IsReport bytes
report_at bytes kind body fits e is fitting =
    let t = parts_takes bytes kind body fits e in
    record { text = body; fits = fitting; spelled = t.0 ∙ ap (λ (k : ℕ). frame k body) is }

-- ---- replies one after another

-- no reply's frame is a prefix of another's
pub one_reply : (a b : ServerMessage) (x y : List ℕ) → ReplyFits a → ReplyFits b → reply_spelling a ++ x ≡ reply_spelling b ++ y → (a ≡ b) × (x ≡ y)
one_reply a b x y a_fits b_fits same =
    let f = reply_again a a_fits in
    let g = reply_again b b_fits in
    let frames : frame f.kind f.body ++ x ≡ frame g.kind g.body ++ y = ap (λ (t : List ℕ). t ++ x) (sym f.spelled) ∙ same ∙ ap (λ (t : List ℕ). t ++ y) g.spelled in
    one_frame any_reply_of f.kind g.kind f.body g.body x y a b f.short g.short f.read g.read frames

-- a reply's frame is not empty
not_empty : (m : ServerMessage) (behind : List ℕ) → ReplyFits m → reply_spelling m ++ behind ≡ [] → ⊥
not_empty m behind fits e =
    let r = reply_again m fits in
    omega (arith, ap length e, length-append (reply_spelling m) behind, ap length r.spelled)

pub one_reading_of_replies : (a b : List ServerMessage) → AllByRecursion ReplyFits a → AllByRecursion ReplyFits b → flat_map reply_spelling a ≡ flat_map reply_spelling b → a ≡ b
one_reading_of_replies [] [] a_fits b_fits same = refl
one_reading_of_replies [] (n ∷ ns) a_fits b_fits same = absurd (not_empty n (flat_map reply_spelling ns) b_fits.0 (sym same))
one_reading_of_replies (m ∷ ms) [] a_fits b_fits same = absurd (not_empty m (flat_map reply_spelling ms) a_fits.0 same)
one_reading_of_replies (m ∷ ms) (n ∷ ns) a_fits b_fits same =
    let one = one_reply m n (flat_map reply_spelling ms) (flat_map reply_spelling ns) a_fits.0 b_fits.0 same in
    ap (λ (k : ServerMessage). k ∷ ms) one.0 ∙ ap (λ (t : List ServerMessage). n ∷ t) (one_reading_of_replies ms ns a_fits.1 b_fits.1 one.1)
