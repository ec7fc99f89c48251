-- A stream has at most one reading, and how a decoder continues in it.
use Rattle.std.proofs.Common.{◌≡◌, ℕ, ◌+◌, ◌-◌, ◌^◌, ◌≤◌, min, Bool, true, false, ◌⊎◌, List, [], ◌∷◌, ◌++◌, length, refl, sym, ap, subst, ◌∙◌, append_assoc, arith, inl, inr}
use Rattle.std.specs.List.{flat_map, AllByRecursion}
use Rattle.std.proofs.lemmas.List.{append-nil, length-append, take_all}
use Rattle.std.proofs.lemmas.List.Concat.{flat_map-cons, flat_map-append}
use Rattle.fe_wire.specs.declared.client_message.ClientMessage.{ClientMessage}
use Rattle.fe_wire.specs.declared.version.Version.{Version}
use Rattle.fe_wire.specs.Spelling.{spelling, FitsIn}
use Rattle.fe_wire.specs.Stream.{Decoding, HasReadFrom, IsStream, StandsAt, length_field, front_frame, IsWhole, IsBad, IsUnfinished, HasOneReading, HasOneOutcome}
use Rattle.fe_wire.proofs.FrameLaws.{one_front, front_not_bad, front_not_unfinished, bad_more}

-- bytes that begin with a message's frame are not a rest
not_rest : (v : Version) (m : ClientMessage) (ms : List ClientMessage) (rest stream : List ℕ) → FitsIn v m → stream ≡ flat_map spelling (m ∷ ms) ++ rest → IsUnfinished v stream ⊎ IsBad v stream → ⊥
not_rest v m ms rest stream fits same end =
    let text : stream ≡ spelling m ++ (flat_map spelling ms ++ rest) = same ∙ ap (λ (t : List ℕ). t ++ rest) (flat_map-cons spelling m ms) ∙ append_assoc (spelling m) (flat_map spelling ms) rest in
    let P : List ℕ → Type 0 = λ t. IsUnfinished v t ⊎ IsBad v t in
    elim (subst P text end) [ inl h ↦ front_not_unfinished v m _ fits.0 h | inr h ↦ front_not_bad v m _ fits h ]

same_parts : (v : Version) (stream : List ℕ) (a b : List ClientMessage) (x y : List ℕ) → stream ≡ flat_map spelling a ++ x → AllByRecursion (FitsIn v) a → IsUnfinished v x ⊎ IsBad v x → stream ≡ flat_map spelling b ++ y → AllByRecursion (FitsIn v) b → IsUnfinished v y ⊎ IsBad v y → (a ≡ b) × (x ≡ y)
same_parts v stream [] [] x y p fits_a end_x q fits_b end_y = (refl, sym p ∙ q)
same_parts v stream [] (n ∷ ns) x y p fits_a end_x q fits_b end_y = absurd (not_rest v n ns y x fits_b.0 (sym p ∙ q) end_x)
same_parts v stream (m ∷ ms) [] x y p fits_a end_x q fits_b end_y = absurd (not_rest v m ms x y fits_a.0 (sym q ∙ p) end_y)
same_parts v stream (m ∷ ms) (n ∷ ns) x y p fits_a end_x q fits_b end_y =
    let left : flat_map spelling (m ∷ ms) ++ x ≡ spelling m ++ (flat_map spelling ms ++ x) = ap (λ (t : List ℕ). t ++ x) (flat_map-cons spelling m ms) ∙ append_assoc (spelling m) (flat_map spelling ms) x in
    let right : flat_map spelling (n ∷ ns) ++ y ≡ spelling n ++ (flat_map spelling ns ++ y) = ap (λ (t : List ℕ). t ++ y) (flat_map-cons spelling n ns) ∙ append_assoc (spelling n) (flat_map spelling ns) y in
    let one = one_front m n (flat_map spelling ms ++ x) (flat_map spelling ns ++ y) fits_a.0.0 fits_b.0.0 (sym left ∙ sym p ∙ q ∙ right) in
    let others = same_parts v (flat_map spelling ms ++ x) ms ns x y refl fits_a.1 end_x one.1 fits_b.1 end_y in
    (ap (λ (k : ClientMessage). k ∷ ms) one.0 ∙ ap (λ (ks : List ClientMessage). n ∷ ks) others.0, others.1)

pub one_reading : HasOneReading
one_reading v stream a b x y p q = same_parts v stream a b x y p.parts p.each p.end q.parts q.each q.end

-- A stream has at least the messages that it begins with.
pub begins_within : (v : Version) (stream : List ℕ) (a b : List ClientMessage) (x y : List ℕ) → stream ≡ flat_map spelling a ++ x → AllByRecursion (FitsIn v) a → IsUnfinished v x ⊎ IsBad v x → stream ≡ flat_map spelling b ++ y → AllByRecursion (FitsIn v) b → length b ≤ length a
begins_within v stream a [] x y p fits_a end_x q fits_b = omega arith
begins_within v stream [] (n ∷ ns) x y p fits_a end_x q fits_b = absurd (not_rest v n ns y x fits_b.0 (sym p ∙ q) end_x)
begins_within v stream (m ∷ ms) (n ∷ ns) x y p fits_a end_x q fits_b =
    let left : flat_map spelling (m ∷ ms) ++ x ≡ spelling m ++ (flat_map spelling ms ++ x) = ap (λ (t : List ℕ). t ++ x) (flat_map-cons spelling m ms) ∙ append_assoc (spelling m) (flat_map spelling ms) x in
    let right : flat_map spelling (n ∷ ns) ++ y ≡ spelling n ++ (flat_map spelling ns ++ y) = ap (λ (t : List ℕ). t ++ y) (flat_map-cons spelling n ns) ∙ append_assoc (spelling n) (flat_map spelling ns) y in
    let one = one_front m n (flat_map spelling ms ++ x) (flat_map spelling ns ++ y) fits_a.0.0 fits_b.0.0 (sym left ∙ sym p ∙ q ∙ right) in
    let others = begins_within v (flat_map spelling ms ++ x) ms ns x y refl fits_a.1 end_x one.1 fits_b.1 in
    omega (arith, others)

same_stand : (v : Version) (a b : Bool) (x y r s : List ℕ) → r ≡ s → StandsAt v a x r → StandsAt v b y s → (a ≡ b) × (x ≡ y)
same_stand v false false x y r s e p q = (refl, p.1 ∙ e ∙ sym q.1)
same_stand v true true x y r s e p q = (refl, p.1 ∙ sym q.1)
same_stand v false true x y r s e p q = absurd (p.0.1 (subst (IsBad v) (sym e) q.0))
same_stand v true false x y r s e p q = absurd (q.0.1 (subst (IsBad v) e p.0))

pub one_outcome : HasOneOutcome
one_outcome start stream a b x y version p q =
    let moved : IsStream x.version stream b q.rest = subst (λ (v : Version). IsStream v stream b q.rest) (sym version) q.is_stream in
    let standing : StandsAt x.version y.is_bad y.held q.rest = subst (λ (v : Version). StandsAt v y.is_bad y.held q.rest) (sym version) q.stands in
    let one = one_reading x.version stream a b p.rest q.rest p.is_stream moved in
    let stand = same_stand x.version x.is_bad y.is_bad x.held y.held p.rest q.rest one.1 p.stands standing in
    let offsets : x.offset ≡ y.offset = p.offset ∙ ap (λ (ms : List ClientMessage). min (start + length (flat_map spelling ms)) (2 ^ 64 - 1)) one.0 ∙ sym q.offset in
    (one.0, λ i. record { version = version i; offset = offsets i; held = stand.1 i; is_bad = stand.0 i })

-- ---- continuing

-- the same stream, with these bytes after its rest
behind : (before parts rest more : List ℕ) → before ≡ parts ++ rest → before ++ more ≡ parts ++ (rest ++ more)
behind before parts rest more e = ap (λ (t : List ℕ). t ++ more) e ∙ append_assoc parts rest more

-- after a bad frame nothing more is read
pub reads_past : (start : ℕ) (d : Decoding) (before more : List ℕ) (earlier : List ClientMessage) → d.is_bad ≡ true → HasReadFrom start d before earlier → HasReadFrom start d (before ++ more) earlier
reads_past start d before more earlier bad h =
    let P : Bool → Type 0 = λ b. StandsAt d.version b d.held h.rest in
    let Q : Bool → Type 0 = λ b. StandsAt d.version b d.held (h.rest ++ more) in
    let stands = subst P bad h.stands in
    let still = bad_more d.version h.rest more stands.0 in
    record {
      rest = h.rest ++ more;
      is_stream = record { parts = behind before (flat_map spelling earlier) h.rest more h.is_stream.parts; each = h.is_stream.each; end = inr still };
      offset = h.offset;
      stands = subst Q (sym bad) (still, stands.1);
    }

-- the rest that a decoder stores if it has met no bad frame
held_is : (start : ℕ) (d : Decoding) (before : List ℕ) (earlier : List ClientMessage) → d.is_bad ≡ false → (h : HasReadFrom start d before earlier) → d.held ≡ h.rest
held_is start d before earlier good h =
    let P : Bool → Type 0 = λ b. StandsAt d.version b d.held h.rest in
    (subst P good h.stands).1

abbrev pub standing : Version → ℕ → List ℕ → Bool → Decoding
standing version offset held is_bad = record { version = version; offset = offset; held = held; is_bad = is_bad }

-- the state of a decoder that has met no bad frame, after more bytes of the same frame
pub reads_on : (start : ℕ) (d : Decoding) (before more held : List ℕ) (earlier : List ClientMessage) → d.is_bad ≡ false → held ≡ d.held ++ more → IsUnfinished d.version held → HasReadFrom start d before earlier → HasReadFrom start (standing d.version d.offset held false) (before ++ more) (earlier ++ [])
reads_on start d before more held earlier good held_is_more unfinished h =
    let rest_is : held ≡ h.rest ++ more = held_is_more ∙ ap (λ (t : List ℕ). t ++ more) (held_is start d before earlier good h) in
    let still : IsUnfinished d.version (h.rest ++ more) = subst (IsUnfinished d.version) rest_is unfinished in
    rw append-nil record {
      rest = h.rest ++ more;
      is_stream = record { parts = behind before (flat_map spelling earlier) h.rest more h.is_stream.parts; each = h.is_stream.each; end = inl still };
      offset = h.offset;
      stands = (still, rest_is);
    }

pub reads_bad : (start : ℕ) (d : Decoding) (before more held : List ℕ) (earlier : List ClientMessage) → d.is_bad ≡ false → held ≡ d.held ++ more → IsBad d.version held → HasReadFrom start d before earlier → HasReadFrom start (standing d.version d.offset [] true) (before ++ more) (earlier ++ [])
reads_bad start d before more held earlier good held_is_more bad h =
    let rest_is : held ≡ h.rest ++ more = held_is_more ∙ ap (λ (t : List ℕ). t ++ more) (held_is start d before earlier good h) in
    let still : IsBad d.version (h.rest ++ more) = subst (IsBad d.version) rest_is bad in
    rw append-nil record {
      rest = h.rest ++ more;
      is_stream = record { parts = behind before (flat_map spelling earlier) h.rest more h.is_stream.parts; each = h.is_stream.each; end = inr still };
      offset = h.offset;
      stands = (still, refl);
    }

all_more : (v : Version) (ms : List ClientMessage) (m : ClientMessage) → AllByRecursion (FitsIn v) ms → FitsIn v m → AllByRecursion (FitsIn v) (ms ++ m ∷ [])
all_more v [] m all fits = (fits, tt)
all_more v (k ∷ ms) m all fits = (all.0, all_more v ms m all.1 fits)

pub nothing_unfinished : (v : Version) → IsUnfinished v []
nothing_unfinished v = (λ w. omega (arith, w), λ bad. elim bad [ inl h ↦ omega (arith, h.0) | inr rest ↦ elim rest [ inl h ↦ omega (arith, h.0) | inr h ↦ omega (arith, h.0) ] ])

pub reads_message : (start : ℕ) (d : Decoding) (before more held : List ℕ) (earlier : List ClientMessage) (m : ClientMessage) (offset : ℕ) → d.is_bad ≡ false → offset ≡ min (d.offset + length held) (2 ^ 64 - 1) → held ≡ d.held ++ more → FitsIn d.version m → held ≡ spelling m → HasReadFrom start d before earlier → HasReadFrom start (standing d.version offset [] false) (before ++ more) (earlier ++ m ∷ [])
reads_message start d before more held earlier m offset good offset_is held_is_more fits spelled h =
    let text : h.rest ++ more ≡ spelling m = sym (held_is_more ∙ ap (λ (t : List ℕ). t ++ more) (held_is start d before earlier good h)) ∙ spelled in
    let messages : flat_map spelling (earlier ++ m ∷ []) ≡ flat_map spelling earlier ++ spelling m = flat_map-append spelling earlier (m ∷ []) ∙ ap (λ (t : List ℕ). flat_map spelling earlier ++ t) (append-nil (spelling m)) in
    let parts : before ++ more ≡ flat_map spelling (earlier ++ m ∷ []) ++ [] = behind before (flat_map spelling earlier) h.rest more h.is_stream.parts ∙ ap (λ (t : List ℕ). flat_map spelling earlier ++ t) text ∙ sym messages ∙ sym (append-nil (flat_map spelling (earlier ++ m ∷ []))) in
    let long : length (flat_map spelling (earlier ++ m ∷ [])) ≡ length (flat_map spelling earlier) + length held = ap length messages ∙ length-append (flat_map spelling earlier) (spelling m) ∙ ap (λ (t : List ℕ). length (flat_map spelling earlier) + length t) (sym spelled) in
    record {
      rest = [];
      is_stream = record { parts = parts; each = all_more d.version earlier m h.is_stream.each fits; end = inl (nothing_unfinished d.version) };
      offset = omega (arith, offset_is, h.offset, long);
      stands = (nothing_unfinished d.version, refl);
    }

-- ---- how many bytes are stored

-- a whole frame is all that is stored
pub whole_is_held : (held : List ℕ) → IsWhole held → length held ≤ 4 + length_field held → front_frame held ≡ held
whole_is_held held whole le = take_all (4 + length_field held) held le
