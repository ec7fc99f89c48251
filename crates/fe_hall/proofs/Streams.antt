-- How far the messages of a stream were handled.
use Rattle.std.proofs.Common.{◌≡◌, ℕ, zero, suc, ◌+◌, ◌-◌, ◌^◌, ◌<◌, min, Bool, true, false, ◌⊎◌, List, [], ◌∷◌, ◌++◌, length, take, refl, sym, ap, subst, ◌∙◌, append_assoc, append-nil, zero-add, add-zero, arith, inl, inr, lit<, Option, Some, None, if◌then◌else◌}
use Rattle.std.specs.Prelude.{MatchOption}
use Rattle.std.specs.List.{flat_map, AllByRecursion}
use Rattle.std.proofs.lemmas.List.{length-append, take_all}
use Rattle.std.proofs.lemmas.List.Concat.{flat_map-cons}
use Rattle.std.proofs.Math.Seq.{take-append-add}
use Rattle.fe_wire.specs.declared.client_message.ClientMessage.{ClientMessage}
use Rattle.fe_wire.specs.declared.fed.BadFrame.{BadFrame as Fault}
use Rattle.fe_wire.specs.declared.version.Version.{Version}
use Rattle.fe_wire.specs.declared.version.Version.TheVariants.{Two}
use Rattle.fe_wire.specs.Spelling.{spelling, FitsIn}
use Rattle.fe_wire.specs.Stream.{Decoding, HasRead, HasReadFrom, CompletesMessage, IsStream, IsUnfinished, IsBad, StandsAt, fault_of}
use Rattle.fe_codes.specs.Reading.{IsBytes}
use Rattle.fe_wire.proofs.FrameLaws.{one_front, front_not_bad, front_not_unfinished}
use Rattle.fe_wire.proofs.Existence.{each_has_reading}
use Rattle.fe_wire.proofs.StreamLaws.{one_reading, nothing_unfinished}
use Rattle.fe_hall.specs.declared.ends.ReadEnd.{ReadEnd}
use Rattle.fe_memory.specs.declared.OutOfMemory.{OutOfMemory}
use Rattle.fe_hall.specs.declared.ends.ReadEnd.TheVariants.{BadFrame, Gone, Stopped, Spent, NoMemory}
use Rattle.fe_shared.specs.Seats.{CallSeatState}
use Rattle.fe_hall.specs.Reads.{AreHandled, EndsEarly, EndsAmong, EndsAt, HandlesStream, IsAt}

-- what begins with a message's frame is no rest
not_rest : (v : Version) (m : ClientMessage) (ms : List ClientMessage) (rest stream : List ℕ) → FitsIn v m → stream ≡ flat_map spelling (m ∷ ms) ++ rest → IsUnfinished v stream ⊎ IsBad v stream → ⊥
not_rest v m ms rest stream fits same end =
    let text : stream ≡ spelling m ++ (flat_map spelling ms ++ rest) = same ∙ ap (λ (t : List ℕ). t ++ rest) (flat_map-cons spelling m ms) ∙ append_assoc (spelling m) (flat_map spelling ms) rest in
    let P : List ℕ → Type 0 = λ t. IsUnfinished v t ⊎ IsBad v t in
    elim (subst P text end) [ inl h ↦ front_not_unfinished v m _ fits.0 h | inr h ↦ front_not_bad v m _ fits h ]

-- messages that a stream begins with are the first of its messages
begins_with : (v : Version) (stream : List ℕ) (a b : List ClientMessage) (x y : List ℕ) → stream ≡ flat_map spelling a ++ x → AllByRecursion (FitsIn v) a → IsUnfinished v x ⊎ IsBad v x
    → stream ≡ flat_map spelling b ++ y → AllByRecursion (FitsIn v) b → take (length b) a ≡ b
begins_with v stream a [] x y p fits_a end_x q fits_b = refl
begins_with v stream [] (n ∷ ns) x y p fits_a end_x q fits_b = absurd (not_rest v n ns y x fits_b.0 (sym p ∙ q) end_x)
begins_with v stream (m ∷ ms) (n ∷ ns) x y p fits_a end_x q fits_b =
    let left : flat_map spelling (m ∷ ms) ++ x ≡ spelling m ++ (flat_map spelling ms ++ x) = ap (λ (t : List ℕ). t ++ x) (flat_map-cons spelling m ms) ∙ append_assoc (spelling m) (flat_map spelling ms) x in
    let right : flat_map spelling (n ∷ ns) ++ y ≡ spelling n ++ (flat_map spelling ns ++ y) = ap (λ (t : List ℕ). t ++ y) (flat_map-cons spelling n ns) ∙ append_assoc (spelling n) (flat_map spelling ns) y in
    let one = one_front m n (flat_map spelling ms ++ x) (flat_map spelling ns ++ y) fits_a.0.0 fits_b.0.0 (sym left ∙ sym p ∙ q ∙ right) in
    let others = begins_with v (flat_map spelling ms ++ x) ms ns x y refl fits_a.1 end_x one.1 fits_b.1 in
    ap (λ (k : ClientMessage). k ∷ take (length ns) ms) one.0 ∙ ap (λ (ks : List ClientMessage). n ∷ ks) others

two_of : (v : Version) (bytes : List ℕ) (messages : List ClientMessage) (rest : List ℕ) → v ≡ Two → IsStream v bytes messages rest → IsStream Two bytes messages rest
two_of v bytes messages rest two stream = subst (λ (w : Version). IsStream w bytes messages rest) two stream

waits : (d : Decoding) (rest : List ℕ) → d.version ≡ Two → d.is_bad ≡ false → StandsAt d.version d.is_bad d.held rest → IsUnfinished Two rest
waits d rest two good h =
    let P : Bool → Type 0 = λ b. StandsAt d.version b d.held rest in
    subst (λ (w : Version). IsUnfinished w rest) two (subst P good h).0

breaks : (d : Decoding) (rest : List ℕ) → d.version ≡ Two → d.is_bad ≡ true → StandsAt d.version d.is_bad d.held rest → IsBad Two rest
breaks d rest two bad h =
    let P : Bool → Type 0 = λ b. StandsAt d.version b d.held rest in
    subst (λ (w : Version). IsBad w rest) two (subst P bad h).0

module _ (before after : CallSeatState) (list : List ClientMessage) where
  handled_as : (xs ys : List ClientMessage) → xs ≡ ys → AreHandled before after list xs → AreHandled before after list ys
  handled_as xs ys same handled = subst (λ (ms : List ClientMessage). AreHandled before after list ms) same handled

  -- all messages were handled
  all_handled : (messages : List ClientMessage) → AreHandled before after list messages → AreHandled before after list (take (length messages) messages)
  all_handled messages handled = handled_as messages (take (length messages) messages) (sym (take_all (length messages) messages (omega arith))) handled

  -- an end after all messages
  pub ends_behind : (bytes now : List ℕ) (d : Decoding) (end : ReadEnd) → now ≡ bytes → IsAt bytes before d after list
      → ((messages : List ClientMessage) (rest : List ℕ) → IsUnfinished Two rest → EndsAt end messages rest (length messages)) → HandlesStream now before after list end
  ends_behind bytes now d end same at ends =
      subst (λ (bs : List ℕ). HandlesStream bs before after list end) (sym same)
      (record {
        messages = at.messages;
        rest = at.reads.rest;
        is_stream = two_of d.version bytes at.messages at.reads.rest at.version at.reads.is_stream;
        count = length at.messages;
        handled = all_handled at.messages at.handled;
        ends = ends at.messages at.reads.rest (waits d at.reads.rest at.version at.goes_on at.reads.stands);
      })

  -- a frame is bad
  pub ends_bad : (bytes : List ℕ) (d : Decoding) (messages : List ClientMessage) → d.version ≡ Two → d.is_bad ≡ true → HasRead d bytes messages → AreHandled before after list messages
      → HandlesStream bytes before after list (BadFrame d.offset)
  ends_bad bytes d messages two bad reads handled = record {
    messages = messages;
    rest = reads.rest;
    is_stream = two_of d.version bytes messages reads.rest two reads.is_stream;
    count = length messages;
    handled = all_handled messages handled;
    ends = (refl, breaks d reads.rest two bad reads.stands, reads.offset ∙ ap (λ n. min n (2 ^ 64 - 1)) (zero-add (length (flat_map spelling messages))));
  }

  -- a piece was not read because memory is short
  pub ends_unread : (bytes piece : List ℕ) (d : Decoding) → IsBytes (bytes ++ piece) → CompletesMessage d piece → IsAt bytes before d after list
      → (short : OutOfMemory) → HandlesStream (bytes ++ piece) before after list (NoMemory short)
  ends_unread bytes piece d are_bytes completes at short =
      let whole = each_has_reading d.version (bytes ++ piece) are_bytes in
      let cut : bytes ++ piece ≡ flat_map spelling at.messages ++ (at.reads.rest ++ piece) =
      ap (λ (t : List ℕ). t ++ piece) at.reads.is_stream.parts ∙ append_assoc (flat_map spelling at.messages) at.reads.rest piece in
      let first = begins_with d.version (bytes ++ piece) whole.messages at.messages whole.rest (at.reads.rest ++ piece) whole.is_stream.parts whole.is_stream.each whole.is_stream.end cut at.reads.is_stream.each in
      record {
        messages = whole.messages;
        rest = whole.rest;
        is_stream = two_of d.version (bytes ++ piece) whole.messages whole.rest at.version whole.is_stream;
        count = length at.messages;
        handled = handled_as at.messages (take (length at.messages) whole.messages) (sym first) at.handled;
        ends = inl (completes 0 bytes at.messages whole.messages whole.rest at.reads whole.is_stream);
      }

  ends_before : (end : ReadEnd) (messages : List ClientMessage) (rest : List ℕ) (count : ℕ) → EndsEarly end → count < length messages → EndsAt end messages rest count
  ends_before Gone messages rest count breaks less = less
  ends_before Stopped messages rest count breaks less = less
  ends_before Spent messages rest count breaks less = less
  ends_before (NoMemory short) messages rest count breaks less = inl less
  ends_before _ messages rest count breaks less = absurd breaks

  -- the side ends before a message
  pub ends_within : (bytes : List ℕ) (d : Decoding) (end : ReadEnd) (messages more : List ClientMessage) → d.version ≡ Two → HasRead d bytes (messages ++ more)
      → EndsAmong before after list messages more end → HandlesStream bytes before after list end
  ends_within bytes d end messages more two reads among =
      let all = messages ++ more in
      let count = among.count in
      record {
        messages = all;
        rest = reads.rest;
        is_stream = two_of d.version bytes all reads.rest two reads.is_stream;
        count = length messages + count;
        handled = handled_as (messages ++ take count more) (take (length messages + count) all) (sym (take-append-add messages more count)) among.handled;
        ends = ends_before end all reads.rest (length messages + count) among.breaks (omega (arith, among.fewer, length-append messages more));
      }

-- ---- a piece more

IsBytes-append : (xs ys : List ℕ) → IsBytes xs → IsBytes ys → IsBytes (xs ++ ys)
IsBytes-append [] ys all more i = more i
IsBytes-append (x ∷ xs) ys all more zero = all 0
IsBytes-append (x ∷ xs) ys all more (suc i) = IsBytes-append xs ys (λ k. all (suc k)) more i

abbrev fault_if : Bool → ℕ → Option Fault
fault_if b offset = if b then Some (record { offset = offset }) else None

-- a decoder tells no fault
pub fault_none : (d : Decoding) (fault : Option Fault) → fault ≡ fault_of d → fault ≡ None → d.is_bad ≡ false
fault_none d fault is none = by d.is_bad (sym is ∙ none)
  where
    by : (b : Bool) → fault_if b d.offset ≡ None → b ≡ false
    by true same = cc
    by false same = refl

pub fault_bad : (d : Decoding) (fault : Option Fault) (bad : Fault) → fault ≡ fault_of d → fault ≡ Some bad → d.is_bad ≡ true
fault_bad d fault bad is some = by d.is_bad (sym is ∙ some)
  where
    by : (b : Bool) → fault_if b d.offset ≡ Some bad → b ≡ true
    by true same = refl
    by false same = cc

pub fault_offset : (d : Decoding) (fault : Option Fault) (bad : Fault) → fault ≡ fault_of d → fault ≡ Some bad → bad.offset ≡ d.offset
fault_offset d fault bad is some = by d.is_bad (sym is ∙ some)
  where
    by : (b : Bool) → fault_if b d.offset ≡ Some bad → bad.offset ≡ d.offset
    by true same =
        let frame : Fault = record { offset = d.offset } in
        let one : frame ≡ bad = cc in
        sym (ap (λ (f : Fault). f.offset) one)
    by false same = cc

abbrev pub ReadsOn : Decoding → Decoding → List ℕ → List ClientMessage → Type 0
ReadsOn d x piece more = (start : ℕ) (before : List ℕ) (earlier : List ClientMessage) → HasReadFrom start d before earlier → HasReadFrom start x (before ++ piece) (earlier ++ more)

module _ (before old new : CallSeatState) (listed list : List ClientMessage) (bytes piece : List ℕ) (d x : Decoding) (slice more : List ClientMessage)
    (fits : IsBytes piece) (at : IsAt bytes before d old listed) (version : x.version ≡ d.version) (reads : ReadsOn d x piece more) (same : slice ≡ more) where
  read_on : HasRead x (bytes ++ piece) (at.messages ++ slice)
  read_on = subst (λ (ms : List ClientMessage). HasRead x (bytes ++ piece) (at.messages ++ ms)) (sym same) (reads 0 bytes at.messages at.reads)

  -- all messages of the piece were handled
  pub piece_taken : (y : Decoding) → y ≡ x → x.is_bad ≡ false → ((earlier : List ClientMessage) → AreHandled before old listed earlier → AreHandled before new list (earlier ++ slice))
      → IsAt (bytes ++ piece) before y new list
  piece_taken y is good handled =
      subst (λ (e : Decoding). IsAt (bytes ++ piece) before e new list) (sym is)
      (record {
        are_bytes = IsBytes-append bytes piece at.are_bytes fits;
        version = version ∙ at.version;
        goes_on = good;
        messages = at.messages ++ slice;
        reads = read_on;
        handled = handled at.messages at.handled;
      })

  -- and a bad frame came
  pub piece_bad : (fault : Option Fault) (bad : Fault) → fault ≡ fault_of x → fault ≡ Some bad
      → ((earlier : List ClientMessage) → AreHandled before old listed earlier → AreHandled before new list (earlier ++ slice)) → HandlesStream (bytes ++ piece) before new list (BadFrame bad.offset)
  piece_bad fault bad is some handled =
      subst (λ n. HandlesStream (bytes ++ piece) before new list (BadFrame n)) (sym (fault_offset x fault bad is some))
      (ends_bad before new list (bytes ++ piece) x (at.messages ++ slice) (version ∙ at.version) (fault_bad x fault bad is some) read_on (handled at.messages at.handled))

  -- some of them were
  pub piece_among : (end : ReadEnd) → ((earlier : List ClientMessage) → AreHandled before old listed earlier → EndsAmong before new list earlier slice end) → HandlesStream (bytes ++ piece) before new list end
  piece_among end among = ends_within before new list (bytes ++ piece) x end at.messages slice (version ∙ at.version) read_on (among at.messages at.handled)

-- none were, because memory is short
pub piece_unread : (before seat : CallSeatState) (list : List ClientMessage) (bytes piece : List ℕ) (d : Decoding) → IsBytes piece → CompletesMessage d piece → IsAt bytes before d seat list
    → (short : OutOfMemory) → HandlesStream (bytes ++ piece) before seat list (NoMemory short)
piece_unread before seat list bytes piece d fits completes at short = ends_unread before seat list bytes piece d (IsBytes-append bytes piece at.are_bytes fits) completes at short

-- ---- the beginning

pub begins : (d : Decoding) (seat : CallSeatState) → d.version ≡ Two → HasRead d [] [] → IsAt [] seat d seat []
begins d seat two reads =
    record {
      are_bytes = λ i. lit< tt;
      version = two;
      goes_on = by d.is_bad reads.stands;
      messages = [];
      reads = reads;
      handled = record { conn = refl; calls = sym (add-zero seat.calls); listed = refl; all = sym (append-nil seat.messages) };
    }
  where
    by : (b : Bool) → StandsAt d.version b d.held reads.rest → b ≡ false
    by false stands = refl
    by true stands = absurd ((nothing_unfinished d.version).1 (subst (IsBad d.version) (sym reads.is_stream.parts) stands.0))

-- no memory for the first read
pub ends_first : (before seat : CallSeatState) (list : List ClientMessage) (bytes : List ℕ) (d : Decoding) → bytes ≡ [] → IsAt [] before d seat list → (short : OutOfMemory) → HandlesStream bytes before seat list (NoMemory short)
ends_first before seat list bytes d none at short =
    let first : at.messages ≡ [] =
    (one_reading d.version [] at.messages [] at.reads.rest [] at.reads.is_stream (record { parts = refl; each = tt; end = inl (nothing_unfinished d.version) })).0 in
    subst (λ (bs : List ℕ). HandlesStream bs before seat list (NoMemory short)) (sym none)
    (record {
      messages = at.messages;
      rest = at.reads.rest;
      is_stream = two_of d.version [] at.messages at.reads.rest at.version at.reads.is_stream;
      count = length at.messages;
      handled = all_handled before seat list at.messages at.handled;
      ends = inr first;
    })

pub on_none : {E : Type 0} (result : Option E) (P : Type 0) (Q : E → Type 0) → result ≡ None → P → MatchOption result P Q
on_none {E} result P Q none holds = subst (λ (r : Option E). MatchOption r P Q) (sym none) holds
