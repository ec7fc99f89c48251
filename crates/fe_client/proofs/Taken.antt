-- What is taken of an input.
use Rattle.std.proofs.Common.{◌≡◌, ℕ, ◌+◌, ◌-◌, Bool, true, false, true≢false, List, [], ◌∷◌, ◌++◌, length, take, drop, sym, ap, ◌∙◌, subst, append_assoc, append-nil, arith, inl, inr}
use Rattle.std.specs.Prelude.{MatchBool}
use Rattle.std.proofs.lemmas.List.{length-append, length-take, drop-drop, drop-take, drop_at}
use Rattle.fe_text.proofs.LineLemmas.{both_no_feed}
use Rattle.fe_text.specs.Line.{HasNoFeed}
use Rattle.fe_client.specs.declared.fault.CallFault.{CallFault}
use Rattle.fe_client.specs.Events.{Event}
use Rattle.fe_client.specs.Conversation.{Conversation}
use Rattle.fe_client.specs.Ends.{Cause, IsTooLong, Unread}
use Rattle.fe_client.specs.Input.{Fills, TakesFed, TakesLast, NotTaken}
use Rattle.fe_client.proofs.Leads.{Joins, then_nothing}

-- ---- bytes

-- what is kept after a line feed
pub kept_behind : (piece front behind : List ℕ) (next end count : ℕ) → length front ≡ count → take (end - next) (drop next piece) ≡ front ++ 10 ∷ behind
    → take (end - (next + (count + 1))) (drop (next + (count + 1)) piece) ≡ behind
kept_behind piece front behind next end count size is =
    let k = count + 1 in
    let n = end - (next + k) in
    let len : length (take (end - next) (drop next piece)) ≡ length (front ++ 10 ∷ behind) = ap (length {A = ℕ}) is in
    let room : end - next ≡ k + n = omega (arith, size, len, length-take (end - next) (drop next piece), length-append front (10 ∷ behind)) in
    let whole : take (k + n) (drop next piece) ≡ (front ++ 10 ∷ []) ++ behind = ap (λ m. take m (drop next piece)) (sym room) ∙ is ∙ sym (append_assoc front (10 ∷ []) behind) in
    let ends : length (front ++ 10 ∷ []) ≡ k = omega (arith, size, length-append front (10 ∷ [])) in
    ap (take n) (sym (drop-drop k next piece)) ∙ sym (drop-take k n (drop next piece)) ∙ ap (drop k) whole ∙ drop_at (front ++ 10 ∷ []) behind k ends

when_true : (P Q : Type 0) (b : Bool) → b ≡ true → MatchBool b P Q → P
when_true P Q true e h = h
when_true P Q false e h = absurd (true≢false (sym e))

when_false : (P Q : Type 0) (b : Bool) → b ≡ false → MatchBool b P Q → Q
when_false P Q false e h = h
when_false P Q true e h = absurd (true≢false e)

-- what is taken of the bytes that are kept, where a line feed is among them and where none is
abbrev pub TakesKept : List ℕ → List ℕ → List ℕ → Bool → Type 0
TakesKept kept front rest fed = MatchBool fed (kept ≡ front ++ 10 ∷ rest) ((kept ≡ front) × (rest ≡ []))

pub fed_front : (kept front rest : List ℕ) (fed : Bool) → fed ≡ true → TakesKept kept front rest fed → kept ≡ front ++ 10 ∷ rest
fed_front kept front rest fed = when_true (kept ≡ front ++ 10 ∷ rest) ((kept ≡ front) × (rest ≡ [])) fed

pub unfed_front : (kept front rest : List ℕ) (fed : Bool) → fed ≡ false → TakesKept kept front rest fed → (kept ≡ front) × (rest ≡ [])
unfed_front kept front rest fed = when_false (kept ≡ front ++ 10 ∷ rest) ((kept ≡ front) × (rest ≡ [])) fed

-- ---- a line that is being taken

-- A front of the line is taken, and these bytes were read after it.
pub record Taking {S : Type 0} (leads : S → List Event → S → Type 0) (before now : S) (kept line rest : List ℕ) : Type 0 where
  pub so : List Event
  pub talk : Conversation kept 0 so (line ++ rest)
  pub no_feed : HasNoFeed line
  pub happened : leads before so now

pub taking_starts : {S : Type 0} (leads : S → List Event → S → Type 0) (s : S) (kept line rest : List ℕ) → leads s [] s → line ≡ [] → rest ≡ kept → Taking leads s s kept line rest
taking_starts leads s kept line rest stays none same = record {
  so = [];
  talk = subst (λ (t : List ℕ). Conversation kept 0 [] t) (sym (ap (λ (l : List ℕ). l ++ rest) none ∙ same)) Conversation.Begins;
  no_feed = subst HasNoFeed (sym none) tt;
  happened = stays;
}

-- a line feed is among the bytes
pub takes_fed : {S : Type 0} (leads : S → List Event → S → Type 0) (s t : S) (kept line rest front new left : List ℕ) → Taking leads s t kept line rest → HasNoFeed front → rest ≡ front ++ 10 ∷ left → new ≡ line ++ front → TakesFed leads s t kept left new
takes_fed leads s t kept line rest front new left k none is same =
    let whole : line ++ rest ≡ new ++ 10 ∷ left = ap (λ (xs : List ℕ). line ++ xs) is ∙ sym (append_assoc line front (10 ∷ left)) ∙ ap (λ (xs : List ℕ). xs ++ 10 ∷ left) (sym same) in
    record {
      so = k.so;
      talk = subst (λ (xs : List ℕ). Conversation kept 0 k.so xs) whole k.talk;
      no_feed = subst HasNoFeed (sym same) (both_no_feed line front k.no_feed none);
      happened = k.happened;
    }

-- none is
pub goes_on : {S : Type 0} (leads : S → List Event → S → Type 0) (s t : S) (kept line rest front new left : List ℕ) → Taking leads s t kept line rest → HasNoFeed front → rest ≡ front → left ≡ [] → new ≡ line ++ front → Taking leads s t kept new left
goes_on leads s t kept line rest front new left k none is empty same =
    let whole : line ++ rest ≡ new ++ left = ap (λ (xs : List ℕ). line ++ xs) is ∙ sym same ∙ sym (append-nil new) ∙ ap (λ (xs : List ℕ). new ++ xs) (sym empty) in
    record {
      so = k.so;
      talk = subst (λ (xs : List ℕ). Conversation kept 0 k.so xs) whole k.talk;
      no_feed = subst HasNoFeed (sym same) (both_no_feed line front k.no_feed none);
      happened = k.happened;
    }

all_left : {S : Type 0} (leads : S → List Event → S → Type 0) (s t : S) (kept line rest : List ℕ) (k : Taking leads s t kept line rest) → rest ≡ [] → Conversation kept 0 k.so line
all_left leads s t kept line rest k none = subst (λ (xs : List ℕ). Conversation kept 0 k.so xs) (ap (λ (xs : List ℕ). line ++ xs) none ∙ append-nil line) k.talk

-- the input has ended
pub takes_last : {S : Type 0} (leads : S → List Event → S → Type 0) → Joins leads → (s t u : S) (kept line rest same : List ℕ) (events : List Event) → Taking leads s t kept line rest → rest ≡ [] → events ≡ Event.Read [] ∷ [] → leads t events u → same ≡ line → TakesLast leads s u kept same
takes_last leads joins s t u kept line rest same events k none is ended e = subst (λ (l : List ℕ). TakesLast leads s u kept l) (sym e) (record {
  so = k.so;
  talk = all_left leads s t kept line rest k none;
  no_feed = k.no_feed;
  happened = joins s t u k.so (Event.Read [] ∷ []) k.happened (subst (λ (es : List Event). leads t es u) is ended);
})

-- more is read, or the read was interrupted
pub reads_on : {S : Type 0} (leads : S → List Event → S → Type 0) → Joins leads → (s t u : S) (kept line rest piece same : List ℕ) (events : List Event) → Taking leads s t kept line rest → rest ≡ [] → Fills true piece events → leads t events u → same ≡ line → Taking leads s u kept same piece
reads_on leads joins s t u kept line rest piece same events k none (inl nothing) so e = subst (λ (l : List ℕ). Taking leads s u kept l piece) (sym e) (record {
  so = k.so;
  talk = subst (λ (xs : List ℕ). Conversation kept 0 k.so (line ++ xs)) (none ∙ sym nothing.0) k.talk;
  no_feed = k.no_feed;
  happened = then_nothing leads joins s t u k.so k.happened (subst (λ (es : List Event). leads t es u) nothing.1 so);
})
reads_on leads joins s t u kept line rest piece same events k none (inr some) so e = subst (λ (l : List ℕ). Taking leads s u kept l piece) (sym e) (record {
  so = k.so ++ Event.Read piece ∷ [];
  talk = Conversation.Reads 0 k.so line piece (all_left leads s t kept line rest k none) k.no_feed some.0;
  no_feed = k.no_feed;
  happened = joins s t u k.so (Event.Read piece ∷ []) k.happened (subst (λ (es : List Event). leads t es u) some.1 so);
})

-- ---- faults

pub not_taken : {S : Type 0} (leads : S → List Event → S → Type 0) (end : CallFault) (because : Cause → Type 0) (number : ℕ) (s t : S) (kept line rest : List ℕ) → Taking leads s t kept line rest → Unread end because number (line ++ rest) → NotTaken leads end because number s t kept
not_taken leads end because number s t kept line rest k why = record { so = k.so; left = line ++ rest; talk = k.talk; why = why; happened = k.happened }

-- and nothing more happens
pub later_not_taken : {S : Type 0} (leads : S → List Event → S → Type 0) → Joins leads → (end : CallFault) (because : Cause → Type 0) (number : ℕ) (s t u : S) (kept : List ℕ) → NotTaken leads end because number s t kept → leads t [] u → NotTaken leads end because number s u kept
later_not_taken leads joins end because number s t u kept n nothing = record { so = n.so; left = n.left; talk = n.talk; why = n.why; happened = then_nothing leads joins s t u n.so n.happened nothing }

-- a line that begins with more bytes than any of the syntax has
pub too_long : (end : CallFault) (because : Cause → Type 0) (number : ℕ) (line rest front behind : List ℕ) → HasNoFeed line → HasNoFeed front → rest ≡ front ++ behind → IsTooLong end number (line ++ front) → Unread end because number (line ++ rest)
too_long end because number line rest front behind none more_none is (inl long) =
    Unread.Long long.0 (line ++ front, behind, both_no_feed line front none more_none, ap (λ (xs : List ℕ). line ++ xs) is ∙ sym (append_assoc line front behind), long.1)
too_long end because number line rest front behind none more_none is (inr short) = Unread.NoMemory short

-- ---- the line that was taken, where a line feed ends it and where none does

pub fed_line : {S : Type 0} (leads : S → List Event → S → Type 0) (s t : S) (kept left line same : List ℕ) (fed : Bool) → line ≡ same → fed ≡ true → MatchBool fed (TakesFed leads s t kept left same) (TakesLast leads s t kept same) → TakesFed leads s t kept left line
fed_line leads s t kept left line same fed is e h = subst (λ (l : List ℕ). TakesFed leads s t kept left l) (sym is) (when_true (TakesFed leads s t kept left same) (TakesLast leads s t kept same) fed e h)

pub unfed_line : {S : Type 0} (leads : S → List Event → S → Type 0) (s t : S) (kept left line same : List ℕ) (fed : Bool) → line ≡ same → fed ≡ false → MatchBool fed (TakesFed leads s t kept left same) (TakesLast leads s t kept same) → TakesLast leads s t kept line
unfed_line leads s t kept left line same fed is e h = subst (λ (l : List ℕ). TakesLast leads s t kept l) (sym is) (when_false (TakesFed leads s t kept left same) (TakesLast leads s t kept same) fed e h)
