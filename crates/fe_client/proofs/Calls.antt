-- A whole conversation: lines taken from the input, one after the other, and what they ask.
use Rattle.std.proofs.Common.{◌≡◌, ℕ, ◌+◌, ◌≤◌, List, [], ◌∷◌, ◌++◌, length, refl, sym, ap, ◌∙◌, subst, append_assoc, append-nil, add-zero, arith, inl, inr}
use Rattle.std.proofs.lemmas.List.{length-append}
use Rattle.std.proofs.lemmas.List.Concat.{flat_map-append}
use Rattle.fe_memory.specs.Memory.{out_of_memory}
use Rattle.fe_wire.specs.declared.client_message.ClientMessage.{ClientMessage}
use Rattle.fe_client.specs.declared.fault.CallFault.{CallFault}
use Rattle.fe_client.specs.declared.fault.CallFault.TheVariants as fault
use Rattle.fe_client.specs.Events.{Event, received_byte, received_in}
use Rattle.fe_client.specs.Conversation.{Conversation, TalksAll, DoesLine, DoesPart}
use Rattle.fe_client.specs.Ends.{Cause, Unread, Unreceived, Unanswered, ExchangeEnds, LineEnds, BreaksOff, TalksUntil}
use Rattle.fe_client.specs.Input.{TakesFed, TakesLast, NotTaken}
use Rattle.fe_client.proofs.Leads.{Joins}

-- one conversation goes on where another one stopped
joined : {start mid end : List ℕ} {n m : ℕ} {a b : List Event} → Conversation start n a mid → Conversation mid m b end → Conversation start (n + m) (a ++ b) end
joined {start} {mid} {end} {n} {m} {a} {b} c Conversation.Begins =
    subst (λ (k : ℕ). Conversation start k (a ++ []) mid) (sym (add-zero n)) (subst (λ (es : List Event). Conversation start n es mid) (sym (append-nil a)) c)
joined {start} {mid} {end} {n} {m} {a} {b} c (Conversation.Reads lines so left piece d none some) =
    subst (λ (es : List Event). Conversation start (n + lines) es (left ++ piece)) (append_assoc a so (Event.Read piece ∷ [])) (Conversation.Reads (n + lines) (a ++ so) left piece (joined c d) none some)
joined {start} {mid} {end} {n} {m} {a} {b} c (Conversation.Takes lines so done line left d none does) =
    let more : n + lines + 1 ≡ n + (lines + 1) = omega arith in
    subst (λ (k : ℕ). Conversation start k (a ++ (so ++ done)) left) more (subst (λ (es : List Event). Conversation start (n + lines + 1) es left) (append_assoc a so done) (Conversation.Takes (n + lines) (a ++ so) done line left (joined c d) none does))

-- and takes no line
same_lines : {start mid end : List ℕ} {n : ℕ} {a b : List Event} → Conversation start n a mid → Conversation mid 0 b end → Conversation start n (a ++ b) end
same_lines {start} {mid} {end} {n} {a} {b} c d = subst (λ (k : ℕ). Conversation start k (a ++ b) end) (add-zero n) (joined c d)

received_both : (a b : List Event) → length (received_in (a ++ b)) ≡ length (received_in a) + length (received_in b)
received_both a b = ap (length {A = ℕ}) (flat_map-append received_byte a b) ∙ length-append (received_in a) (received_in b)

-- ---- so far

-- Lines were taken, and what they ask is done.
pub record SoFar {S : Type 0} (leads : S → List Event → S → Type 0) (before now : S) (left : List ℕ) (number reads : ℕ) : Type 0 where
  pub lines : ℕ
  pub so : List Event
  pub talk : Conversation [] lines so left
  pub counts : number ≡ lines
  pub happened : leads before so now
  pub few : reads ≤ length (received_in so)

pub nothing_yet : {S : Type 0} (leads : S → List Event → S → Type 0) (s : S) (left : List ℕ) (number reads : ℕ) → leads s [] s → left ≡ [] → number ≡ 0 → reads ≡ 0 → SoFar leads s s left number reads
nothing_yet leads s left number reads stays none first unread = record {
  lines = 0;
  so = [];
  talk = subst (λ (t : List ℕ). Conversation [] 0 [] t) (sym none) Conversation.Begins;
  counts = first;
  happened = stays;
  few = omega (arith, unread);
}

-- a line more
pub line_more : {S : Type 0} (leads : S → List Event → S → Type 0) → Joins leads → (s t u v : S) (kept left line : List ℕ) (n m reads now : ℕ) → SoFar leads s t kept n reads → TakesFed leads t u kept left line → m ≡ n + 1 → DoesLine leads line reads now u v → SoFar leads s v left m now
line_more leads joins s t u v kept left line n m reads now so takes next d =
    let counts = so.counts in
    let few = so.few in
    let more = d.few in
    record {
      lines = so.lines + 1;
      so = (so.so ++ takes.so) ++ d.done;
      talk = Conversation.Takes so.lines (so.so ++ takes.so) d.done line left (same_lines so.talk takes.talk) takes.no_feed d.does;
      counts = omega (arith, next, counts);
      happened = joins s u v (so.so ++ takes.so) d.done (joins s t u so.so takes.so so.happened takes.happened) d.happened;
      few = omega (arith, few, more, received_both so.so takes.so, received_both (so.so ++ takes.so) d.done);
    }

-- what happens from the end of the input on
last_events : (a b done : List Event) (r : Event) → (a ++ (b ++ r ∷ [])) ++ done ≡ (a ++ b) ++ (r ∷ done)
last_events a b done r = ap (λ (t : List Event). t ++ done) (sym (append_assoc a b (r ∷ []))) ∙ append_assoc (a ++ b) (r ∷ []) done

-- the last line
pub talked_all : {S : Type 0} (leads : S → List Event → S → Type 0) → Joins leads → (s t u v : S) (kept line : List ℕ) (n reads now : ℕ) → SoFar leads s t kept n reads → TakesLast leads t u kept line → DoesLine leads line reads now u v → TalksAll leads s v
talked_all leads joins s t u v kept line n reads now so takes d = record {
  lines = so.lines;
  so = so.so ++ takes.so;
  last = line;
  talk = same_lines so.talk takes.talk;
  no_feed = takes.no_feed;
  done = d.done;
  does = d.does;
  happened = subst (λ (es : List Event). leads s es v) (last_events so.so takes.so d.done (Event.Read []))
      (joins s u v (so.so ++ (takes.so ++ Event.Read [] ∷ [])) d.done (joins s t u so.so (takes.so ++ Event.Read [] ∷ []) so.happened takes.happened) d.happened);
}

-- ---- ends

-- the next line is not taken
pub not_read : {S : Type 0} (leads : S → List Event → S → Type 0) → Joins leads → (end : CallFault) (because : Cause → Type 0) (s t u : S) (kept : List ℕ) (n m reads : ℕ) → SoFar leads s t kept n reads → m ≡ n + 1 → NotTaken leads end because m t u kept → TalksUntil leads end because s u
not_read leads joins end because s t u kept n m reads so next broke =
    let counts = so.counts in
    let number : m ≡ so.lines + 1 = omega (arith, next, counts) in
    record {
      lines = so.lines;
      so = so.so ++ broke.so;
      left = broke.left;
      talk = same_lines so.talk broke.talk;
      part = [];
      breaks = BreaksOff.Reading (subst (λ (k : ℕ). Unread end because k broke.left) number broke.why) refl;
      happened = subst (λ (es : List Event). leads s es u) (sym (append-nil (so.so ++ broke.so))) (joins s t u so.so broke.so so.happened broke.happened);
    }

later_incomplete : (end : CallFault) (because : Cause → Type 0) (earlier now : ℕ) (bytes : List ℕ) → earlier ≤ now → Unreceived end because earlier bytes → Unreceived end because now bytes
later_incomplete end because earlier now bytes le (inl broke) = inl broke
later_incomplete end because earlier now bytes le (inr many) = let most = many.1 in inr (many.0, omega (arith, le, most))

later_unanswered : (end : CallFault) (because : Cause → Type 0) (earlier now : ℕ) (bytes : List ℕ) → earlier ≤ now → Unanswered end because earlier bytes → Unanswered end because now bytes
later_unanswered end because earlier now bytes le (Unanswered.Incomplete why) = Unanswered.Incomplete (later_incomplete end because earlier now bytes le why)
later_unanswered end because earlier now bytes le (Unanswered.BadFrame is bad) = Unanswered.BadFrame is bad
later_unanswered end because earlier now bytes le (Unanswered.NoMemory is) = Unanswered.NoMemory is

later_exchange : (end : CallFault) (because : Cause → Type 0) (earlier now : ℕ) (m : ClientMessage) (part : List Event) → earlier ≤ now → ExchangeEnds end because earlier m part → ExchangeEnds end because now m part
later_exchange end because earlier now m part le (ExchangeEnds.Sending e) = ExchangeEnds.Sending e
later_exchange end because earlier now m part le (ExchangeEnds.Receiving e) = ExchangeEnds.Receiving (record { bytes = e.bytes; why = later_unanswered end because earlier now e.bytes le e.why; part_is = e.part_is })
later_exchange end because earlier now m part le (ExchangeEnds.Printing e) = ExchangeEnds.Printing e

-- a line broke off that has this number, with this much received before it
later_line : (end : CallFault) (because : Cause → Type 0) (m number earlier now : ℕ) (line : List ℕ) (part : List Event) → m ≡ number → earlier ≤ now → LineEnds end because m earlier line part → LineEnds end because number now line part
later_line end because m number earlier now line part same le (LineEnds.Stray is some none nothing) = LineEnds.Stray (is ∙ ap (λ (k : ℕ). fault.Line k) same) some none nothing
later_line end because m number earlier now line part same le (LineEnds.Within message says e) = LineEnds.Within message says (later_exchange end because earlier now message part le e)

pub line_broke : {S : Type 0} (leads : S → List Event → S → Type 0) → Joins leads → (end : CallFault) (because : Cause → Type 0) (s t u v : S) (kept left line : List ℕ) (n m reads : ℕ) → SoFar leads s t kept n reads → TakesFed leads t u kept left line → m ≡ n + 1
    → DoesPart leads u v (LineEnds end because m reads line) → TalksUntil leads end because s v
line_broke leads joins end because s t u v kept left line n m reads so takes next d =
    let counts = so.counts in
    let few = so.few in
    let number : m ≡ so.lines + 1 = omega (arith, next, counts) in
    let before = so.so ++ takes.so in
    record {
      lines = so.lines;
      so = before;
      left = line ++ 10 ∷ left;
      talk = same_lines so.talk takes.talk;
      part = d.part;
      breaks = BreaksOff.Fed line left refl takes.no_feed (later_line end because m (so.lines + 1) reads (length (received_in before)) line d.part number (omega (arith, few, received_both so.so takes.so)) d.ends);
      happened = joins s u v before d.part (joins s t u so.so takes.so so.happened takes.happened) d.happened;
    }

pub last_broke : {S : Type 0} (leads : S → List Event → S → Type 0) → Joins leads → (end : CallFault) (because : Cause → Type 0) (s t u v : S) (kept line : List ℕ) (n m reads : ℕ) → SoFar leads s t kept n reads → TakesLast leads t u kept line → m ≡ n + 1
    → DoesPart leads u v (LineEnds end because m reads line) → TalksUntil leads end because s v
last_broke leads joins end because s t u v kept line n m reads so takes next d =
    let counts = so.counts in
    let few = so.few in
    let number : m ≡ so.lines + 1 = omega (arith, next, counts) in
    let before = so.so ++ takes.so in
    record {
      lines = so.lines;
      so = before;
      left = line;
      talk = same_lines so.talk takes.talk;
      part = Event.Read [] ∷ d.part;
      breaks = BreaksOff.Last d.part takes.no_feed refl (later_line end because m (so.lines + 1) reads (length (received_in before)) line d.part number (omega (arith, few, received_both so.so takes.so)) d.ends);
      happened = subst (λ (es : List Event). leads s es v) (last_events so.so takes.so d.part (Event.Read []))
          (joins s u v (so.so ++ (takes.so ++ Event.Read [] ∷ [])) d.part (joins s t u so.so (takes.so ++ Event.Read [] ∷ []) so.happened takes.happened) d.happened);
    }

-- before anything was read
pub no_memory : {S : Type 0} (leads : S → List Event → S → Type 0) (end : CallFault) (because : Cause → Type 0) (s : S) → leads s [] s → end ≡ fault.Memory out_of_memory → TalksUntil leads end because s s
no_memory leads end because s stays short = record {
  lines = 0;
  so = [];
  left = [];
  talk = Conversation.Begins;
  part = [];
  breaks = BreaksOff.Reading (Unread.NoMemory short) refl;
  happened = stays;
}
