-- The lines that ran, and what they print, one after the other.
use Rattle.std.proofs.Common.{◌≡◌, ◌≢◌, ℕ, ◌+◌, ◌<◌, List, [], ◌∷◌, ◌++◌, Option, Some, None, IfSome, inl, inr, length, take, drop, refl, sym, ap, subst, ◌∙◌, arith, append_assoc, append-nil, string_bytes}
use Rattle.std.proofs.lemmas.Bool.{lt-ltb}
use Rattle.std.proofs.lemmas.List.{length-append, take-append-drop}
use Rattle.std.proofs.KnownBytes.{Appends-trans}
use Rattle.std.specs.Io.KnownBytes.{Keeps, Appends, Consumes, IsAtEnd}
use Rattle.fe_disk.specs.Memory.{MemoryState}
use Rattle.fe_text.specs.Line.{parsed, lines_of, HasNoFeed}
use Rattle.fe_text.specs.declared.fault.StreamFault.{StreamFault}
use Rattle.fe_text.specs.declared.line.Line.{Line}
use Rattle.fe_schedules.specs.Schedule.{of_stream, of_machine, Stage, RunsBytes, RunsLines, Prints, EndsWithin, RunsAll, RunsUntil}
use Rattle.fe_schedules.specs.declared.fault.MachineFault.{MachineFault}
use Rattle.fe_schedules.specs.declared.fault.MachineFault.TheVariants as machine
use Rattle.fe_schedules.specs.Runs.{IsRun, IsAt, RanBytes, last_disk, SaysLine, IsStray, IsFaultOf, IsTooLong, SoFar, Whole, Ended}
use Rattle.fe_schedules.specs.declared.fault.ScheduleFault.{ScheduleFault}
use Rattle.fe_schedules.specs.declared.fault.ScheduleFault.TheVariants as fault
use Rattle.fe_schedules.specs.declared.run.Run.{Run}
use Rattle.fe_schedules.proofs.Readiness.{leaves_at}
use Rattle.fe_text.proofs.LineLemmas.{fed, unfed, begins, both_no_feed}

-- ---- lines

-- lines that run after others
runs_both : (first others : List (List ℕ)) (s u t : Stage) (a b : List ℕ) → RunsLines s first u a → RunsLines u others t b → RunsLines s (first ++ others) t (a ++ b)
runs_both [] others s u t a b p q =
    subst (λ (w : Stage). RunsLines w others t (a ++ b)) p.0 (subst (λ (text : List ℕ). RunsLines u others t (text ++ b)) (sym p.1) q)
runs_both (line ∷ first) others s u t a b p q =
    (p.0, p.1, p.2 ++ b, p.3, runs_both first others p.0 u t p.2 b p.4 q, ap (λ (text : List ℕ). text ++ b) p.5 ∙ append_assoc p.1 p.2 b)

runs_one : (s t : Stage) (line more : List ℕ) → RunsBytes s line t more → RunsLines s (line ∷ []) t more
runs_one s t line more p = (t, more, [], p, (refl, refl), sym (append-nil more))

-- a line more, whose text is kept
with_line : (lines : List (List ℕ)) (line : List ℕ) (start s t : Stage) (text kept more all : List ℕ) → RunsLines start lines s (text ++ kept) → RunsBytes s line t more → all ≡ kept ++ more → RunsLines start (lines ++ line ∷ []) t (text ++ all)
with_line lines line start s t text kept more all p q e =
    let same : (text ++ kept) ++ more ≡ text ++ all = append_assoc text kept more ∙ ap (λ (x : List ℕ). text ++ x) (sym e) in
    subst (λ (x : List ℕ). RunsLines start (lines ++ line ∷ []) t x) same (runs_both lines (line ∷ []) start s t (text ++ kept) more p (runs_one s t line more q))

-- ---- the next line comes whole

-- what is read and the line that ends, in two groupings
grouped : (read bytes others : List ℕ) → (read ++ (bytes ++ 10 ∷ [])) ++ others ≡ read ++ (bytes ++ 10 ∷ others)
grouped read bytes others = append_assoc read (bytes ++ 10 ∷ []) others ∙ ap (λ (x : List ℕ). read ++ x) (append_assoc bytes (10 ∷ []) others)

-- the lines with the one that ends
line_ends : (read bytes begun others : List ℕ) (lines : List (List ℕ)) → ((more : List ℕ) → lines_of (read ++ more) ≡ lines ++ lines_of (begun ++ more)) → HasNoFeed begun → HasNoFeed bytes
    → lines_of ((read ++ (bytes ++ 10 ∷ [])) ++ others) ≡ lines ++ (begun ++ bytes) ∷ lines_of others
line_ends read bytes begun others lines splits none more_none =
    ap lines_of (grouped read bytes others) ∙ splits (bytes ++ 10 ∷ others)
    ∙ ap (λ (x : List ℕ). lines ++ lines_of x) (sym (append_assoc begun bytes (10 ∷ others)))
    ∙ ap (λ (ls : List (List ℕ)). lines ++ ls) (fed (begun ++ bytes) others (both_no_feed begun bytes none more_none))

pub took_line : (read : List ℕ) (before now : Option (List ℕ)) (r s : Run) (bytes : List ℕ) → SoFar read before now r → HasNoFeed bytes → RanBytes r (r.begun.items ++ bytes) s
    → SoFar (read ++ (bytes ++ 10 ∷ [])) before now s
took_line read before now r s bytes so none ran =
    let line : List ℕ = r.begun.items ++ bytes in
    let step = ran.runs so.here so.is in
    record {
      run = ran.run;
      lines = so.lines ++ line ∷ [];
      splits = λ others.
          line_ends read bytes r.begun.items others so.lines so.splits so.no_feed none ∙ sym (append_assoc so.lines (line ∷ []) (lines_of others))
          ∙ ap (λ (b : List ℕ). (so.lines ++ line ∷ []) ++ lines_of (b ++ others)) (sym ran.begun);
      no_feed = subst HasNoFeed (sym ran.begun) tt;
      counts = ran.lines ∙ ap (λ (n : ℕ). n + 1) so.counts ∙ sym (length-append so.lines (line ∷ []));
      start = so.start;
      starts = so.starts;
      here = step.0;
      is = step.1;
      text = so.text;
      runs = with_line so.lines line so.start so.here step.0 so.text (string_bytes r.text) ran.more (string_bytes s.text) so.runs step.2 ran.text;
      written = so.written;
    }

-- ---- faults

-- a line that says something, whose fault is memory or the disk
pub said_fault : (number : ℕ) (bytes : List ℕ) (l : Line) (f : MachineFault) → SaysLine bytes (Some l) → IsFaultOf number bytes (of_machine f)
said_fault number bytes l (machine.Memory error) said = (said.0, l, said.1)
said_fault number bytes l machine.Device said = (said.0, l, said.1)

-- the text that is kept, with nothing after it
alone : (text kept : List ℕ) → text ++ kept ≡ (text ++ kept) ++ []
alone text kept = sym (append-nil (text ++ kept))

abbrev prints_as : (lines : List (List ℕ)) (a b : List ℕ) → a ≡ b → Prints lines a → Prints lines b
prints_as lines a b e p = record { start = p.start; starts = p.starts; end = p.end; runs = subst (λ (x : List ℕ). RunsLines p.start lines p.end x) e p.runs }

at_line : (writer : StreamFault → Type 0) (end : ScheduleFault) (number : ℕ) (line : List ℕ) (lines left : List (List ℕ)) → number ≡ length lines → IsFaultOf (number + 1) line end → EndsWithin writer end lines (line ∷ left) []
at_line writer (fault.Line found) number line lines left counts is = inl (refl, (is.0 ∙ ap (λ (n : ℕ). n + 1) counts, (is.1, is.2)))
at_line writer fault.Input number line lines left counts is = inl (refl, omega (arith, counts, is))
at_line writer (fault.Memory error) number line lines left counts is = inl (refl, is)
at_line writer fault.Device number line lines left counts is = inl (refl, is)

-- a line outside the syntax is a fault of it
pub stray_fault : (number : ℕ) (bytes : List ℕ) (end : ScheduleFault) → IsStray number bytes end → IsFaultOf number bytes end
stray_fault number bytes end is = subst (λ (e : ScheduleFault). IsFaultOf number bytes e) (sym is.0) (refl, is.1, is.2)

-- a line at fault, which comes whole
pub line_fails : (writer : StreamFault → Type 0) (end : ScheduleFault) (read : List ℕ) (before now : Option (List ℕ)) (r : Run) (bytes kept : List ℕ) → SoFar read before now r → HasNoFeed bytes → IsFaultOf (r.lines + 1) (r.begun.items ++ bytes) end → kept ≡ string_bytes r.text
    → (others : List ℕ) → Ended writer end ((read ++ (bytes ++ 10 ∷ [])) ++ others) before now kept
line_fails writer end read before now r bytes kept so none is same others = record {
  lines = so.lines;
  left = (r.begun.items ++ bytes) ∷ lines_of others;
  more = [];
  all = line_ends read bytes r.begun.items others so.lines so.splits so.no_feed none;
  ends = at_line writer end r.lines (r.begun.items ++ bytes) so.lines (lines_of others) so.counts is;
  text = so.text;
  prints = prints_as so.lines (so.text ++ string_bytes r.text) ((so.text ++ kept) ++ []) (ap (λ (x : List ℕ). so.text ++ x) (sym same) ∙ alone so.text kept) (record { start = so.start; starts = so.starts; end = so.here; runs = so.runs });
  written = so.written;
}

-- a line that is longer than any of the syntax
pub long_stray : (bytes : List ℕ) → 99 < length bytes → (bytes ≢ []) × (parsed bytes ≡ None)
unfolding parsed
long_stray bytes long = (λ e. let z = ap (length {A = ℕ}) e in absurd (omega (arith, long, z)), rw (lt-ltb 99 (length bytes) long) refl)

pub too_long : (end : ScheduleFault) (number : ℕ) (bytes : List ℕ) → IsTooLong number bytes end → IsStray number bytes end
too_long end number bytes is = (is.0, (long_stray bytes is.1).0, (long_stray bytes is.1).1)

-- the lines at a line that is too long
record Long (writer : StreamFault → Type 0) (end : ScheduleFault) (lines : List (List ℕ)) (input : List ℕ) : Type 0 where
  left : List (List ℕ)
  is : lines_of input ≡ left
  ends : EndsWithin writer end lines left []

long_ends : (writer : StreamFault → Type 0) (end : ScheduleFault) (number : ℕ) (line others : List ℕ) (lines : List (List ℕ)) → number ≡ length lines → HasNoFeed line → IsTooLong (number + 1) line end → Long writer end lines (line ++ others)
long_ends writer end number [] others lines counts none is = let long = is.1 in absurd (omega (arith, long))
long_ends writer end number (x ∷ xs) others lines counts none is =
    let b = begins x xs others none in
    let long : 99 < length ((x ∷ xs) ++ b.0) = let few = is.1 in omega (arith, few, length-append (x ∷ xs) b.0) in
    let line : List ℕ = (x ∷ xs) ++ b.0 in
    record { left = line ∷ b.1; is = b.2; ends = at_line writer end number line lines b.1 counts (stray_fault (number + 1) line end (is.0, (long_stray line long).0, (long_stray line long).1)) }

pub front_fails : (writer : StreamFault → Type 0) (end : ScheduleFault) (read : List ℕ) (before now : Option (List ℕ)) (r : Run) (bytes kept : List ℕ) → SoFar read before now r → HasNoFeed bytes → IsTooLong (r.lines + 1) (r.begun.items ++ bytes) end → kept ≡ string_bytes r.text
    → (others : List ℕ) → Ended writer end ((read ++ bytes) ++ others) before now kept
front_fails writer end read before now r bytes kept so none is same others =
    let long = long_ends writer end r.lines (r.begun.items ++ bytes) others so.lines so.counts (both_no_feed r.begun.items bytes so.no_feed none) is in
    record {
      lines = so.lines;
      left = long.left;
      more = [];
      all = ap lines_of (append_assoc read bytes others) ∙ so.splits (bytes ++ others) ∙ ap (λ (x : List ℕ). so.lines ++ lines_of x) (sym (append_assoc r.begun.items bytes others)) ∙ ap (λ (ls : List (List ℕ)). so.lines ++ ls) long.is;
      ends = long.ends;
      text = so.text;
      prints = prints_as so.lines (so.text ++ string_bytes r.text) ((so.text ++ kept) ++ []) (ap (λ (x : List ℕ). so.text ++ x) (sym same) ∙ alone so.text kept) (record { start = so.start; starts = so.starts; end = so.here; runs = so.runs });
      written = so.written;
    }

-- ---- a front of a line is kept

pub took_front : (read : List ℕ) (before now : Option (List ℕ)) (r s : Run) (bytes : List ℕ) → SoFar read before now r → HasNoFeed bytes → s ≡ record r { begun = s.begun } → IsRun s → s.begun.items ≡ r.begun.items ++ bytes → SoFar (read ++ bytes) before now s
took_front read before now r s bytes so none same run begun =
    let text : string_bytes r.text ≡ string_bytes s.text = ap (λ (x : Run). string_bytes x.text) (sym same) in
    record {
      run = run;
      lines = so.lines;
      splits = λ others. ap lines_of (append_assoc read bytes others) ∙ so.splits (bytes ++ others) ∙ ap (λ (x : List ℕ). so.lines ++ lines_of x) (sym (append_assoc r.begun.items bytes others) ∙ ap (λ (b : List ℕ). b ++ others) (sym begun));
      no_feed = subst HasNoFeed (sym begun) (both_no_feed r.begun.items bytes so.no_feed none);
      counts = ap (λ (x : Run). x.lines) same ∙ so.counts;
      start = so.start;
      starts = so.starts;
      here = so.here;
      is = subst (λ (x : Run). IsAt x so.here) (sym same) (record { stored = so.is.stored; run_state = so.is.run_state; holding = so.is.holding });
      text = so.text;
      runs = subst (λ (x : List ℕ). RunsLines so.start so.lines so.here (so.text ++ x)) text so.runs;
      written = so.written;
    }

-- ---- writing

-- all that was kept is written
pub wrote : (read : List ℕ) (before now after : Option (List ℕ)) (r s : Run) → SoFar read before now r → Appends now after (string_bytes r.text) → s ≡ record r { text = s.text } → string_bytes s.text ≡ [] → SoFar read before after s
wrote read before now after r s so appends same empty = record {
  run = subst IsRun (sym same) (record { machine = so.run.machine; none = so.run.none; between = so.run.between; few = so.run.few; room = so.run.room; count = so.run.count });
  lines = so.lines;
  splits = λ others. so.splits others ∙ ap (λ (x : Run). so.lines ++ lines_of (x.begun.items ++ others)) (sym same);
  no_feed = subst (λ (x : Run). HasNoFeed x.begun.items) (sym same) so.no_feed;
  counts = ap (λ (x : Run). x.lines) same ∙ so.counts;
  start = so.start;
  starts = so.starts;
  here = so.here;
  is = subst (λ (x : Run). IsAt x so.here) (sym same) (record { stored = so.is.stored; run_state = so.is.run_state; holding = so.is.holding });
  text = so.text ++ string_bytes r.text;
  runs = subst (λ (x : List ℕ). RunsLines so.start so.lines so.here x) (sym (append-nil (so.text ++ string_bytes r.text)) ∙ ap (λ (x : List ℕ). (so.text ++ string_bytes r.text) ++ x) (sym empty)) so.runs;
  written = Appends-trans before now after so.text (string_bytes r.text) so.written appends;
}

-- a front of a kept text, and what is left of it
parted : (text kept more : List ℕ) (count : ℕ) → (text ++ kept) ++ more ≡ ((text ++ take count kept) ++ []) ++ (drop count kept ++ more)
parted text kept more count =
    ap (λ (x : List ℕ). (text ++ x) ++ more) (sym (take-append-drop count kept)) ∙ ap (λ (x : List ℕ). x ++ more) (sym (append_assoc text (take count kept) (drop count kept)))
    ∙ append_assoc (text ++ take count kept) (drop count kept) more ∙ ap (λ (x : List ℕ). x ++ (drop count kept ++ more)) (sym (append-nil (text ++ take count kept)))

-- after some lines a part of what was kept is written, and next a stream fails
pub writing_fails : (writer : StreamFault → Type 0) (f : StreamFault) → writer f → (input : List ℕ) (lines left : List (List ℕ)) (before now after : Option (List ℕ)) (text kept more : List ℕ) (count : ℕ) → lines_of input ≡ lines ++ left → Prints lines ((text ++ kept) ++ more) → Appends before now text
    → Appends now after (take count kept) → Ended writer (of_stream f) input before after []
writing_fails writer f fails input lines left before now after text kept more count all prints written appends = record {
  lines = lines;
  left = left;
  more = drop count kept ++ more;
  all = all;
  ends = inr (f, fails, refl);
  text = text ++ take count kept;
  prints = prints_as lines ((text ++ kept) ++ more) (((text ++ take count kept) ++ []) ++ (drop count kept ++ more)) (parted text kept more count) prints;
  written = Appends-trans before now after text (take count kept) written appends;
}

pub write_fails : (writer : StreamFault → Type 0) (f : StreamFault) → writer f → (read : List ℕ) (before now after : Option (List ℕ)) (r : Run) (count : ℕ) → SoFar read before now r → Appends now after (take count (string_bytes r.text)) → (others : List ℕ) → Ended writer (of_stream f) (read ++ others) before after []
write_fails writer f fails read before now after r count so appends others =
    writing_fails writer f fails (read ++ others) so.lines (lines_of (r.begun.items ++ others)) before now after so.text (string_bytes r.text) [] count (so.splits others)
    (prints_as so.lines (so.text ++ string_bytes r.text) ((so.text ++ string_bytes r.text) ++ []) (alone so.text (string_bytes r.text)) (record { start = so.start; starts = so.starts; end = so.here; runs = so.runs })) so.written appends

-- a writer that failed has failed later on
within_later : (earlier writer : StreamFault → Type 0) (end : ScheduleFault) (lines left : List (List ℕ)) (more : List ℕ) → ((f : StreamFault) → earlier f → writer f) → EndsWithin earlier end lines left more → EndsWithin writer end lines left more
within_later earlier writer end lines left more stays (inl at) = inl at
within_later earlier writer end lines left more stays (inr of) = inr (of.0, stays of.0 of.1, of.2)

-- what was kept at an end is written, and the writer failed in no other way
pub wrote_end : (earlier writer : StreamFault → Type 0) (end : ScheduleFault) (input : List ℕ) (before now after : Option (List ℕ)) (kept : List ℕ) → ((f : StreamFault) → earlier f → writer f) → Ended earlier end input before now kept
    → Appends now after kept → Ended writer end input before after []
wrote_end earlier writer end input before now after kept stays e appends = record {
  lines = e.lines;
  left = e.left;
  more = e.more;
  all = e.all;
  ends = within_later earlier writer end e.lines e.left e.more stays e.ends;
  text = e.text ++ kept;
  prints = prints_as e.lines ((e.text ++ kept) ++ e.more) (((e.text ++ kept) ++ []) ++ e.more) (ap (λ (x : List ℕ). x ++ e.more) (alone e.text kept)) e.prints;
  written = Appends-trans before now after e.text kept e.written appends;
}

pub write_end_fails : (earlier writer : StreamFault → Type 0) (end : ScheduleFault) (next : StreamFault) → writer next → (input : List ℕ) (before now after : Option (List ℕ)) (kept : List ℕ) (count : ℕ) → Ended earlier end input before now kept
    → Appends now after (take count kept) → Ended writer (of_stream next) input before after []
write_end_fails earlier writer end next fails input before now after kept count e appends =
    writing_fails writer next fails input e.lines e.left before now after e.text kept e.more count e.all e.prints e.written appends

pub wrote_whole : (input : List ℕ) (before now after : Option (List ℕ)) (kept : List ℕ) (disk : MemoryState) → Whole input before now kept disk → Appends now after kept → Whole input before after [] disk
wrote_whole input before now after kept disk w appends =
    record { lines = w.lines; all = w.all; text = w.text ++ kept; prints = prints_as w.lines (w.text ++ kept) ((w.text ++ kept) ++ []) (alone w.text kept) w.prints; written = Appends-trans before now after w.text kept w.written appends; leaves = w.leaves }

pub write_whole_fails : (writer : StreamFault → Type 0) (f : StreamFault) → writer f → (input : List ℕ) (before now after : Option (List ℕ)) (kept : List ℕ) (disk : MemoryState) (count : ℕ) → Whole input before now kept disk → Appends now after (take count kept) → Ended writer (of_stream f) input before after []
write_whole_fails writer f fails input before now after kept disk count w appends =
    writing_fails writer f fails input w.lines [] before now after w.text kept [] count (w.all ∙ sym (append-nil w.lines)) (prints_as w.lines (w.text ++ kept) ((w.text ++ kept) ++ []) (alone w.text kept) w.prints) w.written appends

-- ---- the end of the input

-- no line has begun
pub ends_between : (read : List ℕ) (before now : Option (List ℕ)) (r : Run) → SoFar read before now r → r.begun.items ≡ [] → Whole read before now (string_bytes r.text) (last_disk r.machine)
ends_between read before now r so none = record {
  lines = so.lines;
  all = ap lines_of (sym (append-nil read)) ∙ so.splits [] ∙ ap (λ (b : List ℕ). so.lines ++ lines_of (b ++ [])) none ∙ append-nil so.lines;
  text = so.text;
  prints = record { start = so.start; starts = so.starts; end = so.here; runs = so.runs };
  written = so.written;
  leaves = leaves_at r so.here so.run so.is;
}

-- the lines with the last one
last_line : (read begun : List ℕ) (lines : List (List ℕ)) → ((more : List ℕ) → lines_of (read ++ more) ≡ lines ++ lines_of (begun ++ more)) → HasNoFeed begun → begun ≢ [] → lines_of read ≡ lines ++ (begun ++ []) ∷ []
last_line read [] lines splits none some = absurd (some refl)
last_line read (x ∷ xs) lines splits none some =
    ap lines_of (sym (append-nil read)) ∙ splits [] ∙ ap (λ (b : List ℕ). lines ++ lines_of b) (append-nil (x ∷ xs)) ∙ ap (λ (ls : List (List ℕ)). lines ++ ls) (unfed x xs none) ∙ ap (λ (b : List ℕ). lines ++ b ∷ []) (sym (append-nil (x ∷ xs)))

pub ends_within : (read : List ℕ) (before now : Option (List ℕ)) (r s : Run) → SoFar read before now r → r.begun.items ≢ [] → RanBytes r (r.begun.items ++ []) s → Whole read before now (string_bytes s.text) (last_disk s.machine)
ends_within read before now r s so some ran =
    let line : List ℕ = r.begun.items ++ [] in
    let step = ran.runs so.here so.is in
    record {
      lines = so.lines ++ line ∷ [];
      all = last_line read r.begun.items so.lines so.splits so.no_feed some;
      text = so.text;
      prints = record { start = so.start; starts = so.starts; end = step.0; runs = with_line so.lines line so.start so.here step.0 so.text (string_bytes r.text) ran.more (string_bytes s.text) so.runs step.2 ran.text };
      written = so.written;
      leaves = leaves_at s step.0 ran.run step.1;
    }

pub last_fails : (writer : StreamFault → Type 0) (end : ScheduleFault) (read : List ℕ) (before now : Option (List ℕ)) (r : Run) (kept : List ℕ) → SoFar read before now r → r.begun.items ≢ [] → IsFaultOf (r.lines + 1) (r.begun.items ++ []) end → kept ≡ string_bytes r.text → Ended writer end read before now kept
last_fails writer end read before now r kept so some is same = record {
  lines = so.lines;
  left = (r.begun.items ++ []) ∷ [];
  more = [];
  all = last_line read r.begun.items so.lines so.splits so.no_feed some;
  ends = at_line writer end r.lines (r.begun.items ++ []) so.lines [] so.counts is;
  text = so.text;
  prints = prints_as so.lines (so.text ++ string_bytes r.text) ((so.text ++ kept) ++ []) (ap (λ (x : List ℕ). so.text ++ x) (sym same) ∙ alone so.text kept) (record { start = so.start; starts = so.starts; end = so.here; runs = so.runs });
  written = so.written;
}

-- ---- what is known of the input

-- known bytes that these were read from
pub known : (old new : Option (List ℕ)) (read : List ℕ) → Consumes old new read → (others : List ℕ) × IfSome old (λ bytes. bytes ≡ read ++ others)
known None new read c = ([], tt)
known (Some bytes) None read c = absurd c
known (Some bytes) (Some others) read c = (others, c)

pub known_all : (old new : Option (List ℕ)) (read : List ℕ) → Consumes old new read → IsAtEnd new → IfSome old (λ bytes. bytes ≡ read)
known_all None new read c end = tt
known_all (Some bytes) None read c end = absurd c
known_all (Some bytes) (Some others) read c end = c ∙ ap (λ (x : List ℕ). read ++ x) end ∙ append-nil read

lines_known : (o : Option (List ℕ)) (input : List ℕ) (ls : List (List ℕ)) → IfSome o (λ bytes. bytes ≡ input) → lines_of input ≡ ls → IfSome o (λ bytes. lines_of bytes ≡ ls)
lines_known None input ls k e = tt
lines_known (Some bytes) input ls k e = ap lines_of k ∙ e

pub until : (reader writer : StreamFault → Type 0) (unread : Type 0) (end : ScheduleFault) (o : Option (List ℕ)) (input : List ℕ) (before after : Option (List ℕ)) → IfSome o (λ bytes. bytes ≡ input) → Ended writer end input before after []
    → RunsUntil reader writer unread end o before after
until reader writer unread end o input before after k e = record {
  lines = e.lines;
  left = e.left;
  all = lines_known o input (e.lines ++ e.left) k e.all;
  text = e.text;
  more = e.more;
  prints = prints_as e.lines ((e.text ++ []) ++ e.more) (e.text ++ e.more) (ap (λ (x : List ℕ). x ++ e.more) (append-nil e.text)) e.prints;
  written = e.written;
  ends = inl e.ends;
}

-- the reader failed after lines that ran, whose text is all written
pub unread_left : (reader writer : StreamFault → Type 0) (unread : Type 0) (f : StreamFault) → reader f → (o : Option (List ℕ)) (read others : List ℕ) (before now : Option (List ℕ)) (r : Run) → IfSome o (λ bytes. bytes ≡ read ++ others)
    → SoFar read before now r → string_bytes r.text ≡ [] → RunsUntil reader writer unread (of_stream f) o before now
unread_left reader writer unread f fails o read others before now r k so none = record {
  lines = so.lines;
  left = lines_of (r.begun.items ++ others);
  all = lines_known o (read ++ others) (so.lines ++ lines_of (r.begun.items ++ others)) k (so.splits others);
  text = so.text;
  more = [];
  prints = prints_as so.lines (so.text ++ string_bytes r.text) (so.text ++ []) (ap (λ (x : List ℕ). so.text ++ x) none) (record { start = so.start; starts = so.starts; end = so.here; runs = so.runs });
  written = so.written;
  ends = inr (refl, inl (f, fails, refl));
}

pub all_ran : (o : Option (List ℕ)) (input : List ℕ) (before after : Option (List ℕ)) (disk : MemoryState) → IfSome o (λ bytes. bytes ≡ input) → Whole input before after [] disk → RunsAll o before after disk
all_ran o input before after disk k w =
    record { lines = w.lines; all = lines_known o input w.lines k w.all; text = w.text; prints = prints_as w.lines (w.text ++ []) w.text (append-nil w.text) w.prints; written = w.written; leaves = w.leaves }

-- what was read, and next more
pub read_more : (a b c : Option (List ℕ)) (read more : List ℕ) → Consumes a b read → Consumes b c more → Consumes a c (read ++ more)
read_more None b c read more p q = tt
read_more (Some x) None c read more p q = absurd p
read_more (Some x) (Some y) None read more p q = absurd q
read_more (Some x) (Some y) (Some z) read more p q = p ∙ ap (λ (t : List ℕ). read ++ t) q ∙ sym (append_assoc read more z)

pub read_same : (a b c : Option (List ℕ)) (read : List ℕ) → Consumes a b read → Keeps b c → Consumes a c read
read_same None b c read p q = tt
read_same (Some x) None c read p q = absurd p
read_same (Some x) (Some y) None read p q = absurd q
read_same (Some x) (Some y) (Some z) read p q = p ∙ ap (λ (t : List ℕ). read ++ t) (sym q)

-- a flush writes nothing
pub keeps_none : (a b : Option (List ℕ)) → Keeps a b → Appends a b []
keeps_none None b p = tt
keeps_none (Some x) None p = absurd p
keeps_none (Some x) (Some y) p = p ∙ sym (append-nil x)

-- ---- pieces

-- what is read, in two groupings
pub regrouped : (read taken line behind others piece rest : List ℕ) → piece ≡ taken ++ rest → rest ≡ line ++ 10 ∷ behind → ((read ++ taken) ++ (line ++ 10 ∷ [])) ++ (behind ++ others) ≡ (read ++ piece) ++ others
regrouped read taken line behind others piece rest p r =
    grouped (read ++ taken) line (behind ++ others) ∙ ap (λ (x : List ℕ). (read ++ taken) ++ x) (sym (append_assoc line (10 ∷ behind) others))
    ∙ ap (λ (x : List ℕ). (read ++ taken) ++ (x ++ others)) (sym r) ∙ append_assoc read taken (rest ++ others) ∙ ap (λ (x : List ℕ). read ++ x) (sym (append_assoc taken rest others))
    ∙ ap (λ (x : List ℕ). read ++ (x ++ others)) (sym p) ∙ sym (append_assoc read piece others)

-- the piece with one line more taken
pub taken_more : (taken line behind piece rest : List ℕ) → piece ≡ taken ++ rest → rest ≡ line ++ 10 ∷ behind → piece ≡ (taken ++ (line ++ 10 ∷ [])) ++ behind
taken_more taken line behind piece rest p r = p ∙ ap (λ (x : List ℕ). taken ++ x) r ∙ sym (grouped taken line behind)

-- What a piece did so far, from wherever the run was.
pub record Taken (before_all : Option (List ℕ)) (first : Run) (now : Option (List ℕ)) (r : Run) (piece rest : List ℕ) : Type 0 where
  pub taken : List ℕ
  pub parts : piece ≡ taken ++ rest
  pub so : (read : List ℕ) (before : Option (List ℕ)) → SoFar read before before_all first → SoFar (read ++ taken) before now r

pub none_taken : (now : Option (List ℕ)) (r : Run) (piece : List ℕ) → Taken now r now r piece piece
none_taken now r piece = record { taken = []; parts = refl; so = λ read before so. subst (λ (x : List ℕ). SoFar x before now r) (sym (append-nil read)) so }
