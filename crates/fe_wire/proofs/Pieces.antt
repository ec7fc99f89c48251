-- The invariant of the loop over a piece: what has been read, and the state after it.
use Rattle.std.proofs.Common.{◌≡◌, ℕ, ◌+◌, ◌-◌, ◌^◌, min, Bool, true, false, List, [], ◌∷◌, ◌++◌, length, take, drop, refl, sym, ap, subst, ◌∙◌, append_assoc, arith}
use Rattle.std.specs.Prelude.{Result, Ok, Err, OnErr}
use Rattle.std.specs.List.{flat_map, AllByRecursion}
use Rattle.std.proofs.lemmas.List.{append-nil, length-append, take-append-drop, nil_from_length}
use Rattle.fe_wire.specs.declared.client_message.ClientMessage.{ClientMessage}
use Rattle.fe_wire.specs.declared.decoder_state.DecoderState.{DecoderState}
use Rattle.fe_wire.specs.Stream.{IsDecoderState, Consumes, decoding, held_of, Decoding, HasReadFrom, IsUnfinished, IsBad, CompletesMessage}
use Rattle.fe_wire.specs.declared.version.Version.{Version}
use Rattle.fe_wire.specs.Spelling.{spelling, FitsIn}
use Rattle.fe_wire.proofs.StreamLaws.{begins_within, reads_past, standing, reads_on, reads_bad, reads_message}

-- two that keep the same are equal
same_decoding : (d : Decoding) (version : Version) (offset : ℕ) (held : List ℕ) (is_bad : Bool) → d.version ≡ version → d.offset ≡ offset → d.held ≡ held → d.is_bad ≡ is_bad → standing version offset held is_bad ≡ d
same_decoding d version offset held is_bad p q r s = λ i. record { version = (sym p) i; offset = (sym q) i; held = (sym r) i; is_bad = (sym s) i }

-- the three outcomes, wherever the frame was read: it is unfinished, it turns out bad, or it is whole
pub goes_unfinished : (old new : DecoderState) (more held : List ℕ) → old.is_bad ≡ false → new.version ≡ old.version → new.offset ≡ old.offset → held_of new ≡ held → new.is_bad ≡ false → held ≡ held_of old ++ more → IsUnfinished old.version held → Consumes old new more []
goes_unfinished old new more held good version offset held_is good_new parts unfinished = record {
  version = version;
  reads = λ from before earlier h.
      subst (λ (d : Decoding). HasReadFrom from d (before ++ more) (earlier ++ []))
      (same_decoding (decoding new) old.version old.offset held false version offset held_is good_new)
      (reads_on from (decoding old) before more held earlier good parts unfinished h);
}

pub goes_bad : (old new : DecoderState) (more held : List ℕ) → old.is_bad ≡ false → new.version ≡ old.version → new.offset ≡ old.offset → held_of new ≡ [] → new.is_bad ≡ true → held ≡ held_of old ++ more → IsBad old.version held → Consumes old new more []
goes_bad old new more held good version offset held_is bad_new parts bad = record {
  version = version;
  reads = λ from before earlier h.
      subst (λ (d : Decoding). HasReadFrom from d (before ++ more) (earlier ++ []))
      (same_decoding (decoding new) old.version old.offset [] true version offset held_is bad_new)
      (reads_bad from (decoding old) before more held earlier good parts bad h);
}

pub goes_whole : (old new : DecoderState) (more held : List ℕ) (m : ClientMessage) → old.is_bad ≡ false → new.version ≡ old.version → new.offset ≡ min (old.offset + length held) (2 ^ 64 - 1) → held_of new ≡ [] → new.is_bad ≡ false → held ≡ held_of old ++ more → FitsIn old.version m → held ≡ spelling m → Consumes old new more (m ∷ [])
goes_whole old new more held m good version offset held_is good_new parts fits spelled = record {
  version = version;
  reads = λ from before earlier h.
      subst (λ (d : Decoding). HasReadFrom from d (before ++ more) (earlier ++ m ∷ []))
      (same_decoding (decoding new) old.version new.offset [] false version refl held_is good_new)
      (reads_message from (decoding old) before more held earlier m new.offset good offset parts fits spelled h);
}

pub record IsReadTo (start state : DecoderState) (piece rest : List ℕ) (messages : List ClientMessage) : Type 0 where
  pub sound : IsDecoderState state
  pub done : List ℕ
  pub parts : piece ≡ done ++ rest
  pub reads : Consumes start state done messages

pub begins : (start : DecoderState) (piece : List ℕ) → IsDecoderState start → IsReadTo start start piece piece []
begins start piece sound = record {
  sound = sound;
  done = [];
  parts = refl;
  reads = record { version = refl; reads = λ from before earlier h. rw (append-nil before, append-nil earlier) h };
}

pub goes_on : (start state new : DecoderState) (piece rest next : List ℕ) (messages more items : List ClientMessage) (n : ℕ) → IsReadTo start state piece rest messages → IsDecoderState new → Consumes state new (take n rest) more → next ≡ drop n rest → items ≡ messages ++ more → IsReadTo start new piece next items
goes_on start state new piece rest next messages more items n h sound step left all = record {
  sound = sound;
  done = h.done ++ take n rest;
  parts = h.parts ∙ ap (λ (t : List ℕ). h.done ++ t) (sym (take-append-drop n rest)) ∙ sym (append_assoc h.done (take n rest) (drop n rest)) ∙ ap (λ (t : List ℕ). h.done ++ take n rest ++ t) (sym left);
  reads = record {
    version = step.version ∙ h.reads.version;
    reads = λ from before earlier old. rw (all, ← append_assoc before h.done (take n rest), ← append_assoc earlier messages more) (step.reads from (before ++ h.done) (earlier ++ messages) (h.reads.reads from before earlier old));
  };
}

-- what always holds also holds after an error
pub on_err : {A E P : Type 0} (r : Result A E) → P → OnErr r P
on_err (Ok x) p = tt
on_err (Err e) p = p

-- a message after what was read is one more than before the piece
pub completes : (start state new : DecoderState) (piece rest : List ℕ) (messages : List ClientMessage) (m : ClientMessage) (n : ℕ) → IsReadTo start state piece rest messages → Consumes state new (take n rest) (m ∷ []) → CompletesMessage (decoding start) piece
completes start state new piece rest messages m n h step =
    λ from before earlier all end old stream.
    let to = step.reads from (before ++ h.done) (earlier ++ messages) (h.reads.reads from before earlier old) in
    let version : new.version ≡ start.version = step.version ∙ h.reads.version in
    let known : List ClientMessage = (earlier ++ messages) ++ m ∷ [] in
    let cut : before ++ piece ≡ ((before ++ h.done) ++ take n rest) ++ drop n rest =
    ap (λ (t : List ℕ). before ++ t) (h.parts ∙ ap (λ (t : List ℕ). h.done ++ t) (sym (take-append-drop n rest)))
    ∙ sym (append_assoc before h.done (take n rest ++ drop n rest))
    ∙ sym (append_assoc (before ++ h.done) (take n rest) (drop n rest)) in
    let parts : before ++ piece ≡ flat_map spelling known ++ (to.rest ++ drop n rest) =
    cut ∙ ap (λ (t : List ℕ). t ++ drop n rest) to.is_stream.parts ∙ append_assoc (flat_map spelling known) to.rest (drop n rest) in
    let within = begins_within start.version (before ++ piece) all known end (to.rest ++ drop n rest) stream.parts stream.each stream.end parts (subst (λ (v : Version). AllByRecursion (FitsIn v) known) version to.is_stream.each) in
    omega (arith, within, length-append (earlier ++ messages) (m ∷ []), length-append earlier messages)

pub ends : (start state : DecoderState) (piece rest : List ℕ) (messages : List ClientMessage) → IsReadTo start state piece rest messages → length rest ≡ 0 → Consumes start state piece messages
ends start state piece rest messages h empty =
    let whole : piece ≡ h.done = h.parts ∙ ap (λ (t : List ℕ). h.done ++ t) (nil_from_length rest empty) ∙ append-nil h.done in
    record { version = h.reads.version; reads = λ from before earlier old. rw whole (h.reads.reads from before earlier old) }

pub ends_bad : (start state : DecoderState) (piece rest : List ℕ) (messages : List ClientMessage) → IsReadTo start state piece rest messages → state.is_bad ≡ true → Consumes start state piece messages
ends_bad start state piece rest messages h bad =
    record {
      version = h.reads.version;
      reads = λ from before earlier old. rw (h.parts, ← append_assoc before h.done rest) (reads_past from (decoding state) (before ++ h.done) rest (earlier ++ messages) bad (h.reads.reads from before earlier old));
    }
