-- What the events of a conversation, one run of the client, do to its input, its connection and its output.
-- The bytes of a stream are known if a contract can name them; those of a terminal or a socket are not
-- (`None`).
use Rattle.std.specs.Prelude.{◌≡◌, ◌⊎◌, ◌≤◌, ℕ, List, [], Option, None, Some, ⊤, ◌∷◌, ◌++◌, IfSome}
use Rattle.fe_client.specs.declared.lost.Lost.{Lost}
use Rattle.fe_client.specs.declared.lost.Lost.TheVariants as lost
use Rattle.std.proofs.Common.{sym, subst, inl, inr, ◌∙◌}
use Rattle.std.specs.Io.KnownBytes.{Appends, Consumes, IsAtEnd}
use Rattle.std.proofs.KnownBytes.{Appends-trans, Appends-nil, Consumes-trans, Consumes-nil}
use Rattle.std.proofs.lemmas.List.Concat.{flat_map-append}
use Rattle.fe_client.specs.Events.{Event, read_bytes, sent_byte, received_byte, written_byte, read_in}
use Rattle.fe_client.specs.Events.{sent_in, received_in, written_in}

-- If the stream is over because it has ended, all that it had is read.
abbrev pub EndsIfEnded : Lost → Option (List ℕ) → Type 0
EndsIfEnded (lost.Failed failure) left = Unit {0}
EndsIfEnded (lost.Ended ended) left = IsAtEnd left

-- A call of a stream failed, or the stream has ended, and all that it had is read.
abbrev pub IsOver : Option Lost → Option (List ℕ) → Type 0
IsOver None left = ⊥
IsOver (Some why) left = EndsIfEnded why left

-- what the input has left, and what was sent, received and written, each if it is known
pub record Known : Type 0 where
  pub left : Option (List ℕ)
  pub sent : Option (List ℕ)
  pub received : Option (List ℕ)
  pub written : Option (List ℕ)

abbrev pub known : Option (List ℕ) → Option (List ℕ) → Option (List ℕ) → Option (List ℕ) → Known
known left sent received written = record { left = left; sent = sent; received = received; written = written }

-- one of the events read no byte, so the input is at its end
abbrev pub HasEnded : List Event → Type 0
HasEnded [] = ⊥
HasEnded (Event.Read [] ∷ events) = Unit {0}
HasEnded (Event.Read (byte ∷ bytes) ∷ events) = HasEnded events
HasEnded (Event.Sent byte ∷ events) = HasEnded events
HasEnded (Event.Received byte ∷ events) = HasEnded events
HasEnded (Event.Written byte ∷ events) = HasEnded events
HasEnded (Event.Flushed ∷ events) = HasEnded events

-- These events lead from what was known before to what is known after. Those of each stream count in their
-- order; the order of events of different streams makes no difference.
pub record Flows (before : Known) (events : List Event) (after : Known) : Type 0 where
  pub read : Consumes before.left after.left (read_in events)
  pub ended : HasEnded events → IfSome before.left (λ bytes. IsAtEnd after.left)
  pub sent : Appends before.sent after.sent (sent_in events)
  pub received : Appends before.received after.received (received_in events)
  pub written : Appends before.written after.written (written_in events)

-- whether all that was written is flushed after these events, where `before` says whether it was before them
abbrev pub handed_after : Type 0 → List Event → Type 0
handed_after before [] = before
handed_after before (Event.Flushed ∷ events) = handed_after ⊤ events
handed_after before (Event.Written byte ∷ events) = handed_after ⊥ events
handed_after before (Event.Read bytes ∷ events) = handed_after before events
handed_after before (Event.Sent byte ∷ events) = handed_after before events
handed_after before (Event.Received byte ∷ events) = handed_after before events

-- the events lead from an output that was flushed or not to one that is flushed, if the last of them that
-- writes or flushes is a flush
abbrev pub HandsOn : Type 0 → List Event → Type 0 → Type 0
HandsOn before events after = handed_after before events → after

-- there were this many reads at least, or more
abbrev pub ReadLeast : (ℕ → Type 0) → ℕ → Type 0
ReadLeast was_read count = (n : ℕ) × (count ≤ n) × was_read n

-- each of these reads is among the later ones
abbrev pub KeepsReads : (ℕ → Type 0) → (ℕ → Type 0) → Type 0
KeepsReads before after = (count : ℕ) → ReadLeast before count → ReadLeast after count

-- what is known of the streams, and whether the output is flushed
abbrev pub FlowsTo : Type 0 → Type 0 → Known → List Event → Known → Type 0
FlowsTo was_flushed is_flushed before events after =
    Flows before events after × HandsOn was_flushed events is_flushed

-- ---- laws

pub flows_none : (s : Known) → Flows s [] s
flows_none s = record {
  read = Consumes-nil s.left;
  ended = λ never. absurd never;
  sent = Appends-nil s.sent;
  received = Appends-nil s.received;
  written = Appends-nil s.written;
}

ended_in : (a b : List Event) → HasEnded (a ++ b) → HasEnded a ⊎ HasEnded b
ended_in [] b h = inr h
ended_in (Event.Read [] ∷ a) b h = inl tt
ended_in (Event.Read (byte ∷ bytes) ∷ a) b h = ended_in a b h
ended_in (Event.Sent byte ∷ a) b h = ended_in a b h
ended_in (Event.Received byte ∷ a) b h = ended_in a b h
ended_in (Event.Written byte ∷ a) b h = ended_in a b h
ended_in (Event.Flushed ∷ a) b h = ended_in a b h

abbrev IsNil : List ℕ → Type 0
IsNil [] = Unit {0}
IsNil (x ∷ xs) = ⊥

-- nothing is read after the end
nothing_behind : (xs ys zs : List ℕ) → xs ≡ ys ++ zs → xs ≡ [] → zs ≡ []
nothing_behind xs [] zs e none = sym e ∙ none
nothing_behind xs (y ∷ ys) zs e none = absurd (subst IsNil (sym none ∙ e) tt)

stays_ended : (a b c : Option (List ℕ)) (bytes more : List ℕ) → Consumes a b bytes → Consumes b c more
    → IfSome a (λ _. IsAtEnd b) → IfSome a (λ _. IsAtEnd c)
stays_ended None b c bytes more p q e = tt
stays_ended (Some x) None c bytes more p q e = absurd p
stays_ended (Some x) (Some y) None bytes more p q e = absurd q
stays_ended (Some x) (Some y) (Some z) bytes more p q e = nothing_behind y more z q e

ends_then : (a b c : Option (List ℕ)) (bytes : List ℕ) → Consumes a b bytes → IfSome b (λ _. IsAtEnd c)
    → IfSome a (λ _. IsAtEnd c)
ends_then None b c bytes p e = tt
ends_then (Some x) None c bytes p e = absurd p
ends_then (Some x) (Some y) c bytes p e = e

pub flows_both : (s t u : Known) (a b : List Event) → Flows s a t → Flows t b u → Flows s (a ++ b) u
flows_both s t u a b p q = record {
  read = subst (λ (x : List ℕ). Consumes s.left u.left x) (sym (flat_map-append read_bytes a b))
      (Consumes-trans s.left t.left u.left (read_in a) (read_in b) p.read q.read);
  ended = λ h. either (ended_in a b h);
  sent = subst (λ (x : List ℕ). Appends s.sent u.sent x) (sym (flat_map-append sent_byte a b))
      (Appends-trans s.sent t.sent u.sent (sent_in a) (sent_in b) p.sent q.sent);
  received = subst (λ (x : List ℕ). Appends s.received u.received x) (sym (flat_map-append received_byte a b))
      (Appends-trans s.received t.received u.received (received_in a) (received_in b) p.received q.received);
  written = subst (λ (x : List ℕ). Appends s.written u.written x) (sym (flat_map-append written_byte a b))
      (Appends-trans s.written t.written u.written (written_in a) (written_in b) p.written q.written);
}
  where
    either : HasEnded a ⊎ HasEnded b → IfSome s.left (λ _. IsAtEnd u.left)
    either (inl h) = stays_ended s.left t.left u.left (read_in a) (read_in b) p.read q.read (p.ended h)
    either (inr h) = ends_then s.left t.left u.left (read_in a) p.read (q.ended h)

handed_weaker : (before other : Type 0) (events : List Event) → (before → other) → handed_after before events
    → handed_after other events
handed_weaker before other [] weaker h = weaker h
handed_weaker before other (Event.Flushed ∷ events) weaker h = h
handed_weaker before other (Event.Written byte ∷ events) weaker h = h
handed_weaker before other (Event.Read bytes ∷ events) weaker h = handed_weaker before other events weaker h
handed_weaker before other (Event.Sent byte ∷ events) weaker h = handed_weaker before other events weaker h
handed_weaker before other (Event.Received byte ∷ events) weaker h =
    handed_weaker before other events weaker h

handed_split : (before : Type 0) (a b : List Event) → handed_after before (a ++ b)
    → handed_after (handed_after before a) b
handed_split before [] b h = h
handed_split before (Event.Flushed ∷ a) b h = handed_split ⊤ a b h
handed_split before (Event.Written byte ∷ a) b h = handed_split ⊥ a b h
handed_split before (Event.Read bytes ∷ a) b h = handed_split before a b h
handed_split before (Event.Sent byte ∷ a) b h = handed_split before a b h
handed_split before (Event.Received byte ∷ a) b h = handed_split before a b h

pub hands_both : (s t u : Type 0) (a b : List Event) → HandsOn s a t → HandsOn t b u → HandsOn s (a ++ b) u
hands_both s t u a b p q = λ h. q (handed_weaker (handed_after s a) t b p (handed_split s a b h))
