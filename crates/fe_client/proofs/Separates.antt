-- What calls of three objects do to what is known of them.
use Rattle.std.proofs.Common.{◌≡◌, ℕ, zero, suc, ◌+◌, ◌<◌, ◌≤◌, List, [], ◌∷◌, ◌++◌, Option, Some, None, Result, Ok, Err, IfOk, length, take, refl, sym, ap, ◌∙◌, subst, append-nil, arith}
use Rattle.std.specs.Prelude.{IfSome, IfErr, OnErr}
use Rattle.std.proofs.lemmas.List.{length-take}
use Rattle.std.proofs.KnownBytes.{Appends-nil, Consumes-nil}
use Rattle.std.specs.Io.KnownBytes.{Appends, Consumes, IsAtEnd, Keeps, WriteAppends}
use Rattle.fe_text.specs.Line.{ReadsSome}
use Rattle.fe_client.specs.Events.{Event, sent, received, written, read_of, read_bytes, sent_byte, received_byte, written_byte}
use Rattle.fe_text.specs.declared.fault.StreamFault.{StreamFault}
use Rattle.fe_client.specs.declared.fault.CallFault.{CallFault}
use Rattle.fe_client.specs.Ends.{causes, TalksUntil}
use Rattle.fe_client.specs.Streams.{Known, known, Flows, FlowsTo, HandsOn, HasEnded, ReadLeast, KeepsReads}
use Rattle.fe_client.proofs.Leads.{none_of, same_of}

pub and_names : {A E : Type 0} (r : Result A E) (P Q : A → Type 0) {X Y Z R : Type 0} → ((a : A) → Q a) → X → Y → Z → R → IfOk r P → IfOk r (λ a. P a × Q a × X × Y × Z × R)
and_names (Ok a) P Q q x y z reads p = (p, q a, x, y, z, reads)
and_names (Err e) P Q q x y z reads p = tt

-- one read more
pub one_more : (before after : ℕ → Type 0) → ((count : ℕ) → before count → after (count + 1)) → (count : ℕ) → ReadLeast before count → ReadLeast after (count + 1)
one_more before after counts count reads = let least = reads.1 in (reads.0 + 1, omega (arith, least), counts reads.0 reads.2)

pub one_kept : (before after : ℕ → Type 0) → ((count : ℕ) → before count → after (count + 1)) → KeepsReads before after
one_kept before after counts = λ count reads. let least = reads.1 in (reads.0 + 1, omega (arith, least), counts reads.0 reads.2)

-- ---- what is flushed

pub none_sent : (P : Type 0) (xs : List ℕ) → HandsOn P (sent xs) P
none_sent P [] = λ was. was
none_sent P (x ∷ xs) = none_sent P xs

pub none_received : (P : Type 0) (xs : List ℕ) → HandsOn P (received xs) P
none_received P [] = λ was. was
none_received P (x ∷ xs) = none_received P xs

pub none_read : (P : Type 0) (given : Option ℕ) (piece : List ℕ) → HandsOn P (read_of given piece) P
none_read P None piece = λ was. was
none_read P (Some count) piece = λ was. was

never_handed : (Q : Type 0) (xs : List ℕ) → HandsOn ⊥ (written xs) Q
never_handed Q [] = λ never. absurd never
never_handed Q (x ∷ xs) = never_handed Q xs

pub hands_text : (P Q : Type 0) (text : List ℕ) → (length text ≡ 0 → P → Q) → HandsOn P (written text) Q
hands_text P Q [] idle = idle refl
hands_text P Q (x ∷ xs) idle = never_handed Q xs

pub hands_front : (P Q : Type 0) (count : ℕ) (text : List ℕ) → (count ≡ 0 → P → Q) → (length text ≡ 0 → P → Q) → HandsOn P (written (take count text)) Q
hands_front P Q zero text none idle = none refl
hands_front P Q (suc count) [] none idle = idle refl
hands_front P Q (suc count) (x ∷ xs) none idle = never_handed Q (take count xs)

-- what stays grows by nothing, and loses nothing
nothing_more : (a b : Option (List ℕ)) → Keeps a b → Appends a b []
nothing_more None b p = tt
nothing_more (Some x) None p = absurd p
nothing_more (Some x) (Some y) p = p ∙ sym (append-nil x)

nothing_less : (a b : Option (List ℕ)) → Keeps a b → Consumes a b []
nothing_less None b p = tt
nothing_less (Some x) None p = absurd p
nothing_less (Some x) (Some y) p = sym p

if_known : (a b : Option (List ℕ)) → IsAtEnd b → IfSome a (λ _. IsAtEnd b)
if_known None b e = tt
if_known (Some x) b e = e

-- ---- reads

ended_read : (old new : Option (List ℕ)) (piece given : List ℕ) (count : ℕ) → given ≡ take count piece → count ≤ length piece → 0 < length piece → (count ≡ 0 → 0 < length piece → IsAtEnd new) → HasEnded (Event.Read given ∷ []) → IfSome old (λ _. IsAtEnd new)
ended_read old new piece [] count is fits room end h =
    let size : 0 ≡ length (take count piece) = ap (length {A = ℕ}) is in
    if_known old new (end (omega (arith, size, fits, room, length-take count piece)) room)
ended_read old new piece (x ∷ xs) count is fits room end h = absurd h

pub read_flows : (l m s v w : Option (List ℕ)) (piece : List ℕ) (given : Option ℕ) → 0 < length piece → ReadsSome l m piece given → Flows (known l s v w) (read_of given piece) (known m s v w)
read_flows l m s v w piece None room kept = record {
  read = nothing_less l m kept;
  ended = λ never. absurd never;
  sent = Appends-nil s;
  received = Appends-nil v;
  written = Appends-nil w;
}
read_flows l m s v w piece (Some count) room r = record {
  read = subst (λ (t : List ℕ). Consumes l m t) (sym (append-nil (take count piece))) r.1;
  ended = ended_read l m piece (take count piece) count refl r.0 room r.2;
  sent = Appends-nil s;
  received = Appends-nil v;
  written = Appends-nil w;
}

pub read_once_flows : {E : Type 0} (r : Result (Option ℕ) E) (l m s v w : Option (List ℕ)) (piece : List ℕ) → 0 < length piece → IfOk r (ReadsSome l m piece) → IfOk r (λ given. Flows (known l s v w) (read_of given piece) (known m s v w))
read_once_flows (Ok given) l m s v w piece room h = read_flows l m s v w piece given room h
read_once_flows (Err e) l m s v w piece room h = tt

-- ---- bytes of one kind

never_sent : (xs : List ℕ) → HasEnded (sent xs) → ⊥
never_sent [] h = h
never_sent (x ∷ xs) h = never_sent xs h

never_received : (xs : List ℕ) → HasEnded (received xs) → ⊥
never_received [] h = h
never_received (x ∷ xs) h = never_received xs h

never_written : (xs : List ℕ) → HasEnded (written xs) → ⊥
never_written [] h = h
never_written (x ∷ xs) h = never_written xs h

pub sent_flows : (l s t v u w : Option (List ℕ)) (bytes : List ℕ) → Appends s t bytes → Keeps v u → Flows (known l s v w) (sent bytes) (known l t u w)
sent_flows l s t v u w bytes p kept = record {
  read = subst (λ (x : List ℕ). Consumes l l x) (sym (none_of read_bytes Event.Sent (λ b. refl) bytes)) (Consumes-nil l);
  ended = λ h. absurd (never_sent bytes h);
  sent = subst (λ (x : List ℕ). Appends s t x) (sym (same_of sent_byte Event.Sent (λ b. refl) bytes)) p;
  received = subst (λ (x : List ℕ). Appends v u x) (sym (none_of received_byte Event.Sent (λ b. refl) bytes)) (nothing_more v u kept);
  written = subst (λ (x : List ℕ). Appends w w x) (sym (none_of written_byte Event.Sent (λ b. refl) bytes)) (Appends-nil w);
}

pub received_flows : (l s t v u w : Option (List ℕ)) (bytes : List ℕ) → Appends v u bytes → Keeps s t → Flows (known l s v w) (received bytes) (known l t u w)
received_flows l s t v u w bytes p kept = record {
  read = subst (λ (x : List ℕ). Consumes l l x) (sym (none_of read_bytes Event.Received (λ b. refl) bytes)) (Consumes-nil l);
  ended = λ h. absurd (never_received bytes h);
  sent = subst (λ (x : List ℕ). Appends s t x) (sym (none_of sent_byte Event.Received (λ b. refl) bytes)) (nothing_more s t kept);
  received = subst (λ (x : List ℕ). Appends v u x) (sym (same_of received_byte Event.Received (λ b. refl) bytes)) p;
  written = subst (λ (x : List ℕ). Appends w w x) (sym (none_of written_byte Event.Received (λ b. refl) bytes)) (Appends-nil w);
}

pub written_flows : (l s v w x : Option (List ℕ)) (bytes : List ℕ) → Appends w x bytes → Flows (known l s v w) (written bytes) (known l s v x)
written_flows l s v w x bytes p = record {
  read = subst (λ (t : List ℕ). Consumes l l t) (sym (none_of read_bytes Event.Written (λ b. refl) bytes)) (Consumes-nil l);
  ended = λ h. absurd (never_written bytes h);
  sent = subst (λ (t : List ℕ). Appends s s t) (sym (none_of sent_byte Event.Written (λ b. refl) bytes)) (Appends-nil s);
  received = subst (λ (t : List ℕ). Appends v v t) (sym (none_of received_byte Event.Written (λ b. refl) bytes)) (Appends-nil v);
  written = subst (λ (t : List ℕ). Appends w x t) (sym (same_of written_byte Event.Written (λ b. refl) bytes)) p;
}

pub send_flows : {E : Type 0} (r : Result ℕ E) (l s t v u w : Option (List ℕ)) (bytes : List ℕ) → WriteAppends s t r bytes → Keeps v u → IfOk r (λ count. Flows (known l s v w) (sent (take count bytes)) (known l t u w))
send_flows (Ok count) l s t v u w bytes p kept = sent_flows l s t v u w (take count bytes) p kept
send_flows (Err e) l s t v u w bytes p kept = tt

pub receive_flows : {E : Type 0} (r : Result ℕ E) (l s t v u w : Option (List ℕ)) (bytes : List ℕ) → WriteAppends v u r bytes → Keeps s t → IfOk r (λ count. Flows (known l s v w) (received (take count bytes)) (known l t u w))
receive_flows (Ok count) l s t v u w bytes p kept = received_flows l s t v u w (take count bytes) p kept
receive_flows (Err e) l s t v u w bytes p kept = tt

pub on_err : {A E : Type 0} (r : Result A E) {P : Type 0} → P → OnErr r P
on_err (Ok x) p = tt
on_err (Err e) p = p

-- ---- a conversation that breaks off

-- What streams say of a conversation that broke off is said of the reader, the connection and the writer that they have then, and these are
-- the ones that are given back.
pub until_known : {R C W S : Type 0} (remaining : R → Option (List ℕ)) (sent received : C → Option (List ℕ)) (contents : W → Option (List ℕ))
    (over : C → Type 0) (input : R → StreamFault → Type 0) (output : W → StreamFault → Type 0) (was_read : R → ℕ → Type 0)
    (flushed : W → Type 0) (was : Type 0) (r : R) (k : C) (w : W) (leads : S → List Event → S → Type 0) (s t : S) (before : Known) (reader : R) (connection : C) (writer : W)
    (result : Result Unit CallFault)
    → IfErr result (λ end. TalksUntil leads end (causes (over k) (input r) (output w) (was_read r)) s t)
    → ((events : List Event) → leads s events t → Flows before events (known (remaining r) (sent k) (received k) (contents w)) × HandsOn was events (flushed w) × (reader ≡ r) × (connection ≡ k) × (writer ≡ w))
    → IfErr result (λ end. TalksUntil (FlowsTo was (flushed writer)) end (causes (over connection) (input reader) (output writer) (was_read reader)) before
    (known (remaining reader) (sent connection) (received connection) (contents writer)))
until_known remaining sent received contents over input output was_read flushed was r k w leads s t before reader connection writer (Ok done) h f = tt
until_known {R} {C} {W} {S} remaining sent received contents over input output was_read flushed was r k w leads s t before reader connection writer (Err end) h f =
    let e = f (h.so ++ h.part) h.happened in
    let seen : TalksUntil (FlowsTo was (flushed w)) end (causes (over k) (input r) (output w) (was_read r)) before (known (remaining r) (sent k) (received k) (contents w)) =
    record { lines = h.lines; so = h.so; left = h.left; talk = h.talk; part = h.part; breaks = h.breaks; happened = (e.0, e.1) } in
    subst (λ (x : R). TalksUntil (FlowsTo was (flushed writer)) end (causes (over connection) (input x) (output writer) (was_read x)) before (known (remaining x) (sent connection) (received connection) (contents writer))) (sym e.2)
    (subst (λ (y : C). TalksUntil (FlowsTo was (flushed writer)) end (causes (over y) (input r) (output writer) (was_read r)) before (known (remaining r) (sent y) (received y) (contents writer))) (sym e.3)
    (subst (λ (z : W). TalksUntil (FlowsTo was (flushed z)) end (causes (over k) (input r) (output z) (was_read r)) before (known (remaining r) (sent k) (received k) (contents z))) (sym e.4) seen))
