-- A message more is handled.
use Rattle.std.proofs.Common.{◌≡◌, ℕ, ◌+◌, ◌<◌, ◌≤◌, inl, inr, Bool, true, false, List, [], ◌∷◌, ◌++◌, length, take, get_or, refl, sym, ap, subst, ◌∙◌, append_assoc, arith}
use Rattle.std.specs.Prelude.{◌&&◌, nat_lt, if◌then◌else◌, filter}
use Rattle.std.proofs.lemmas.Bool.{cases_lt, lt-ltb, le-ltb}
use Rattle.std.proofs.lemmas.List.{append-nil, length-append, length-take-le, take_all, take_more, take-append-le}
use Rattle.std.proofs.lemmas.List.Elements.{filter-append}
use Rattle.std.proofs.lemmas.List.Sums.{sum_by-append}
use Rattle.fe_wire.specs.declared.client_message.ClientMessage.{ClientMessage}
use Rattle.fe_shared.specs.Seats.{CallSeatState, TookNoMessage, calls_in, message_taken}
use Rattle.fe_hall.specs.Reads.{is_sent, sent_among, listed_with, most_listed, AreHandled, HandlesStream}
use Rattle.fe_hall.specs.declared.ends.ReadEnd.{ReadEnd}

-- the first elements of a list, with one more after it
first_with : (n : ℕ) (xs : List ClientMessage) (m : ClientMessage) → take n (xs ++ m ∷ []) ≡ (if nat_lt (length (take n xs)) n then take n xs ++ m ∷ [] else take n xs)
first_with n xs m =
    elim (cases_lt (length xs) n) [
      | inl lt ↦
          let all : take n xs ≡ xs = take_all n xs (omega arith) in
          let more : take n (xs ++ m ∷ []) ≡ xs ++ m ∷ [] = take_all n (xs ++ m ∷ []) (omega (arith, length-append xs (m ∷ []))) in
          more ∙ sym (ap (λ (ys : List ClientMessage). if nat_lt (length ys) n then ys ++ m ∷ [] else ys) all ∙ ap (λ (b : Bool). if b then xs ++ m ∷ [] else xs) (lt-ltb (length xs) n lt))
      | inr le ↦
          let long : length (take n xs) ≡ n = length-take-le n xs le in
          take-append-le n xs (m ∷ []) le ∙ sym (ap (λ (b : Bool). if b then take n xs ++ m ∷ [] else take n xs) (le-ltb (length (take n xs)) n (omega (arith, long))))
    ]

listed_more : (messages : List ClientMessage) (m : ClientMessage) → sent_among (messages ++ m ∷ []) ≡ listed_with (sent_among messages) m
listed_more messages m = ap (λ (ms : List ClientMessage). take most_listed ms) (filter-append is_sent messages (m ∷ [])) ∙ by (is_sent m)
  where
    by : (b : Bool) → take most_listed (filter is_sent messages ++ (if b then m ∷ [] else [])) ≡ (if b && nat_lt (length (sent_among messages)) most_listed then sent_among messages ++ m ∷ [] else sent_among messages)
    by true = first_with most_listed (filter is_sent messages) m
    by false = ap (λ (ms : List ClientMessage). take most_listed ms) (append-nil (filter is_sent messages))

pub handled_more : (before old new : CallSeatState) (listed list messages : List ClientMessage) (m : ClientMessage) (place : ℕ) → new ≡ message_taken old m place → list ≡ listed_with listed m
    → AreHandled before old listed messages → AreHandled before new list (messages ++ m ∷ [])
handled_more before old new listed list messages m place rises lists handled =
    record {
      conn = ap (λ (s : CallSeatState). s.conn) rises ∙ handled.conn;
      calls = omega (arith, ap (λ (s : CallSeatState). s.calls) rises, handled.calls, sum_by-append calls_in messages (m ∷ []));
      all = ap (λ (s : CallSeatState). s.messages) rises ∙ ap (λ (ms : List ClientMessage). ms ++ m ∷ []) handled.all ∙ append_assoc before.messages messages (m ∷ []);
      listed = lists ∙ ap (λ (ms : List ClientMessage). listed_with ms m) handled.listed ∙ sym (listed_more messages m);
    }

-- the message after the first i is handled
pub handled_next : (before old new : CallSeatState) (listed list earlier messages : List ClientMessage) (i : ℕ) (m : ClientMessage) → i < length messages → m ≡ get_or messages i m
    → (place : ℕ) × (new ≡ message_taken old m place) → list ≡ listed_with listed m → AreHandled before old listed (earlier ++ take i messages) → AreHandled before new list (earlier ++ take (i + 1) messages)
handled_next before old new listed list earlier messages i m lt at rises lists handled =
    let more : (earlier ++ take i messages) ++ m ∷ [] ≡ earlier ++ take (i + 1) messages =
    append_assoc earlier (take i messages) (m ∷ []) ∙ ap (λ (ms : List ClientMessage). earlier ++ ms) (ap (λ (x : ClientMessage). take i messages ++ x ∷ []) at ∙ sym (take_more messages i m lt)) in
    subst (λ (ms : List ClientMessage). AreHandled before new list ms) more (handled_more before old new listed list (earlier ++ take i messages) m rises.0 rises.1 lists handled)

-- no message was taken
pub handled_still : (before old new : CallSeatState) (listed list messages : List ClientMessage) → TookNoMessage old new → list ≡ listed → AreHandled before old listed messages → AreHandled before new list messages
handled_still before old new listed list messages none same handled = record {
  conn = none.conn ∙ handled.conn;
  calls = none.calls ∙ handled.calls;
  all = none.messages ∙ handled.all;
  listed = same ∙ handled.listed;
}

-- what a side handled stays so while it leaves
pub stream_left : (bytes : List ℕ) (before old new : CallSeatState) (list : List ClientMessage) (end : ReadEnd) → TookNoMessage old new → HandlesStream bytes before old list end → HandlesStream bytes before new list end
stream_left bytes before old new list end none h = record {
  messages = h.messages;
  rest = h.rest;
  is_stream = h.is_stream;
  count = h.count;
  handled = handled_still before old new list list (take h.count h.messages) none refl h.handled;
  ends = h.ends;
}

pub handled_whole : (before old : CallSeatState) (listed earlier messages : List ClientMessage) (i : ℕ) → length messages ≤ i → AreHandled before old listed (earlier ++ take i messages) → AreHandled before old listed (earlier ++ messages)
handled_whole before old listed earlier messages i le handled =
    subst (λ (ms : List ClientMessage). AreHandled before old listed (earlier ++ ms)) (take_all i messages le) handled

pub handled_none : (before old : CallSeatState) (listed earlier messages : List ClientMessage) → AreHandled before old listed earlier → AreHandled before old listed (earlier ++ take 0 messages)
handled_none before old listed earlier messages handled = subst (λ (ms : List ClientMessage). AreHandled before old listed ms) (sym (append-nil earlier)) handled
