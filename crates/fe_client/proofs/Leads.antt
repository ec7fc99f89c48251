-- What events lead to, one after the other.
use Rattle.std.proofs.Common.{◌≡◌, ℕ, ◌+◌, ◌-◌, ◌≤◌, List, [], ◌∷◌, ◌++◌, map, length, take, drop, refl, sym, ap, ◌∙◌, subst, append-nil, arith}
use Rattle.std.specs.List.{flat_map}
use Rattle.std.proofs.lemmas.List.{map-append, take-take, take-append-drop, drop-take}
use Rattle.std.proofs.lemmas.List.Concat.{flat_map-append}
use Rattle.fe_wire.specs.Spelling.{spelling, reply_spelling}
use Rattle.fe_wire.specs.declared.client_message.ClientMessage.{ClientMessage}
use Rattle.fe_wire.specs.declared.server_message.ServerMessage.{ServerMessage}
use Rattle.fe_client.specs.Events.{Event, sent, received, written, exchange, reply_text, received_byte, received_in}

-- what happens first comes first
abbrev pub Joins : {S : Type 0} → (S → List Event → S → Type 0) → Type 0
Joins {S} leads = (s t u : S) (a b : List Event) → leads s a t → leads t b u → leads s (a ++ b) u

pub then_nothing : {S : Type 0} (leads : S → List Event → S → Type 0) → Joins leads → (s t u : S) (a : List Event) → leads s a t → leads t [] u → leads s a u
then_nothing leads joins s t u a p q = subst (λ (es : List Event). leads s es u) (append-nil a) (joins s t u a [] p q)

-- bytes of one kind, followed by others
pub then_bytes : {S : Type 0} (leads : S → List Event → S → Type 0) → Joins leads → (f : ℕ → Event) (s t u : S) (xs ys : List ℕ) → leads s (map f xs) t → leads t (map f ys) u → leads s (map f (xs ++ ys)) u
then_bytes leads joins f s t u xs ys p q = subst (λ (es : List Event). leads s es u) (sym (map-append f xs ys)) (joins s t u (map f xs) (map f ys) p q)

-- a front of a text, and more of it
pub part_more : (text rest : List ℕ) (done n : ℕ) → rest ≡ take (length text - done) (drop done text) → n ≤ length text - done → take (done + n) text ≡ take done text ++ take n rest
part_more text rest done n is within =
    let front : take done (take (done + n) text) ≡ take done text = take-take done (done + n) text (omega arith) in
    let part : take n rest ≡ take n (drop done text) = ap (take n) is ∙ take-take n (length text - done) (drop done text) within in
    sym (take-append-drop done (take (done + n) text)) ∙ (λ k. front k ++ drop-take done n text k) ∙ ap (λ (t : List ℕ). take done text ++ t) (sym part)

pub then_part : {S : Type 0} (leads : S → List Event → S → Type 0) → Joins leads → (f : ℕ → Event) (s t u : S) (text rest : List ℕ) (done n : ℕ) → rest ≡ take (length text - done) (drop done text) → n ≤ length text - done
    → leads s (map f (take done text)) t → leads t (map f (take n rest)) u → leads s (map f (take (done + n) text)) u
then_part leads joins f s t u text rest done n is within p q =
    subst (λ (xs : List ℕ). leads s (map f xs) u) (sym (part_more text rest done n is within)) (then_bytes leads joins f s t u (take done text) (take n rest) p q)

-- ---- the bytes of one kind

pub none_of : (f : Event → List ℕ) (g : ℕ → Event) → ((b : ℕ) → f (g b) ≡ []) → (xs : List ℕ) → flat_map f (map g xs) ≡ []
none_of f g h [] = refl
none_of f g h (x ∷ xs) = rw (h x) (none_of f g h xs)

pub same_of : (f : Event → List ℕ) (g : ℕ → Event) → ((b : ℕ) → f (g b) ≡ b ∷ []) → (xs : List ℕ) → flat_map f (map g xs) ≡ xs
same_of f g h [] = refl
same_of f g h (x ∷ xs) = rw (h x) (ap (λ (t : List ℕ). x ∷ t) (same_of f g h xs))

-- what is received in an exchange
pub exchange_received : (m : ClientMessage) (reply : ServerMessage) → received_in (exchange m reply) ≡ reply_spelling reply
exchange_received m reply =
    let seen : List Event = written (reply_text reply) ++ Event.Flushed ∷ [] in
    let answer : List Event = received (reply_spelling reply) ++ seen in
    let none : received_in seen ≡ [] = flat_map-append received_byte (written (reply_text reply)) (Event.Flushed ∷ []) ∙ ap (λ (t : List ℕ). t ++ []) (none_of received_byte Event.Written (λ b. refl) (reply_text reply)) in
    let all : received_in answer ≡ reply_spelling reply =
    flat_map-append received_byte (received (reply_spelling reply)) seen
    ∙ ap (λ (t : List ℕ). t ++ received_in seen) (same_of received_byte Event.Received (λ b. refl) (reply_spelling reply))
    ∙ ap (λ (t : List ℕ). reply_spelling reply ++ t) none ∙ append-nil (reply_spelling reply) in
    flat_map-append received_byte (sent (spelling m)) answer ∙ ap (λ (t : List ℕ). t ++ received_in answer) (none_of received_byte Event.Sent (λ b. refl) (spelling m)) ∙ all
