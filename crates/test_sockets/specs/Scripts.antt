-- A log: the events of a conversation as bytes, in order.
use Rattle.std.specs.Prelude.{◌≡◌, ℕ, List, [], ◌∷◌, ◌++◌, length}
use Rattle.std.proofs.Common.{sym, ap, ◌∙◌, append-nil, append_assoc}
use Rattle.std.specs.List.{flat_map}
use Rattle.std.proofs.lemmas.List.Concat.{flat_map-append}
use Rattle.fe_client.specs.Ends.{Cause}
use Rattle.fe_client.specs.Events.{Event}

abbrev pub code : Event → List ℕ
code (Event.Read piece) = 128 ∷ length piece ∷ piece
code (Event.Sent byte) = 129 ∷ byte ∷ []
code (Event.Received byte) = 130 ∷ byte ∷ []
code (Event.Written byte) = byte ∷ []
code Event.Flushed = 131 ∷ []

-- the later log is the earlier one followed by these events
abbrev pub Follows : List ℕ → List Event → List ℕ → Type 0
Follows before events after = after ≡ before ++ flat_map code events

-- of the causes to break off, only that the connection is over is noted
abbrev pub Notes : Type 0 → Cause → Type 0
Notes over Cause.Over = over
Notes over other = Unit {0}

-- ---- laws

pub follows_none : (before : List ℕ) → Follows before [] before
follows_none before = sym (append-nil before)

pub follows_both : (s t u : List ℕ) (a b : List Event) → Follows s a t → Follows t b u → Follows s (a ++ b) u
follows_both s t u a b p q =
    q ∙ ap (λ (xs : List ℕ). xs ++ flat_map code b) p ∙ append_assoc s (flat_map code a) (flat_map code b)
    ∙ ap (λ (xs : List ℕ). s ++ xs) (sym (flat_map-append code a b))
