-- Entries that are taken one after the other, and where they are not taken.
use Rattle.std.proofs.Common.{◌≡◌, ℕ, ◌+◌, List, [], ◌∷◌, ◌++◌, length, sym, ap, subst, ◌∙◌, arith}
use Rattle.std.proofs.lemmas.List.{length-append}
use Rattle.fe_state.specs.State.{ServerState, IsLegal, after}
use Rattle.fe_state.specs.History.{AreLegal}
use Rattle.fe_state.specs.UndoLog.{UndoLog, rewound, IsLogOf}
use Rattle.fe_state.specs.declared.entry.Entry.{Entry}
use Rattle.fe_replica.specs.Replaying.{Continues, IsMismatch, IsIllegalAt, AreTaken}
use Rattle.fe_replica.proofs.Following.{after_then, legal_then, legal_at, place_after}

-- one entry more
pub one_taken : (s mid new : ServerState) (old_log log : UndoLog) (front : List Entry) (e : Entry) → AreTaken s front mid old_log → IsLegal mid e → new ≡ after mid e
    → (IsLogOf old_log mid → IsLogOf log new) → rewound log new ≡ rewound old_log mid → length log.undos ≡ length old_log.undos + 1 → AreTaken s (front ++ e ∷ []) new log
one_taken s mid new old_log log front e h legal is is_log back longer = record {
  legal = legal_then s front e h.legal (subst (λ (t : ServerState). IsLegal t e) h.state_is legal);
  state_is = is ∙ ap (λ (t : ServerState). after t e) h.state_is ∙ sym (after_then s front e);
  is_log = is_log h.is_log;
  beginning = back ∙ h.beginning;
  each = omega (arith, longer, h.each, length-append front (e ∷ []));
}

-- an entry that is not legal is the first one
pub illegal_at : (s mid : ServerState) (log : UndoLog) (entries front rest : List Entry) (e : Entry) (place : ℕ) → AreTaken s front mid log → entries ≡ front ++ e ∷ rest
    → (IsLegal mid e → ⊥) → place ≡ mid.place → IsIllegalAt s entries place
illegal_at s mid log entries front rest e place h parts illegal is = record {
  front = front;
  rest = rest;
  entry = e;
  parts = parts;
  legal = h.legal;
  illegal = λ legal. illegal (subst (λ (t : ServerState). IsLegal t e) (sym h.state_is) legal);
  place_is = is ∙ ap (λ (t : ServerState). t.place) h.state_is ∙ place_after s front;
}

-- entries that continue the history have no first place at which they do not
pub no_mismatch : (s : ServerState) (first : ℕ) (entries : List Entry) (place : ℕ) → Continues s first entries → IsMismatch s first entries place → ⊥
no_mismatch s first entries place h (IsMismatch.Elsewhere other is) = other h.begins
no_mismatch s first entries place h (IsMismatch.Empty none is) = absurd (omega (arith, h.some, ap length none))
no_mismatch s first entries place h (IsMismatch.Illegal front rest e begins parts legal illegal is) =
    illegal (legal_at s front rest e (subst (AreLegal s) parts h.legal))
