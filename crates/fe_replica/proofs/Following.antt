-- Legal entries one after another, and the states that they lead to.
use Rattle.std.proofs.Common.{◌≡◌, ◌+◌, List, [], ◌∷◌, ◌++◌, length, refl, arith}
use Rattle.fe_state.specs.State.{ServerState, IsLegal, after, after_all}
use Rattle.fe_state.specs.History.{AreLegal}
use Rattle.fe_state.specs.declared.entry.Entry.{Entry}

-- entries, and one more
pub after_then : (s : ServerState) (es : List Entry) (e : Entry) → after_all s (es ++ e ∷ []) ≡ after (after_all s es) e
after_then s [] e = refl
after_then s (x ∷ es) e = after_then (after s x) es e

pub legal_then : (s : ServerState) (es : List Entry) (e : Entry) → AreLegal s es → IsLegal (after_all s es) e → AreLegal s (es ++ e ∷ [])
legal_then s [] e legal next = (next, tt)
legal_then s (x ∷ es) e legal next = (legal.0, legal_then (after s x) es e legal.1 next)

-- each entry takes one place
pub place_after : (s : ServerState) (es : List Entry) → (after_all s es).place ≡ s.place + length es
place_after s [] = omega arith
place_after s (e ∷ es) = omega (arith, place_after (after s e) es)

-- among legal entries each is legal after those before it
pub legal_at : (s : ServerState) (front rest : List Entry) (e : Entry) → AreLegal s (front ++ e ∷ rest) → IsLegal (after_all s front) e
legal_at s [] rest e legal = legal.0
legal_at s (x ∷ front) rest e legal = legal_at (after s x) front rest e legal.1
