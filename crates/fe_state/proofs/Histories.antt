-- Entries after entries; histories that are joined, and cut between groups.
use Rattle.std.proofs.Common.{◌≡◌, refl, List, [], ◌∷◌, ◌++◌}
use Rattle.fe_state.specs.State.{ServerState, after, after_all}
use Rattle.fe_state.specs.History.{AreLegal, IsHistory, after_groups}
use Rattle.fe_state.specs.declared.entry.Entry.{Entry}

pub legal-append : (s : ServerState) (xs ys : List Entry) → AreLegal s xs → AreLegal (after_all s xs) ys → AreLegal s (xs ++ ys)
legal-append s [] ys h k = k
legal-append s (x ∷ xs) ys h k = (h.0, legal-append (after s x) xs ys h.1 k)

pub after-append : (s : ServerState) (xs ys : List Entry) → after_all s (xs ++ ys) ≡ after_all (after_all s xs) ys
after-append s [] ys = refl
after-append s (x ∷ xs) ys = after-append (after s x) xs ys

pub history-append : (s : ServerState) (front rest : List (List Entry)) → IsHistory s front → IsHistory (after_groups s front) rest → IsHistory s (front ++ rest)
history-append s [] rest h k = k
history-append s (g ∷ gs) rest h k = (h.0, h.1, history-append (after_all s g) gs rest h.2 k)

pub history-cut : (s : ServerState) (front rest : List (List Entry)) → IsHistory s (front ++ rest) → IsHistory s front × IsHistory (after_groups s front) rest
history-cut s [] rest h = (tt, h)
history-cut s (g ∷ gs) rest h = let c = history-cut (after_all s g) gs rest h.2 in ((h.0, h.1, c.0), c.1)
