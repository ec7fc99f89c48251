-- The set of the connections whose read sides wait.
use Rattle.std.proofs.Common.{◌≡◌, ◌+◌, ◌<◌, ◌∙◌, ℕ, Bool, true, false, List, length, take, get_or, sym, ap, subst, refl}
use Rattle.std.specs.Prelude.{◌==◌, ◌||◌, IsTrue}
use Rattle.std.specs.List.{list_any}
use Rattle.std.proofs.lemmas.Bool.{eqb-true}
use Rattle.std.proofs.lemmas.List.Folds.{list_any_more}
use Rattle.fe_front.specs.Posting.{may_have}
use Rattle.fe_front.specs.declared.connection_set.ConnectionSet.{ConnectionSet}
use Rattle.fe_shared.specs.declared.watchers.Watcher.{Watcher}

-- one more of them was added
pub added_more : (before after : ConnectionSet) (ws : List Watcher) (k q : ℕ) (d : Watcher) → k < length ws → q ≡ (get_or ws k d).conn
    → ((conn : ℕ) → list_any (λ x. x.conn == conn) (take k ws) ≡ true → IsTrue (may_have before conn))
    → IsTrue (may_have after q)
    → ((other : ℕ) → IsTrue (may_have before other) → IsTrue (may_have after other))
    → (conn : ℕ) → list_any (λ x. x.conn == conn) (take (k + 1) ws) ≡ true → IsTrue (may_have after conn)
added_more before after ws k q d below is_at added this_one still conn some =
    by (list_any (λ (x : Watcher). x.conn == conn) (take k ws)) (q == conn) refl refl
    (ap (λ (c : ℕ). list_any (λ (y : Watcher). y.conn == conn) (take k ws) || (c == conn)) is_at ∙ sym (list_any_more (λ (x : Watcher). x.conn == conn) ws k d below) ∙ some)
  where
    by : (a b : Bool) → list_any (λ (x : Watcher). x.conn == conn) (take k ws) ≡ a → (q == conn) ≡ b → (a || b) ≡ true → IsTrue (may_have after conn)
    by true b earlier this either = still conn (added conn earlier)
    by false true earlier this either = subst (λ (c : ℕ). IsTrue (may_have after c)) (eqb-true q conn this) this_one
    by false false earlier this never = cc
