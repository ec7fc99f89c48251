-- The sessions that a loop over them has seen, and what waits of each.
use Rattle.std.proofs.Common.{◌≡◌, ◌≢◌, ◌⊎◌, ℕ, ◌+◌, inl, inr, Option, Some, None, IsSome, is_some, IsSomeAnd, slice_get, true≢false, refl, sym, ap, subst, ◌∙◌}
use Rattle.std.specs.Ordering.{nat_cmp}
use Rattle.std.specs.FinMap.{FinMap, get, entries, get-empty}
use Rattle.fe_words.specs.declared.op.Op.{Op}
use Rattle.fe_waits.specs.Waiting.{WaitingAccess}
use Rattle.fe_state.specs.Sessions.{IsUsable}
use Rattle.fe_state.proofs.Maps.{get_beside, same_or_other}
use Rattle.fe_table.proofs.TableCopyLemmas.{made, made-next}
use Rattle.fe_service.specs.Service.{ServiceState, IsService}
use Rattle.fe_report.specs.Report.{Spot, by_word, by_session}
use Rattle.fe_report.proofs.WaitingAccesses.{waits-by_word, counts-by_session}

module _ {X : Type 0} (m : FinMap nat_cmp X) where
  pub none_seen : {A : Type 0} (s : ℕ) → IsSome (get (made m 0) s) → A
  none_seen s h = absurd (true≢false (sym h ∙ ap is_some (get-empty nat_cmp s)))

  -- the next turn sees one more
  pub one_more_seen : (k : ℕ) (e : ℕ × X) → slice_get (entries m) k ≡ Some e → (s : ℕ) → IsSome (get (made m (k + 1)) s) → (s ≡ e.0) ⊎ IsSome (get (made m k) s)
  one_more_seen k e here s h = by_key (same_or_other s e.0)
    where
      by_key : (s ≡ e.0) ⊎ (s ≢ e.0) → (s ≡ e.0) ⊎ IsSome (get (made m k) s)
      by_key (inl same) = inl same
      by_key (inr other) = inr (ap is_some (sym (get_beside (made m k) e.0 e.1 s other) ∙ ap (λ n. get n s) (made-next m k e here)) ∙ h)

-- ---- what waits, waits of a session that is there

is_there : {X : Type 0} (o : Option X) (P : X → Type 0) → IsSomeAnd o P → IsSome o
is_there (Some x) P h = refl
is_there None P h = absurd h

module _ (s : ServiceState) (service : IsService s) where
  waits_there : (key : ℕ × ℕ) (o : Option WaitingAccess) → get s.waiting key ≡ o → IsSome o → IsSome (get s.state.sessions key.0)
  waits_there key None g h = absurd (true≢false (sym h))
  waits_there key (Some w) g h = is_there (get s.state.sessions key.0) (λ x. IsUsable x key.1) (service.usable key w g)

  pub word_session_there : (q : Spot) → IsSome (get (by_word s.waiting) q) → IsSome (get s.state.sessions q.1.0)
  word_session_there q h = by_row (get (by_word s.waiting) q) refl
    where
      by_row : (o : Option Op) → get (by_word s.waiting) q ≡ o → IsSome (get s.state.sessions q.1.0)
      by_row None none = absurd (true≢false (sym h ∙ ap is_some none))
      by_row (Some op) is = let row = waits-by_word s.waiting q op is in waits_there q.1 (Some row.waiter) row.waits refl

  pub counted_session_there : (session : ℕ) → IsSome (get (by_session s.waiting) session) → IsSome (get s.state.sessions session)
  counted_session_there session h = by_row (get (by_session s.waiting) session) refl
    where
      by_row : (o : Option ℕ) → get (by_session s.waiting) session ≡ o → IsSome (get s.state.sessions session)
      by_row None none = absurd (true≢false (sym h ∙ ap is_some none))
      by_row (Some count) is =
          let row = counts-by_session s.waiting session count is in
          subst (λ n. IsSome (get s.state.sessions n)) row.of_it (waits_there row.key (get s.waiting row.key) refl row.waits)
