-- What a state keeps, session by session.
use Rattle.std.proofs.Common.{◌≡◌, ◌≢◌, ◌⊎◌, inl, inr, ℕ, ◌+◌, ◌≤◌, Option, Some, None, true≢false, is_some, slice_get, refl, sym, ap, subst, ◌∙◌}
use Rattle.std.proofs.lemmas.Option.{same_Some, none-some}
use Rattle.std.specs.Ordering.{nat_cmp}
use Rattle.std.specs.FinMap.{FinMap, get, entries, get-empty, insert, len}
use Rattle.fe_state.proofs.Maps.{get_beside, get_inserted, same_or_other}
use Rattle.fe_state.specs.Sessions.{Session, kept_in}
use Rattle.fe_state.specs.State.{ServerState}
use Rattle.fe_state.specs.declared.kept.Kept.{Kept}
use Rattle.fe_history.specs.Receipts.{IsAsIssued, Keeps}
use Rattle.fe_history.specs.declared.receipt.Receipt.{Receipt}
use Rattle.fe_table.proofs.TableCopyLemmas.{made, made-next, made_all}

module _ {X : Type 0} (m : FinMap nat_cmp X) (P : ℕ → X → Type 0) where
  -- what holds of each of the first n entries
  abbrev pub OfFirst : ℕ → Type 0
  OfFirst k = (s : ℕ) (x : X) → get (made m k) s ≡ Some x → P s x

  pub of_none : OfFirst 0
  of_none s x h = absurd (true≢false (sym (ap is_some (sym (get-empty nat_cmp s) ∙ h))))

  pub of_one_more : (k : ℕ) (e : ℕ × X) → slice_get (entries m) k ≡ Some e → P e.0 e.1 → OfFirst k → OfFirst (k + 1)
  of_one_more k e is holds before s x h = by_key (same_or_other s e.0)
    where
      next : get (insert (made m k) e.0 e.1) s ≡ Some x
      next = ap (λ n. get n s) (made-next m k e is) ∙ h

      by_key : (s ≡ e.0) ⊎ (s ≢ e.0) → P s x
      by_key (inl same) =
          let value : e.1 ≡ x = same_Some e.1 x (sym (get_inserted (made m k) e.0 e.1) ∙ ap (get (insert (made m k) e.0 e.1)) (sym same) ∙ next) in
          subst (λ y. P s y) value (subst (λ n. P n e.1) (sym same) holds)
      by_key (inr other) = before s x (sym (get_beside (made m k) e.0 e.1 s other) ∙ next)

-- whatever a session keeps at the place of a receipt is what the receipt says
abbrev pub AllAsIssued : Receipt → ℕ → Session → Type 0
AllAsIssued r s x = (n : ℕ) (k : Kept) → get x.kept n ≡ Some k → k.place ≡ r.place → IsAsIssued r s n k

-- what holds session by session holds of what the state keeps
pub kept_as_issued : (s : ServerState) (r : Receipt) (j : ℕ) → len s.sessions ≤ j → OfFirst s.sessions (AllAsIssued r) j
    → (session number : ℕ) (k : Kept) → Keeps s session number k → k.place ≡ r.place → IsAsIssued r session number k
kept_as_issued s r j all issued session number k keeps at_place = by_session (get s.sessions session) refl keeps
  where
    by_session : (o : Option Session) → get s.sessions session ≡ o → kept_in o number ≡ Some k → IsAsIssued r session number k
    by_session None is kept = absurd (none-some k kept)
    by_session (Some x) is kept = issued session x (ap (λ m. get m session) (made_all s.sessions j all) ∙ is) number k kept at_place
