-- A receipt is strange, or it is borne out.
use Rattle.std.proofs.Common.{◌≡◌, ◌↔◌, ℕ, ◌<◌, ◌≤◌, Bool, true, false, IsTrue, List, map, refl, sym, subst, ◌∙◌, arith}
use Rattle.std.specs.Prelude.{All, Any}
use Rattle.std.proofs.lemmas.Option.{same_Some, slice_get_within, get_or_from_slice_get}
use Rattle.fe_state.specs.State.{ServerState}
use Rattle.fe_state.specs.declared.kept.Kept.{Kept}
use Rattle.fe_wire.specs.declared.client_message.ClientMessage.{ClientMessage}
use Rattle.fe_history.specs.Receipts.{Keeps, IsAsIssued, WasSent, AreWhole, IsStrange, IsBorneOut, IsFirstStrange}
use Rattle.fe_history.specs.declared.receipt.Receipt.{Receipt}

module _ (s : ServerState) (sent : List (List ClientMessage)) (r : Receipt) where
  pub not_both : IsBorneOut s sent r → IsStrange s sent r → ⊥
  not_both b (IsStrange.NotStored past) = omega (arith, past, b.is_stored)
  not_both b (IsStrange.OtherKept session number k keeps at_place other) = other (b.as_issued session number k keeps at_place)
  not_both b (IsStrange.EarlierKept k keeps earlier) = omega (arith, earlier, b.none_earlier k keeps)
  not_both b (IsStrange.NeverSent k keeps at_place whole never) = never (b.was_sent whole k keeps at_place)

  pub decided : (b : Bool) → (b ≡ true → IsStrange s sent r) → (b ≡ false → IsBorneOut s sent r) → IsTrue b ↔ IsStrange s sent r
  decided true strange fine = (strange, λ _. refl)
  decided false strange fine = (strange, λ x. absurd (not_both (fine refl) x))

  -- what is said of one answer that is kept for the number is said of each
  pub borne_out : (k : Kept) → Keeps s r.session r.number k → r.place < s.place
      → ((session number : ℕ) (other : Kept) → Keeps s session number other → other.place ≡ r.place → IsAsIssued r session number other)
      → r.place ≤ k.place → (AreWhole sent → WasSent sent r.session r.number k.request) → IsBorneOut s sent r
  borne_out k keeps is_stored as_issued not_earlier was_sent = record {
    is_stored = is_stored;
    as_issued = as_issued;
    none_earlier = λ other kept. subst (λ (x : Kept). r.place ≤ x.place) (same kept) not_earlier;
    was_sent = λ whole other kept at_place. subst (λ (x : Kept). WasSent sent r.session r.number x.request) (same kept) (was_sent whole);
  }
    where
      same : {other : Kept} → Keeps s r.session r.number other → k ≡ other
      same {other} kept = same_Some k other (sym keeps ∙ kept)

module _ (s : ServerState) (sent : List (List ClientMessage)) (receipts : List Receipt) where
  pub one_from_first : (place : ℕ) → IsFirstStrange s sent receipts place → Any (IsStrange s sent) receipts
  one_from_first place f = (f.at, f.receipt, slice_get_within receipts f.at f.receipt f.is_there, get_or_from_slice_get receipts f.at f.receipt f.receipt f.is_there, f.strange)

  pub none_strange : All (IsBorneOut s sent) receipts → Any (IsStrange s sent) receipts → ⊥
  none_strange all one = not_both s sent one.1 (subst (λ r. IsBorneOut s sent r) one.3 (all one.0 one.1 one.2)) one.4

-- the same is said of the same state
pub all_as : (s t : ServerState) (sent own : List (List ClientMessage)) (read receipts : List Receipt) → s ≡ t → sent ≡ own → read ≡ receipts → All (IsBorneOut s sent) read → All (IsBorneOut t own) receipts
all_as s t sent own read receipts same_state same_sent same_receipts all =
    subst (λ (rs : List Receipt). All (IsBorneOut t own) rs) same_receipts
    (subst (λ (ms : List (List ClientMessage)). All (IsBorneOut t ms) read) same_sent
    (subst (λ (st : ServerState). All (IsBorneOut st sent) read) same_state all))

-- the same is said of what was lent
module _ {V : Type 0} (s t : ServerState) (lent own : List V) (read receipts : List Receipt) (f : V → List ClientMessage) (same_state : s ≡ t) (same_sent : lent ≡ own) (same_receipts : read ≡ receipts) where
  pub one_strange : (place : ℕ) → IsFirstStrange s (map f lent) read place → Any (IsStrange t (map f own)) receipts
  one_strange place first =
      subst (λ (rs : List Receipt). Any (IsStrange t (map f own)) rs) same_receipts
      (subst (λ (vs : List V). Any (IsStrange t (map f vs)) read) same_sent
      (subst (λ (st : ServerState). Any (IsStrange st (map f lent)) read) same_state (one_from_first s (map f lent) read place first)))

  pub all_borne_out : All (IsBorneOut s (map f lent)) read → All (IsBorneOut t (map f own)) receipts
  all_borne_out all =
      subst (λ (rs : List Receipt). All (IsBorneOut t (map f own)) rs) same_receipts
      (subst (λ (vs : List V). All (IsBorneOut t (map f vs)) read) same_sent
      (subst (λ (st : ServerState). All (IsBorneOut st (map f lent)) read) same_state all))

  pub none_is : All (IsBorneOut s (map f lent)) read → Any (IsStrange t (map f own)) receipts → ⊥
  none_is all = none_strange t (map f own) receipts (all_borne_out all)
