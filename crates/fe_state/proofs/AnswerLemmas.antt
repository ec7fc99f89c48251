-- What a session keeps for the numbers from one on, number by number.
use Rattle.std.proofs.Common.{◌≡◌, ℕ, ◌+◌, ◌≤◌, ◌<◌, nat_le, Bool, true, cond, List, [], ◌∷◌, length, Some, None, refl, sym, ap, ◌∙◌, arith, inl, inr}
use Rattle.std.proofs.lemmas.Bool.{cases_lt}
use Rattle.std.specs.Ordering.{nat_cmp}
use Rattle.std.specs.declared.cmp.Ordering.{Ordering}
use Rattle.std.specs.declared.cmp.Ordering.TheVariants.{Less}
use Rattle.std.specs.Prelude.{◌==◌}
use Rattle.std.specs.Cmp.{nat_cmp_total, nat_cmp_is, unsigned_tied}
use Rattle.std.specs.FinMap.{FinMap, empty, get, insert, retain_keys, entries, len, get-entries, len-entries, len-empty, get-empty, entries-insert, find}
use Rattle.std.specs.FinMap.Entries.{put, by_order}
use Rattle.std.proofs.lemmas.Bool.Decides.{nat_tests}
use Rattle.fe_state.specs.declared.kept.Kept.{Kept}
use Rattle.fe_state.specs.Sessions.{answers_from, Session, IsInWindow}
use Rattle.fe_state.specs.Limits.{window_length}
use Rattle.fe_state.proofs.Maps.{get_inserted, get_beside, same_or_other}
use Rattle.fe_table.proofs.TableLemmas.{remove_absent}
use Rattle.fe_state.proofs.SessionLemmas.{same_numbers, raised_above, raised_below, raised_next, kept_above, none_or_some}

find_first : {X : Type 0} (e : ℕ × X) (es : List (ℕ × X)) → find nat_cmp e.0 (e ∷ es) ≡ Some e.1
find_first e es =
    let same : (e.0 == e.0) ≡ true = grind (arith, nat_tests) in
    ap (λ (b : Bool). cond b (Some e.1) (find nat_cmp e.0 es)) (unsigned_tied e.0 e.0 ∙ same)

-- an entry below all others comes first
put_first : {X : Type 0} (n : ℕ) (x : X) (es : List (ℕ × X)) → ((q : ℕ) (y : X) → find nat_cmp q es ≡ Some y → n < q) → put nat_cmp n x es ≡ (n, x) ∷ es
put_first n x [] above = refl
put_first n x (e ∷ es) above =
    ap (λ (o : Ordering). by_order o ((n, x) ∷ e ∷ es) ((e.0, x) ∷ es) (e ∷ put nat_cmp n x es)) (sym (nat_cmp_is n e.0 Less (above e.0 e.1 (find_first e es))))

-- where nothing is kept for a number, the numbers from it on are those from the next one on
pub from_absent : {X : Type 0} (m : FinMap nat_cmp X) (n : ℕ) → get m n ≡ None → retain_keys m (nat_le n) ≡ retain_keys m (nat_le (n + 1))
from_absent m n none = remove_absent (retain_keys m (nat_le n)) n (raised_above m n n (omega arith) ∙ none) ∙ raised_next m n

-- where something is, it comes first
from_present_map : {X : Type 0} (m : FinMap nat_cmp X) (n : ℕ) (x : X) → get m n ≡ Some x → retain_keys m (nat_le n) ≡ insert (retain_keys m (nat_le (n + 1))) n x
from_present_map m n x is =
    same_numbers _ _ (λ q. elim (same_or_other q n) [
      | inl here ↦
          ap (get (retain_keys m (nat_le n))) here ∙ raised_above m n n (omega arith) ∙ is
          ∙ sym (ap (get (insert (retain_keys m (nat_le (n + 1))) n x)) here ∙ get_inserted (retain_keys m (nat_le (n + 1))) n x)
      | inr other ↦
          elim (cases_lt q n) [
            | inl low ↦ raised_below m n q low ∙ sym (raised_below m (n + 1) q (omega arith))
            | inr high ↦ raised_above m n q high ∙ sym (raised_above m (n + 1) q (omega arith))
          ]
          ∙ sym (get_beside (retain_keys m (nat_le (n + 1))) n x q other)
    ])

pub from_present : {X : Type 0} (m : FinMap nat_cmp X) (n : ℕ) (x : X) → get m n ≡ Some x → entries (retain_keys m (nat_le n)) ≡ (n, x) ∷ entries (retain_keys m (nat_le (n + 1)))
from_present {X} m n x is =
    ap entries (from_present_map m n x is)
    ∙ entries-insert nat_cmp_total (retain_keys m (nat_le (n + 1))) n x
    ∙ put_first n x (entries (retain_keys m (nat_le (n + 1)))) above
  where
    above : (q : ℕ) (y : X) → find nat_cmp q (entries (retain_keys m (nat_le (n + 1)))) ≡ Some y → n < q
    above q y found =
        let here : get (retain_keys m (nat_le (n + 1))) q ≡ Some y = get-entries (retain_keys m (nat_le (n + 1))) q ∙ found in
        elim (cases_lt q (n + 1)) [
          | inl low ↦ let none = raised_below m (n + 1) q low in absurd (cc)
          | inr high ↦ omega arith
        ]

no_entries : {A : Type 0} (es : List A) → length es ≡ 0 → es ≡ []
no_entries [] e = refl
no_entries (x ∷ es) e = absurd (omega arith)

-- from the end of the window on nothing is kept
pub from_beyond : (s : Session) (end : ℕ) → s.floor + window_length ≤ end → ((n : ℕ) (k : Kept) → get s.kept n ≡ Some k → IsInWindow s.floor n) → entries (answers_from s end) ≡ []
from_beyond s end beyond within =
    no_entries (entries (retain_keys s.kept (nat_le end))) (sym (len-entries (retain_keys s.kept (nat_le end))) ∙ ap len none ∙ len-empty nat_cmp Kept)
  where
    none : retain_keys s.kept (nat_le end) ≡ empty
    none = same_numbers _ _ (λ q. elim (none_or_some (get (retain_keys s.kept (nat_le end)) q)) [
      | inl no_one ↦ no_one ∙ sym (get-empty nat_cmp q)
      | inr some ↦ elim (cases_lt q end) [
        | inl low ↦ raised_below s.kept end q low ∙ sym (get-empty nat_cmp q)
        | inr high ↦ let w = within q some.0 (kept_above s.kept end q some.0 some.1) in absurd (omega (arith, w.not_beyond))
      ]
    ])
