-- The rows that a loop over the sessions has made: one for each request of the sessions that it has seen.
use Rattle.std.proofs.Common.{◌≡◌, ◌≢◌, ◌⊎◌, ℕ, ◌+◌, ◌<◌, ◌≤◌, List, ◌++◌, map, length, slice_get, inl, inr, Some, IsSome, is_some, true≢false, sym, ap, subst, ◌∙◌, arith}
use Rattle.std.specs.Prelude.{Contains}
use Rattle.std.proofs.lemmas.List.Elements.{Contains-append_left, Contains-append_right, Contains-append_cases}
use Rattle.std.specs.Option.{option_map}
use Rattle.std.specs.Ordering.{nat_cmp}
use Rattle.std.specs.FinMap.{FinMap, get, insert, entries}
use Rattle.fe_words.specs.declared.op.Op.{Op}
use Rattle.fe_table.proofs.TableCopyLemmas.{made, made-next, get-made}
use Rattle.fe_state.proofs.Maps.{get_inserted, get_beside, same_or_other}
use Rattle.fe_service.specs.Service.{WaitingAccesses}
use Rattle.fe_report.specs.Report.{Spot, by_word}
use Rattle.fe_report.specs.within.Rows.{row_of, IsAdded}
use Rattle.fe_report.proofs.Rising.{contains_mapped, from_mapped, times, times-none, times-append, times-mapped}
use Rattle.fe_report.proofs.Seen.{none_seen, one_more_seen}
use Rattle.fe_report.proofs.Spots.{spot_cmp_total, spot_cmp-IsAntisymmetric}
use Rattle.fe_report.proofs.WaitingAccesses.{access_fields, row_of_access, waits-by_word}

-- the rows are just those of the sessions that are seen, each once
pub record AreRows {X : Type 0} (waiting : WaitingAccesses) (seen : FinMap nat_cmp X) (rows : List (Spot × Op)) : Type 0 where
  pub sound : (q : Spot) (op : Op) → Contains rows (q, op) → (get (by_word waiting) q ≡ Some op) × IsSome (get seen q.1.0)
  pub whole : (q : Spot) (op : Op) → get (by_word waiting) q ≡ Some op → IsSome (get seen q.1.0) → Contains rows (q, op)
  pub once : (q : Spot) → times spot_cmp_total spot_cmp-IsAntisymmetric q rows ≤ 1

module _ {X : Type 0} (waiting : WaitingAccesses) (sessions : FinMap nat_cmp X) where
  pub no_rows : (rows : List (Spot × Op)) → length rows ≡ 0 → AreRows waiting (made sessions 0) rows
  no_rows rows none = record {
    sound = λ q op c. let below : c.0 < length rows = c.1 in absurd (omega (arith, none, below));
    whole = λ q op is seen. none_seen sessions q.1.0 seen;
    once = λ q.
        let empty = times-none spot_cmp_total spot_cmp-IsAntisymmetric q rows (λ op c. let below : c.0 < length rows = c.1 in absurd (omega (arith, none, below))) in
        omega (arith, empty);
  }

  -- the rows of one more session
  module _ (k : ℕ) (e : ℕ × X) (here : slice_get (entries sessions) k ≡ Some e) (old new : List (Spot × Op)) (rows : AreRows waiting (made sessions k) old) (added : IsAdded waiting e.0 old new) where
    at_next : (s : ℕ) → get (made sessions (k + 1)) s ≡ get (insert (made sessions k) e.0 e.1) s
    at_next s = ap (λ m. get m s) (sym (made-next sessions k e here))

    seen_now : (s : ℕ) → s ≡ e.0 → IsSome (get (made sessions (k + 1)) s)
    seen_now s same = ap is_some (at_next s ∙ ap (get (insert (made sessions k) e.0 e.1)) same ∙ get_inserted (made sessions k) e.0 e.1)

    seen_still : (s : ℕ) → IsSome (get (made sessions k) s) → IsSome (get (made sessions (k + 1)) s)
    seen_still s there = by (same_or_other s e.0)
      where
        by : (s ≡ e.0) ⊎ (s ≢ e.0) → IsSome (get (made sessions (k + 1)) s)
        by (inl same) = seen_now s same
        by (inr other) = ap is_some (at_next s ∙ get_beside (made sessions k) e.0 e.1 s other) ∙ there

    not_seen : {A : Type 0} (s : ℕ) → s ≡ e.0 → IsSome (get (made sessions k) s) → A
    not_seen s same there = absurd (true≢false (sym there ∙ ap is_some (ap (get (made sessions k)) same ∙ get-made sessions k e here)))

    -- a new row is of the session, and waits
    new_row : (q : Spot) (op : Op) → Contains (map (row_of e.0) added.waiting_requests) (q, op) → (get (by_word waiting) q ≡ Some op) × (q.1.0 ≡ e.0)
    new_row q op c =
        let found = from_mapped (row_of e.0) added.waiting_requests (q, op) c in
        let t = found.0 in
        let waits = (added.agrees t.0 t.1).0 found.1 in
        let row = row_of_access waiting (e.0, t.0) t.1 waits in
        (subst (λ (r : Spot × Op). get (by_word waiting) r.0 ≡ Some r.1) found.2 row, sym (ap (λ (r : Spot × Op). r.0.1.0) found.2))

    -- and each that waits of the session is one
    its_row : (q : Spot) (op : Op) → get (by_word waiting) q ≡ Some op → q.1.0 ≡ e.0 → Contains (map (row_of e.0) added.waiting_requests) (q, op)
    its_row q op is same =
        let row = waits-by_word waiting q op is in
        let key : q.1 ≡ (e.0, q.1.1) = λ i. (same i, q.1.1) in
        let waits = ap (option_map access_fields) (ap (get waiting) (sym key) ∙ row.waits) in
        let spot : (row_of e.0 (q.1.1, access_fields row.waiter)).0 ≡ q = ap (λ n. ((row.waiter.array, row.waiter.index), (n, q.1.1))) (sym same) ∙ row.spot in
        contains_mapped (row_of e.0) added.waiting_requests (q.1.1, access_fields row.waiter) (q, op) (λ i. (spot i, row.agrees i)) ((added.agrees q.1.1 (access_fields row.waiter)).1 waits)

    sound_now : (q : Spot) (op : Op) → Contains new (q, op) → (get (by_word waiting) q ≡ Some op) × IsSome (get (made sessions (k + 1)) q.1.0)
    sound_now q op c = by (Contains-append_cases old (map (row_of e.0) added.waiting_requests) (q, op) (subst (λ es. Contains es (q, op)) added.added c))
      where
        by : Contains old (q, op) ⊎ Contains (map (row_of e.0) added.waiting_requests) (q, op) → (get (by_word waiting) q ≡ Some op) × IsSome (get (made sessions (k + 1)) q.1.0)
        by (inl before) = let r = rows.sound q op before in (r.0, seen_still q.1.0 r.1)
        by (inr now) = let r = new_row q op now in (r.0, seen_now q.1.0 r.1)

    whole_now : (q : Spot) (op : Op) → get (by_word waiting) q ≡ Some op → IsSome (get (made sessions (k + 1)) q.1.0) → Contains new (q, op)
    whole_now q op is seen = subst (λ es. Contains es (q, op)) (sym added.added) (by (one_more_seen sessions k e here q.1.0 seen))
      where
        by : (q.1.0 ≡ e.0) ⊎ IsSome (get (made sessions k) q.1.0) → Contains (old ++ map (row_of e.0) added.waiting_requests) (q, op)
        by (inl same) = Contains-append_right old (map (row_of e.0) added.waiting_requests) (q, op) (its_row q op is same)
        by (inr before) = Contains-append_left old (map (row_of e.0) added.waiting_requests) (q, op) (rows.whole q op is before)

    once_now : (q : Spot) → times spot_cmp_total spot_cmp-IsAntisymmetric q new ≤ 1
    once_now q =
        let sum = ap (times spot_cmp_total spot_cmp-IsAntisymmetric q) added.added ∙ times-append spot_cmp_total spot_cmp-IsAntisymmetric q old (map (row_of e.0) added.waiting_requests) in
        by sum (same_or_other q.1.0 e.0)
      where
        by : times spot_cmp_total spot_cmp-IsAntisymmetric q new ≡ times spot_cmp_total spot_cmp-IsAntisymmetric q old + times spot_cmp_total spot_cmp-IsAntisymmetric q (map (row_of e.0) added.waiting_requests) → (q.1.0 ≡ e.0) ⊎ (q.1.0 ≢ e.0) → times spot_cmp_total spot_cmp-IsAntisymmetric q new ≤ 1
        by sum (inl same) =
            let none = times-none spot_cmp_total spot_cmp-IsAntisymmetric q old (λ op c. not_seen q.1.0 same (rows.sound q op c).1) in
            let one = times-mapped spot_cmp_total spot_cmp-IsAntisymmetric (row_of e.0) added.waiting_requests (λ i j d less below is. added.once i j d less below (ap (λ (s : Spot). s.1.1) is)) q in
            omega (arith, sum, none, one)
        by sum (inr other) =
            let none = times-none spot_cmp_total spot_cmp-IsAntisymmetric q (map (row_of e.0) added.waiting_requests) (λ op c. other (new_row q op c).1) in
            let one = rows.once q in
            omega (arith, sum, none, one)

    pub more_rows : AreRows waiting (made sessions (k + 1)) new
    more_rows = record { sound = sound_now; whole = whole_now; once = once_now }
