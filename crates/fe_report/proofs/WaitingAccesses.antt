-- What the rows of a report are of: the requests that wait, by word and by session.
use Rattle.std.proofs.Common.{◌≡◌, ℕ, ◌+◌, ◌<◌, ◌≤◌, ◌==◌, Bool, true, false, cond, List, [], ◌∷◌, map, length, suc, Option, Some, None, IsSome, is_some, true≢false, refl, sym, ap, subst, ◌∙◌, arith, rules}
use Rattle.std.proofs.lemmas.Bool.Decides.{nat_tests}
use Rattle.std.specs.Option.{option_map}
use Rattle.std.specs.Cmp.{IsTotalOrder, nat_cmp_total}
use Rattle.std.specs.FinMap.{get, len, entries, from_entries, len-empty, len-insert, len-entries, contains_key, get-retain_keys, nat_cmp-IsAntisymmetric}
use Rattle.std.specs.declared.cmp.Ordering.{Ordering}
use Rattle.fe_words.specs.declared.op.Op.{Op}
use Rattle.fe_waits.specs.Waiting.{pair_cmp_total, pair_cmp-IsAntisymmetric, WaitingAccess}
use Rattle.fe_service.specs.AttachmentsState.{of_session, count_of}
use Rattle.fe_service.specs.Service.{WaitingAccesses}
use Rattle.fe_report.specs.Report.{Spot, spot_of, by_word, by_session}
use Rattle.fe_report.proofs.Listed.{from_listed, there_listed, same_value, not_none}
use Rattle.fe_report.proofs.Parts.{none_there, one_there}
use Rattle.fe_report.proofs.Spots.{spot_cmp_total, spot_cmp-IsAntisymmetric}

-- ---- by word

-- what waits where a row says so
pub record Waits (waiting : WaitingAccesses) (q : Spot) (op : Op) : Type 0 where
  pub waiter : WaitingAccess
  pub waits : get waiting q.1 ≡ Some waiter
  pub spot : (spot_of (q.1, waiter)).0 ≡ q
  pub agrees : waiter.op ≡ op

pub waits-by_word : (waiting : WaitingAccesses) (q : Spot) (op : Op) → get (by_word waiting) q ≡ Some op → Waits waiting q op
waits-by_word waiting q op is =
    let from = from_listed pair_cmp_total pair_cmp-IsAntisymmetric spot_cmp_total spot_cmp-IsAntisymmetric spot_of waiting q op is in
    let key : from.entry.0 ≡ q.1 = ap (λ s. s.1) from.key in
    record {
      waiter = from.entry.1;
      waits = ap (get waiting) (sym key) ∙ from.found;
      spot = ap (λ k. (spot_of (k, from.entry.1)).0) (sym key) ∙ from.key;
      agrees = from.value;
    }

pub get-by_word : (waiting : WaitingAccesses) (key : ℕ × ℕ) (w : WaitingAccess) → get waiting key ≡ Some w → get (by_word waiting) (spot_of (key, w)).0 ≡ Some w.op
get-by_word waiting key w found = by_row (get (by_word waiting) (spot_of (key, w)).0) refl
  where
    there : IsSome (get (by_word waiting) (spot_of (key, w)).0)
    there = there_listed pair_cmp_total pair_cmp-IsAntisymmetric spot_cmp_total spot_cmp-IsAntisymmetric spot_of waiting (key, w) found

    by_row : (o : Option Op) → get (by_word waiting) (spot_of (key, w)).0 ≡ o → get (by_word waiting) (spot_of (key, w)).0 ≡ Some w.op
    by_row None none = absurd (true≢false (sym there ∙ ap is_some none))
    by_row (Some op) is =
        let row = waits-by_word waiting (spot_of (key, w)).0 op is in
        let same : row.waiter ≡ w = same_value _ _ (sym row.waits ∙ found) in
        is ∙ ap Some (sym row.agrees) ∙ ap (λ x. Some x.op) same

-- ---- by session

at_least_none : {A : Type 0} (n : ℕ) → n ≡ 0 → 0 < n → A
at_least_none n e h = absurd (omega (arith, e, h))

same_number : (s : ℕ) → (s == s) ≡ true
same_number s = search rules

get-of_session : (waiting : WaitingAccesses) (session : ℕ) (q : ℕ × ℕ) → get (of_session waiting session) q ≡ cond (q.0 == session) (get waiting q) None
get-of_session waiting session q = get-retain_keys waiting (λ key. key.0 == session) q (λ x t. ap (λ k. k.0 == session) (sym (pair_cmp-IsAntisymmetric q x t)))

-- a session with a waiting request has a count above 0
pub count-some : (waiting : WaitingAccesses) (key : ℕ × ℕ) → IsSome (get waiting key) → 0 < count_of waiting key.0
count-some waiting key h =
    one_there pair_cmp_total pair_cmp-IsAntisymmetric (of_session waiting key.0) key
    (ap is_some (get-of_session waiting key.0 key ∙ ap (λ b. cond b (get waiting key) None) (same_number key.0)) ∙ h)

pub record Counts (waiting : WaitingAccesses) (session count : ℕ) : Type 0 where
  pub is : count ≡ count_of waiting session
  pub some : 0 < count_of waiting session
  pub key : ℕ × ℕ
  pub of_it : key.0 ≡ session
  pub waits : IsSome (get waiting key)

pub counts-by_session : (waiting : WaitingAccesses) (session count : ℕ) → get (by_session waiting) session ≡ Some count → Counts waiting session count
counts-by_session waiting session count is =
    let from = from_listed pair_cmp_total pair_cmp-IsAntisymmetric nat_cmp_total nat_cmp-IsAntisymmetric (λ e. (e.0.0, count_of waiting e.0.0)) waiting session count is in
    let there : IsSome (get waiting from.entry.0) = ap is_some from.found in
    record {
      is = sym from.value ∙ ap (count_of waiting) from.key;
      some = subst (λ s. 0 < count_of waiting s) from.key (count-some waiting from.entry.0 there);
      key = from.entry.0;
      of_it = from.key;
      waits = there;
    }

pub get-by_session : (waiting : WaitingAccesses) (session : ℕ) → 0 < count_of waiting session → get (by_session waiting) session ≡ Some (count_of waiting session)
get-by_session waiting session some = by_row (get (by_session waiting) session) refl
  where
    none_of_it : get (by_session waiting) session ≡ None → (q : ℕ × ℕ) → get (of_session waiting session) q ≡ None
    none_of_it none q = get-of_session waiting session q ∙ by_key (q.0 == session) refl (get waiting q) refl
      where
        by_key : (b : Bool) → (q.0 == session) ≡ b → (o : Option WaitingAccess) → get waiting q ≡ o → cond b o None ≡ None
        by_key false t o g = refl
        by_key true t None g = refl
        by_key true t (Some w) g =
            let there = there_listed pair_cmp_total pair_cmp-IsAntisymmetric nat_cmp_total nat_cmp-IsAntisymmetric (λ e. (e.0.0, count_of waiting e.0.0)) waiting (q, w) g in
            let here : q.0 ≡ session = grind (arith, nat_tests, t) in
            absurd (true≢false (sym there ∙ ap (λ s. is_some (get (by_session waiting) s)) here ∙ ap is_some none))

    by_row : (o : Option ℕ) → get (by_session waiting) session ≡ o → get (by_session waiting) session ≡ Some (count_of waiting session)
    by_row None none = at_least_none _ (none_there pair_cmp_total pair_cmp-IsAntisymmetric (of_session waiting session) (none_of_it none)) some
    by_row (Some count) is = is ∙ ap Some (counts-by_session waiting session count is).is

-- ---- how many rows

one_or_none_more : (b : Bool) (n a : ℕ) → n ≤ a → cond b n (n + 1) ≤ suc a
one_or_none_more true n a h = omega (arith, h)
one_or_none_more false n a h = omega (arith, h)

len-from_entries : {K X : Type 0} {R : K → K → Ordering} (o : IsTotalOrder R) (es : List (K × X)) → len (from_entries {R = R} es) ≤ length es
len-from_entries {K} {X} {R} o [] = let none = len-empty R X in omega (arith, none)
len-from_entries o (e ∷ es) =
    subst (λ n. n ≤ suc (length es)) (sym (len-insert o (from_entries es) e.0 e.1)) (one_or_none_more (contains_key (from_entries es) e.0) _ _ (len-from_entries o es))

length-map : {A B : Type 0} (f : A → B) (xs : List A) → length (map f xs) ≡ length xs
length-map f [] = refl
length-map f (x ∷ xs) = ap suc (length-map f xs)

pub len-by_word : (waiting : WaitingAccesses) → len (by_word waiting) ≤ len waiting
len-by_word waiting =
    let few = len-from_entries spot_cmp_total (map spot_of (entries waiting)) in
    let same = length-map spot_of (entries waiting) in
    let size = len-entries waiting in
    omega (arith, few, same, size)

-- ---- one request that waits

-- something waits of a session that has a row
pub count-counted : (waiting : WaitingAccesses) (session : ℕ) → IsSome (get (by_session waiting) session) → 0 < count_of waiting session
count-counted waiting session h = by_row (get (by_session waiting) session) refl
  where
    by_row : (o : Option ℕ) → get (by_session waiting) session ≡ o → 0 < count_of waiting session
    by_row None none = absurd (true≢false (sym h ∙ ap is_some none))
    by_row (Some count) is = (counts-by_session waiting session count is).some

-- the row that is there
pub row_there : {A : Type 0} (o : Option A) → IsSome o → (x : A) × (o ≡ Some x)
row_there (Some x) h = (x, refl)
row_there None h = absurd (true≢false (sym h))

-- what a front lists of one that waits
abbrev pub access_fields : WaitingAccess → ℕ × ℕ × Op
access_fields w = (w.array, w.index, w.op)

-- a request that the front lists has a row
pub row_of_access : (waiting : WaitingAccesses) (key : ℕ × ℕ) (t : ℕ × ℕ × Op) → option_map access_fields (get waiting key) ≡ Some t → get (by_word waiting) ((t.0, t.1), key) ≡ Some t.2
row_of_access waiting key t is = by_waiter (get waiting key) refl is
  where
    by_waiter : (o : Option WaitingAccess) → get waiting key ≡ o → option_map access_fields o ≡ Some t → get (by_word waiting) ((t.0, t.1), key) ≡ Some t.2
    by_waiter None g e = not_none t e
    by_waiter (Some w) g e = subst (λ t. get (by_word waiting) ((t.0, t.1), key) ≡ Some t.2) (same_value _ _ e) (get-by_word waiting key w g)
