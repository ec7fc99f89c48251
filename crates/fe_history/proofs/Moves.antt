-- The steps on a hall's history keep its rule.
use Rattle.std.proofs.Common.{◌≡◌, ℕ, ◌+◌, ◌<◌, ◌==◌, Bool, true, false, List, [], ◌∷◌, ◌++◌, length, refl, ap, sym, ◌∙◌, subst, arith, inl, length-append, None}
use Rattle.std.proofs.lemmas.List.{append-nil}
use Rattle.std.proofs.lemmas.Bool.Decides.{nat_tests}
use mathlib.Core.List.{IsPrefix}
use prog.Atomic.{either}
use Rattle.logbook.specs.Pages.{Cell, View, cell, keeps, no_nib, step, Moves, Goes}
use Rattle.fe_state.specs.declared.batch.Batch.{Batch}
use Rattle.fe_history.specs.declared.act.Act.{Act}
use Rattle.fe_history.specs.declared.act.Act.TheVariants.{Began, Asked, Called, Cut, Stored}
use Rattle.std.specs.Prelude.{slice_set}
use Rattle.fe_state.specs.declared.request.Request.{Request}
use Rattle.fe_history.specs.Acts.{IsLegal, MayBeAppended, StandsIn, WasCut, cuts_in, stores_in}
use Rattle.fe_history.specs.Rules.{IsKept, Adds, AddsNext, CutsAfter, Counts}
use Rattle.fe_history.proofs.Acts.{cut_may, cuts_append, legal_append, no_cuts, no_stores, stands_later, store_may, stores_append}

abbrev pub shown : List Act → List Act
shown log = []

abbrev pub moved : List Act → List Act → ℕ → Type 0
moved xs ys n = Unit {0}

-- the two words, as they are after this history
abbrev words_of : List Act → List Cell
words_of log = (length (stores_in log), true) ∷ (length (cuts_in log), true) ∷ []

-- A step on the word k, which counts so, keeps the rule if the acts that it adds do.
module _ (v : List Act) (k : ℕ) (count : List Act → ℕ) (at : (log : List Act) → cell (words_of log) k ≡ (count log, true)) (f : ℕ → ℕ) (then : ℕ → View Act ℕ → Type 0) where
  -- the acts that the step adds to a history
  abbrev Adding : List Act → Type 0
  Adding log = (more : List Act) × IsLegal (log ++ more) × (slice_set (words_of log) k (f (count log), true) ≡ words_of (log ++ more)) × then (count log) (log ++ more, (no_nib, None))

  moves : k < 2 → ((log : List Act) → IsLegal log → IsPrefix v log → Adding log) → Moves IsKept shown moved k (v, (no_nib, None)) f then
  moves in_two adds cs log kept pre away =
      let (more, legal, words, done) = adds log kept.legal pre in
      subst (λ (c : List Cell). (k < length c) × ((cell c k).1 ≡ true) × Goes IsKept shown moved k (v, (no_nib, None)) f then c log) (sym kept.words)
      (rw (at log) (in_two, refl, (keeps, more, None, tt, record { words = words; legal = legal }, inl (refl, refl), done)))

words_same : (xs ys : List Act) → stores_in ys ≡ stores_in xs → cuts_in ys ≡ cuts_in xs → words_of xs ≡ words_of ys
words_same xs ys stores cuts = cc

-- an act that is neither a cut nor a store
pub adds_moves : (v : List Act) (a : Act) → stores_in (a ∷ []) ≡ [] → cuts_in (a ∷ []) ≡ [] → ((log : List Act) → IsLegal log → IsPrefix v log → MayBeAppended log a)
    → Moves IsKept shown moved 0 (v, (no_nib, None)) (λ n. n) (Adds (step 0 0 0 a) (v, (no_nib, None)))
adds_moves v a no_store no_cut may =
    moves v 0 (λ log. length (stores_in log)) (λ log. refl) (λ n. n) (Adds (step 0 0 0 a) (v, (no_nib, None))) (omega arith)
    (λ log legal pre.
    let all = legal_append log a legal (may log legal pre) in
    (a ∷ [], all, words_same log (log ++ a ∷ []) (no_stores log a no_store) (no_cuts log a no_cut), (record { earlier = log; seen = pre; is = refl }, all)))

-- a connection may ask for a session whenever it likes
pub ask_may : (log : List Act) (conn session : ℕ) → IsLegal log → MayBeAppended log (Asked conn session)
ask_may (Began s ∷ log) conn session legal = tt
ask_may _ conn session legal = absurd legal

-- a connection may call a request of a session that it asked for
pub call_may : (v log : List Act) (conn session number : ℕ) (request : Request) (place : ℕ) → IsLegal log → IsPrefix v log → StandsIn v (Asked conn session) → MayBeAppended log (Called conn session number request place)
call_may v (Began s ∷ log) conn session number request place legal pre asked = stands_later v (Began s ∷ log) (Asked conn session) pre asked
call_may v _ conn session number request place legal pre asked = absurd legal

pub counts_moves : (v : List Act) (ask : Act) → Moves IsKept shown moved 0 (v, (no_nib, None)) (λ n. n) (Counts (step 0 0 0 ask) (v, (no_nib, None)))
counts_moves v ask =
    moves v 0 (λ log. length (stores_in log)) (λ log. refl) (λ n. n) (Counts (step 0 0 0 ask) (v, (no_nib, None))) (omega arith)
    (λ log legal pre. let all = append-nil log in ([], subst IsLegal (sym all) legal, rw all refl, rw all (refl, legal)))

-- an act that is added where the word counts as many as were expected
module _ (v : List Act) (k old : ℕ) (a : Act) (count : List Act → ℕ) (at : (log : List Act) → cell (words_of log) k ≡ (count log, true)) (in_two : k < 2) where
  tries_moves : ((log : List Act) → slice_set (words_of log) k (count log, true) ≡ words_of log)
      → ((log : List Act) → count log ≡ old → slice_set (words_of log) k (old + 1, true) ≡ words_of (log ++ a ∷ []))
      → ((log : List Act) → IsLegal log → IsPrefix v log → count log ≡ old → MayBeAppended log a)
      → Moves IsKept shown moved k (v, (no_nib, None)) (λ n. either (n == old) (old + 1) n) (AddsNext count (step k old (old + 1) a) (v, (no_nib, None)))
  tries_moves same words may =
      moves v k count at (λ n. either (n == old) (old + 1) n) (AddsNext count (step k old (old + 1) a) (v, (no_nib, None))) in_two (λ log legal pre. by log legal pre (count log == old) refl)
    where
      by : (log : List Act) → IsLegal log → IsPrefix v log → (b : Bool) → (count log == old) ≡ b
          → Adding v k count at (λ n. either (n == old) (old + 1) n) (AddsNext count (step k old (old + 1) a) (v, (no_nib, None))) log
      by log legal pre true is =
          let here : count log ≡ old = grind (arith, nat_tests) in
          let all = legal_append log a legal (may log legal pre here) in
          (a ∷ [], all, rw is (words log here), rw is ((record { earlier = log; seen = pre; is = refl }, here), all))
      by log legal pre false is =
          let all = append-nil log in
          ([], subst IsLegal (sym all) legal, rw (is, all) (same log), rw (is, all) (tt, legal))

pub stores_moves : (v : List Act) (batch : Batch) (moment old : ℕ) → WasCut v old batch
    → Moves IsKept shown moved 0 (v, (no_nib, None)) (λ n. either (n == old) (old + 1) n) (AddsNext (λ log. length (stores_in log)) (step 0 old (old + 1) (Stored batch moment)) (v, (no_nib, None)))
stores_moves v batch moment old was =
    tries_moves v 0 old (Stored batch moment) (λ log. length (stores_in log)) (λ log. refl) (omega arith) (λ log. refl) words (λ log legal pre here. store_may v log old moment batch was pre legal here)
  where
    words : (log : List Act) → length (stores_in log) ≡ old → (old + 1, true) ∷ (length (cuts_in log), true) ∷ [] ≡ words_of (log ++ Stored batch moment ∷ [])
    words log here =
        let more = ap length (stores_append log (Stored batch moment ∷ [])) ∙ length-append (stores_in log) ((batch, moment) ∷ []) in
        let stores : length (stores_in (log ++ Stored batch moment ∷ [])) ≡ old + 1 = omega (arith, here, more) in
        rw (stores, no_cuts log (Stored batch moment) refl) refl

pub cuts_moves : (v : List Act) (batch : Batch) (old : ℕ) → CutsAfter v old batch
    → Moves IsKept shown moved 1 (v, (no_nib, None)) (λ n. either (n == old) (old + 1) n) (AddsNext (λ log. length (cuts_in log)) (step 1 old (old + 1) (Cut batch)) (v, (no_nib, None)))
cuts_moves v batch old next =
    tries_moves v 1 old (Cut batch) (λ log. length (cuts_in log)) (λ log. refl) (omega arith) (λ log. refl) words (λ log legal pre here. cut_may v log old batch next pre legal here)
  where
    words : (log : List Act) → length (cuts_in log) ≡ old → (length (stores_in log), true) ∷ (old + 1, true) ∷ [] ≡ words_of (log ++ Cut batch ∷ [])
    words log here =
        let more = ap length (cuts_append log (Cut batch ∷ [])) ∙ length-append (cuts_in log) (batch ∷ []) in
        let cuts : length (cuts_in (log ++ Cut batch ∷ [])) ≡ old + 1 = omega (arith, here, more) in
        rw (cuts, no_stores log (Cut batch) refl) refl
