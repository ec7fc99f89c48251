-- Entries that are posted one after the other.
use Rattle.std.proofs.Common.{◌≡◌, ℕ, zero, suc, ◌+◌, ◌<◌, ◌≤◌, List, [], ◌∷◌, length, drop, get_or, refl, sym, ap, ◌∙◌, arith, add-one, drop-cons}
use Rattle.fe_state.specs.declared.entry.Entry.{Entry}
use Rattle.fe_front.specs.Front.{FrontState}
use Rattle.fe_front.specs.Posting.{posted_entry, posted_all}

drop_one : (es : List Entry) (k : ℕ) (e : Entry) → k < length es → e ≡ get_or es k e → drop k es ≡ e ∷ drop (k + 1) es
drop_one es k e below is = rw (add-one, drop-cons es k e) (ap (λ x. x ∷ drop (suc k) es) (sym is))

drop_all : (es : List Entry) (k : ℕ) → length es ≤ k → drop k es ≡ []
drop_all [] zero past = refl
drop_all [] (suc k) past = refl
drop_all (e ∷ es) zero past = absurd (omega (arith, past))
drop_all (e ∷ es) (suc k) past = drop_all es k (omega (arith, past))

-- one more entry is posted
pub posted_one : (f : FrontState) (es : List Entry) (first k : ℕ) (e : Entry) → k < length es → e ≡ get_or es k e
    → posted_all (posted_entry f e (first + k)) (drop (k + 1) es) (first + (k + 1)) ≡ posted_all f (drop k es) (first + k)
posted_one f es first k e below is =
    let next : first + (k + 1) ≡ first + k + 1 = omega arith in
    ap (posted_all (posted_entry f e (first + k)) (drop (k + 1) es)) next ∙ sym (ap (λ rest. posted_all f rest (first + k)) (drop_one es k e below is))

-- none is left
pub posted_none : (f : FrontState) (es : List Entry) (place k : ℕ) → length es ≤ k → posted_all f (drop k es) place ≡ f
posted_none f es place k past = ap (λ rest. posted_all f rest place) (drop_all es k past)
