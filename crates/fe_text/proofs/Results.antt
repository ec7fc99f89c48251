-- Statements about a result, and what follows from them.
use Rattle.std.proofs.Common.{◌≡◌, Option, Some, None, Result, Ok, Err, OnOk, OnErr, ap}
use Rattle.std.specs.Prelude.{IfErr, IsErrAnd, IfNone, MatchResult}

-- what follows from a statement about an `Ok` holds of an `Ok`
pub then_ok : {A E : Type 0} (r : Result A E) {P Q : Type 0} → (P → Q) → OnOk r P → OnOk r Q
then_ok (Ok x) f p = f p
then_ok (Err e) f p = tt

-- both of two
pub ok_both : {A E : Type 0} (r : Result A E) (P Q : Type 0) → OnOk r P → OnOk r Q → OnOk r (P × Q)
ok_both (Ok x) P Q p q = (p, q)
ok_both (Err e) P Q p q = tt

-- what a match says of an `Ok`, and of an `Err`
pub ok_of : {A E : Type 0} (r : Result A E) {P R : Type 0} (Q : E → Type 0) → (P → R) → MatchResult r (λ _. P) Q → OnOk r R
ok_of (Ok x) Q f p = f p
ok_of (Err e) Q f p = tt

pub err_of : {A E : Type 0} (r : Result A E) (P : Type 0) (Q : E → Type 0) → MatchResult r (λ _. P) Q → IfErr r Q
err_of (Ok x) P Q p = tt
err_of (Err e) P Q p = p

pub match_of : {A E : Type 0} (r : Result A E) (P : Type 0) (Q : E → Type 0) → OnOk r P → IfErr r Q → MatchResult r (λ _. P) Q
match_of (Ok x) P Q p q = p
match_of (Err e) P Q p q = q

-- the result is the `Err` that was passed on
pub failed : {A E : Type 0} (r : Result A E) (e : E) → IsErrAnd r (λ f. f ≡ e) → r ≡ Err e
failed (Ok x) e p = absurd p
failed (Err f) e p = ap (λ g. Err g) p

pub err_then : {A E : Type 0} (r : Result A E) {P Q : E → Type 0} → ((e : E) → P e → Q e) → IfErr r P → IfErr r Q
err_then (Ok x) f p = tt
err_then (Err e) f p = f e p

pub match_then : {A E : Type 0} (r : Result A E) {P R : Type 0} {Q S : E → Type 0} → (P → R) → ((e : E) → Q e → S e) → MatchResult r (λ _. P) Q → MatchResult r (λ _. R) S
match_then (Ok x) f g p = f p
match_then (Err e) f g p = g e p

-- in either case
pub either_of : {A E : Type 0} (r : Result A E) {P R : Type 0} {Q : E → Type 0} → (P → R) → ((e : E) → Q e → R) → MatchResult r (λ _. P) Q → R
either_of (Ok x) f g p = f p
either_of (Err e) f g p = g e p

pub err_both : {A E : Type 0} (r : Result A E) (P : Type 0) (Q : E → Type 0) → OnErr r P → IfErr r Q → IfErr r (λ e. P × Q e)
err_both (Ok x) P Q p q = tt
err_both (Err e) P Q p q = (p, q)

pub if_none : {A : Type 0} (o : Option A) {P : Type 0} → P → IfNone o P
if_none None p = p
if_none (Some x) p = tt
