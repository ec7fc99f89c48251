-- What is kept after entries: it was kept before them, or is of one of them.
use Rattle.std.proofs.Common.{◌≡◌, ◌⊎◌, inl, inr, ℕ, ◌+◌, ◌<◌, Bool, true, false, cond, List, [], ◌∷◌, ◌++◌, length, drop, get_or, Option, Some, None, refl, sym, ap, ◌∙◌, arith}
use Rattle.std.specs.Prelude.{nat_le}
use Rattle.std.specs.Option.{option_map}
use Rattle.std.specs.Ordering.{nat_cmp}
use Rattle.std.specs.FinMap.{get, insert, remove, contains_key, get-empty}
use Rattle.std.proofs.lemmas.Option.{same_Some}
use Rattle.fe_state.proofs.Maps.{get_inserted, get_beside, get_removed, get_left, get_retained, same_or_other}
use Rattle.fe_state.specs.Sessions.{Session, first_session, kept_in, keeping, put_session, raised}
use Rattle.fe_state.specs.State.{ServerState, after, after_all}
use Rattle.fe_state.specs.declared.answer.Answer.{Answer}
use Rattle.fe_state.specs.declared.entry.Entry.{Entry}
use Rattle.fe_state.specs.declared.entry.Entry.TheVariants.{Attached, Closed, Settled, Finished}
use Rattle.fe_state.specs.declared.kept.Kept.{Kept}
use Rattle.fe_state.specs.declared.request.Request.{Request}

-- what is kept for a number of a session
abbrev pub kept_of : ServerState → ℕ → ℕ → Option Kept
kept_of s session number = kept_in (get s.sessions session) number

none_kept : {P : Type 0} (k : Kept) → None ≡ Some k → P
none_kept k e = cc

-- ---- one entry

-- it was kept before the entry, or is the entry's own
abbrev pub WasKept : ServerState → Entry → ℕ → ℕ → Kept → Type 0
WasKept s e session number k = (kept_of s session number ≡ Some k) ⊎ ((e ≡ Finished session number k.request k.answer) × (k.place ≡ s.place))

module _ (s : ServerState) (session number : ℕ) (k : Kept) where
  attached_kept : (other floor : ℕ) → kept_of (after s (Attached other floor)) session number ≡ Some k → WasKept s (Attached other floor) session number k
  attached_kept other floor = by (contains_key s.sessions other)
    where
      by : (b : Bool) → kept_in (get (cond b s.sessions (insert s.sessions other first_session)) session) number ≡ Some k → WasKept s (Attached other floor) session number k
      by true kept = inl kept
      by false kept = elim (same_or_other session other) [
        | inl e ↦
            let here : kept_in (get (insert s.sessions other first_session) session) number ≡ None =
            ap (λ (n : ℕ). kept_in (get (insert s.sessions other first_session) n) number) e ∙ ap (λ (o : Option Session). kept_in o number) (get_inserted s.sessions other first_session) ∙ get-empty nat_cmp number in
            none_kept k (sym here ∙ kept)
        | inr ne ↦ inl (sym (ap (λ (o : Option Session). kept_in o number) (get_beside s.sessions other first_session session ne)) ∙ kept)
      ]

  closed_kept : (other : ℕ) → kept_of (after s (Closed other)) session number ≡ Some k → WasKept s (Closed other) session number k
  closed_kept other kept = elim (same_or_other session other) [
    | inl e ↦
        let here : kept_of (after s (Closed other)) session number ≡ None =
        ap (λ (n : ℕ). kept_in (get (remove s.sessions other) n) number) e ∙ ap (λ (o : Option Session). kept_in o number) (get_removed s.sessions other) in
        none_kept k (sym here ∙ kept)
    | inr ne ↦ inl (sym (ap (λ (o : Option Session). kept_in o number) (get_left s.sessions other session ne)) ∙ kept)
  ]

  -- a session in the place of another, which keeps nothing that was not kept
  put_kept : (e : Entry) (other : ℕ) (change : Session → Session)
      → ((x : Session) → session ≡ other → get (change x).kept number ≡ Some k → (get x.kept number ≡ Some k) ⊎ ((e ≡ Finished session number k.request k.answer) × (k.place ≡ s.place)))
      → kept_in (get (put_session s.sessions other (option_map change (get s.sessions other))) session) number ≡ Some k → WasKept s e session number k
  put_kept e other change keeps = by (get s.sessions other) refl
    where
      by : (o : Option Session) → get s.sessions other ≡ o → kept_in (get (put_session s.sessions other (option_map change o)) session) number ≡ Some k → WasKept s e session number k
      by None is kept = inl kept
      by (Some x) is kept = elim (same_or_other session other) [
        | inl same ↦
            let here : kept_in (get (insert s.sessions other (change x)) session) number ≡ get (change x).kept number =
            ap (λ (n : ℕ). kept_in (get (insert s.sessions other (change x)) n) number) same ∙ ap (λ (o : Option Session). kept_in o number) (get_inserted s.sessions other (change x)) in
            let there : kept_of s session number ≡ get x.kept number = ap (λ (n : ℕ). kept_in (get s.sessions n) number) same ∙ ap (λ (o : Option Session). kept_in o number) is in
            elim (keeps x same (sym here ∙ kept)) [ inl was ↦ inl (there ∙ was) | inr own ↦ inr own ]
        | inr ne ↦ inl (sym (ap (λ (o : Option Session). kept_in o number) (get_beside s.sessions other (change x) session ne)) ∙ kept)
      ]

  settled_kept : (other floor : ℕ) → kept_of (after s (Settled other floor)) session number ≡ Some k → WasKept s (Settled other floor) session number k
  settled_kept other floor = put_kept (Settled other floor) other (λ x. raised x floor) (λ x same kept. by x (nat_le floor number) (sym (get_retained x.kept (nat_le floor) number) ∙ kept))
    where
      by : (x : Session) (b : Bool) → cond b (get x.kept number) None ≡ Some k → (get x.kept number ≡ Some k) ⊎ ((Settled other floor ≡ Finished session number k.request k.answer) × (k.place ≡ s.place))
      by x true kept = inl kept
      by x false kept = none_kept k kept

  finished_kept : (other m : ℕ) (request : Request) (answer : Answer) → kept_of (after s (Finished other m request answer)) session number ≡ Some k → WasKept s (Finished other m request answer) session number k
  finished_kept other m request answer = put_kept (Finished other m request answer) other (λ x. keeping x m own) keeps
    where
      own : Kept
      own = record { request = request; answer = answer; place = s.place }

      keeps : (x : Session) → session ≡ other → get (insert x.kept m own) number ≡ Some k
          → (get x.kept number ≡ Some k) ⊎ ((Finished other m request answer ≡ Finished session number k.request k.answer) × (k.place ≡ s.place))
      keeps x same kept = elim (same_or_other number m) [
        | inl here ↦
            let is : own ≡ k = same_Some _ _ (sym (ap (λ (n : ℕ). get (insert x.kept m own) n) here ∙ get_inserted x.kept m own) ∙ kept) in
            inr (
              ap (λ (n : ℕ). Finished n m request answer) (sym same) ∙ ap (λ (n : ℕ). Finished session n request answer) (sym here) ∙ ap (λ (x : Kept). Finished session number x.request x.answer) is,
              sym (ap (λ (x : Kept). x.place) is),
            )
        | inr ne ↦ inl (sym (get_beside x.kept m own number ne) ∙ kept)
      ]

  pub kept_one : (e : Entry) → kept_of (after s e) session number ≡ Some k → WasKept s e session number k
  kept_one (Attached other floor) kept = attached_kept other floor kept
  kept_one (Closed other) kept = closed_kept other kept
  kept_one (Settled other floor) kept = settled_kept other floor kept
  kept_one (Finished other m request answer) kept = finished_kept other m request answer kept

-- ---- entries one after another

-- what is kept is of one of the entries, at its place
pub record IsRecorded (s : ServerState) (es : List Entry) (session number : ℕ) (k : Kept) : Type 0 where
  pub before : List Entry
  pub behind : List Entry
  pub entries : es ≡ before ++ Finished session number k.request k.answer ∷ behind
  pub at : k.place ≡ s.place + length before

pub kept_after : (s : ServerState) (es : List Entry) (session number : ℕ) (k : Kept) → kept_of (after_all s es) session number ≡ Some k
    → (kept_of s session number ≡ Some k) ⊎ IsRecorded s es session number k
kept_after s [] session number k kept = inl kept
kept_after s (e ∷ es) session number k kept = elim (kept_after (after s e) es session number k kept) [
  | inl was ↦ elim (kept_one s session number k e was) [
    | inl before ↦ inl before
    | inr own ↦ inr (record { before = []; behind = es; entries = ap (λ (x : Entry). x ∷ es) own.0; at = own.1 ∙ omega arith })
  ]
  | inr r ↦ inr (record { before = e ∷ r.before; behind = r.behind; entries = ap (λ (xs : List Entry). e ∷ xs) r.entries; at = omega (arith, r.at) })
]

-- an entry within the first of two lists
pub cut_within : (xs ys before behind : List Entry) (e : Entry) → xs ++ ys ≡ before ++ e ∷ behind → length before < length xs → (rest : List Entry) × (xs ≡ before ++ e ∷ rest)
cut_within [] ys before behind e same lt = absurd (omega (arith, lt))
cut_within (x ∷ xs) ys [] behind e same lt = (xs, ap (λ (z : Entry). z ∷ xs) (ap (λ (zs : List Entry). get_or zs 0 x) same))
cut_within (x ∷ xs) ys (b ∷ bs) behind e same lt =
    let r = cut_within xs ys bs behind e (ap (λ (zs : List Entry). drop 1 zs) same) (omega (arith, lt)) in
    (r.0, ap (λ (zs : List Entry). x ∷ zs) r.1 ∙ ap (λ (z : Entry). z ∷ (bs ++ e ∷ r.0)) (ap (λ (zs : List Entry). get_or zs 0 x) same))
