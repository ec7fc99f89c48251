-- The requests by session against those by slot, where occupants and owners say the same.
use Rattle.std.proofs.Common.{◌≡◌, ◌≢◌, ℕ, ◌⊎◌, inl, inr, Bool, true, false, cond, List, Option, Some, None, IsSome, is_some, true≢false, refl, sym, ap, ◌∙◌}
use Rattle.std.specs.Prelude.{◌==◌, ◌↔◌, unwrap_or}
use Rattle.std.specs.Option.{option_map, option_and_then}
use Rattle.std.specs.Ordering.{nat_cmp}
use Rattle.std.specs.declared.cmp.Ordering.TheVariants.{Equal}
use Rattle.std.specs.FinMap.{FinMap, empty, get, insert, remove, retain_keys, len, get-empty, get-retain_keys, same_map}
use Rattle.std.proofs.lemmas.Bool.{cases_eq, ne_eqb, eq-eqb}
use Rattle.fe_waits.specs.Waiting.{pair_cmp, pair_cmp_total, pair_cmp-IsAntisymmetric, WaitingAccess}
use Rattle.fe_waits.proofs.MemberLemmas.{key_cases, none_some, some_same, get-insert_here, get-insert_other, get-remove_here, get-remove_other}
use Rattle.fe_service.specs.declared.occupant.Occupant.{Occupant}
use Rattle.fe_service.specs.within.Slots.{owner_at, owner_of, slot_in, session_key, by_session}
use Rattle.fe_service.proofs.KeyLemmas.{same_test, miss, get-rekeyed, get-rekeyed_none, len-rekeyed}

-- occupants and owners say the same
abbrev pub Agree : FinMap nat_cmp Occupant → List (Option ℕ) → Type 0
Agree occupants owners = (session slot : ℕ) → (slot_in occupants session ≡ Some slot) ↔ (owner_at owners slot ≡ Some session)

-- requests wait in slots that have an owner
abbrev pub AreOwned : List (Option ℕ) → FinMap pair_cmp WaitingAccess → Type 0
AreOwned owners members = (key : ℕ × ℕ) (waiter : WaitingAccess) → get members key ≡ Some waiter → IsSome (owner_at owners key.0)

-- the request of a slot that was looked up, and of a number
abbrev pub seen : FinMap pair_cmp WaitingAccess → Option ℕ → ℕ → Option WaitingAccess
seen members slot number = option_and_then (λ s. get members (s, number)) slot

pub some_is : {X : Type 0} (o : Option X) → IsSome o → (x : X) × (o ≡ Some x)
some_is None there = absurd (true≢false (sym there))
some_is (Some x) there = (x, refl)

pub none_or_some : {X : Type 0} (o : Option X) → (o ≡ None) ⊎ ((x : X) × (o ≡ Some x))
none_or_some None = inl refl
none_or_some (Some x) = inr (x, refl)

same_option : {X : Type 0} (o : Option X) → option_map (λ x. x) o ≡ o
same_option None = refl
same_option (Some x) = refl

pub owner_is : (owners : List (Option ℕ)) (slot session : ℕ) → owner_at owners slot ≡ Some session → owner_of owners slot ≡ session
owner_is owners slot session e = ap (λ o. unwrap_or o 0) e

pub by_session-empty : (owners : List (Option ℕ)) → by_session owners empty ≡ empty
by_session-empty owners = same_map pair_cmp_total pair_cmp-IsAntisymmetric _ _ (λ q.
    get-rekeyed_none pair_cmp_total pair_cmp_total (session_key owners) (λ waiter. waiter) empty q (λ x there. absurd (none_there x there))
    ∙ sym (get-empty pair_cmp q))
  where
    none_there : (x : ℕ × ℕ) → IsSome (get (empty {X = WaitingAccess} {R = pair_cmp}) x) → ⊥
    none_there x there = true≢false (sym there ∙ ap is_some (get-empty pair_cmp x))

module _ (occupants : FinMap nat_cmp Occupant) (owners : List (Option ℕ)) (agree : Agree occupants owners) where
  -- a slot has one session, and a session one slot
  pub one_slot : (a b session : ℕ) → owner_at owners a ≡ Some session → owner_at owners b ≡ Some session → a ≡ b
  one_slot a b session at_a at_b = some_same (sym ((agree session a).1 at_a) ∙ (agree session b).1 at_b)

  pub one_session : (slot a b : ℕ) → slot_in occupants a ≡ Some slot → slot_in occupants b ≡ Some slot → a ≡ b
  one_session slot a b in_a in_b = some_same (sym ((agree a slot).0 in_a) ∙ (agree b slot).0 in_b)

  module _ (members : FinMap pair_cmp WaitingAccess) (owned : AreOwned owners members) where
    owner_there : (x : ℕ × ℕ) → IsSome (get members x) → (session : ℕ) × (owner_at owners x.0 ≡ Some session)
    owner_there x there = let waiter = some_is (get members x) there in some_is (owner_at owners x.0) (owned x waiter.0 waiter.1)

    at_slot : (session slot number : ℕ) → slot_in occupants session ≡ Some slot → get (by_session owners members) (session, number) ≡ get members (slot, number)
    at_slot session slot number in_slot =
        get-rekeyed pair_cmp_total pair_cmp_total (session_key owners) (λ waiter. waiter) members (slot, number) (session, number)
        (λ x there. same_test pair_cmp_total pair_cmp-IsAntisymmetric pair_cmp-IsAntisymmetric (slot, number) x (session, number) (session_key owners x) (to x) (back x there) pair_cmp_total)
        ∙ same_option (get members (slot, number))
      where
        to : (x : ℕ × ℕ) → ◌≡◌ {A = ℕ × ℕ} (slot, number) x → ◌≡◌ {A = ℕ × ℕ} (session, number) (session_key owners x)
        to x e =
            let owner = owner_is owners slot session ((agree session slot).0 in_slot) in
            λ i. (sym (ap (λ (p : ℕ × ℕ). owner_of owners p.0) (sym e) ∙ owner) i, ap (λ (p : ℕ × ℕ). p.1) e i)

        back : (x : ℕ × ℕ) → IsSome (get members x) → ◌≡◌ {A = ℕ × ℕ} (session, number) (session_key owners x) → ◌≡◌ {A = ℕ × ℕ} (slot, number) x
        back x there e =
            let owner = owner_there x there in
            let same : session ≡ owner.0 = ap (λ (p : ℕ × ℕ). p.0) e ∙ owner_is owners x.0 owner.0 owner.1 in
            let slots = one_slot slot x.0 session ((agree session slot).0 in_slot) (owner.1 ∙ ap Some (sym same)) in
            λ i. (slots i, ap (λ (p : ℕ × ℕ). p.1) e i)

    at_none : (session number : ℕ) → slot_in occupants session ≡ None → get (by_session owners members) (session, number) ≡ None
    at_none session number none =
        get-rekeyed_none pair_cmp_total pair_cmp_total (session_key owners) (λ waiter. waiter) members (session, number)
        (λ x there. miss pair_cmp-IsAntisymmetric (session, number) (session_key owners x) (λ e.
        let owner = owner_there x there in
        let same : session ≡ owner.0 = ap (λ (p : ℕ × ℕ). p.0) e ∙ owner_is owners x.0 owner.0 owner.1 in
        none_some (sym none ∙ (agree session x.0).1 (owner.1 ∙ ap Some (sym same)))))

    -- what waits of a session is what waits in its slot
    pub get-by_session : (q : ℕ × ℕ) → get (by_session owners members) q ≡ seen members (slot_in occupants q.0) q.1
    get-by_session q =
        elim (none_or_some (slot_in occupants q.0)) as (λ _. get (by_session owners members) q ≡ seen members (slot_in occupants q.0) q.1) [
          | inl none ↦ at_none q.0 q.1 none ∙ ap (λ s. seen members s q.1) (sym none)
          | inr some ↦ at_slot q.0 some.0 q.1 some.1 ∙ ap (λ s. seen members s q.1) (sym some.1)
        ]

    pub get-in_slot : (session slot number : ℕ) → slot_in occupants session ≡ Some slot → get (by_session owners members) (session, number) ≡ get members (slot, number)
    get-in_slot session slot number in_slot = at_slot session slot number in_slot

    pub get-without_attachment : (session number : ℕ) → slot_in occupants session ≡ None → get (by_session owners members) (session, number) ≡ None
    get-without_attachment session number none = at_none session number none

    -- and what waits in a slot waits of its owner
    pub get-of_owner : (slot session number : ℕ) → owner_at owners slot ≡ Some session → get (by_session owners members) (session, number) ≡ get members (slot, number)
    get-of_owner slot session number owner = at_slot session slot number ((agree session slot).1 owner)

    pub len-by_session : len (by_session owners members) ≡ len members
    len-by_session = len-rekeyed pair_cmp_total pair_cmp_total (session_key owners) (λ waiter. waiter) members
        (λ a b there_a there_b. same_test pair_cmp_total pair_cmp-IsAntisymmetric pair_cmp-IsAntisymmetric a b (session_key owners a) (session_key owners b) (to a b) (back a b there_a there_b) pair_cmp_total)
      where
        to : (a b : ℕ × ℕ) → a ≡ b → session_key owners a ≡ session_key owners b
        to a b e = ap (session_key owners) e

        back : (a b : ℕ × ℕ) → IsSome (get members a) → IsSome (get members b) → session_key owners a ≡ session_key owners b → a ≡ b
        back a b there_a there_b e =
            let of_a = owner_there a there_a in
            let of_b = owner_there b there_b in
            let same : of_b.0 ≡ of_a.0 = sym (owner_is owners b.0 of_b.0 of_b.1) ∙ sym (ap (λ (p : ℕ × ℕ). p.0) e) ∙ owner_is owners a.0 of_a.0 of_a.1 in
            let slots = one_slot a.0 b.0 of_a.0 of_a.1 (of_b.1 ∙ ap Some same) in
            λ i. (slots i, ap (λ (p : ℕ × ℕ). p.1) e i)

    -- ---- where a request comes or goes

    -- another session or number is another slot or number
    apart : (session slot number : ℕ) → slot_in occupants session ≡ Some slot → (q : ℕ × ℕ) (t : ℕ) → slot_in occupants q.0 ≡ Some t → q ≢ (session, number) → ◌≢◌ {A = ℕ × ℕ} (t, q.1) (slot, number)
    apart session slot number in_slot q t in_t differ e =
        let same = one_session slot q.0 session (in_t ∙ ap Some (ap (λ (p : ℕ × ℕ). p.0) e)) in_slot in
        differ (λ i. (same i, ap (λ (p : ℕ × ℕ). p.1) e i))

  module _ (members members' : FinMap pair_cmp WaitingAccess) (owned : AreOwned owners members) (owned' : AreOwned owners members') (session slot number : ℕ) (in_slot : slot_in occupants session ≡ Some slot) where
    -- where just one key of the slots has changed, just that key of the sessions has
    pub get-changed_other : ((k : ℕ × ℕ) → k ≢ (slot, number) → get members' k ≡ get members k) → (q : ℕ × ℕ) → q ≢ (session, number) → get (by_session owners members') q ≡ get (by_session owners members) q
    get-changed_other others q differ =
        get-by_session members' owned' q
        ∙ elim (none_or_some (slot_in occupants q.0)) as (λ _. seen members' (slot_in occupants q.0) q.1 ≡ seen members (slot_in occupants q.0) q.1) [
          | inl none ↦ ap (λ s. seen members' s q.1) none ∙ sym (ap (λ s. seen members s q.1) none)
          | inr some ↦ ap (λ s. seen members' s q.1) some.1 ∙ others (some.0, q.1) (apart members owned session slot number in_slot q some.0 some.1 differ) ∙ sym (ap (λ s. seen members s q.1) some.1)
        ]
        ∙ sym (get-by_session members owned q)

  module _ (members : FinMap pair_cmp WaitingAccess) (owned : AreOwned owners members) (session slot number : ℕ) (in_slot : slot_in occupants session ≡ Some slot) where
    pub owned-insert : (waiter : WaitingAccess) → AreOwned owners (insert members (slot, number) waiter)
    owned-insert waiter key w e =
        elim (key_cases key (slot, number)) as (λ _. IsSome (owner_at owners key.0)) [
          | inl same ↦ ap (λ (k : ℕ × ℕ). is_some (owner_at owners k.0)) same ∙ ap is_some ((agree session slot).0 in_slot)
          | inr other ↦ owned key w (sym (get-insert_other members (slot, number) waiter key other) ∙ e)
        ]

    pub by_session-insert : (waiter : WaitingAccess) → by_session owners (insert members (slot, number) waiter) ≡ insert (by_session owners members) (session, number) waiter
    by_session-insert waiter = same_map pair_cmp_total pair_cmp-IsAntisymmetric _ _ (λ q.
        elim (key_cases q (session, number)) as (λ _. get (by_session owners (insert members (slot, number) waiter)) q ≡ get (insert (by_session owners members) (session, number) waiter) q) [
          | inl same ↦
              ap (get (by_session owners (insert members (slot, number) waiter))) same
              ∙ get-in_slot (insert members (slot, number) waiter) (owned-insert waiter) session slot number in_slot
              ∙ get-insert_here members (slot, number) waiter
              ∙ sym (get-insert_here (by_session owners members) (session, number) waiter)
              ∙ ap (get (insert (by_session owners members) (session, number) waiter)) (sym same)
          | inr other ↦
              get-changed_other members (insert members (slot, number) waiter) owned (owned-insert waiter) session slot number in_slot (λ k n. get-insert_other members (slot, number) waiter k n) q other
              ∙ sym (get-insert_other (by_session owners members) (session, number) waiter q other)
        ])

  module _ (members : FinMap pair_cmp WaitingAccess) (owned : AreOwned owners members) where
    pub owned-remove : (k : ℕ × ℕ) → AreOwned owners (remove members k)
    owned-remove k key w e =
        elim (key_cases key k) as (λ _. IsSome (owner_at owners key.0)) [
          | inl same ↦ none_some (sym (ap (get (remove members k)) same ∙ get-remove_here members k) ∙ e)
          | inr other ↦ owned key w (sym (get-remove_other members k key other) ∙ e)
        ]

    pub by_session-remove : (session slot number : ℕ) → slot_in occupants session ≡ Some slot → by_session owners (remove members (slot, number)) ≡ remove (by_session owners members) (session, number)
    by_session-remove session slot number in_slot = same_map pair_cmp_total pair_cmp-IsAntisymmetric _ _ (λ q.
        elim (key_cases q (session, number)) as (λ _. get (by_session owners (remove members (slot, number))) q ≡ get (remove (by_session owners members) (session, number)) q) [
          | inl same ↦
              ap (get (by_session owners (remove members (slot, number)))) same
              ∙ get-in_slot (remove members (slot, number)) (owned-remove (slot, number)) session slot number in_slot
              ∙ get-remove_here members (slot, number)
              ∙ sym (get-remove_here (by_session owners members) (session, number))
              ∙ ap (get (remove (by_session owners members) (session, number))) (sym same)
          | inr other ↦
              get-changed_other members (remove members (slot, number)) owned (owned-remove (slot, number)) session slot number in_slot (λ k n. get-remove_other members (slot, number) k n) q other
              ∙ sym (get-remove_other (by_session owners members) (session, number) q other)
        ])

    -- ---- the requests of one, and of the others

    kept_test : (f : Bool → Bool) (own : ℕ) (q x : ℕ × ℕ) → pair_cmp q x ≡ Equal → f (x.0 == own) ≡ f (q.0 == own)
    kept_test f own q x t = ap (λ (p : ℕ × ℕ). f (p.0 == own)) (sym (pair_cmp-IsAntisymmetric q x t))

    get-kept : (m : FinMap pair_cmp WaitingAccess) (f : Bool → Bool) (own : ℕ) (q : ℕ × ℕ) → get (retain_keys m (λ key. f (key.0 == own))) q ≡ cond (f (q.0 == own)) (get m q) None
    get-kept m f own q = get-retain_keys m (λ key. f (key.0 == own)) q (λ x t. kept_test f own q x t)

    kept_some : (b : Bool) (o : Option WaitingAccess) (w : WaitingAccess) → cond b o None ≡ Some w → o ≡ Some w
    kept_some true o w e = e
    kept_some false o w e = none_some e

    pub owned-kept : (f : Bool → Bool) (slot : ℕ) → AreOwned owners (retain_keys members (λ key. f (key.0 == slot)))
    owned-kept f slot key w e = owned key w (kept_some (f (key.0 == slot)) (get members key) w (sym (get-kept members f slot key) ∙ e))

    none_kept : (b : Bool) → ◌≡◌ {A = Option WaitingAccess} None (cond b None None)
    none_kept true = refl
    none_kept false = refl

    -- whether slots are the same, and whether their sessions are
    same_slots : (session slot : ℕ) → slot_in occupants session ≡ Some slot → (s t : ℕ) → slot_in occupants s ≡ Some t → (t == slot) ≡ (s == session)
    same_slots session slot in_slot s t in_t =
        elim (cases_eq s session) as (λ _. (t == slot) ≡ (s == session)) [
          | inl same ↦ eq-eqb t slot (some_same (sym in_t ∙ ap (slot_in occupants) same ∙ in_slot)) ∙ sym (eq-eqb s session same)
          | inr other ↦ ne_eqb t slot (λ e. other (one_session slot s session (in_t ∙ ap Some e) in_slot)) ∙ sym (ne_eqb s session other)
        ]

    pub by_session-kept : (f : Bool → Bool) (session slot : ℕ) → slot_in occupants session ≡ Some slot → by_session owners (retain_keys members (λ key. f (key.0 == slot))) ≡ retain_keys (by_session owners members) (λ key. f (key.0 == session))
    by_session-kept f session slot in_slot = same_map pair_cmp_total pair_cmp-IsAntisymmetric _ _ (λ q.
        get-by_session (retain_keys members (λ key. f (key.0 == slot))) (owned-kept f slot) q
        ∙ elim (none_or_some (slot_in occupants q.0)) as (λ _. seen (retain_keys members (λ key. f (key.0 == slot))) (slot_in occupants q.0) q.1 ≡ cond (f (q.0 == session)) (seen members (slot_in occupants q.0) q.1) None) [
          | inl none ↦
              ap (λ s. seen (retain_keys members (λ key. f (key.0 == slot))) s q.1) none
              ∙ none_kept (f (q.0 == session))
              ∙ sym (ap (λ s. cond (f (q.0 == session)) (seen members s q.1) None) none)
          | inr some ↦
              ap (λ s. seen (retain_keys members (λ key. f (key.0 == slot))) s q.1) some.1
              ∙ get-kept members f slot (some.0, q.1)
              ∙ ap (λ b. cond (f b) (get members (some.0, q.1)) None) (same_slots session slot in_slot q.0 some.0 some.1)
              ∙ sym (ap (λ s. cond (f (q.0 == session)) (seen members s q.1) None) some.1)
        ]
        ∙ ap (λ o. cond (f (q.0 == session)) o None) (sym (get-by_session members owned q))
        ∙ sym (get-kept (by_session owners members) f session q))
