-- What is always true of the attachments, where a session begins or leaves, and where a request comes or goes.
use Rattle.std.proofs.Common.{◌≡◌, ◌≢◌, ℕ, zero, suc, ◌<◌, ◌≤◌, ◌+◌, ◌⊎◌, inl, inr, List, [], ◌∷◌, ◌++◌, length, replicate, set, slice_get, Option, Some, None, IsSome, is_some, refl, sym, ap, ◌∙◌, arith, add-one, length-append}
use Rattle.std.specs.Option.{option_map}
use Rattle.std.specs.Ordering.{nat_cmp}
use Rattle.std.specs.FinMap.{FinMap, empty, get, insert, remove, len, same_map, empty_of_len, get-empty, len-empty}
use Rattle.std.proofs.lemmas.Bool.{cases_eq}
use Rattle.std.proofs.lemmas.List.{get_or-set_same, get_or-set_other}
use Rattle.std.proofs.Math.ListN.{length-set}
use Rattle.fe_waits.specs.Waiting.{pair_cmp, pair_cmp_total, pair_cmp-IsAntisymmetric, Waiting}
use Rattle.fe_waits.proofs.MemberLemmas.{none_some, some_same}
use Rattle.fe_service.specs.declared.occupant.Occupant.{Occupant}
use Rattle.fe_service.specs.AttachmentsState.{NoneOfSession}
use Rattle.fe_service.specs.within.Slots.{owner_at, slot_in, by_session, slots_below, AreFree, AreAttachments}
use Rattle.fe_service.proofs.OwnerLemmas.{Agree, AreOwned, seen, some_is, none_or_some, get-by_session, get-of_owner}
use Rattle.fe_service.proofs.AttachmentLemmas.{no_slot, slot-insert_here, slot-insert_other, slot-remove_here, slot-remove_other, len-insert_new, len-insert_old, len-remove_old}

-- ---- lists

slice_get-front : {A : Type 0} (xs ys : List A) (i : ℕ) (x : A) → slice_get xs i ≡ Some x → slice_get (xs ++ ys) i ≡ Some x
slice_get-front [] ys i x e = none_some e
slice_get-front (y ∷ xs) ys zero x e = e
slice_get-front (y ∷ xs) ys (suc i) x e = slice_get-front xs ys i x e

slice_get-end : {A : Type 0} (xs : List A) (x : A) → slice_get (xs ++ x ∷ []) (length xs) ≡ Some x
slice_get-end [] x = refl
slice_get-end (y ∷ xs) x = slice_get-end xs x

within : {A : Type 0} (xs : List A) (i : ℕ) (x : A) → slice_get xs i ≡ Some x → i < length xs
within [] i x e = none_some e
within (y ∷ xs) zero x e = omega arith
within (y ∷ xs) (suc i) x e = let rest = within xs i x e in omega arith

-- what is on a list with one more
pushed_cases : {A : Type 0} (xs : List A) (x : A) (i : ℕ) (y : A) → slice_get (xs ++ x ∷ []) i ≡ Some y → (slice_get xs i ≡ Some y) ⊎ ((i ≡ length xs) × (x ≡ y))
pushed_cases [] x zero y e = inr (refl, some_same e)
pushed_cases [] x (suc i) y e = none_some e
pushed_cases (z ∷ xs) x zero y e = inl e
pushed_cases (z ∷ xs) x (suc i) y e =
    elim (pushed_cases xs x i y e) as (λ _. (slice_get xs i ≡ Some y) ⊎ ((suc i ≡ length (z ∷ xs)) × (x ≡ y))) [
      | inl before ↦ inl before
      | inr last ↦ inr (ap suc last.0, last.1)
    ]

-- ---- the slots below a number

length-slots_below : (n : ℕ) → length (slots_below n) ≡ n
unfolding slots_below
length-slots_below zero = refl
length-slots_below (suc n) = let rest = length-slots_below n in length-append (slots_below n) (n ∷ []) ∙ omega arith

-- each is at its own index
slot-at : (n i slot : ℕ) → slice_get (slots_below n) i ≡ Some slot → (i ≡ slot) × (slot < n)
unfolding slots_below
slot-at zero i slot e = none_some e
slot-at (suc n) i slot e =
    elim (pushed_cases (slots_below n) n i slot e) as (λ _. (i ≡ slot) × (slot < suc n)) [
      | inl before ↦ let rest = slot-at n i slot before in (rest.0, omega (arith, rest.1))
      | inr last ↦ (last.0 ∙ length-slots_below n ∙ last.1, omega (arith, last.1))
    ]

pub slots_below-zero : [] ≡ slots_below 0
unfolding slots_below
slots_below-zero = refl

pub slots_below-more : (n : ℕ) → slots_below n ++ n ∷ [] ≡ slots_below (n + 1)
unfolding slots_below
slots_below-more n = ap slots_below (sym (add-one n))

-- ---- owners

no_owner : (n slot : ℕ) → owner_at (replicate n None) slot ≡ None
no_owner zero slot = refl
no_owner (suc n) zero = refl
no_owner (suc n) (suc slot) = no_owner n slot

pub owner-below : (owners : List (Option ℕ)) (slot session : ℕ) → owner_at owners slot ≡ Some session → slot < length owners
owner-below [] slot session e = none_some e
owner-below (o ∷ owners) zero session e = omega arith
owner-below (o ∷ owners) (suc slot) session e = let rest = owner-below owners slot session e in omega arith

owner-set_here : (owners : List (Option ℕ)) (slot : ℕ) (o : Option ℕ) → slot < length owners → owner_at (set owners slot o) slot ≡ o
owner-set_here owners slot o below = get_or-set_same owners slot o None below

owner-set_other : (owners : List (Option ℕ)) (slot t : ℕ) (o : Option ℕ) → t ≢ slot → owner_at (set owners slot o) t ≡ owner_at owners t
owner-set_other owners slot t o other = get_or-set_other owners slot t o None other

-- ---- nobody sits, and nothing waits

pub kept-new : (waits : Waiting) (occupants : FinMap nat_cmp Occupant) (owners : List (Option ℕ)) (slots : List ℕ) (capacity : ℕ) → waits.members ≡ empty → occupants ≡ empty → owners ≡ replicate 64 None → slots ≡ slots_below 64 → 64 ≤ capacity → AreAttachments waits occupants owners slots capacity
kept-new waits occupants owners slots capacity no_members no_occupants no_owners all reserved = record {
  sized = ap length no_owners;
  agree = λ session slot. (
    λ e. none_some (sym (ap (λ m. slot_in m session) no_occupants ∙ no_slot empty session (get-empty nat_cmp session)) ∙ e),
    λ e. none_some (sym (unowned slot) ∙ e),
  );
  free = record {
    below = λ i slot e. (at i slot e).1;
    vacant = λ i slot e. unowned slot;
    once = λ i j slot e f. (at i slot e).0 ∙ sym (at j slot f).0;
  };
  counted = let long = ap length all ∙ length-slots_below 64 in let none = ap len no_occupants ∙ len-empty nat_cmp Occupant in omega arith;
  reserved = reserved;
  owned = λ key waiter e. none_some (sym (ap (λ m. get m key) no_members ∙ get-empty pair_cmp key) ∙ e);
}
  where
    unowned : (slot : ℕ) → owner_at owners slot ≡ None
    unowned slot = ap (λ l. owner_at l slot) no_owners ∙ no_owner 64 slot

    at : (i slot : ℕ) → slice_get slots i ≡ Some slot → (i ≡ slot) × (slot < 64)
    at i slot e = slot-at 64 i slot (ap (λ l. slice_get l i) (sym all) ∙ e)

module _ (waits : Waiting) (occupants : FinMap nat_cmp Occupant) (owners : List (Option ℕ)) (slots : List ℕ) (capacity : ℕ) (kept : AreAttachments waits occupants owners slots capacity) where
  pub slot-below : (session slot : ℕ) → slot_in occupants session ≡ Some slot → slot < 64
  slot-below session slot in_slot = let below = owner-below owners slot session ((kept.agree session slot).0 in_slot) in omega (arith, kept.sized)

  -- other requests, which wait in slots that have an owner
  pub kept-waits : (waits' : Waiting) → AreOwned owners waits'.members → AreAttachments waits' occupants owners slots capacity
  kept-waits waits' owned = record { sized = kept.sized; agree = kept.agree; free = kept.free; counted = kept.counted; reserved = kept.reserved; owned = owned }

  -- ---- another attachment of an occupant

  module _ (session : ℕ) (old new : Occupant) (there : get occupants session ≡ Some old) (same_slot : new.slot ≡ old.slot) where
    slots_same : (q : ℕ) → slot_in (insert occupants session new) q ≡ slot_in occupants q
    slots_same q =
        elim (cases_eq q session) as (λ _. slot_in (insert occupants session new) q ≡ slot_in occupants q) [
          | inl same ↦
              ap (slot_in (insert occupants session new)) same ∙ slot-insert_here occupants session new ∙ ap Some same_slot
              ∙ sym (ap (slot_in occupants) same ∙ ap (option_map (λ (occupant : Occupant). occupant.slot)) there)
          | inr other ↦ slot-insert_other occupants session new q other
        ]

    pub kept-with_others : AreAttachments waits (insert occupants session new) owners slots capacity
    kept-with_others = record {
      sized = kept.sized;
      agree = λ s t. (λ e. (kept.agree s t).0 (sym (slots_same s) ∙ e), λ e. slots_same s ∙ (kept.agree s t).1 e);
      free = kept.free;
      counted = let same = len-insert_old occupants session new old there in omega (arith, kept.counted);
      reserved = kept.reserved;
      owned = kept.owned;
    }

  -- ---- a session sits down, in the slot that was free last

  module _ (session slot : ℕ) (rest : List ℕ) (occupant : Occupant) (new : get occupants session ≡ None) (popped : slots ≡ rest ++ slot ∷ []) (in_slot : occupant.slot ≡ slot) where
    last_free : slice_get slots (length rest) ≡ Some slot
    last_free = ap (λ l. slice_get l (length rest)) popped ∙ slice_get-end rest slot

    was_free : (i t : ℕ) → slice_get rest i ≡ Some t → slice_get slots i ≡ Some t
    was_free i t e = ap (λ l. slice_get l i) popped ∙ slice_get-front rest (slot ∷ []) i t e

    pub begin_session-vacant : owner_at owners slot ≡ None
    begin_session-vacant = kept.free.vacant (length rest) slot last_free

    pub begin_session-below : slot < length owners
    begin_session-below = let below = kept.free.below (length rest) slot last_free in omega (arith, kept.sized)

    -- the slot is not on the list any more
    not_again : (i t : ℕ) → slice_get rest i ≡ Some t → t ≢ slot
    not_again i t e same =
        let index_of = kept.free.once i (length rest) slot (was_free i t e ∙ ap Some same) last_free in
        let before = within rest i t e in
        absurd (omega arith)

    sit_free : AreFree (set owners slot (Some session)) rest
    sit_free = record {
      below = λ i t e. kept.free.below i t (was_free i t e);
      vacant = λ i t e. owner-set_other owners slot t (Some session) (not_again i t e) ∙ kept.free.vacant i t (was_free i t e);
      once = λ i j t e f. kept.free.once i j t (was_free i t e) (was_free j t f);
    }

    sit_there : (s t : ℕ) → slot_in (insert occupants session occupant) s ≡ Some t → owner_at (set owners slot (Some session)) t ≡ Some s
    sit_there s t e =
        elim (cases_eq s session) as (λ _. owner_at (set owners slot (Some session)) t ≡ Some s) [
          | inl same ↦
              let is : slot ≡ t = some_same (sym (ap Some in_slot) ∙ sym (slot-insert_here occupants session occupant) ∙ ap (slot_in (insert occupants session occupant)) (sym same) ∙ e) in
              ap (owner_at (set owners slot (Some session))) (sym is) ∙ owner-set_here owners slot (Some session) begin_session-below ∙ ap Some (sym same)
          | inr other ↦
              let was = (kept.agree s t).0 (sym (slot-insert_other occupants session occupant s other) ∙ e) in
              owner-set_other owners slot t (Some session) (λ is. none_some (sym begin_session-vacant ∙ ap (owner_at owners) (sym is) ∙ was)) ∙ was
        ]

    sit_back : (s t : ℕ) → owner_at (set owners slot (Some session)) t ≡ Some s → slot_in (insert occupants session occupant) s ≡ Some t
    sit_back s t e =
        elim (cases_eq t slot) as (λ _. slot_in (insert occupants session occupant) s ≡ Some t) [
          | inl same ↦
              let is : session ≡ s = some_same (sym (owner-set_here owners slot (Some session) begin_session-below) ∙ ap (owner_at (set owners slot (Some session))) (sym same) ∙ e) in
              ap (slot_in (insert occupants session occupant)) (sym is) ∙ slot-insert_here occupants session occupant ∙ ap Some (in_slot ∙ sym same)
          | inr other ↦
              let was = (kept.agree s t).1 (sym (owner-set_other owners slot t (Some session) other) ∙ e) in
              slot-insert_other occupants session occupant s (λ is. none_some (sym (no_slot occupants session new) ∙ ap (slot_in occupants) (sym is) ∙ was)) ∙ was
        ]

    sit_agree : Agree (insert occupants session occupant) (set owners slot (Some session))
    sit_agree s t = (sit_there s t, sit_back s t)

    sit_owned : AreOwned (set owners slot (Some session)) waits.members
    sit_owned key waiter e =
        elim (cases_eq key.0 slot) as (λ _. IsSome (owner_at (set owners slot (Some session)) key.0)) [
          | inl same ↦ ap is_some (ap (owner_at (set owners slot (Some session))) same ∙ owner-set_here owners slot (Some session) begin_session-below)
          | inr other ↦ ap is_some (owner-set_other owners slot key.0 (Some session) other) ∙ kept.owned key waiter e
        ]

    pub kept-begin_session : AreAttachments waits (insert occupants session occupant) (set owners slot (Some session)) rest capacity
    kept-begin_session = record {
      sized = length-set owners slot (Some session) ∙ kept.sized;
      agree = sit_agree;
      free = sit_free;
      counted =
          let more = len-insert_new occupants session occupant new in
          let long = ap length popped ∙ length-append rest (slot ∷ []) in
          omega (arith, kept.counted);
      reserved = kept.reserved;
      owned = sit_owned;
    }

    -- nothing waits in a slot that nobody had
    none_in : (number : ℕ) → get waits.members (slot, number) ≡ None
    none_in number =
        elim (none_or_some (get waits.members (slot, number))) as (λ _. get waits.members (slot, number) ≡ None) [
          | inl none ↦ none
          | inr some ↦ let owner = some_is _ (kept.owned (slot, number) some.0 some.1) in none_some (sym begin_session-vacant ∙ owner.1)
        ]

    pub waiting-begin_session : by_session (set owners slot (Some session)) waits.members ≡ by_session owners waits.members
    waiting-begin_session = same_map pair_cmp_total pair_cmp-IsAntisymmetric _ _ (λ q.
        get-by_session (insert occupants session occupant) (set owners slot (Some session)) sit_agree waits.members sit_owned q
        ∙ elim (cases_eq q.0 session) as (λ _. seen waits.members (slot_in (insert occupants session occupant) q.0) q.1 ≡ seen waits.members (slot_in occupants q.0) q.1) [
          | inl same ↦
              ap (λ o. seen waits.members o q.1) (ap (slot_in (insert occupants session occupant)) same ∙ slot-insert_here occupants session occupant ∙ ap Some in_slot)
              ∙ none_in q.1
              ∙ sym (ap (λ o. seen waits.members o q.1) (ap (slot_in occupants) same ∙ no_slot occupants session new))
          | inr other ↦ ap (λ o. seen waits.members o q.1) (slot-insert_other occupants session occupant q.0 other)
        ]
        ∙ sym (get-by_session occupants owners kept.agree waits.members kept.owned q))

  -- ---- a session with no waiting request leaves

  module _ (session : ℕ) (occupant : Occupant) (there : get occupants session ≡ Some occupant) (idle : NoneOfSession (by_session owners waits.members) session) where
    own_slot : slot_in occupants session ≡ Some occupant.slot
    own_slot = ap (option_map (λ (p : Occupant). p.slot)) there

    own : owner_at owners occupant.slot ≡ Some session
    own = (kept.agree session occupant.slot).0 own_slot

    pub leave-below : occupant.slot < length owners
    leave-below = owner-below owners occupant.slot session own

    leave_some : 0 < len occupants
    leave_some =
        elim (cases_eq (len occupants) 0) as (λ _. 0 < len occupants) [
          | inl none ↦ none_some (sym (ap (λ m. get m session) (empty_of_len occupants none) ∙ get-empty nat_cmp session) ∙ there)
          | inr more ↦ omega arith
        ]

    -- there is memory for one more free slot
    pub leave-room : length slots < capacity
    leave-room = let some = leave_some in omega (arith, kept.counted, kept.reserved)

    -- the slot was not on the list
    not_free : (i : ℕ) → slice_get slots i ≡ Some occupant.slot → ⊥
    not_free i e = none_some (sym (kept.free.vacant i occupant.slot e) ∙ own)

    leave_vacant : (t : ℕ) → owner_at owners t ≡ None → owner_at (set owners occupant.slot None) t ≡ None
    leave_vacant t none =
        elim (cases_eq t occupant.slot) as (λ _. owner_at (set owners occupant.slot None) t ≡ None) [
          | inl same ↦ ap (owner_at (set owners occupant.slot None)) same ∙ owner-set_here owners occupant.slot None leave-below
          | inr other ↦ owner-set_other owners occupant.slot t None other ∙ none
        ]

    leave_free : AreFree (set owners occupant.slot None) (slots ++ occupant.slot ∷ [])
    leave_free = record {
      below = λ i t e. elim (pushed_cases slots occupant.slot i t e) as (λ _. t < 64) [
        | inl before ↦ kept.free.below i t before
        | inr last ↦ let fits = leave-below in omega (arith, kept.sized, last.1)
      ];
      vacant = λ i t e. elim (pushed_cases slots occupant.slot i t e) as (λ _. owner_at (set owners occupant.slot None) t ≡ None) [
        | inl before ↦ leave_vacant t (kept.free.vacant i t before)
        | inr last ↦ ap (owner_at (set owners occupant.slot None)) (sym last.1) ∙ owner-set_here owners occupant.slot None leave-below
      ];
      once = λ i j t e f. elim (pushed_cases slots occupant.slot i t e) as (λ _. i ≡ j) [
        | inl before ↦ elim (pushed_cases slots occupant.slot j t f) as (λ _. i ≡ j) [
          | inl other ↦ kept.free.once i j t before other
          | inr last ↦ absurd (not_free i (before ∙ ap Some (sym last.1)))
        ]
        | inr last ↦ elim (pushed_cases slots occupant.slot j t f) as (λ _. i ≡ j) [
          | inl other ↦ absurd (not_free j (other ∙ ap Some (sym last.1)))
          | inr also ↦ last.0 ∙ sym also.0
        ]
      ];
    }

    leave_there : (s t : ℕ) → slot_in (remove occupants session) s ≡ Some t → owner_at (set owners occupant.slot None) t ≡ Some s
    leave_there s t e =
        elim (cases_eq s session) as (λ _. owner_at (set owners occupant.slot None) t ≡ Some s) [
          | inl same ↦ none_some (sym (ap (slot_in (remove occupants session)) same ∙ slot-remove_here occupants session) ∙ e)
          | inr other ↦
              let was = (kept.agree s t).0 (sym (slot-remove_other occupants session s other) ∙ e) in
              owner-set_other owners occupant.slot t None (λ is. other (some_same (sym was ∙ ap (owner_at owners) is ∙ own))) ∙ was
        ]

    leave_back : (s t : ℕ) → owner_at (set owners occupant.slot None) t ≡ Some s → slot_in (remove occupants session) s ≡ Some t
    leave_back s t e =
        elim (cases_eq t occupant.slot) as (λ _. slot_in (remove occupants session) s ≡ Some t) [
          | inl same ↦ none_some (sym (ap (owner_at (set owners occupant.slot None)) same ∙ owner-set_here owners occupant.slot None leave-below) ∙ e)
          | inr other ↦
              let was = (kept.agree s t).1 (sym (owner-set_other owners occupant.slot t None other) ∙ e) in
              slot-remove_other occupants session s (λ is. other (some_same (sym was ∙ ap (slot_in occupants) is ∙ own_slot))) ∙ was
        ]

    leave_agree : Agree (remove occupants session) (set owners occupant.slot None)
    leave_agree s t = (leave_there s t, leave_back s t)

    leave_owned : AreOwned (set owners occupant.slot None) waits.members
    leave_owned key waiter e =
        elim (cases_eq key.0 occupant.slot) as (λ _. IsSome (owner_at (set owners occupant.slot None) key.0)) [
          | inl same ↦
              none_some (sym (idle key.1) ∙ get-of_owner occupants owners kept.agree waits.members kept.owned key.0 session key.1 (ap (owner_at owners) same ∙ own) ∙ e)
          | inr other ↦ ap is_some (owner-set_other owners occupant.slot key.0 None other) ∙ kept.owned key waiter e
        ]

    pub kept-leave : (capacity' : ℕ) → 64 ≤ capacity' → AreAttachments waits (remove occupants session) (set owners occupant.slot None) (slots ++ occupant.slot ∷ []) capacity'
    kept-leave capacity' reserved = record {
      sized = length-set owners occupant.slot None ∙ kept.sized;
      agree = leave_agree;
      free = leave_free;
      counted =
          let fewer = len-remove_old occupants session occupant there in
          let some = leave_some in
          let long = length-append slots (occupant.slot ∷ []) in
          omega (arith, kept.counted);
      reserved = reserved;
      owned = leave_owned;
    }

    pub waiting-leave : by_session (set owners occupant.slot None) waits.members ≡ by_session owners waits.members
    waiting-leave = same_map pair_cmp_total pair_cmp-IsAntisymmetric _ _ (λ q.
        get-by_session (remove occupants session) (set owners occupant.slot None) leave_agree waits.members leave_owned q
        ∙ elim (cases_eq q.0 session) as (λ _. seen waits.members (slot_in (remove occupants session) q.0) q.1 ≡ get (by_session owners waits.members) q) [
          | inl same ↦
              ap (λ o. seen waits.members o q.1) (ap (slot_in (remove occupants session)) same ∙ slot-remove_here occupants session)
              ∙ sym (idle q.1)
              ∙ ap (λ s. get (by_session owners waits.members) (s, q.1)) (sym same)
          | inr other ↦
              ap (λ o. seen waits.members o q.1) (slot-remove_other occupants session q.0 other)
              ∙ sym (get-by_session occupants owners kept.agree waits.members kept.owned q)
        ])
