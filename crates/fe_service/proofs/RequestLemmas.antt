-- The requests that a call lists, and how many they are, by session against by slot.
use Rattle.std.proofs.Common.{◌≡◌, ℕ, ◌≤◌, inl, inr, not, List, [], ◌∷◌, Option, Some, None, IsSome, is_some, refl, sym, ap, subst, ◌∙◌, arith, zero, suc}
use Rattle.std.specs.Prelude.{Contains, ◌<◌}
use Rattle.fe_words.specs.declared.op.Op.{Op}
use Rattle.std.specs.Option.{option_map}
use Rattle.std.specs.Ordering.{nat_cmp}
use Rattle.std.specs.FinMap.{FinMap, empty, get, remove, len, len-empty}
use Rattle.fe_waits.specs.declared.row.Row.{Row}
use Rattle.fe_waits.specs.Waiting.{pair_cmp, WaitingAccess, Waiting, IsOn, NoneOnWord, NoneOnArray, row_at, row_of, of_slot, without_slot, access_fields, AreWaitingRequestsOf}
use Rattle.fe_waits.specs.Waiting as waits
use Rattle.fe_waits.proofs.MemberLemmas.{none_some, some_same, of_slot-none, without-none}
use Rattle.fe_service.specs.declared.occupant.Occupant.{Occupant}
use Rattle.fe_service.specs.declared.waiting_request.WaitingRequest.{WaitingRequest}
use Rattle.fe_service.specs.AttachmentsState.{key_of, waiting_access_of, request_of_node, waiting_request_at, count_of, without_session, IsRequestOn, IsWithinLimits}
use Rattle.fe_service.specs.within.Slots.{owner_at, owner_of, slot_in, by_session, attachments_state_of, request_from, requests_from, AreAttachments}
use Rattle.fe_service.proofs.OwnerLemmas.{Agree, AreOwned, some_is, none_or_some, owner_is, get-in_slot, get-without_attachment, get-of_owner, len-by_session, owned-kept, by_session-kept, by_session-remove}
use Rattle.fe_service.proofs.AttachmentLemmas.{len-attachments, occupant_is_attached}

-- the request of a row, for a session
abbrev pub request_for : ℕ → Row → WaitingRequest
request_for session row = record { session = session; number = row.number; array = row.array; index = row.index; op = row.op }

-- there is a row where a request waits
pub waits-row : (members : FinMap pair_cmp WaitingAccess) (slot number : ℕ) → is_some {T = Row} (row_at members slot number) ≡ is_some {T = WaitingAccess} (get members (slot, number))
waits-row members slot number = by_waiter (get members (slot, number))
  where
    by_waiter : (waiter : Option WaitingAccess) → is_some {T = Row} (option_map (λ waiter. record { slot = slot; number = number; array = waiter.array; index = waiter.index; op = waiter.op }) waiter) ≡ is_some {T = WaitingAccess} waiter
    by_waiter None = refl
    by_waiter (Some waiter) = refl

module _ (occupants : FinMap nat_cmp Occupant) (owners : List (Option ℕ)) (agree : Agree occupants owners) (members : FinMap pair_cmp WaitingAccess) (owned : AreOwned owners members) where
  pub waiting_request-without_attachment : (session number : ℕ) → slot_in occupants session ≡ None → waiting_request_at (by_session owners members) session number ≡ None
  waiting_request-without_attachment session number none =
      ap (option_map (λ waiter. record { session = session; number = number; array = waiter.array; index = waiter.index; op = waiter.op })) (get-without_attachment occupants owners agree members owned session number none)

  module _ (session slot number : ℕ) (in_slot : slot_in occupants session ≡ Some slot) where
    waiting_request_row : (o : Option WaitingAccess) → option_map (λ waiter. request_for session (record { slot = slot; number = number; array = waiter.array; index = waiter.index; op = waiter.op })) o ≡ option_map (request_for session) (option_map (λ waiter. record { slot = slot; number = number; array = waiter.array; index = waiter.index; op = waiter.op }) o)
    waiting_request_row None = refl
    waiting_request_row (Some waiter) = refl

    pub waiting_request-in_slot : waiting_request_at (by_session owners members) session number ≡ option_map (request_for session) (row_at members slot number)
    waiting_request-in_slot =
        ap (option_map (λ waiter. record { session = session; number = number; array = waiter.array; index = waiter.index; op = waiter.op })) (get-in_slot occupants owners agree members owned session slot number in_slot)
        ∙ waiting_request_row (get members (slot, number))

    pub waiting_request-none : row_at members slot number ≡ None → waiting_request_at (by_session owners members) session number ≡ None
    waiting_request-none none = waiting_request-in_slot ∙ ap (option_map (request_for session)) none

    pub waiting_request-some : (row : Row) → row_at members slot number ≡ Some row → waiting_request_at (by_session owners members) session number ≡ Some (request_for session row)
    waiting_request-some row some = waiting_request-in_slot ∙ ap (option_map (request_for session)) some

  -- what is reported of the requests of a session
  pub waiting_requests-in_slot : (session slot : ℕ) (waiting_requests : List (ℕ × (ℕ × ℕ × Op))) → slot_in occupants session ≡ Some slot → AreWaitingRequestsOf members slot waiting_requests → AreWaitingRequestsOf (by_session owners members) session waiting_requests
  waiting_requests-in_slot session slot waiting_requests in_slot all = λ number what.
      let same = get-in_slot occupants owners agree members owned session slot number in_slot in
      (λ c. ap (option_map access_fields) same ∙ (all number what).0 c, λ e. (all number what).1 (sym (ap (option_map access_fields) same) ∙ e))

  pub waiting_requests-without_attachment : (session : ℕ) (waiting_requests : List (ℕ × (ℕ × ℕ × Op))) → slot_in occupants session ≡ None → waiting_requests ≡ [] → AreWaitingRequestsOf (by_session owners members) session waiting_requests
  waiting_requests-without_attachment session waiting_requests none nothing = λ number what.
      let same = get-without_attachment occupants owners agree members owned session number none in
      (λ c. none_listed number what (subst (λ l. Contains {X = ℕ × (ℕ × ℕ × Op)} l (number, what)) nothing c), λ e. none_some (sym (ap (option_map access_fields) same) ∙ e))
    where
      none_listed : {A : Type 0} (number : ℕ) (what : ℕ × ℕ × Op) → Contains {X = ℕ × (ℕ × ℕ × Op)} [] (number, what) → A
      none_listed number what c = let below : c.0 < 0 = c.1 in absurd (omega (arith, below))

  -- how many wait of a session
  pub count-in_slot : (session slot : ℕ) → slot_in occupants session ≡ Some slot → count_of (by_session owners members) session ≡ waits.count_of members slot
  count-in_slot session slot in_slot =
      ap len (sym (by_session-kept occupants owners agree members owned (λ b. b) session slot in_slot))
      ∙ len-by_session occupants owners agree (of_slot members slot) (owned-kept occupants owners agree members owned (λ b. b) slot)

  none_of : (session : ℕ) → slot_in occupants session ≡ None → of_slot (by_session owners members) session ≡ empty
  none_of session none = of_slot-none (by_session owners members) session (λ number waiter e. some_none (sym (get-without_attachment occupants owners agree members owned session number none) ∙ e))
    where
      some_none : {waiter : WaitingAccess} → None ≡ Some waiter → ⊥
      some_none e = cc

  pub count-without_attachment : (session : ℕ) → slot_in occupants session ≡ None → count_of (by_session owners members) session ≡ 0
  count-without_attachment session none = ap len (none_of session none) ∙ len-empty pair_cmp WaitingAccess

  pub without-without_attachment : (session : ℕ) → slot_in occupants session ≡ None → without_session (by_session owners members) session ≡ by_session owners members
  without-without_attachment session none = without-none (by_session owners members) session (none_of session none)

  pub without-in_slot : (session slot : ℕ) → slot_in occupants session ≡ Some slot → by_session owners (without_slot members slot) ≡ without_session (by_session owners members) session
  without-in_slot session slot in_slot = by_session-kept occupants owners agree members owned (λ b. not b) session slot in_slot

  -- each request by session is one by slot, and the other way round
  pub by_slot : (key : ℕ × ℕ) (waiter : WaitingAccess) → get (by_session owners members) key ≡ Some waiter → (slot : ℕ) × (slot_in occupants key.0 ≡ Some slot) × (get members (slot, key.1) ≡ Some waiter)
  by_slot key waiter e =
      elim (none_or_some (slot_in occupants key.0)) as (λ _. (slot : ℕ) × (slot_in occupants key.0 ≡ Some slot) × (get members (slot, key.1) ≡ Some waiter)) [
        | inl none ↦ none_some (sym (get-without_attachment occupants owners agree members owned key.0 key.1 none) ∙ e)
        | inr some ↦ (some.0, some.1, sym (get-in_slot occupants owners agree members owned key.0 some.0 key.1 some.1) ∙ e)
      ]

  pub by_owner : (key : ℕ × ℕ) (waiter : WaitingAccess) → get members key ≡ Some waiter → (owner_at owners key.0 ≡ Some (owner_of owners key.0)) × (get (by_session owners members) (owner_of owners key.0, key.1) ≡ Some waiter)
  by_owner key waiter e =
      let owner = some_is (owner_at owners key.0) (owned key waiter e) in
      let is : owner_at owners key.0 ≡ Some (owner_of owners key.0) = owner.1 ∙ ap Some (sym (owner_is owners key.0 owner.0 owner.1)) in
      (is, get-of_owner occupants owners agree members owned key.0 (owner_of owners key.0) key.1 is ∙ e)

  -- nothing on a word, or on an array
  pub none-on_word : (array index : ℕ) → NoneOnWord members array index → NoneOnWord (by_session owners members) array index
  none-on_word array index none key waiter e on = let there = by_slot key waiter e in none (there.0, key.1) waiter there.2 on

  pub none-on_word_back : (array index : ℕ) → NoneOnWord (by_session owners members) array index → NoneOnWord members array index
  none-on_word_back array index none key waiter e on = none (owner_of owners key.0, key.1) waiter (by_owner key waiter e).1 on

  pub none-on_array_back : (array : ℕ) → NoneOnArray (by_session owners members) array → NoneOnArray members array
  none-on_array_back array none key waiter e on = none (owner_of owners key.0, key.1) waiter (by_owner key waiter e).1 on

-- ---- nodes

request_at_node : (owners : List (Option ℕ)) (nodes : List (Option Row)) (node : ℕ) → request_of_node (record { arrays = empty; attachments = empty; waiting = empty; requests_by_node = requests_from owners nodes }) node ≡ option_map (request_from owners) (row_of (record { arrays = empty; members = empty; nodes = nodes }) node)
request_at_node owners [] node = refl
request_at_node owners (o ∷ nodes) zero = refl
request_at_node owners (o ∷ nodes) (suc node) = request_at_node owners nodes node

module _ (w : Waiting) (occupants : FinMap nat_cmp Occupant) (owners : List (Option ℕ)) where
  pub waiting_request-node : (node : ℕ) → request_of_node (attachments_state_of w occupants owners) node ≡ option_map (request_from owners) (row_of w node)
  waiting_request-node node = request_at_node owners w.nodes node

  pub row-there : (node : ℕ) → IsSome (request_of_node (attachments_state_of w occupants owners) node) → IsSome (row_of w node)
  row-there node there = by_row (row_of w node) (subst IsSome (waiting_request-node node) there)
    where
      by_row : (o : Option Row) → IsSome (option_map (request_from owners) o) → IsSome o
      by_row None some = some
      by_row (Some row) some = refl

  pub waiting_request-is : (node : ℕ) (row : Row) → row_of w node ≡ Some row → request_of_node (attachments_state_of w occupants owners) node ≡ Some (request_from owners row)
  waiting_request-is node row e = waiting_request-node node ∙ ap (option_map (request_from owners)) e

  module _ (slots : List ℕ) (capacity : ℕ) (kept : AreAttachments w occupants owners slots capacity) (node : ℕ) (row : Row) (there : row_of w node ≡ Some row) (listed : get w.members (waits.key_of row) ≡ Some (waits.waiting_access_of row)) where
    pub request-on : (array index session : ℕ) → owner_at owners row.slot ≡ Some session → IsOn (waits.waiting_access_of row) array index → IsRequestOn (attachments_state_of w occupants owners) array index node (request_for session row)
    request-on array index session owner on =
        subst (λ session. IsRequestOn (attachments_state_of w occupants owners) array index node (request_for session row)) (owner_is owners row.slot session owner)
        (record {
          of_node = waiting_request-is node row there;
          on_word = on;
          waits = (by_owner occupants owners kept.agree w.members kept.owned (waits.key_of row) (waits.waiting_access_of row) listed).1;
        })

    pub node-removed : (request : WaitingRequest) → request_of_node (attachments_state_of w occupants owners) node ≡ Some request → by_session owners (remove w.members (waits.key_of row)) ≡ remove (by_session owners w.members) (key_of request)
    node-removed request is =
        let owner = (by_owner occupants owners kept.agree w.members kept.owned (waits.key_of row) (waits.waiting_access_of row) listed).0 in
        by_session-remove occupants owners kept.agree w.members kept.owned (owner_of owners row.slot) row.slot row.number ((kept.agree (owner_of owners row.slot) row.slot).1 owner)
        ∙ ap (λ (t : WaitingRequest). remove (by_session owners w.members) (key_of t)) (some_same (sym (waiting_request-is node row there) ∙ is))

-- ---- the limits

module _ (w : Waiting) (occupants : FinMap nat_cmp Occupant) (owners : List (Option ℕ)) (slots : List ℕ) (capacity : ℕ) (kept : AreAttachments w occupants owners slots capacity) (limits : waits.IsWithinLimits w) where
  few : (session : ℕ) → count_of (by_session owners w.members) session ≤ 32
  few session =
      elim (none_or_some (slot_in occupants session)) as (λ _. count_of (by_session owners w.members) session ≤ 32) [
        | inl none ↦ let zero_of = count-without_attachment occupants owners kept.agree w.members kept.owned session none in omega arith
        | inr some ↦ subst (λ n. n ≤ 32) (sym (count-in_slot occupants owners kept.agree w.members kept.owned session some.0 some.1)) (limits.few some.0)
      ]

  requests_by_node : (node : ℕ) (waiting_request : WaitingRequest) → request_of_node (attachments_state_of w occupants owners) node ≡ Some waiting_request → get (by_session owners w.members) (key_of waiting_request) ≡ Some (waiting_access_of waiting_request)
  requests_by_node node waiting_request e =
      let row = some_is (row_of w node) (row-there w occupants owners node (ap is_some e)) in
      let is : request_from owners row.0 ≡ waiting_request = some_same (sym (waiting_request-is w occupants owners node row.0 row.1) ∙ e) in
      subst (λ (t : WaitingRequest). get (by_session owners w.members) (key_of t) ≡ Some (waiting_access_of t)) is
      (by_owner occupants owners kept.agree w.members kept.owned (waits.key_of row.0) (waits.waiting_access_of row.0) (limits.nodes node row.0 row.1)).1

  pub kept-limits : IsWithinLimits (attachments_state_of w occupants owners)
  kept-limits = record {
    attachments = let as_many = len-attachments occupants in omega (arith, kept.counted);
    has_attachment = λ key waiter e. let there = by_slot occupants owners kept.agree w.members kept.owned key waiter e in occupant_is_attached occupants key.0 there.0 there.1;
    words = λ key waiter e. let there = by_slot occupants owners kept.agree w.members kept.owned key waiter e in limits.words (there.0, key.1) waiter there.2;
    few = few;
    all = let as_many = len-by_session occupants owners kept.agree w.members kept.owned in omega (arith, limits.all);
    arrays = limits.arrays;
    requests_by_node = requests_by_node;
  }
