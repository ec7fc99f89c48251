-- Which slot of the waiting lists (`fe_waits`) each session has. No public clause cites this module.
-- See `docs/model.md`, "Waiting requests".
use Rattle.std.specs.Prelude.{◌≡◌, ℕ, ◌↔◌, ◌+◌, ◌<◌, ◌≤◌, List, [], ◌∷◌, ◌++◌, zero, suc, map, length, Option}
use Rattle.std.specs.Prelude.{Some, None, IsSome, slice_get, slice_index_or, unwrap_or}
use Rattle.std.specs.Ordering.{nat_cmp}
use Rattle.std.specs.FinMap.{FinMap, get, len, entries, from_entries}
use Rattle.fe_service.specs.AttachmentsState.{AttachmentsState, count_of, without_session}
use Rattle.fe_service.specs.declared.attachment.Attachment.{Attachment}
use Rattle.std.specs.Option.{option_map}
use Rattle.std.specs.declared.cmp.Ordering.{Ordering}
use Rattle.fe_waits.specs.declared.row.Row.{Row}
use Rattle.fe_waits.specs.Waiting.{pair_cmp, WaitingAccess, Waiting}
use Rattle.fe_service.specs.declared.occupant.Occupant.{Occupant}
use Rattle.fe_service.specs.declared.waiting_request.WaitingRequest.{WaitingRequest}
use Rattle.fe_state.specs.Limits.{most_sessions}

-- the attachments become these; what waits and the arrays stay
pub record AttachmentsBecome (old new : AttachmentsState) (these : FinMap nat_cmp Attachment) : Type 0 where
  pub attachments : new.attachments ≡ these
  pub waiting : new.waiting ≡ old.waiting
  pub arrays : new.arrays ≡ old.arrays

-- the requests of a session wait no longer, and this many did; the attachments and the arrays stay
pub record DropsRequests (old new : AttachmentsState) (session number : ℕ) : Type 0 where
  pub count : number ≡ count_of old.waiting session
  pub removed : new.waiting ≡ without_session old.waiting session
  pub attachments : new.attachments ≡ old.attachments
  pub arrays : new.arrays ≡ old.arrays

-- ---- slots

-- the session that has a slot, if one has it
abbrev pub owner_at : List (Option ℕ) → ℕ → Option ℕ
owner_at owners slot = slice_index_or owners slot None

-- the session that has the slot, or 0 if none has it
abbrev pub owner_of : List (Option ℕ) → ℕ → ℕ
owner_of owners slot = unwrap_or (owner_at owners slot) 0

-- the slot of a session, if it has an attachment
abbrev pub slot_in : FinMap nat_cmp Occupant → ℕ → Option ℕ
slot_in occupants session = option_map (λ occupant. occupant.slot) (get occupants session)

-- a map with other keys, and other values, by entry
abbrev pub rekeyed : {K L X Y : Type 0} {R : K → K → Ordering} {S : L → L → Ordering} → (K → L) → (X → Y)
    → FinMap R X → FinMap S Y
rekeyed key value m = from_entries (map (λ e. (key e.0, value e.1)) (entries m))

-- the attachments of the occupants
abbrev pub attachments_of : FinMap nat_cmp Occupant → FinMap nat_cmp Attachment
attachments_of occupants = rekeyed (λ session. session) (λ occupant. occupant.attachment) occupants

-- the key of a request, with the session instead of its slot
abbrev pub session_key : List (Option ℕ) → ℕ × ℕ → ℕ × ℕ
session_key owners key = (owner_of owners key.0, key.1)

-- the requests by session
abbrev pub by_session : List (Option ℕ) → FinMap pair_cmp WaitingAccess → FinMap pair_cmp WaitingAccess
by_session owners members = rekeyed (session_key owners) (λ waiter. waiter) members

-- the request of a row, with the session instead of its slot
abbrev pub request_from : List (Option ℕ) → Row → WaitingRequest
request_from owners row = record {
  session = owner_of owners row.slot;
  number = row.number;
  array = row.array;
  index = row.index;
  op = row.op;
}

-- the same for the row of each node, if it has one
abbrev pub requests_from : List (Option ℕ) → List (Option Row) → List (Option WaitingRequest)
requests_from owners nodes = map (option_map (request_from owners)) nodes

-- the slots below a number, in ascending order
unfoldable pub slots_below : ℕ → List ℕ
slots_below zero = []
slots_below (suc n) = slots_below n ++ n ∷ []

-- the free slots: each is a slot, has no owner, and is on the list once
pub record AreFree (owners : List (Option ℕ)) (slots : List ℕ) : Type 0 where
  pub below : (i slot : ℕ) → slice_get slots i ≡ Some slot → slot < most_sessions
  pub vacant : (i slot : ℕ) → slice_get slots i ≡ Some slot → owner_at owners slot ≡ None
  pub once : (i j slot : ℕ) → slice_get slots i ≡ Some slot → slice_get slots j ≡ Some slot → i ≡ j

-- the invariant of the waiting lists, the occupants, the slots' owners and the free slots, whose vector has
-- this capacity, enough for all slots: occupants and owners agree, each slot is free or has an owner, and
-- requests wait only in slots that have an owner
pub record AreAttachments (waits : Waiting) (occupants : FinMap nat_cmp Occupant) (owners : List (Option ℕ))
    (slots : List ℕ) (capacity : ℕ) : Type 0 where
  pub sized : length owners ≡ most_sessions
  pub agree : (session slot : ℕ) → (slot_in occupants session ≡ Some slot)
      ↔ (owner_at owners slot ≡ Some session)
  pub free : AreFree owners slots
  pub counted : length slots + len occupants ≡ most_sessions
  pub reserved : most_sessions ≤ capacity
  pub owned : (key : ℕ × ℕ) (waiter : WaitingAccess) → get waits.members key ≡ Some waiter
      → IsSome (owner_at owners key.0)

-- the attachments as contracts see them
abbrev pub attachments_state_of : Waiting → FinMap nat_cmp Occupant → List (Option ℕ) → AttachmentsState
attachments_state_of waits occupants owners =
    record {
      arrays = waits.arrays;
      attachments = attachments_of occupants;
      waiting = by_session owners waits.members;
      requests_by_node = requests_from owners waits.nodes;
    }
