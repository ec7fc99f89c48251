-- The waiting lists as contracts see them: the waiting requests, by slot and number. A slot, 0 to 63, stands
-- for a session here; the number is the request's in its session (`docs/model.md`, "Waiting requests").
use Rattle.std.specs.Prelude.{◌≡◌, ℕ, AllPairs, ◌≢◌, ◌↔◌, ◌==◌, ◌<◌, ◌≤◌, Contains, List, not, Option, Some}
use Rattle.std.specs.Prelude.{None, refl, slice_index_or}
use Rattle.std.specs.Ordering.{nat_cmp, ordering_then}
use Rattle.std.specs.declared.cmp.Ordering.{Ordering}
use Rattle.std.specs.declared.cmp.Ordering.TheVariants.{Less, Equal, Greater}
use Rattle.std.specs.Cmp.{IsTotalOrder, nat_cmp_total, on_total, then_total}
use Rattle.std.specs.FinMap.{IsAntisymmetric, nat_cmp-IsAntisymmetric, FinMap, code, get, len, retain_keys}
use Rattle.std.specs.Option.{option_map}
use Rattle.std.specs.Coded.{Coded, code_by, coded×, coded_ℕ, coded_list, coded_option}
use Rattle.fe_words.specs.declared.op.Op.{Op}
use Rattle.fe_words.specs.contracts.op.Op.{the_row as op_row}
use Rattle.fe_waits.specs.declared.row.Row.{Row}
use Rattle.fe_waits.specs.contracts.row.Row.{the_row as row_row}

-- ---- the order of pairs of numbers, by the first and then by the second: pairs can so be
-- keys of a finite map

abbrev pub pair_cmp : ℕ × ℕ → ℕ × ℕ → Ordering
pair_cmp a b = ordering_then (nat_cmp a.0 b.0) (nat_cmp a.1 b.1)

pub pair_cmp_total : IsTotalOrder pair_cmp
pair_cmp_total = then_total (on_total (λ p. p.0) nat_cmp_total) (on_total (λ p. p.1) nat_cmp_total)

-- only equal pairs tie
pub pair_cmp-IsAntisymmetric : IsAntisymmetric pair_cmp
pair_cmp-IsAntisymmetric a b e = by_first (nat_cmp a.0 b.0) (λ t. nat_cmp-IsAntisymmetric a.0 b.0 t) e
  where
    by_first : (o : Ordering) → (o ≡ Equal → a.0 ≡ b.0) → ordering_then o (nat_cmp a.1 b.1) ≡ Equal → a ≡ b
    by_first Less same e = cc
    by_first Equal same e =
        let second = nat_cmp-IsAntisymmetric a.1 b.1 e in λ i. (same (λ _. Equal) i, second i)
    by_first Greater same e = cc

-- ---- what waits

-- a waiting request without its slot and number: the array and the index of its word, and its operation
pub record WaitingAccess : Type 0 where
  pub array : ℕ
  pub index : ℕ
  pub op : Op

-- for proofs, a waiter is coded as the tuple of its fields
abbrev pub waiting_access_code : Coded WaitingAccess
waiting_access_code =
    code_by
    (ℕ × (ℕ × Op))
    (coded× coded_ℕ (coded× coded_ℕ op_row.coded))
    (λ w. (w.array, (w.index, w.op)))
    (λ t. record { array = t.0; index = t.1.0; op = t.1.1 })
    (λ _. refl)

-- the length of each added array; the waiting requests, by slot and number; and for each node the request
-- that it represents, if any
pub record Waiting : Type 0 where
  pub arrays : FinMap nat_cmp ℕ
  pub members : FinMap pair_cmp WaitingAccess
  pub nodes : List (Option Row)

-- for proofs, the record is coded as the tuple of its fields
abbrev pub waiting_code : Coded Waiting
waiting_code =
    code_by
    (FinMap nat_cmp ℕ × (FinMap pair_cmp WaitingAccess × List (Option Row)))
    (coded×
    (code coded_ℕ coded_ℕ)
    (coded× (code (coded× coded_ℕ coded_ℕ) waiting_access_code) (coded_list (coded_option row_row.coded))))
    (λ w. (w.arrays, (w.members, w.nodes)))
    (λ t. record { arrays = t.0; members = t.1.0; nodes = t.1.1 })
    (λ _. refl)

-- the slot and the number of a request
abbrev pub key_of : Row → ℕ × ℕ
key_of row = (row.slot, row.number)

-- the word and the operation of a request
abbrev pub waiting_access_of : Row → WaitingAccess
waiting_access_of row = record { array = row.array; index = row.index; op = row.op }

-- the request that a node represents
abbrev pub row_of : Waiting → ℕ → Option Row
row_of w node = slice_index_or w.nodes node None

-- the request with this slot and number, if it waits
abbrev pub row_at : FinMap pair_cmp WaitingAccess → ℕ → ℕ → Option Row
row_at members slot number =
    option_map
    (λ waiter. record {
      slot = slot;
      number = number;
      array = waiter.array;
      index = waiter.index;
      op = waiter.op;
    })
    (get members (slot, number))

-- what `waiting_requests` lists of a waiter: the array and the index of its word, and its operation
abbrev pub access_fields : WaitingAccess → ℕ × ℕ × Op
access_fields waiter = (waiter.array, waiter.index, waiter.op)

-- the list has all waiting requests of a slot, by number, and no others
abbrev pub AreWaitingRequestsOf : FinMap pair_cmp WaitingAccess → ℕ → List (ℕ × (ℕ × ℕ × Op)) → Type 0
AreWaitingRequestsOf members slot waiting_requests =
    (number : ℕ) (what : ℕ × ℕ × Op) → Contains waiting_requests (number, what)
    ↔ (option_map access_fields (get members (slot, number)) ≡ Some what)

-- no number is listed twice
abbrev pub AreListedOnce : List (ℕ × (ℕ × ℕ × Op)) → Type 0
AreListedOnce waiting_requests = AllPairs (λ a b. a.0 ≢ b.0) waiting_requests

-- the list has all waiting requests of a slot, each once
pub record ListsWaitingRequestsOf (members : FinMap pair_cmp WaitingAccess) (slot : ℕ)
    (waiting_requests : List (ℕ × (ℕ × ℕ × Op))) : Type 0 where
  pub all : AreWaitingRequestsOf members slot waiting_requests
  pub once : AreListedOnce waiting_requests

-- the array is added, and the index is below its length
abbrev pub IsWord : FinMap nat_cmp ℕ → ℕ → ℕ → Type 0
IsWord arrays array index = (length : ℕ) × (get arrays array ≡ Some length) × (index < length)

-- the waiter waits on the word
abbrev pub IsOn : WaitingAccess → ℕ → ℕ → Type 0
IsOn waiter array index = (waiter.array ≡ array) × (waiter.index ≡ index)

-- the node represents a request that waits on the word
abbrev pub IsNodeOn : Waiting → ℕ → ℕ → ℕ → Type 0
IsNodeOn w array index node =
    (row : Row) × (row_of w node ≡ Some row) × IsOn (waiting_access_of row) array index

-- no request waits on the word
abbrev pub NoneOnWord : FinMap pair_cmp WaitingAccess → ℕ → ℕ → Type 0
NoneOnWord members array index =
    (key : ℕ × ℕ) (waiter : WaitingAccess) → get members key ≡ Some waiter → ¬ (IsOn waiter array index)

-- no request waits on a word of the array
abbrev pub NoneOnArray : FinMap pair_cmp WaitingAccess → ℕ → Type 0
NoneOnArray members array =
    (key : ℕ × ℕ) (waiter : WaitingAccess) → get members key ≡ Some waiter → waiter.array ≢ array

-- the requests of a slot
abbrev pub of_slot : FinMap pair_cmp WaitingAccess → ℕ → FinMap pair_cmp WaitingAccess
of_slot members slot = retain_keys members (λ key. key.0 == slot)

-- how many requests a slot has
abbrev pub count_of : FinMap pair_cmp WaitingAccess → ℕ → ℕ
count_of members slot = len (of_slot members slot)

-- the requests of the other slots
abbrev pub without_slot : FinMap pair_cmp WaitingAccess → ℕ → FinMap pair_cmp WaitingAccess
without_slot members slot = retain_keys members (λ key. not (key.0 == slot))

-- the waiting requests become these, and the arrays stay
pub record MembersBecome (old new : Waiting) (these : FinMap pair_cmp WaitingAccess) : Type 0 where
  pub members : new.members ≡ these
  pub arrays : new.arrays ≡ old.arrays

-- the arrays become these, and the waiting requests stay
pub record ArraysBecome (old new : Waiting) (these : FinMap nat_cmp ℕ) : Type 0 where
  pub arrays : new.arrays ≡ these
  pub members : new.members ≡ old.members

-- the invariant: slots are below 64, each request is on a word of an added array, a slot has at most 32
-- requests, there are at most 2,048 requests and at most 64 arrays, and a request that a node represents
-- waits
pub record IsWithinLimits (w : Waiting) : Type 0 where
  pub slots : (key : ℕ × ℕ) (waiter : WaitingAccess) → get w.members key ≡ Some waiter → key.0 < 64
  pub words : (key : ℕ × ℕ) (waiter : WaitingAccess) → get w.members key ≡ Some waiter
      → IsWord w.arrays waiter.array waiter.index
  pub few : (slot : ℕ) → count_of w.members slot ≤ 32
  pub all : len w.members ≤ 2048
  pub arrays : len w.arrays ≤ 64
  pub nodes : (node : ℕ) (row : Row) → row_of w node ≡ Some row
      → get w.members (key_of row) ≡ Some (waiting_access_of row)
