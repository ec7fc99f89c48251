-- How the pool of nodes and the chains (the ends of its lists) hold the waiting requests. No public clause
-- cites this module. See `docs/model.md`, "Waiting requests".
use Rattle.std.specs.Prelude.{ℕ, List, [], map, length, Option, slice_get, slice_set, unwrap_or, ◌≡◌, ◌≤◌}
use Rattle.std.specs.Prelude.{◌∷◌, sum_by, Some, None, slice_index_or, Contains}
use Rattle.std.specs.Option.{option_and_then}
use Rattle.std.specs.Ordering.{nat_cmp}
use Rattle.std.specs.FinMap.{FinMap, get, insert, entries, from_sorted, empty, len}
use Rattle.fe_pool.specs.declared.chain.Chain.{Chain}
use Rattle.fe_pool.specs.declared.family.Family.{Family}
use Rattle.fe_pool.specs.declared.family.Family.TheVariants.{OfWord, OfSession}
use Rattle.fe_pool.specs.Pool.{Contents, IsChain, list_of}
use Rattle.fe_waits.specs.declared.row.Row.{Row}
use Rattle.fe_waits.specs.Waiting.{pair_cmp, WaitingAccess, Waiting, key_of, waiting_access_of, row_of}
use Rattle.fe_waits.specs.Waiting.{count_of}

-- the chain of a word, if the word exists
abbrev pub chain_at : FinMap nat_cmp (List Chain) → ℕ × ℕ → Option Chain
chain_at words word = option_and_then (λ chains. slice_get chains word.1) (get words word.0)

-- the chains with another one for this word
abbrev pub with_chain : FinMap nat_cmp (List Chain) → ℕ → ℕ → Chain → FinMap nat_cmp (List Chain)
with_chain words array index chain =
    insert words array (slice_set (unwrap_or (get words array) []) index chain)

-- the length of each array
abbrev pub lengths : FinMap nat_cmp (List Chain) → FinMap nat_cmp ℕ
lengths words = from_sorted (map (λ e. (e.0, length e.1)) (entries words))

-- the requests of the taken nodes, as a finite map
abbrev pub members_of : List (Option Row) → FinMap pair_cmp WaitingAccess
members_of [] = empty
members_of (None ∷ nodes) = members_of nodes
members_of (Some row ∷ nodes) = insert (members_of nodes) (key_of row) (waiting_access_of row)

-- the request of a node
abbrev pub row_in : List (Option Row) → ℕ → Option Row
row_in nodes node = slice_index_or nodes node None

-- no two nodes have the same slot and number
abbrev pub AreDifferent : List (Option Row) → Type 0
AreDifferent nodes = (node other : ℕ) (row else : Row) → row_in nodes node ≡ Some row
    → row_in nodes other ≡ Some else → key_of row ≡ key_of else → node ≡ other

-- the chains of a family, one at each position: each is a chain of the pool, and the list of a position has
-- exactly the nodes whose request belongs there
pub record AreListed {Position : Type 0} (nodes : List (Option Row)) (pool : Contents Row) (family : Family)
    (position_of : Row → Position) (chain_of : Position → Option Chain) : Type 0 where
  pub chains : (position : Position) (chain : Chain) → chain_of position ≡ Some chain
      → IsChain pool family chain
  pub listed : (node : ℕ) (row : Row) → row_in nodes node ≡ Some row
      → (chain : Chain) × (chain_of (position_of row) ≡ Some chain)
      × Contains (list_of pool family chain) node
  pub belongs : (position : Position) (chain : Chain) (node : ℕ) → chain_of position ≡ Some chain
      → Contains (list_of pool family chain) node
      → (row : Row) × (row_in nodes node ≡ Some row) × (position_of row ≡ position)

-- the chain with no nodes
abbrev pub empty_chain : Chain
empty_chain = record { first = None; last = None; length = 0 }

-- the slot whose list a request is on
abbrev pub session_of : Row → ℕ
session_of row = row.slot

-- the node represents a request of the slot
abbrev pub IsNodeOfSlot : Waiting → ℕ → ℕ → Type 0
IsNodeOfSlot w slot node = (row : Row) × (row_of w node ≡ Some row) × (session_of row ≡ slot)

-- the word whose list a request is on: its array and its index
abbrev pub word_of : Row → ℕ × ℕ
word_of row = (row.array, row.index)

-- the number of requests on a session's list, by its chain
abbrev pub length_of : Chain → ℕ
length_of chain = chain.length

-- the invariant of the pool, the sessions' chains, the words' chains and the count: there are 2,048 nodes, 64
-- sessions' chains and at most 64 arrays, no two requests have the same key, each request is on its session's
-- list and on its word's list, a session's list has at most 32 nodes and as many as the slot has requests,
-- and the count is the number of all requests, and of the nodes on all sessions' lists
pub record IsKept (pool : Contents Row) (sessions : List Chain) (words : FinMap nat_cmp (List Chain))
    (waiting : ℕ) : Type 0 where
  pub sized : length pool.items ≡ 2048
  pub slots : length sessions ≡ 64
  pub different : AreDifferent pool.items
  pub by_session : AreListed pool.items pool OfSession session_of (λ slot. slice_get sessions slot)
  pub by_word : AreListed pool.items pool OfWord word_of (λ word. chain_at words word)
  pub counted : (slot : ℕ) (chain : Chain) → slice_get sessions slot ≡ Some chain
      → chain.length ≡ count_of (members_of pool.items) slot
  pub few : (slot : ℕ) (chain : Chain) → slice_get sessions slot ≡ Some chain → chain.length ≤ 32
  pub all : waiting ≡ len (members_of pool.items)
  pub total : waiting ≡ sum_by length_of sessions
  pub arrays : len words ≤ 64

-- the waiting lists as contracts see them
abbrev pub waiting_of : Contents Row → FinMap nat_cmp (List Chain) → Waiting
waiting_of pool words = record { arrays = lengths words; members = members_of pool.items; nodes = pool.items }
