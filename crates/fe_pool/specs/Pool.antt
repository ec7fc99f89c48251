-- A pool as contracts see it: a fixed number of nodes, each free or taken. A taken node holds an item and is
-- on at most one list of each of two families, the lists of words and those of sessions (`docs/model.md`,
-- "Waiting requests").
use Rattle.std.specs.Prelude.{◌≡◌, ◌≢◌, ◌==◌, ◌↔◌, ℕ, ◌<◌, ◌^◌, List, [], ◌∷◌, ◌++◌, length, filter, not}
use Rattle.std.specs.Prelude.{Option, Some, None, IsSome, refl, slice_index_or, AllPairs, Contains}
use Rattle.std.specs.List.{last_or}
use Rattle.std.specs.Coded.{Coded, code_by, coded×, coded_ℕ, coded_list, coded_option}
use Rattle.fe_pool.specs.declared.chain.Chain.{Chain}
use Rattle.fe_pool.specs.declared.family.Family.{Family}
use Rattle.fe_pool.specs.declared.family.Family.TheVariants.{OfWord, OfSession}

-- for each node: its item if it is taken, and for each family the list that begins with it, empty if none
-- does
pub record Contents (T : Type 0) : Type 0 where
  pub items : List (Option T)
  pub of_word : List (List ℕ)
  pub of_session : List (List ℕ)

-- for proofs, the contents are coded as the tuple of their fields
abbrev pub contents_code : {T : Type 0} → Coded T → Coded (Contents T)
contents_code {T} code =
    code_by
    (List (Option T) × (List (List ℕ) × List (List ℕ)))
    (coded×
    (coded_list (coded_option code))
    (coded× (coded_list (coded_list coded_ℕ)) (coded_list (coded_list coded_ℕ))))
    (λ p. (p.items, (p.of_word, p.of_session)))
    (λ t. record { items = t.0; of_word = t.1.0; of_session = t.1.1 })
    (λ _. refl)

-- the first node of a list, or else `other`
abbrev pub first_or : Option ℕ → List ℕ → Option ℕ
first_or other [] = other
first_or other (node ∷ _) = Some node

-- the list that begins with the node `first`; without a node, the empty list
abbrev pub list_from : List (List ℕ) → Option ℕ → List ℕ
list_from lists None = []
list_from lists (Some first) = slice_index_or lists first []

-- the node is on one of the lists
abbrev pub IsOnOne : List (List ℕ) → ℕ → Type 0
IsOnOne lists node = (first : Option ℕ) × Contains (list_from lists first) node

-- the lists of a family are sound: there is one entry for each node, a list is kept at its first node and has
-- no node twice, no two lists share a node, and each node on a list has an item
pub record AreSound {T : Type 0} (items : List (Option T)) (lists : List (List ℕ)) : Type 0 where
  pub sized : length lists ≡ length items
  pub begins : (index node : ℕ) → first_or None (list_from lists (Some index)) ≡ Some node → node ≡ index
  pub different : (first : Option ℕ) → AllPairs (λ a b. a ≢ b) (list_from lists first)
  pub apart : (one other : Option ℕ) (node : ℕ) → Contains (list_from lists one) node
      → Contains (list_from lists other) node → one ≡ other
  pub taken : (node : ℕ) → IsOnOne lists node → IsSome (slice_index_or items node None)

-- the list with a node removed
abbrev pub without : List ℕ → ℕ → List ℕ
without nodes node = filter (λ other. not (other == node)) nodes

-- the two chains don't begin with the same node
abbrev pub IsApart : Chain → Chain → Type 0
IsApart one other = one.first ≡ other.first → one.first ≡ None

module _ {T : Type 0} where
  -- the item of a node
  abbrev pub item_at : Contents T → ℕ → Option T
  item_at p node = slice_index_or p.items node None

  -- the node is in the pool and taken
  abbrev pub IsTaken : Contents T → ℕ → Type 0
  IsTaken p node = IsSome (item_at p node)

  -- the node is in the pool and free
  abbrev pub IsFree : Contents T → ℕ → Type 0
  IsFree p node = (node < length p.items) × (item_at p node ≡ None)

  -- the lists of a family, each at its first node
  abbrev pub lists_of : Contents T → Family → List (List ℕ)
  lists_of p OfWord = p.of_word
  lists_of p OfSession = p.of_session

  -- the list of a chain
  abbrev pub list_of : Contents T → Family → Chain → List ℕ
  list_of p family chain = list_from (lists_of p family) chain.first

  -- the chain has the first node, the last node and the length of its list
  pub record IsChain (p : Contents T) (family : Family) (chain : Chain) : Type 0 where
    pub first : chain.first ≡ first_or None (list_of p family chain)
    pub last : chain.last ≡ last_or None (list_of p family chain)
    pub counted : chain.length ≡ length (list_of p family chain)

  -- the node is on a list of the family
  abbrev pub IsOn : Contents T → Family → ℕ → Type 0
  IsOn p family node = IsOnOne (lists_of p family) node

  -- the node is on no list of the family
  abbrev pub IsOff : Contents T → Family → ℕ → Type 0
  IsOff p family node = ¬ (IsOn p family node)

  -- each chain that is apart from this one is still a chain of the family, with the same list
  abbrev pub KeepsOtherChains : Contents T → Contents T → Family → Chain → Type 0
  KeepsOtherChains old new family chain = (other : Chain) → IsApart other chain → IsChain old family other
      → IsChain new family other × (list_of new family other ≡ list_of old family other)

  -- each other node is on a list of the family exactly if it was before
  abbrev pub KeepsOtherNodes : Contents T → Contents T → Family → ℕ → Type 0
  KeepsOtherNodes old new family node =
      (other : ℕ) → other ≢ node → IsOn old family other ↔ IsOn new family other

  -- the lists of the other family are unchanged
  abbrev pub KeepsOtherFamily : Contents T → Contents T → Family → Type 0
  KeepsOtherFamily old new family =
      (other : Family) → other ≢ family → lists_of new other ≡ lists_of old other

  -- the chain's list became `nodes`, and nothing else changed but whether the node is on a list of the family
  pub record ChangesList (old new : Contents T) (family : Family) (before after : Chain) (nodes : List ℕ)
      (node : ℕ) : Type 0 where
    pub list : list_of new family after ≡ nodes
    pub chain : IsChain new family after
    pub other_chains : KeepsOtherChains old new family before
    pub other_nodes : KeepsOtherNodes old new family node
    pub other_family : KeepsOtherFamily old new family
    pub items : new.items ≡ old.items

  -- what `next` returns for a node: its successor on each list it is on
  abbrev pub IsNext : Contents T → Family → ℕ → Option ℕ → Type 0
  IsNext p family node next = (first : Option ℕ) (before after : List ℕ)
      → list_from (lists_of p family) first ≡ before ++ node ∷ after → next ≡ first_or None after

  -- the invariant of every pool: it has fewer than 2^32 nodes, and the lists of each family are sound
  pub record IsSound (p : Contents T) : Type 0 where
    pub fits : length p.items < 2 ^ 32
    pub families : (family : Family) → AreSound p.items (lists_of p family)
