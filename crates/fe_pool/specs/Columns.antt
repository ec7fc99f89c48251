-- The contents of a pool's vector, one column for each field of a node. No public clause cites this module.
-- See `docs/model.md`, "Waiting requests".
use Rattle.std.specs.Prelude.{◌≡◌, ℕ, zero, suc, List, [], ◌∷◌, ◌++◌, Option, Some, None, IsSome, refl}
use Rattle.std.specs.Prelude.{slice_index_or}
use Rattle.std.specs.Coded.{Coded, code_by, coded×, coded_ℕ, coded_list, coded_option}
use Rattle.fe_pool.specs.declared.family.Family.{Family}
use Rattle.fe_pool.specs.declared.family.Family.TheVariants.{OfWord, OfSession}
use Rattle.fe_pool.specs.declared.neighbours.Neighbours.{Neighbours}

-- the neighbours of a node on its list, or None if it is on no list
abbrev pub Link : Type 0
Link = Option Neighbours

-- for each node: its item if it is taken, the next free node if it is free, and its neighbours on its list of
-- each family
pub record Columns (T : Type 0) : Type 0 where
  pub items : List (Option T)
  pub followers : List (Option ℕ)
  pub of_word : List Link
  pub of_session : List Link

abbrev pub link_code : Coded Link
link_code =
    coded_option
    (code_by
    (Option ℕ × Option ℕ)
    (coded× (coded_option coded_ℕ) (coded_option coded_ℕ))
    (λ n. (n.previous, n.next))
    (λ p. record { previous = p.0; next = p.1 })
    (λ _. refl))

-- for proofs, the columns are coded as the tuple of their fields
abbrev pub columns_code : {T : Type 0} → Coded T → Coded (Columns T)
columns_code {T} code =
    code_by
    (List (Option T) × (List (Option ℕ) × (List Link × List Link)))
    (coded×
    (coded_list (coded_option code))
    (coded× (coded_list (coded_option coded_ℕ)) (coded× (coded_list link_code) (coded_list link_code))))
    (λ c. (c.items, (c.followers, (c.of_word, c.of_session))))
    (λ p. record { items = p.0; followers = p.1.0; of_word = p.1.1.0; of_session = p.1.1.1 })
    (λ _. refl)

-- the neighbours of a node in the column of a family, or None if there are none
abbrev pub link_at : List Link → ℕ → Link
link_at links node = slice_index_or links node None

module _ {T : Type 0} where
  -- the column of a family: each node's neighbours on its list of that family
  abbrev pub links_of : Columns T → Family → List Link
  links_of c OfWord = c.of_word
  links_of c OfSession = c.of_session

  -- the same columns with other neighbours in one family
  abbrev pub with_links : Columns T → Family → List Link → Columns T
  with_links c OfWord links = record c { of_word = links }
  with_links c OfSession links = record c { of_session = links }

  -- the node is on no list
  pub record IsLoose (c : Columns T) (node : ℕ) : Type 0 where
    pub of_word : link_at c.of_word node ≡ None
    pub of_session : link_at c.of_session node ≡ None

  -- the node is taken and on a list of the family
  pub record IsLinked (c : Columns T) (family : Family) (node : ℕ) : Type 0 where
    pub taken : IsSome (slice_index_or c.items node None)
    pub linked : IsSome (link_at (links_of c family) node)

-- the next lower node, if there is one
abbrev pub index_before : ℕ → Option ℕ
index_before zero = None
index_before (suc index) = Some index

-- for this many nodes from node 0 on, the next lower node of each
abbrev pub before_each : ℕ → List (Option ℕ)
before_each zero = []
before_each (suc index) = before_each index ++ index_before index ∷ []
