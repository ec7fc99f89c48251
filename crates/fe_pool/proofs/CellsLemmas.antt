-- What writing one node does to the columns.
use Rattle.std.proofs.Common.{◌≡◌, ℕ, ◌<◌, List, length, map, set, get_or, Option, Some, None, IsSome, sym, ◌∙◌, ap, arith, subst, true≢false, inl, inr}
use Rattle.std.proofs.lemmas.List.{map-set, get_or-map, length-map, get_or_past}
use Rattle.std.proofs.lemmas.Bool.{cases_lt}
use Rattle.std.proofs.Math.Seq.{map-set_same}
use Rattle.fe_pool.specs.declared.family.Family.{Family}
use Rattle.fe_pool.specs.declared.family.Family.TheVariants.{OfWord, OfSession}
use Rattle.fe_pool.specs.declared.cells.NodeContents.{NodeContents}
use Rattle.fe_pool.specs.declared.cells.Cell.{Cell}
use Rattle.fe_pool.specs.declared.cells.Cell.TheVariants.{Free, Taken}
use Rattle.fe_pool.specs.Columns.{Columns, Link, with_links, links_of}
use Rattle.fe_pool.specs.within.Cells.{item_of, follower_of, word_link_of, session_link_of, columns_of, with_link}

-- a column at a node that was read
pub column : {A B : Type 0} (f : A → B) (xs : List A) (n : ℕ) (x : A) (e : B) → n < length xs → x ≡ get_or xs n x → get_or (map f xs) n e ≡ f x
column f xs n x e within read = get_or-map f xs n x e within ∙ ap f (sym read)

-- a column that the write leaves unchanged
pub column-set_same : {A B : Type 0} (f : A → B) (xs : List A) (n : ℕ) (x y : A) → x ≡ get_or xs n x → f y ≡ f x → map f (set xs n y) ≡ map f xs
column-set_same f xs n x y read same = map-set_same f xs n y x (same ∙ ap f read)

module _ {T : Type 0} where
  -- columns are equal if each column is
  pub same_columns : (items items' : List (Option T)) (followers followers' : List (Option ℕ)) (of_word of_word' of_session of_session' : List Link) → items ≡ items' → followers ≡ followers' → of_word ≡ of_word' → of_session ≡ of_session' → ◌≡◌ {A = Columns T} (record { items = items; followers = followers; of_word = of_word; of_session = of_session }) (record { items = items'; followers = followers'; of_word = of_word'; of_session = of_session' })
  same_columns items items' followers followers' of_word of_word' of_session of_session' a b c d = cc

  -- a node with an item exists
  pub within_items : (ps : List (Cell T)) (n : ℕ) → IsSome (get_or (map item_of ps) n None) → n < length ps
  within_items ps n some =
      elim (cases_lt n (length ps)) as (λ _. n < length ps) [
        | inl lt ↦ lt
        | inr le ↦ absurd (true≢false (sym (subst IsSome (get_or_past (map item_of ps) n None (omega (arith, length-map ps item_of))) some)))
      ]

  -- an item is put into a free node
  pub occupied : (ps : List (Cell T)) (n : ℕ) (x : Cell T) (follower : Option ℕ) (item : T) → x ≡ get_or ps n x → x ≡ Free follower → columns_of (set ps n (Taken (record { item = item; of_word = None; of_session = None }))) ≡ record (columns_of ps) { items = set (map item_of ps) n (Some item); followers = set (map follower_of ps) n None }
  occupied ps n x follower item read free =
      same_columns _ _ _ _ _ _ _ _
      (map-set item_of ps n _)
      (map-set follower_of ps n _)
      (column-set_same word_link_of ps n x _ read (ap word_link_of (sym free)))
      (column-set_same session_link_of ps n x _ read (ap session_link_of (sym free)))

  -- a node on no list becomes free
  pub vacated : (ps : List (Cell T)) (n : ℕ) (x : Cell T) (entry : NodeContents T) (follower : Option ℕ) → n < length ps → x ≡ get_or ps n x → x ≡ Taken entry → get_or (map word_link_of ps) n None ≡ None → get_or (map session_link_of ps) n None ≡ None → columns_of (set ps n (Free follower)) ≡ record (columns_of ps) { items = set (map item_of ps) n None; followers = set (map follower_of ps) n follower }
  vacated ps n x entry follower within read taken of_word of_session =
      same_columns _ _ _ _ _ _ _ _
      (map-set item_of ps n _)
      (map-set follower_of ps n _)
      (column-set_same word_link_of ps n x _ read (sym of_word ∙ column word_link_of ps n x None within read))
      (column-set_same session_link_of ps n x _ read (sym of_session ∙ column session_link_of ps n x None within read))

  -- the neighbours of a taken node are written, in one family
  pub linked : (ps : List (Cell T)) (n : ℕ) (x : Cell T) (entry : NodeContents T) (family : Family) (to : Link) → x ≡ get_or ps n x → x ≡ Taken entry → columns_of (set ps n (Taken (with_link entry family to))) ≡ with_links (columns_of ps) family (set (links_of (columns_of ps) family) n to)
  linked ps n x entry OfWord to read taken =
      same_columns _ _ _ _ _ _ _ _
      (column-set_same item_of ps n x _ read (ap item_of (sym taken)))
      (column-set_same follower_of ps n x _ read (ap follower_of (sym taken)))
      (map-set word_link_of ps n _)
      (column-set_same session_link_of ps n x _ read (ap session_link_of (sym taken)))
  linked ps n x entry OfSession to read taken =
      same_columns _ _ _ _ _ _ _ _
      (column-set_same item_of ps n x _ read (ap item_of (sym taken)))
      (column-set_same follower_of ps n x _ read (ap follower_of (sym taken)))
      (column-set_same word_link_of ps n x _ read (ap word_link_of (sym taken)))
      (map-set session_link_of ps n _)
