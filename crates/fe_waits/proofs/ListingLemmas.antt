-- The collection of all requests along a session's list.
use Rattle.std.proofs.Common.{◌≡◌, ℕ, ◌<◌, ◌≤◌, ◌+◌, inl, inr, List, [], ◌∷◌, ◌++◌, length, slice_get, slice_index_or, zero, suc, Option, Some, None, IsSome, is_some, refl, sym, ap, subst, ◌∙◌, arith, length-append, get_or}
use Rattle.std.specs.Prelude.{Contains, AllPairs, ◌≢◌}
use Rattle.std.proofs.lemmas.Grind.{common_steps}
use Rattle.std.proofs.lemmas.List.Quantifiers.{all_pairs_push}
use Rattle.std.proofs.lemmas.List.Elements.{Contains-append_left, Contains-append_right, Contains-append_cases}
use Rattle.std.specs.Option.{option_map}
use Rattle.std.specs.Ordering.{nat_cmp}
use Rattle.std.specs.FinMap.{FinMap, get}
use Rattle.fe_words.specs.declared.op.Op.{Op}
use Rattle.fe_pool.specs.declared.chain.Chain.{Chain}
use Rattle.fe_pool.specs.declared.family.Family.TheVariants.{OfSession}
use Rattle.fe_pool.specs.Pool.{Contents, first_or, list_of, IsNext}
use Rattle.fe_pool.specs.within.Runs.{IsNodeAmong}
use Rattle.fe_pool.proofs.AmongLemmas.{among-append_left, among-append_right, among-append_cases, Contains-among}
use Rattle.fe_waits.specs.declared.row.Row.{Row}
use Rattle.fe_waits.specs.Waiting.{WaitingAccess, key_of, access_fields, AreWaitingRequestsOf, AreListedOnce}
use Rattle.fe_waits.specs.within.Inner.{members_of, row_in, IsKept}
use Rattle.fe_waits.proofs.MemberLemmas.{none_some, some_same, members-node, members-row}
use Rattle.fe_waits.proofs.WalkLemmas.{IsWalk, walk-begun, walk-all, walk-has, walk-split, walk-row, walk-next}

-- the entry of a request, by its number
abbrev pub listed_row : Row → ℕ × (ℕ × ℕ × Op)
listed_row row = (row.number, (row.array, row.index, row.op))

-- a visited node that represents the entry
pub record ListedRow (pool : Contents Row) (slot : ℕ) (before : List ℕ) (x : ℕ × (ℕ × ℕ × Op)) : Type 0 where
  pub node : ℕ
  pub row : Row
  pub is : row_in pool.items node ≡ Some row
  pub of_slot : row.slot ≡ slot
  pub agrees : listed_row row ≡ x
  pub among : IsNodeAmong node before

-- the entries are exactly those of the visited nodes
pub record IsListing (pool : Contents Row) (sessions : List Chain) (slot : ℕ) (at : Option ℕ) (steps end : ℕ) (waiting_requests : List (ℕ × (ℕ × ℕ × Op))) : Type 0 where
  pub walk : IsWalk pool sessions slot at steps end
  pub seen : (node : ℕ) (row : Row) → IsNodeAmong node walk.before → row_in pool.items node ≡ Some row → Contains waiting_requests (listed_row row)
  pub sound : (x : ℕ × (ℕ × ℕ × Op)) → Contains waiting_requests x → ListedRow pool slot walk.before x
  pub once : AreListedOnce waiting_requests

nothing : {X P : Type 0} (x : X) → Contains [] x → P
nothing x c = let below : c.0 < 0 = c.1 in absurd (omega (arith, below))

first-is : {X : Type 0} (y x : X) (k : ℕ) → k < 1 → slice_index_or (y ∷ []) k x ≡ x → y ≡ x
first-is y x zero below is = is
first-is y x (suc k) below is = absurd (omega (arith, below))

only : {X : Type 0} (y x : X) → Contains (y ∷ []) x → y ≡ x
only y x c = first-is y x c.0 c.1 c.2

alone : {X : Type 0} (y x : X) → y ≡ x → Contains (y ∷ []) x
alone y x same = (0, omega arith, same)

element : {X : Type 0} (xs : List X) (k : ℕ) (d : X) → k < length xs → Contains xs (get_or xs k d)
element xs k d below = (k, below, grind (arith, common_steps))

-- a list of different nodes has no node twice
twice : (node : ℕ) (before after : List ℕ) → AllPairs (λ a b. a ≢ b) (before ++ node ∷ after) → IsNodeAmong node before → ⊥
twice node before after different among =
    let at = Contains-among node before among in
    let less : at.0 < length before = at.1 in
    let first : get_or (before ++ node ∷ after) at.0 node ≡ get_or before at.0 node = grind (arith, common_steps) in
    let second : get_or (before ++ node ∷ after) (length before) node ≡ node = grind (arith, common_steps) in
    let size = length-append before (node ∷ after) in
    different at.0 (length before) node less (omega (arith, size)) (first ∙ at.2 ∙ sym second)

module _ (pool : Contents Row) (sessions : List Chain) (words : FinMap nat_cmp (List Chain)) (waiting : ℕ) (kept : IsKept pool sessions words waiting) (slot : ℕ) where
  pub listing-none_yet : (chain : Chain) → slice_get sessions slot ≡ Some chain → IsListing pool sessions slot chain.first 0 chain.length []
  listing-none_yet chain at = record {
    walk = walk-begun pool sessions words waiting kept slot chain at;
    seen = λ node row i. absurd i;
    sound = λ x c. nothing x c;
    once = λ i j d less below. absurd (omega (arith, below));
  }

  module _ (at : Option ℕ) (steps end : ℕ) (waiting_requests : List (ℕ × (ℕ × ℕ × Op))) (listing : IsListing pool sessions slot at steps end waiting_requests) where
    -- if some are left, there is a next node
    pub listing-more : steps < end → IsSome at
    listing-more less = by_rest listing.walk.rest listing.walk.next (ap length listing.walk.split ∙ length-append listing.walk.before listing.walk.rest)
      where
        by_rest : (rest : List ℕ) → at ≡ first_or None rest → length (list_of pool OfSession listing.walk.chain) ≡ length listing.walk.before + length rest → IsSome at
        by_rest [] n e = absurd (omega (arith, listing.walk.whole, listing.walk.counted, e, less))
        by_rest (x ∷ rest) n e = ap is_some n

    -- at the end all are collected
    pub listing-all : end ≤ steps → AreWaitingRequestsOf (members_of pool.items) slot waiting_requests
    listing-all past = λ number what. (listed_waits number what, λ e. waits_listed number what (get (members_of pool.items) (slot, number)) refl e)
      where
        listed_waits : (number : ℕ) (what : ℕ × ℕ × Op) → Contains waiting_requests (number, what) → option_map access_fields (get (members_of pool.items) (slot, number)) ≡ Some what
        listed_waits number what c =
            let found = listing.sound (number, what) c in
            let row = found.row in
            let key : key_of row ≡ (slot, number) = λ i. (found.of_slot i, (found.agrees i).0) in
            ap (λ k. option_map access_fields (get (members_of pool.items) k)) (sym key)
            ∙ ap (option_map access_fields) (members-row pool.items kept.different found.node row found.is)
            ∙ ap (λ x. Some x.1) found.agrees

        waits_listed : (number : ℕ) (what : ℕ × ℕ × Op) (o : Option WaitingAccess) → get (members_of pool.items) (slot, number) ≡ o → option_map access_fields (get (members_of pool.items) (slot, number)) ≡ Some what → Contains waiting_requests (number, what)
        waits_listed number what None e is = none_some (sym (ap (option_map access_fields) e) ∙ is)
        waits_listed number what (Some waiter) e is =
            let found = members-node pool.items (slot, number) waiter e in
            let row = found.1 in
            let among = walk-has pool sessions words waiting kept slot at steps end listing.walk found.0 row found.2 (ap (λ p. p.0) found.3) in
            let what_is : access_fields waiter ≡ what = some_same (sym (ap (option_map access_fields) e) ∙ is) in
            let listed_is : listed_row row ≡ (number, what) = λ i. ((found.3 i).1, (ap access_fields found.4 ∙ what_is) i) in
            subst (Contains waiting_requests) listed_is (listing.seen found.0 row (subst (IsNodeAmong found.0) (walk-all pool sessions words waiting kept slot at steps end listing.walk past) among) found.2)

    -- the current node
    module _ (node : ℕ) (here : at ≡ Some node) where
      row_here : (row : Row) × (row_in pool.items node ≡ Some row) × (row.slot ≡ slot)
      row_here = walk-row pool sessions words waiting kept slot at steps end listing.walk node here

      -- its number is not collected yet, since no node is on the list twice
      new_number : AllPairs (λ a b. a ≢ b) (list_of pool OfSession listing.walk.chain) → (row : Row) → row_in pool.items node ≡ Some row → (x : ℕ × (ℕ × ℕ × Op)) → Contains waiting_requests x → x.0 ≢ row.number
      new_number different row is x c same =
          let found = listing.sound x c in
          let its = row_here in
          let rows : its.0 ≡ row = some_same (sym its.1 ∙ is) in
          let slots : found.row.slot ≡ row.slot = found.of_slot ∙ sym its.2 ∙ ap (λ (r : Row). r.slot) rows in
          let numbers : found.row.number ≡ row.number = ap (λ t. t.0) found.agrees ∙ same in
          let key : key_of found.row ≡ key_of row = λ i. (slots i, numbers i) in
          let nodes : found.node ≡ node = kept.different found.node node found.row row found.is is key in
          twice node listing.walk.before _ (subst (AllPairs (λ a b. a ≢ b)) (walk-split pool sessions words waiting kept slot at steps end listing.walk node here) different) (subst (λ n. IsNodeAmong n listing.walk.before) nodes found.among)

      -- it is collected
      pub listing-next : AllPairs (λ a b. a ≢ b) (list_of pool OfSession listing.walk.chain) → (row : Row) (next : Option ℕ) → row_in pool.items node ≡ Some row → IsNext pool OfSession node next → IsListing pool sessions slot next (steps + 1) end (waiting_requests ++ listed_row row ∷ [])
      listing-next different row next is goes = record {
        walk = walk-next pool sessions words waiting kept slot at steps end listing.walk node here next goes;
        seen = λ n r i e. elim (among-append_cases n listing.walk.before (node ∷ []) i) as (λ _. Contains (waiting_requests ++ listed_row row ∷ []) (listed_row r)) [
          | inl old ↦ Contains-append_left waiting_requests (listed_row row ∷ []) (listed_row r) (listing.seen n r old e)
          | inr last ↦ elim last as (λ _. Contains (waiting_requests ++ listed_row row ∷ []) (listed_row r)) [
            | inl same ↦
                let rows : row ≡ r = some_same (sym is ∙ ap (row_in pool.items) (sym same) ∙ e) in
                Contains-append_right waiting_requests (listed_row row ∷ []) (listed_row r) (alone _ _ (ap listed_row rows))
            | inr none ↦ absurd none
          ]
        ];
        sound = λ x c. elim (Contains-append_cases waiting_requests (listed_row row ∷ []) x c) as (λ _. ListedRow pool slot (listing.walk.before ++ node ∷ []) x) [
          | inl old ↦
              let found = listing.sound x old in
              record {
                node = found.node;
                row = found.row;
                is = found.is;
                of_slot = found.of_slot;
                agrees = found.agrees;
                among = among-append_left found.node listing.walk.before (node ∷ []) found.among;
              }
          | inr last ↦
              let found = row_here in
              let rows : found.0 ≡ row = some_same (sym found.1 ∙ is) in
              record {
                node = node;
                row = row;
                is = is;
                of_slot = ap (λ (r : Row). r.slot) (sym rows) ∙ found.2;
                agrees = only _ _ last;
                among = among-append_right node listing.walk.before (node ∷ []) (inl refl);
              }
        ];
        once = all_pairs_push (λ a b. a.0 ≢ b.0) waiting_requests (listed_row row) listing.once (λ k d below. new_number different row is (get_or waiting_requests k d) (element waiting_requests k d below));
      }
