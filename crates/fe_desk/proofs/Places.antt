-- The client of a connection number, at its place among the clients.
use Rattle.std.proofs.Common.{◌≡◌, ◌≢◌, ℕ, zero, suc, ◌+◌, ◌<◌, Bool, true, false, true≢false, List, [], ◌∷◌, ◌++◌, map, length, Option, Some, None, is_some, refl, sym, ap, subst, ◌∙◌, arith, slice_set, get_or, nat_eq, if◌then◌else◌}
use Rattle.std.specs.Prelude.{slice_get, cond, position, IfSome, IfNone, ◌||◌}
use Rattle.std.specs.Option.{option_map}
use Rattle.std.proofs.lemmas.Bool.Decides.{nat_tests}
use Rattle.std.proofs.lemmas.List.{map-set, length-map}
use Rattle.std.specs.List.{position_from}
use Rattle.std.proofs.lemmas.Iterator.Adapters.{position_from-zero}
use Rattle.std.proofs.lemmas.Option.{none-some, slice_get_read, same_Some, slice_get-map}
use Rattle.fe_desk.specs.declared.port.Port.{Port}
use Rattle.fe_desk.specs.within.Desk.{client_of, IsFirstAt, client_number_at}
use Rattle.fe_desk.specs.DeskRunState.{Client}
use Rattle.fe_desk.specs.Steps.{find, on_client}

-- the numbers of clients, in their order
abbrev pub numbers : List Client → List ℕ
numbers clients = map (λ c. c.conn) clients

equal_numbers : (a b : ℕ) → a ≡ b → nat_eq a b ≡ true
equal_numbers a b e = grind (arith, nat_tests)

other_numbers : (a b : ℕ) → a ≢ b → nat_eq a b ≡ false
other_numbers a b e = grind (arith, nat_tests)

-- ---- the first of a number

pub behind : (x : Client) (xs : List Client) (conn at : ℕ) → IsFirstAt (x ∷ xs) conn (suc at) → IsFirstAt xs conn at
behind x xs conn at p = let within = p.within in record {
  within = omega (arith, within);
  here = p.here;
  first = λ i lt. p.first (suc i) (omega (arith, lt));
}

head_other : (x : Client) (xs : List Client) (conn at : ℕ) → IsFirstAt (x ∷ xs) conn (suc at) → nat_eq x.conn conn ≡ false
head_other x xs conn at p = other_numbers x.conn conn (λ e. p.first 0 (omega arith) (ap (λ (n : ℕ). Some n) e))

pub head_same : (x : Client) (xs : List Client) (conn : ℕ) → IsFirstAt (x ∷ xs) conn 0 → nat_eq x.conn conn ≡ true
head_same x xs conn p = equal_numbers x.conn conn (same_Some _ _ p.here)

-- it is the one that is found
pub found_first : (clients : List Client) (conn at : ℕ) (c : Client) → IsFirstAt clients conn at → slice_get clients at ≡ Some c → find conn clients ≡ Some c
found_first [] conn at c p is = let within = p.within in absurd (omega (arith, within))
found_first (x ∷ xs) conn zero c p is = ap (λ (b : Bool). if b then Some x else find conn xs) (head_same x xs conn p) ∙ is
found_first (x ∷ xs) conn (suc at) c p is =
    ap (λ (b : Bool). if b then Some x else find conn xs) (head_other x xs conn at p) ∙ found_first xs conn at c (behind x xs conn at p) is

-- and the one that is changed
pub changed_first : (clients : List Client) (conn at : ℕ) (c : Client) (change : Client → Client) → IsFirstAt clients conn at → slice_get clients at ≡ Some c
    → on_client conn change clients ≡ slice_set clients at (change c)
changed_first [] conn at c change p is = let within = p.within in absurd (omega (arith, within))
changed_first (x ∷ xs) conn zero c change p is =
    ap (λ (b : Bool). if b then change x ∷ xs else x ∷ on_client conn change xs) (head_same x xs conn p) ∙ ap (λ (y : Client). change y ∷ xs) (same_Some _ _ is)
changed_first (x ∷ xs) conn (suc at) c change p is =
    ap (λ (b : Bool). if b then change x ∷ xs else x ∷ on_client conn change xs) (head_other x xs conn at p)
    ∙ ap (λ (ys : List Client). x ∷ ys) (changed_first xs conn at c change (behind x xs conn at p) is)

-- the client at a place
pub number_here : (clients : List Client) (conn at : ℕ) (c : Client) → IsFirstAt clients conn at → slice_get clients at ≡ Some c → c.conn ≡ conn
number_here clients conn at c p is = same_Some _ _ (ap (λ (o : Option Client). option_map (λ d. d.conn) o) (sym is) ∙ p.here)

-- ---- a place is one by the numbers alone

pub client_number_at-numbers : (clients : List Client) (i : ℕ) → client_number_at clients i ≡ slice_get (numbers clients) i
client_number_at-numbers clients i = sym (slice_get-map (λ (c : Client). c.conn) clients i)

pub first_by_numbers : (clients others : List Client) (conn at : ℕ) → numbers others ≡ numbers clients → IsFirstAt clients conn at → IsFirstAt others conn at
first_by_numbers clients others conn at same p =
    let long : length others ≡ length clients = sym (length-map others (λ (c : Client). c.conn)) ∙ ap length same ∙ length-map clients (λ (c : Client). c.conn) in
    let within = p.within in
    let each : (i : ℕ) → client_number_at others i ≡ client_number_at clients i = λ i. client_number_at-numbers others i ∙ ap (λ (ns : List ℕ). slice_get ns i) same ∙ sym (client_number_at-numbers clients i) in
    record {
      within = omega (arith, long, within);
      here = each at ∙ p.here;
      first = λ i lt e. p.first i lt (sym (each i) ∙ e);
    }

-- a change that keeps the number keeps all numbers
pub numbers_changed : (clients : List Client) (conn : ℕ) (change : Client → Client) → ((c : Client) → (change c).conn ≡ c.conn) → numbers (on_client conn change clients) ≡ numbers clients
numbers_changed [] conn change keeps = refl
numbers_changed (c ∷ cs) conn change keeps = by (nat_eq c.conn conn) (numbers_changed cs conn change keeps)
  where
    by : (b : Bool) → numbers (on_client conn change cs) ≡ numbers cs → numbers (if b then change c ∷ cs else c ∷ on_client conn change cs) ≡ numbers (c ∷ cs)
    by true rest = ap (λ (n : ℕ). n ∷ numbers cs) (keeps c)
    by false rest = ap (λ (ns : List ℕ). c.conn ∷ ns) rest

-- ---- which numbers are found

abbrev has : ℕ → List ℕ → Bool
has conn [] = false
has conn (n ∷ ns) = nat_eq n conn || has conn ns

has-found : (conn : ℕ) (clients : List Client) → is_some (find conn clients) ≡ has conn (numbers clients)
has-found conn [] = refl
has-found conn (c ∷ cs) = by (nat_eq c.conn conn) (has-found conn cs)
  where
    by : (b : Bool) → is_some (find conn cs) ≡ has conn (numbers cs) → is_some (if b then Some c else find conn cs) ≡ (b || has conn (numbers cs))
    by true rest = refl
    by false rest = rest

pub found_by_numbers : (clients others : List Client) (conn : ℕ) → numbers others ≡ numbers clients → is_some (find conn others) ≡ is_some (find conn clients)
found_by_numbers clients others conn same = has-found conn others ∙ ap (has conn) same ∙ sym (has-found conn clients)

-- those that were found are found with one more, and so is that
pub found_more : (clients : List Client) (c : Client) (conn : ℕ) → is_some (find conn clients) ≡ true → is_some (find conn (clients ++ c ∷ [])) ≡ true
found_more [] c conn is = absurd (true≢false (sym is))
found_more (x ∷ xs) c conn is = by (nat_eq x.conn conn) (found_more xs c conn) is
  where
    by : (b : Bool) → (is_some (find conn xs) ≡ true → is_some (find conn (xs ++ c ∷ [])) ≡ true) → is_some (if b then Some x else find conn xs) ≡ true
        → is_some (if b then Some x else find conn (xs ++ c ∷ [])) ≡ true
    by true rest e = refl
    by false rest e = rest e

pub found_last : (clients : List Client) (c : Client) → is_some (find c.conn (clients ++ c ∷ [])) ≡ true
found_last [] c = ap (λ (b : Bool). is_some (if b then Some c else None)) (equal_numbers c.conn c.conn refl)
found_last (x ∷ xs) c = by (nat_eq x.conn c.conn) (found_last xs c)
  where
    by : (b : Bool) → is_some (find c.conn (xs ++ c ∷ [])) ≡ true → is_some (if b then Some x else find c.conn (xs ++ c ∷ [])) ≡ true
    by true rest = refl
    by false rest = rest

-- a number is found where it stands, and not found where it stands nowhere
pub client_there : (clients : List Client) (i : ℕ) → i < length clients → (c : Client) × (slice_get clients i ≡ Some c)
client_there [] i lt = absurd (omega (arith, lt))
client_there (x ∷ xs) zero lt = (x, refl)
client_there (x ∷ xs) (suc i) lt = client_there xs i (omega (arith, lt))

pub found_there : (clients : List Client) (conn at : ℕ) → IsFirstAt clients conn at → is_some (find conn clients) ≡ true
found_there clients conn at p =
    let (c, is) = client_there clients at p.within in
    ap (λ (o : Option Client). is_some o) (found_first clients conn at c p is)

-- a number that is not found is changed nowhere
pub changed_nowhere : (clients : List Client) (conn : ℕ) (change : Client → Client) → find conn clients ≡ None → on_client conn change clients ≡ clients
changed_nowhere [] conn change none = refl
changed_nowhere (x ∷ xs) conn change none = by (nat_eq x.conn conn) (changed_nowhere xs conn change) none
  where
    by : (b : Bool) → (find conn xs ≡ None → on_client conn change xs ≡ xs) → (if b then Some x else find conn xs) ≡ None
        → (if b then change x ∷ xs else x ∷ on_client conn change xs) ≡ x ∷ xs
    by true rest e = absurd (true≢false (ap (λ (o : Option Client). is_some o) e))
    by false rest e = ap (λ (ys : List Client). x ∷ ys) (rest e)

-- ---- ports

pub ports_changed : (ports : List Port) (at : ℕ) (p : Port) → map client_of (slice_set ports at p) ≡ slice_set (map client_of ports) at (client_of p)
ports_changed ports at p = map-set client_of ports at p

pub port_here : (ports : List Port) (conn at : ℕ) (p : Port) → IsFirstAt (map client_of ports) conn at → p ≡ get_or ports at p → slice_get (map client_of ports) at ≡ Some (client_of p)
port_here ports conn at p first is =
    let within = first.within in
    let long = length-map ports client_of in
    slice_get-map client_of ports at ∙ ap (λ (o : Option Port). option_map client_of o) (slice_get_read ports (length ports) at p refl (omega (arith, within, long)) is)

-- the port of a number is changed
pub port_changed : (ports : List Port) (conn at : ℕ) (p q : Port) (change : Client → Client) → IsFirstAt (map client_of ports) conn at → p ≡ get_or ports at p → client_of q ≡ change (client_of p)
    → map client_of (slice_set ports at q) ≡ on_client conn change (map client_of ports)
port_changed ports conn at p q change first is to =
    ports_changed ports at q ∙ ap (λ (c : Client). slice_set (map client_of ports) at c) to
    ∙ sym (changed_first (map client_of ports) conn at (client_of p) change first (port_here ports conn at p first is))

-- ---- what a search for a number's port gives

equal_tested : (a b : ℕ) → nat_eq a b ≡ true → a ≡ b
equal_tested a b e = grind (arith, nat_tests)

first_here : (x : Client) (xs : List Client) (conn : ℕ) → nat_eq x.conn conn ≡ true → IsFirstAt (x ∷ xs) conn 0
first_here x xs conn is = record {
  within = omega arith;
  here = ap (λ (n : ℕ). Some n) (equal_tested x.conn conn is);
  first = λ i lt. absurd (omega (arith, lt));
}

other_before : (x : Client) (xs : List Client) (conn k : ℕ) → nat_eq x.conn conn ≡ false → IsFirstAt xs conn k → (i : ℕ) → i < suc k → client_number_at (x ∷ xs) i ≢ Some conn
other_before x xs conn k is p zero lt same = absurd (true≢false (sym (equal_numbers x.conn conn (same_Some _ _ same)) ∙ is))
other_before x xs conn k is p (suc i) lt same = p.first i (omega (arith, lt)) same

first_behind : (x : Client) (xs : List Client) (conn k : ℕ) → nat_eq x.conn conn ≡ false → IsFirstAt xs conn k → IsFirstAt (x ∷ xs) conn (suc k)
first_behind x xs conn k is p = let within = p.within in record {
  within = omega (arith, within);
  here = p.here;
  first = other_before x xs conn k is p;
}

abbrev pub search_from : ℕ → ℕ → List Port → Option ℕ
search_from conn i ports = position_from (λ p. nat_eq p.conn conn) i ports

-- a place found from a number of places on is the first
record Found (ports : List Port) (conn i at : ℕ) : Type 0 where
  pub place : ℕ
  pub sum : at ≡ i + place
  pub first : IsFirstAt (map client_of ports) conn place

first_from : (conn : ℕ) (ports : List Port) (i at : ℕ) → search_from conn i ports ≡ Some at → Found ports conn i at
first_from conn [] i at e = absurd (none-some at e)
first_from conn (p ∷ ps) i at e = by (nat_eq p.conn conn) refl (first_from conn ps (i + 1) at) e
  where
    by : (b : Bool) → nat_eq p.conn conn ≡ b → (search_from conn (i + 1) ps ≡ Some at → Found ps conn (i + 1) at) → cond b (Some i) (search_from conn (i + 1) ps) ≡ Some at → Found (p ∷ ps) conn i at
    by true is rest e =
        let here = same_Some i at e in record { place = 0; sum = omega (arith, here); first = first_here (client_of p) (map client_of ps) conn is }
    by false is rest e =
        let found = rest e in
        let sum = found.sum in
        record { place = suc found.place; sum = omega (arith, sum); first = first_behind (client_of p) (map client_of ps) conn found.place is found.first }

none_from : (conn : ℕ) (ports : List Port) (i : ℕ) → search_from conn i ports ≡ None → find conn (map client_of ports) ≡ None
none_from conn [] i e = refl
none_from conn (p ∷ ps) i e = by (nat_eq p.conn conn) (none_from conn ps (i + 1)) e
  where
    by : (b : Bool) → (search_from conn (i + 1) ps ≡ None → find conn (map client_of ps) ≡ None) → cond b (Some i) (search_from conn (i + 1) ps) ≡ None
        → (if b then Some (client_of p) else find conn (map client_of ps)) ≡ None
    by true rest e = absurd (true≢false (ap (λ (o : Option ℕ). is_some o) e))
    by false rest e = rest e

pub first_searched : (conn : ℕ) (ports : List Port) (at : ℕ) → position (λ p. nat_eq p.conn conn) ports ≡ Some at → IsFirstAt (map client_of ports) conn at
first_searched conn ports at e =
    let found = first_from conn ports 0 at (sym (position_from-zero (λ p. nat_eq p.conn conn) ports) ∙ e) in
    let sum = found.sum in
    let same : found.place ≡ at = omega (arith, sum) in
    subst (IsFirstAt (map client_of ports) conn) same found.first

pub none_searched : (conn : ℕ) (ports : List Port) → position (λ p. nat_eq p.conn conn) ports ≡ None → find conn (map client_of ports) ≡ None
none_searched conn ports e = none_from conn ports 0 (sym (position_from-zero (λ p. nat_eq p.conn conn) ports) ∙ e)

pub place_some : (conn : ℕ) (ports : List Port) (r : Option ℕ) → r ≡ position (λ p. nat_eq p.conn conn) ports → IfSome r (λ at. IsFirstAt (map client_of ports) conn at)
place_some conn ports None e = tt
place_some conn ports (Some at) e = first_searched conn ports at (sym e)

pub place_none : (conn : ℕ) (ports : List Port) (r : Option ℕ) → r ≡ position (λ p. nat_eq p.conn conn) ports → IfNone r (find conn (map client_of ports) ≡ None)
place_none conn ports None e = none_searched conn ports (sym e)
place_none conn ports (Some at) e = tt

-- the client that is found has the number
pub found_number : (conn : ℕ) (clients : List Client) (c : Client) → find conn clients ≡ Some c → c.conn ≡ conn
found_number conn [] c is = absurd (true≢false (sym (ap is_some is)))
found_number conn (x ∷ xs) c is = by (nat_eq x.conn conn) refl (found_number conn xs c) is
  where
    number : nat_eq x.conn conn ≡ true → x.conn ≡ conn
    number same = grind (arith, nat_tests)

    by : (b : Bool) → nat_eq x.conn conn ≡ b → (find conn xs ≡ Some c → c.conn ≡ conn) → (if b then Some x else find conn xs) ≡ Some c → c.conn ≡ conn
    by true same rest is = ap (λ (y : Client). y.conn) (sym (same_Some x c is)) ∙ number same
    by false other rest is = rest is
