-- Parts of an image that are loaded one after the other.
use Rattle.std.proofs.Common.{◌≡◌, ℕ, zero, suc, List, [], ◌∷◌, ◌++◌, length, Option, Some, true, Result, Ok, refl, ap, subst, ◌∙◌, append_assoc}
use Rattle.std.specs.Prelude.{flat_map}
use Rattle.std.specs.List.{AllByRecursion}
use Rattle.fe_state.specs.State.{ServerState}
use Rattle.fe_codes.specs.Reading.{IsBytes}
use Rattle.fe_codec.specs.FirstFault.{◌followed_by◌, is_after, repeated}
use Rattle.fe_codec.proofs.InOrder.{Rises}
use Rattle.fe_codes.proofs.Splits.{Splits, splits_then}
use Rattle.fe_codec.proofs.ImageFields.{bind_ok, ok_is, goes_from}

-- the key of the part before, the state, and the bytes so far
abbrev pub Walk : Type 0
Walk = Option ℕ × ServerState × List ℕ

-- what holds of each, where something stronger does
pub all_so : {X : Type 0} (P Q : X → Type 0) → ((x : X) → P x → Q x) → (xs : List X) → AllByRecursion P xs → AllByRecursion Q xs
all_so P Q f [] h = tt
all_so P Q f (x ∷ xs) h = (f x h.0, all_so P Q f xs h.1)

module _ {X : Type 0} (step : Walk → Result Walk ℕ) (load : ServerState → ℕ × X → ServerState) (spelled : ℕ × X → List ℕ) where
  abbrev pub load_all : ServerState → List (ℕ × X) → ServerState
  load_all s [] = s
  load_all s (e ∷ es) = load_all (load s e) es

  module _ (Good : ℕ × X → Type 0) where
    -- what a step took: a part that is spelled so, with a key above the one before
    pub record Loads (x y : Walk) : Type 0 where
      pub entry : ℕ × X
      pub rest : List ℕ
      pub is : y ≡ (Some entry.0, load x.1 entry, rest)
      pub above : is_after x.0 entry.0 ≡ true
      pub text : Splits x.2 (spelled entry) rest
      pub good : Good entry

    pub record LoadsAll (n : ℕ) (x y : Walk) : Type 0 where
      pub entries : List (ℕ × X)
      pub state : y.1 ≡ load_all x.1 entries
      pub count : length entries ≡ n
      pub rises : Rises x.0 entries
      pub text : Splits x.2 (flat_map spelled entries) y.2
      pub good : AllByRecursion Good entries

    -- parts that were taken are spelled one after another
    pub loads_all : ((x y : Walk) → IsBytes x.2 → step x ≡ Ok y → Loads x y) → (n : ℕ) (x y : Walk) → IsBytes x.2 → repeated step n x ≡ Ok y → LoadsAll n x y
    unfolding repeated
    loads_all each zero x y fits e =
        subst (λ (z : Walk). LoadsAll zero x z) (ok_is x y e) (record { entries = []; state = refl; count = refl; rises = tt; text = record { parts = refl; rest_fits = fits }; good = tt })
    loads_all each (suc n) x y fits e =
        let a = bind_ok (step x) (repeated step n) y e in
        let one = each x a.0 fits a.1 in
        let next : repeated step n (Some one.entry.0, load x.1 one.entry, one.rest) ≡ Ok y = subst (λ (z : Walk). repeated step n z ≡ Ok y) one.is a.2 in
        let more = loads_all each n (Some one.entry.0, load x.1 one.entry, one.rest) y one.text.rest_fits next in
        record {
          entries = one.entry ∷ more.entries;
          state = more.state;
          count = ap suc more.count;
          rises = (one.above, more.rises);
          text = splits_then x.2 (spelled one.entry) one.rest (flat_map spelled more.entries) y.2 one.text more.text;
          good = (one.good, more.good);
        }

-- ---- what was spelled is loaded

module _ {X : Type 0} (step : Walk → Result Walk ℕ) (load : ServerState → ℕ × X → ServerState) (spelled : ℕ × X → List ℕ) where
  abbrev pub last_key : Option ℕ → List (ℕ × X) → Option ℕ
  last_key previous [] = previous
  last_key previous (e ∷ es) = last_key (Some e.0) es

  -- parts that may come one after the other are loaded from their spellings
  pub again_all : (May : Option ℕ → ServerState → List (ℕ × X) → Type 0)
      → ((previous : Option ℕ) (s : ServerState) (e : ℕ × X) (es : List (ℕ × X)) (rest : List ℕ) → May previous s (e ∷ es) → (step (previous, s, spelled e ++ rest) ≡ Ok (Some e.0, load s e, rest)) × May (Some e.0) (load s e) es)
      → (es : List (ℕ × X)) (previous : Option ℕ) (s : ServerState) (rest : List ℕ) → May previous s es
      → repeated step (length es) (previous, s, flat_map spelled es ++ rest) ≡ Ok (last_key previous es, load_all step load spelled s es, rest)
  unfolding repeated
  again_all May each [] previous s rest may = refl
  again_all May each (e ∷ es) previous s rest may =
      let behind : List ℕ = flat_map spelled es ++ rest in
      let grouped : flat_map spelled (e ∷ es) ++ rest ≡ spelled e ++ behind = append_assoc (spelled e) (flat_map spelled es) rest in
      let one = each previous s e es behind may in
      ap (λ (t : List ℕ). step (previous, s, t) followed_by repeated step (length es)) grouped
      ∙ goes_from (step (previous, s, spelled e ++ behind)) (repeated step (length es)) (Some e.0, load s e, behind) one.0
      ∙ again_all May each es (Some e.0) (load s e) rest one.1
