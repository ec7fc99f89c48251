-- What steps append to a store comes together, and stays over what does not touch the store.
use Rattle.std.proofs.Common.{◌≡◌, List, [], ◌∷◌, ◌++◌, refl, sym, ap, subst, ◌∙◌, append_assoc}
use Rattle.std.specs.Prelude.{length, MatchBool}
use Rattle.std.proofs.lemmas.List.{append-nil}
use Rattle.fe_codec.specs.Image.{image_spelling}
use Rattle.fe_format.specs.declared.format.Format.TheVariants.{Two}
use Rattle.fe_state.specs.State.{after_all}
use Rattle.fe_state.specs.declared.entry.Entry.{Entry}
use Rattle.fe_keeper.specs.Keeper.{KeeperState, made_room, appended, can_begin, begun, stepped, finished}
use Rattle.fe_state.specs.declared.batch.Batch.{Batch}
use Rattle.fe_desk.specs.declared.handed.Handed.TheVariants.{Cut}
use Rattle.fe_desk.specs.declared.step.Step.{Step}
use Rattle.fe_desk.specs.declared.step.Step.TheVariants as step
use Rattle.fe_desk.specs.Crash.{DeskState}
use Rattle.fe_desk.specs.Ends.{IsStoreNow, AreAppended, StoresMore, Checks}
use Rattle.fe_desk.specs.within.Desk.{HasStore, with_handed, handing}

appended_both : {D : Type 0} (a b c : KeeperState D) (xs ys : List (List Entry)) → AreAppended a xs b → AreAppended b ys c → AreAppended a (xs ++ ys) c
appended_both {D} a b c [] ys h k = subst (λ (s : KeeperState D). AreAppended s ys c) h k
appended_both {D} a b c (x ∷ xs) ys h k = (h.0, h.1, appended_both h.0 b c xs ys h.2 k)

-- nothing is stored
pub stores_none : {D : Type 0} (a b : DeskState D) → HasStore a b → StoresMore a b
stores_none a b same = record { more = []; groups = same.groups ∙ sym (append-nil a.run_state.groups); appends = same.keeper }

-- a group is stored
pub stores_one : {D : Type 0} (a b : DeskState D) (group : List Entry) → b.run_state.groups ≡ a.run_state.groups ++ group ∷ [] → b.keeper.state ≡ after_all a.keeper.state group
    → IsStoreNow (appended (made_room a.keeper.store group) group) b.keeper.store → StoresMore a b
stores_one a b group groups state store = record { more = group ∷ []; groups = groups; appends = (b.keeper, record { state = state; store = store }, refl) }

pub stores_both : {D : Type 0} (a b c : DeskState D) → StoresMore a b → StoresMore b c → StoresMore a c
stores_both a b c ab bc = record {
  more = ab.more ++ bc.more;
  groups = bc.groups ∙ ap (λ (gs : List (List Entry)). gs ++ bc.more) ab.groups ∙ append_assoc a.run_state.groups ab.more bc.more;
  appends = appended_both a.keeper b.keeper c.keeper ab.more bc.more ab.appends bc.appends;
}

pub stores_then : {D : Type 0} (a b c : DeskState D) → StoresMore a b → HasStore b c → StoresMore a c
stores_then a b c ab same = stores_both a b c ab (stores_none b c same)

pub stores_after : {D : Type 0} (a b c : DeskState D) → HasStore a b → StoresMore b c → StoresMore a c
stores_after a b c same bc = stores_both a b c (stores_none a b same) bc

-- what a step does to the store, from before what does not touch it to after that
pub checks_as : {D : Type 0} (x : Step) (a b c d : DeskState D) → HasStore a b → HasStore c d → Checks x b c → Checks x a d
checks_as {D} x a b c d before behind checked = by x checked
  where
    of : (P : KeeperState D → KeeperState D → Type 0) → P b.keeper c.keeper → P a.keeper d.keeper
    of P p = subst (λ (k : KeeperState D). P a.keeper k) (sym behind.keeper) (subst (λ (k : KeeperState D). P k c.keeper) before.keeper p)

    by : (y : Step) → Checks y b c → Checks y a d
    by step.CheckBegin h = of (λ k j. MatchBool (can_begin k.store) (IsStoreNow (begun k.store (length (image_spelling Two k.state))) j.store) (j ≡ k)) h
    by step.CheckStep h = of (λ k j. IsStoreNow (stepped k.store) j.store) h
    by step.CheckFinish h = of (λ k j. IsStoreNow (finished k.store) j.store) h
    by (step.Connect conn) h = of (λ k j. j ≡ k) h
    by (step.Bytes conn piece) h = stores_after a b d before (stores_then b c d h behind)
    by (step.Gone conn) h = of (λ k j. j ≡ k) h
    by step.Cut h = of (λ k j. j ≡ k) h
    by step.Append h = stores_after a b d before (stores_then b c d h behind)
    by step.Post h = of (λ k j. j ≡ k) h

-- a batch that was not stored is at hand as it was
pub handed_back : {D : Type 0} (d : DeskState D) (back batch : Batch) (groups : List (List Entry)) (k : KeeperState D) → back ≡ batch → groups ≡ d.run_state.groups → k ≡ d.keeper
    → record (with_handed d (Cut back)) { run_state = record (handing d.run_state (Cut back)) { groups = groups }; keeper = k } ≡ with_handed d (Cut batch)
handed_back {D} d back batch groups k same unpushed kept =
    ap (λ (j : KeeperState D). record (with_handed d (Cut back)) { run_state = record (handing d.run_state (Cut back)) { groups = groups }; keeper = j }) kept
    ∙ ap (λ (gs : List (List Entry)). record (with_handed d (Cut back)) { run_state = record (handing d.run_state (Cut back)) { groups = gs } }) unpushed
    ∙ ap (λ (b : Batch). with_handed d (Cut b)) same
