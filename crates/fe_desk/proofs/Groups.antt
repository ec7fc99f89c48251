-- A batch that is handed to the store, as a group of the history.
use Rattle.std.proofs.Common.{◌≡◌, ◌⊎◌, ⊎_elim, ℕ, ◌+◌, ◌-◌, ◌<◌, ◌≤◌, Bool, true, false, List, [], ◌∷◌, ◌++◌, length, take, refl, sym, ap, subst, ◌∙◌, arith}
use Rattle.std.specs.Prelude.{◌↔◌, Option, Some, None, IfSome, is_some, OnOk, IsErr, Result, Ok, Err, is_ok, is_err, if◌then◌else◌, map}
use Rattle.std.proofs.lemmas.List.{append-nil, length-append, map-append, take-append-le, take_all}
use Rattle.fe_disk.specs.Runs.{LeavesOnly}
use Rattle.fe_disk.proofs.Moments.{weaker}
use Rattle.fe_state.specs.State.{ServerState, after, after_all}
use Rattle.fe_state.specs.History.{IsHistory, AreLegal, after_groups}
use Rattle.fe_state.specs.declared.batch.Batch.{Batch}
use Rattle.fe_state.specs.declared.entry.Entry.{Entry}
use Rattle.fe_state.proofs.Histories.{history-append}
use Rattle.fe_service.proofs.Turns.{turns_place}
use Rattle.fe_replica.specs.Replaying.{IsMismatch, Elsewhere, Empty, Illegal}
use Rattle.fe_front.specs.Front as front
use Rattle.fe_front.specs.Front.{FrontState, out_length, is_connected}
use Rattle.fe_front.specs.Posting.{IsOut, posted}
use Rattle.fe_front.proofs.Keeping.{posted_all-keeps}
use Rattle.fe_front.specs.declared.out.Out.{Out}
use Rattle.fe_keeper.specs.Stands.{StandsFor, StandsForEither, EachStandsFor, LeavesPrefix}
use Rattle.fe_desk.specs.declared.handed.Handed.{Handed}
use Rattle.fe_desk.specs.declared.handed.Handed.TheVariants.{Nothing, Cut, Stored}
use Rattle.fe_desk.specs.DeskRunState.{DeskRunState, stored, stored_from}
use Rattle.fe_desk.specs.Steps.{find}
use Rattle.fe_desk.proofs.Advancing.{prefix_more}
use Rattle.fe_front.proofs.Coming.{pending-posted}
use Rattle.fe_desk.specs.Crash.{DeskState, IsFrom, Advances, disk_of}
use Rattle.fe_desk.specs.Acknowledged.{cut_entries}
use Rattle.fe_desk.specs.within.Desk.{IsHanded, IsAhead, IsDesk, unstored, handing}
use Rattle.fe_disk.specs.declared.disk.Disk.{Ghosts}

-- ---- entries after entries

pub legal_both : (s : ServerState) (xs ys : List Entry) → AreLegal s (xs ++ ys) → AreLegal s xs × AreLegal (after_all s xs) ys
legal_both s [] ys legal = (tt, legal)
legal_both s (x ∷ xs) ys legal = let rest = legal_both (after s x) xs ys legal.1 in ((legal.0, rest.0), rest.1)

pub after_both : (s : ServerState) (xs ys : List Entry) → after_all s (xs ++ ys) ≡ after_all (after_all s xs) ys
after_both s [] ys = refl
after_both s (x ∷ xs) ys = after_both (after s x) xs ys

pub after_group : (s : ServerState) (groups : List (List Entry)) (group : List Entry) → after_groups s (groups ++ group ∷ []) ≡ after_all (after_groups s groups) group
after_group s [] group = refl
after_group s (g ∷ gs) group = after_group (after_all s g) gs group

-- ---- a batch that continues the replica

-- the batch that is out begins at the replica's place
pub begins_there : (f : FrontState) (replica : ServerState) (batch : Batch) → front.IsTied f → IsOut f.out batch → f.service.state ≡ after_all replica (batch.entries ++ f.service.pending) → batch.first ≡ replica.place
begins_there f replica batch tied out state = by f.out tied.out_first out tied.place
  where
    places : f.service.state.place ≡ replica.place + (length batch.entries + length f.service.pending)
    places = let most = ap (λ (s : ServerState). s.place) state in let later = turns_place replica (batch.entries ++ f.service.pending) in omega (arith, length-append batch.entries f.service.pending)

    by : (o : Option Out) → IfSome o (λ o. o.first ≡ f.durable) → IsOut o batch → f.service.state.place ≡ f.durable + out_length o + length f.service.pending → batch.first ≡ replica.place
    by None first is place = absurd is
    by (Some o) first is place = let p = places in let one = is.0 in let many = is.1 in omega arith

-- entries that continue it are no mismatch
pub no_mismatch : (s : ServerState) (first : ℕ) (entries : List Entry) (place : ℕ) → first ≡ s.place → 0 < length entries → AreLegal s entries → IsMismatch s first entries place → ⊥
no_mismatch s first entries place begins some legal (Elsewhere other at) = other begins
no_mismatch s first entries place begins some legal (Empty none at) = let e = ap (λ (es : List Entry). length es) none in omega arith
no_mismatch s first entries place begins some legal (Illegal lead rest e begins2 parts front_legal illegal at) =
    illegal (legal_both s lead (e ∷ rest) (subst (λ (es : List Entry). AreLegal s es) parts legal)).1.0

-- ---- what ties the front to the replica, where a batch is stored

pub tied_stored : (s : DeskRunState) (groups : List (List Entry)) (replica next : ServerState) (batch : Batch) → next ≡ after_all replica batch.entries → IsAhead (handing s (Cut batch)) replica
    → IsAhead (record (handing s (Stored batch)) { groups = groups }) next
tied_stored s groups replica next batch is tied =
    let pending : List Entry = s.front.service.pending in
    record {
      handed = tied.handed.0;
      legal = subst (λ (r : ServerState). AreLegal r pending) (sym is) (legal_both replica batch.entries pending tied.legal).1;
      state = tied.state ∙ after_both replica batch.entries pending ∙ ap (λ (r : ServerState). after_all r pending) (sym is);
    }

-- and where none is, whatever becomes of the groups
pub tied_cut : (s : DeskRunState) (groups : List (List Entry)) (replica next : ServerState) (batch back : Batch) → back ≡ batch → next ≡ replica → IsAhead (handing s (Cut batch)) replica
    → IsAhead (record (handing s (Cut back)) { groups = groups }) next
tied_cut s groups replica next batch back same is tied =
    subst (λ (r : ServerState). IsAhead (record (handing s (Cut back)) { groups = groups }) r) (sym is)
    (subst (λ (b : Batch). IsAhead (record (handing s (Cut b)) { groups = groups }) replica) (sym same) (record { handed = tied.handed; legal = tied.legal; state = tied.state }))

-- no batch is cut: there is none to store
pub not_cut : (s : DeskRunState) → ((batch : Batch) → s.handed ≡ Cut batch → ⊥) → stored s ≡ s
not_cut s none = by s.handed none
  where
    by : (h : Handed) → ((batch : Batch) → h ≡ Cut batch → ⊥) → stored_from h s ≡ s
    by Nothing none = refl
    by (Stored batch) none = refl
    by (Cut batch) none = absurd (none batch refl)

-- ---- a batch that is posted

-- the batch that is out is not refused
pub posts : {T E : Type 0} (r : Result T E) (f g : FrontState) (batch : Batch) → (IsErr r ↔ (IsOut f.out batch → ⊥)) → OnOk r (g ≡ posted f batch) → IsOut f.out batch → g ≡ posted f batch
posts (Ok x) f g batch refused clause out = clause
posts (Err e) f g batch refused clause out = absurd (refused.0 refl out)

pub tied_posted : (s t : DeskRunState) (replica : ServerState) (batch : Batch) → s.handed ≡ Stored batch → t.handed ≡ Nothing → t.front ≡ posted s.front batch → IsAhead s replica → IsAhead t replica
tied_posted s t replica batch handed after is tied =
    let pending : t.front.service.pending ≡ s.front.service.pending = pending-posted s.front t.front batch is in
    let state : t.front.service.state ≡ s.front.service.state = ap (λ (f : FrontState). f.service.state) is ∙ (posted_all-keeps s.front batch.entries batch.first).state in
    let out : t.front.out ≡ None = ap (λ (f : FrontState). f.out) is in
    let before : unstored s ≡ s.front.service.pending = ap (λ (h : Handed). cut_entries h ++ s.front.service.pending) handed in
    let same : unstored t ≡ unstored s = ap (λ (h : Handed). cut_entries h ++ t.front.service.pending) after ∙ pending ∙ sym before in
    record {
      handed = subst (λ (h : Handed). IsHanded h t.front.out) (sym after) out;
      legal = subst (λ (es : List Entry). AreLegal replica es) (sym same) tied.legal;
      state = state ∙ tied.state ∙ ap (λ (es : List Entry). after_all replica es) (sym same);
    }

-- ---- the groups of the trace

ok_of_none : {T E : Type 0} (r : Result T E) (b : Bool) → b ≡ is_err r → b ≡ false → is_ok r ≡ true
ok_of_none (Ok x) b is not = refl
ok_of_none (Err e) b is not = cc

ok_of_some : {T E : Type 0} (r : Result T E) (b : Bool) → b ≡ is_err r → b ≡ true → is_ok r ≡ false
ok_of_some (Ok x) b is not = cc
ok_of_some (Err e) b is not = refl

-- a group is pushed
pub pushed : {A B T E : Type 0} (f : A → B) (xs ys : List A) (x : A) (y : B) (r : Result T E) (b : Bool) → ys ≡ (if is_ok r then xs ++ x ∷ [] else xs) → b ≡ is_err r → b ≡ false → f x ≡ y
    → map f ys ≡ map f xs ++ y ∷ []
pushed {A} {B} f xs ys x y r b is err none same = by (is_ok r) (ok_of_none r b err none) is
  where
    by : (ok : Bool) → ok ≡ true → ys ≡ (if ok then xs ++ x ∷ [] else xs) → map f ys ≡ map f xs ++ y ∷ []
    by true ok is = ap (λ (zs : List A). map f zs) is ∙ map-append f xs (x ∷ []) ∙ ap (λ (z : B). map f xs ++ z ∷ []) same
    by false ok is = absurd (cc ok)

-- there was no memory for it
pub unpushed : {A B T E : Type 0} (f : A → B) (xs ys : List A) (x : A) (r : Result T E) (b : Bool) → ys ≡ (if is_ok r then xs ++ x ∷ [] else xs) → b ≡ is_err r → b ≡ true → map f ys ≡ map f xs
unpushed {A} {B} f xs ys x r b is err none = by (is_ok r) (ok_of_some r b err none) is
  where
    by : (ok : Bool) → ok ≡ false → ys ≡ (if ok then xs ++ x ∷ [] else xs) → map f ys ≡ map f xs
    by true ok is = absurd (cc ok)
    by false ok is = ap (λ (zs : List A). map f zs) is

-- it is pushed, and taken away again
pub popped : {A B T E : Type 0} (f : A → B) (xs ys zs : List A) (x : A) (n : ℕ) (r : Result T E) (b : Bool) → ys ≡ (if is_ok r then xs ++ x ∷ [] else xs) → b ≡ is_err r → b ≡ false
    → n ≡ length ys → zs ≡ take (n - 1) ys → map f zs ≡ map f xs
popped {A} {B} f xs ys zs x n r b is err none many rest = by (is_ok r) (ok_of_none r b err none) is
  where
    by : (ok : Bool) → ok ≡ true → ys ≡ (if ok then xs ++ x ∷ [] else xs) → map f zs ≡ map f xs
    by true ok is =
        let long = ap (λ (s : List A). length s) is in
        let front : n - 1 ≡ length xs = omega (arith, length-append xs (x ∷ [])) in
        let back : take (n - 1) ys ≡ xs =
        ap (λ (k : ℕ). take k ys) front ∙ ap (λ (s : List A). take (length xs) s) is ∙ take-append-le (length xs) xs (x ∷ []) (omega arith) ∙ take_all (length xs) xs (omega arith) in
        ap (λ (s : List A). map f s) (rest ∙ back)
    by false ok is = absurd (cc ok)

-- ---- what images stand for

-- the state after this many of the groups
pub leaves_at : (begun : ServerState) (groups : List (List Entry)) (k : ℕ) (image : List ℕ) (s : ServerState) → s ≡ after_groups begun (take k groups) → k ≤ length groups → StandsFor image s → LeavesPrefix begun groups k image
leaves_at begun groups k image s is few stands = record {
  state = s;
  stands = stands;
  prefix = record { kept = k; least = omega arith; most = few; state_is = is };
}

-- the state after all of them
pub leaves_all : (begun : ServerState) (groups : List (List Entry)) (k : ℕ) (image : List ℕ) (s : ServerState) → s ≡ after_groups begun groups → k ≤ length groups → StandsFor image s → LeavesPrefix begun groups k image
leaves_all begun groups k image s is few stands = record {
  state = s;
  stands = stands;
  prefix =
      record {
        kept = length groups;
        least = few;
        most = omega arith;
        state_is = is ∙ ap (λ (gs : List (List Entry)). after_groups begun gs) (sym (take_all (length groups) groups (omega arith)));
      };
}

-- where all groups are stored, the replica is the state after them
all_stored : {D : Type 0} (begun : ServerState) (d : DeskState D) → d.synced ≡ length d.run_state.groups → IsFrom begun d → d.keeper.state ≡ after_groups begun d.run_state.groups
all_stored begun d all from = from.replica ∙ ap (λ (gs : List (List Entry)). after_groups begun gs) (take_all d.synced d.run_state.groups (omega arith))

-- ---- a group comes to the history

-- the group is not known to be stored, and the replica stays; or it is stored, and the replica goes on
abbrev pub GoesOn : {D : Type 0} → DeskState D → DeskState D → List Entry → Type 0
GoesOn old new entries =
    ((new.synced ≡ old.synced) × (new.keeper.state ≡ old.keeper.state)) ⊎ ((new.synced ≡ length new.run_state.groups) × (new.keeper.state ≡ after_all old.keeper.state entries))

group_from : {D : Type 0} (begun : ServerState) (old new : DeskState D) (entries : List Entry) → new.run_state.groups ≡ old.run_state.groups ++ entries ∷ [] → old.synced ≡ length old.run_state.groups
    → 0 < length entries → AreLegal old.keeper.state entries → GoesOn old new entries → IsFrom begun old → IsFrom begun new
group_from {D} begun old new entries groups all some legal goes from =
    let before : List (List Entry) = old.run_state.groups in
    let replica : old.keeper.state ≡ after_groups begun before = all_stored begun old all from in
    let next : AreLegal (after_groups begun before) entries = subst (λ (s : ServerState). AreLegal s entries) replica legal in
    let history : IsHistory begun (before ++ entries ∷ []) = history-append begun before (entries ∷ []) from.history (some, next, tt) in
    record {
      history = subst (λ (gs : List (List Entry)). IsHistory begun gs) (sym groups) history;
      replica =
          ⊎_elim
          (λ (kept : (new.synced ≡ old.synced) × (new.keeper.state ≡ old.keeper.state)).
          kept.1 ∙ from.replica ∙ ap (λ (gs : List (List Entry)). after_groups begun gs) (sym (take-append-le old.synced before (entries ∷ []) (omega arith)))
          ∙ ap (λ (gs : List (List Entry)). after_groups begun (take old.synced gs)) (sym groups) ∙ ap (λ (n : ℕ). after_groups begun (take n new.run_state.groups)) (sym kept.0))
          (λ (stored : (new.synced ≡ length new.run_state.groups) × (new.keeper.state ≡ after_all old.keeper.state entries)).
          stored.1 ∙ ap (λ (s : ServerState). after_all s entries) replica ∙ sym (after_group begun before entries) ∙ ap (λ (gs : List (List Entry)). after_groups begun gs) (sym groups)
          ∙ ap (λ (gs : List (List Entry)). after_groups begun gs) (sym (take_all new.synced new.run_state.groups (let e = stored.0 in omega arith)))) goes;
    }

-- the images that an append leaves
either_leaves : {D : Type 0} (begun : ServerState) (old : DeskState D) (groups : List (List Entry)) (entries : List Entry) → groups ≡ old.run_state.groups ++ entries ∷ [] → old.synced ≡ length old.run_state.groups
    → IsFrom begun old → (image : List ℕ) → StandsForEither old.keeper.state (after_all old.keeper.state entries) image → LeavesPrefix begun groups old.synced image
either_leaves {D} begun old groups entries same all from image stands =
    let before : List (List Entry) = old.run_state.groups in
    subst (λ (gs : List (List Entry)). LeavesPrefix begun gs old.synced image) (sym same)
    (⊎_elim
    (λ (s : StandsFor image old.keeper.state).
    prefix_more begun before (entries ∷ []) old.synced old.synced image (omega arith) (leaves_at begun before old.synced image old.keeper.state from.replica (omega arith) s))
    (λ (s : StandsFor image (after_all old.keeper.state entries)).
    leaves_all begun (before ++ entries ∷ []) old.synced image (after_all old.keeper.state entries)
    (ap (λ (s : ServerState). after_all s entries) (all_stored begun old all from) ∙ sym (after_group begun before entries)) (omega (arith, length-append before (entries ∷ []))) s)
    stands)

module _ {D : Type 0} (model : Ghosts D) where
  pub advances_group : (old new : DeskState D) (entries : List Entry) → new.run_state.groups ≡ old.run_state.groups ++ entries ∷ [] → old.synced ≡ length old.run_state.groups
      → 0 < length entries → AreLegal old.keeper.state entries → GoesOn old new entries
      → (model.honest (disk_of old) → old.keeper.store.has_failed ≡ false
      → LeavesOnly model (disk_of old) (disk_of new) (StandsForEither old.keeper.state (after_all old.keeper.state entries)))
      → (model.honest (disk_of new) ↔ model.honest (disk_of old)) → Advances model old new
  advances_group old new entries groups all some legal goes run honesty = record {
    more = entries ∷ [];
    groups = groups;
    synced =
        let n = ap (λ (gs : List (List Entry)). length gs) groups in
        ⊎_elim (λ (kept : (new.synced ≡ old.synced) × (new.keeper.state ≡ old.keeper.state)). let e = kept.0 in omega arith)
        (λ (stored : (new.synced ≡ length new.run_state.groups) × (new.keeper.state ≡ after_all old.keeper.state entries)).
        let e = stored.0 in omega (arith, length-append old.run_state.groups (entries ∷ []))) goes;
    from = λ begun from. group_from begun old new entries groups all some legal goes from;
    any_moment = λ h works begun from.
        weaker model (disk_of old) (disk_of new) (StandsForEither old.keeper.state (after_all old.keeper.state entries)) (LeavesPrefix begun new.run_state.groups old.synced)
        (either_leaves begun old new.run_state.groups entries groups all from) (run h works);
    honesty = honesty;
  }

  -- the group is stored
  pub desk_stored : (new : DeskState D) → IsAhead new.run_state new.keeper.state → ((conn : ℕ) → is_connected new.run_state.front conn ≡ true → is_some (find conn new.run_state.clients) ≡ true)
      → new.synced ≡ length new.run_state.groups → (model.honest (disk_of new) → EachStandsFor model (disk_of new) new.keeper.state) → IsDesk model new
  desk_stored new tied known all stands = record {
    tied = tied;
    known = known;
    few = omega arith;
    all = λ works. all;
    upheld = λ h begun from image may. leaves_at begun new.run_state.groups new.synced image new.keeper.state from.replica (omega arith) (stands h image may);
  }

  -- the device failed, and the group may be stored or not
  pub desk_torn : ((disk : D) (t : ℕ) (image : List ℕ) → model.honest disk → t ≤ model.moment disk → model.may_leave disk image → model.left_since disk t image) → (old new : DeskState D) (entries : List Entry)
      → old.keeper.store.has_failed ≡ false → new.run_state.groups ≡ old.run_state.groups ++ entries ∷ [] → old.synced ≡ length old.run_state.groups
      → new.synced ≡ old.synced → new.keeper.state ≡ old.keeper.state → new.keeper.store.has_failed ≡ true
      → (model.honest (disk_of old) → old.keeper.store.has_failed ≡ false
      → LeavesOnly model (disk_of old) (disk_of new) (StandsForEither old.keeper.state (after_all old.keeper.state entries)))
      → (model.honest (disk_of new) ↔ model.honest (disk_of old)) → IsAhead new.run_state new.keeper.state
      → ((conn : ℕ) → is_connected new.run_state.front conn ≡ true → is_some (find conn new.run_state.clients) ≡ true) → IsDesk model new
  desk_torn counts_now old new entries works groups all synced state failed run honesty tied known =
      let n = ap (λ (gs : List (List Entry)). length gs) groups in
      let few : new.synced ≤ length new.run_state.groups = omega (arith, length-append old.run_state.groups (entries ∷ [])) in
      record {
        tied = tied;
        known = known;
        few = few;
        all = λ fine. absurd (cc (failed, fine));
        upheld = λ h begun from image may.
            let ran = run (honesty.0 h) works in
            let front : take new.synced new.run_state.groups ≡ old.run_state.groups =
            ap (λ (gs : List (List Entry)). take new.synced gs) groups ∙ ap (λ (n : ℕ). take n (old.run_state.groups ++ entries ∷ [])) synced
            ∙ take-append-le old.synced old.run_state.groups (entries ∷ []) (omega arith) ∙ take_all old.synced old.run_state.groups (omega arith) in
            let replica : old.keeper.state ≡ after_groups begun old.run_state.groups = sym state ∙ from.replica ∙ ap (λ (gs : List (List Entry)). after_groups begun gs) front in
            ⊎_elim
            (λ (s : StandsFor image old.keeper.state). leaves_at begun new.run_state.groups new.synced image old.keeper.state (sym state ∙ from.replica) few s)
            (λ (s : StandsFor image (after_all old.keeper.state entries)).
            leaves_all begun new.run_state.groups new.synced image (after_all old.keeper.state entries)
            (ap (λ (s : ServerState). after_all s entries) replica ∙ sym (after_group begun old.run_state.groups entries) ∙ ap (λ (gs : List (List Entry)). after_groups begun gs) (sym groups)) few s)
            (ran.each image (counts_now (disk_of new) (model.moment (disk_of old)) image h ran.later may));
      }

  -- ---- calls that leave the replica and the groups as they are

  pub advances_kept : (old new : DeskState D) → new.run_state.groups ≡ old.run_state.groups → new.synced ≡ old.synced → new.keeper.state ≡ old.keeper.state → old.synced ≤ length old.run_state.groups
      → (model.honest (disk_of old) → old.keeper.store.has_failed ≡ false → LeavesOnly model (disk_of old) (disk_of new) (λ image. StandsFor image old.keeper.state))
      → (model.honest (disk_of new) ↔ model.honest (disk_of old)) → Advances model old new
  advances_kept old new groups synced state few run honesty = record {
    more = [];
    groups = groups ∙ sym (append-nil old.run_state.groups);
    synced = omega arith;
    from = λ begun from.
        record {
          history = subst (λ (gs : List (List Entry)). IsHistory begun gs) (sym groups) from.history;
          replica =
              state ∙ from.replica ∙ ap (λ (gs : List (List Entry)). after_groups begun (take old.synced gs)) (sym groups)
              ∙ ap (λ (n : ℕ). after_groups begun (take n new.run_state.groups)) (sym synced);
        };
    any_moment = λ h works begun from.
        weaker model (disk_of old) (disk_of new) (λ image. StandsFor image old.keeper.state) (LeavesPrefix begun new.run_state.groups old.synced)
        (λ image s.
        subst (λ (gs : List (List Entry)). LeavesPrefix begun gs old.synced image) (sym groups) (leaves_at begun old.run_state.groups old.synced image old.keeper.state from.replica few s))
        (run h works);
    honesty = honesty;
  }

  pub desk_kept : ((disk : D) (t : ℕ) (image : List ℕ) → model.honest disk → t ≤ model.moment disk → model.may_leave disk image → model.left_since disk t image) → (old new : DeskState D) → IsDesk model old
      → old.keeper.store.has_failed ≡ false → new.run_state.groups ≡ old.run_state.groups → new.synced ≡ old.synced → new.keeper.state ≡ old.keeper.state
      → (model.honest (disk_of old) → old.keeper.store.has_failed ≡ false → LeavesOnly model (disk_of old) (disk_of new) (λ image. StandsFor image old.keeper.state))
      → (model.honest (disk_of new) ↔ model.honest (disk_of old)) → IsAhead new.run_state new.keeper.state
      → ((conn : ℕ) → is_connected new.run_state.front conn ≡ true → is_some (find conn new.run_state.clients) ≡ true) → IsDesk model new
  desk_kept counts_now old new desk works groups synced state run honesty tied known =
      let n = ap (λ (gs : List (List Entry)). length gs) groups in
      let all : old.synced ≡ length old.run_state.groups = desk.all works in
      let few : new.synced ≤ length new.run_state.groups = omega arith in
      record {
        tied = tied;
        known = known;
        few = few;
        all = λ fine. omega arith;
        upheld = λ h begun from image may.
            let ran = run (honesty.0 h) works in
            leaves_at begun new.run_state.groups new.synced image old.keeper.state (sym state ∙ from.replica) few
            (ran.each image (counts_now (disk_of new) (model.moment (disk_of old)) image h ran.later may));
      }
