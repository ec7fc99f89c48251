-- Whatever was told is right, and is held.
use Rattle.std.proofs.Common.{◌≡◌, ◌⊎◌, inl, inr, ⊎_elim, ℕ, zero, suc, ◌+◌, ◌<◌, ◌≤◌, Bool, true, false, Option, Some, List, [], ◌∷◌, ◌++◌, length, map, refl, sym, ap, subst, ◌∙◌, arith}
use Rattle.std.specs.Prelude.{flat_map, slice_get, take, MatchBool, Contains}
use Rattle.std.specs.List.{AllByRecursion}
use Rattle.std.proofs.lemmas.Bool.{cases_lt}
use Rattle.std.proofs.lemmas.Option.{get_or_from_slice_get, slice_get_within}
use Rattle.std.proofs.lemmas.List.{append-nil, length-append, length-map, length-take-le, take-take}
use Rattle.std.proofs.Math.Seq.{take-append_seam}
use Rattle.fe_disk.specs.Runs.{LeavesOnly}
use Rattle.fe_state.specs.State.{ServerState, after_all}
use Rattle.fe_state.specs.declared.batch.Batch.{Batch}
use Rattle.fe_state.specs.declared.entry.Entry.{Entry}
use Rattle.fe_state.specs.declared.entry.Entry.TheVariants.{Finished}
use Rattle.fe_replica.proofs.Following.{place_after}
use Rattle.fe_keeper.specs.Keeper.{KeeperState}
use Rattle.fe_keeper.specs.Stands.{LeavesPrefix}
use Rattle.fe_messages.specs.Answers.{IsAnswerIn}
use Rattle.fe_messages.proofs.Boxes.{all_weaker}
use mathlib.Core.List.{IsPrefix}
use Rattle.fe_history.proofs.Acts.{answer_of_call, issued_before_cut, issued_of_call, may_at, prefix_self, prefix_trans, stores_rise}
use Rattle.fe_hall.proofs.Committed.{appends_length, holds_here}
use Rattle.fe_history.specs.Acts.{Account, EachIssued, HasMore, IsAccountOf, IsLegal, StandsIn, batches_of, entries_in, stores_in}
use Rattle.fe_hall.specs.Commits.{Append, AreAppends, AppendsAreNoted, AreNotesOf, Commits, HoldsSince, note_of}
use Rattle.fe_history.specs.declared.act.Act.{Act}
use Rattle.fe_history.specs.declared.act.Act.TheVariants.{Began, Called, Cut, Issued}
use Rattle.fe_hall.specs.declared.commit_end.CommitEnd.{CommitEnd}
use Rattle.fe_history.specs.declared.receipt.Receipt.{Receipt}
use Rattle.fe_server.specs.Acknowledged.{IsHeld, IsAcknowledged, HasCommittedAndNoted}
use Rattle.fe_disk.specs.declared.disk.Disk.{Ghosts}

-- ---- what was told

contains_act : (acts : List Act) (a : Act) → StandsIn acts a → Contains acts a
contains_act acts a is = (is.0, slice_get_within acts is.0 a is.1, get_or_from_slice_get acts is.0 a a is.1)

pub contains_issued : (acts : List Act) (receipts : List Receipt) → EachIssued receipts acts → AllByRecursion (λ r. Contains acts (Issued r)) receipts
contains_issued acts receipts = all_weaker (λ r. StandsIn acts (Issued r)) (λ r. Contains acts (Issued r)) (λ r. contains_act acts (Issued r)) receipts

-- ---- the group of an entry

abbrev flat : List (List Entry) → List Entry
flat groups = flat_map (λ group. group) groups

-- one of the first n groups has the entry of a place
record HasGroup {D : Type 0} (appends : List (Append D)) (n place : ℕ) : Type 0 where
  pub at : ℕ
  pub append : Append D
  pub is_there : slice_get appends at ≡ Some append
  pub before : at < n
  pub not_earlier : append.before.state.place ≤ place
  pub has_it : place < append.after.state.place

group_of : {D : Type 0} (s : ServerState) (groups : List (List Entry)) (appends : List (Append D)) (n place : ℕ) → AreAppends s groups appends → s.place ≤ place → place < s.place + length (flat (take n groups))
    → HasGroup appends n place
group_of s groups appends zero place are low high = absurd (omega (arith, low, high))
group_of s [] appends (suc n) place are low high = absurd (omega (arith, low, high))
group_of s (group ∷ groups) [] (suc n) place are low high = absurd are
group_of s (group ∷ groups) (append ∷ appends) (suc n) place are low high =
    let ends : (after_all s group).place ≡ s.place + length group = place_after s group in
    let begins = ap (λ (t : ServerState). t.place) are.0 in
    let leads = ap (λ (t : ServerState). t.place) are.1 in
    let size = length-append group (flat (take n groups)) in
    ⊎_elim
    (λ (lt : place < s.place + length group).
    record { at = 0; append = append; is_there = refl; before = omega arith; not_earlier = omega (arith, begins, low); has_it = omega (arith, leads, ends, lt) })
    (λ (le : s.place + length group ≤ place).
    let h = group_of (after_all s group) groups appends n place are.3 (omega (arith, ends, le)) (omega (arith, ends, size, high)) in
    record { at = suc h.at; append = h.append; is_there = h.is_there; before = omega (arith, h.before); not_earlier = h.not_earlier; has_it = h.has_it })
    (cases_lt place (s.place + length group))

-- the entries of the first appends that were noted are those of the first groups
noted_entries : {D : Type 0} (model : Ghosts D) (s : ServerState) (groups : List (List Entry)) (appends : List (Append D)) (n : ℕ) → AreAppends s groups appends
    → entries_in (batches_of (take n (map (note_of model) appends))) ≡ flat (take n groups)
noted_entries model s groups appends zero are = refl
noted_entries model s [] [] (suc n) are = refl
noted_entries model s [] (append ∷ appends) (suc n) are = absurd are
noted_entries model s (group ∷ groups) [] (suc n) are = absurd are
noted_entries model s (group ∷ groups) (append ∷ appends) (suc n) are =
    ap (λ (es : List Entry). es ++ entries_in (batches_of (take n (map (note_of model) appends)))) are.2
    ∙ ap (λ (es : List Entry). group ++ es) (noted_entries model (after_all s group) groups appends n are.3)

-- a beginning is the first of a list
front_is : {A : Type 0} (xs ys : List A) → IsPrefix xs ys → xs ≡ take (length xs) ys
front_is xs ys p = sym (ap (λ t. take (length xs) t) (sym p.1) ∙ take-append_seam xs p.0)

-- what was noted is of the first appends
notes_front : {D : Type 0} (model : Ghosts D) (appends : List (Append D)) (end : Option CommitEnd) (notes : List (Batch × ℕ)) → AreNotesOf model appends end notes → IsPrefix notes (map (note_of model) appends)
notes_front model appends end notes (inl all) = ([], append-nil notes ∙ all)
notes_front model appends end notes (inr (strange, last, all)) = (last ∷ [], all)

-- ---- images

module _ {D : Type 0} (model : Ghosts D) (begun : ServerState) (history : List (List Entry)) (last : D) where
  -- from the end of an append on, images hold its group
  append_holds : (n : ℕ) (here : D) (appends : List (Append D)) (k : ℕ) (a : Append D) → slice_get appends k ≡ Some a → HoldsSince model begun history n here appends last
      → LeavesOnly model a.after.store.disk last (LeavesPrefix begun history (n + k + 1))
  append_holds n here [] k a is holds = absurd cc
  append_holds n here (b ∷ appends) zero a is holds =
      let same : b ≡ a = cc in
      let count : n + 1 ≡ n + 0 + 1 = omega arith in
      subst (λ (j : ℕ). LeavesOnly model a.after.store.disk last (LeavesPrefix begun history j)) count
      (subst (λ (c : Append D). LeavesOnly model c.after.store.disk last (LeavesPrefix begun history (n + 1))) same (holds_here model begun history (n + 1) b.after.store.disk appends last holds.3))
  append_holds n here (b ∷ appends) (suc k) a is holds =
      let count : n + 1 + k + 1 ≡ n + suc k + 1 = omega arith in
      subst (λ (j : ℕ). LeavesOnly model a.after.store.disk last (LeavesPrefix begun history j)) count (append_holds (n + 1) b.after.store.disk appends k a is holds.3)

-- ---- together

module _ {D : Type 0} (model : Ghosts D) (old new : KeeperState D) (end : CommitEnd) (commits : Commits model old new (Some end)) where
  abbrev stored_groups : List (List Entry)
  stored_groups = take commits.stored commits.groups

  module _ (acts : List Act) (front : IsPrefix (stores_in acts) (map (note_of model) commits.appends)) (legal : IsLegal acts) (begins : IsPrefix (Began old.state ∷ []) acts) (earlier later : List Act) (r : Receipt) (is : acts ≡ earlier ++ Issued r ∷ later) where
    -- what was stored before the answer was told
    before_it : stores_in earlier ≡ take (length (stores_in earlier)) (map (note_of model) commits.appends)
    before_it = front_is (stores_in earlier) (map (note_of model) commits.appends)
        (prefix_trans (stores_in earlier) (stores_in acts) (map (note_of model) commits.appends) (stores_rise earlier acts (Issued r ∷ later, sym is)) front)

    entries_are : entries_in (batches_of (stores_in earlier)) ≡ flat (take (length (stores_in earlier)) stored_groups)
    entries_are = ap (λ (s : List (Batch × ℕ)). entries_in (batches_of s)) before_it ∙ noted_entries model old.state stored_groups commits.appends (length (stores_in earlier)) commits.are_appends

    few : length (stores_in earlier) ≤ commits.stored
    few =
        let p = prefix_trans (stores_in earlier) (stores_in acts) (map (note_of model) commits.appends) (stores_rise earlier acts (Issued r ∷ later, sym is)) front in
        let all = ap length p.1 in
        let some = length-append (stores_in earlier) p.0 in
        let each = length-map commits.appends (note_of model) in
        let one = appends_length old.state stored_groups commits.appends commits.are_appends in
        let most = length-take-le commits.stored commits.groups in
        omega (arith, all, some, each, one, most)

    answer_is : IsAnswerIn old.state (flat (take (length (stores_in earlier)) stored_groups)) r.session r.number r.answer r.place
    answer_is =
        subst (λ (es : List Entry). IsAnswerIn old.state es r.session r.number r.answer r.place) entries_are
        (answer_of_call old.state earlier (entries_in (batches_of (stores_in earlier))) r (may_at old.state acts earlier later (Issued r) legal begins is (λ e. cc e)).0.0)

    issued_right : IsAnswerIn old.state (flat (take (length (stores_in earlier)) commits.groups)) r.session r.number r.answer r.place
    issued_right =
        subst (λ (gs : List (List Entry)). IsAnswerIn old.state (flat gs) r.session r.number r.answer r.place) (take-take (length (stores_in earlier)) commits.stored commits.groups few) answer_is

    issued_held : model.honest old.store.disk → old.store.has_failed ≡ false → (r.place < old.state.place) ⊎ IsHeld model old.state commits.groups commits.appends new.store.disk (length (stores_in earlier)) r.place
    issued_held h fine = by answer_is
      where
        by : IsAnswerIn old.state (flat (take (length (stores_in earlier)) stored_groups)) r.session r.number r.answer r.place
            → (r.place < old.state.place) ⊎ IsHeld model old.state commits.groups commits.appends new.store.disk (length (stores_in earlier)) r.place
        by (inl kept) = inl kept.earlier
        by (inr f) =
            let size = ap length f.entries ∙ length-append f.before (Finished r.session r.number f.request r.answer ∷ f.behind) in
            let g = group_of old.state stored_groups commits.appends (length (stores_in earlier)) r.place commits.are_appends (omega (arith, f.at)) (omega (arith, f.at, size)) in
            let count : 0 + g.at + 1 ≡ g.at + 1 = omega arith in
            inr (record {
              at = g.at;
              append = g.append;
              is_there = g.is_there;
              before = g.before;
              not_earlier = g.not_earlier;
              has_it = g.has_it;
              every_image =
                  subst (λ (j : ℕ). LeavesOnly model g.append.after.store.disk new.store.disk (LeavesPrefix old.state commits.groups j)) count
                  (append_holds model old.state commits.groups new.store.disk 0 old.store.disk commits.appends g.at g.append g.is_there (commits.any_moment h fine));
            })

  pub acknowledged : (account : Account) (seat : List Act) → AppendsAreNoted model commits.appends (Some end) (Began old.state ∷ []) seat → IsPrefix seat account.history → IsLegal account.history
      → MatchBool account.own (stores_in account.history ≡ stores_in seat) (HasMore (stores_in seat) (stores_in account.history)) → EachIssued account.receipts account.history
      → IsAcknowledged model old new end account
  acknowledged account seat (p, notes, is, are_notes) this legal own issued =
      let acts : List Act = account.history in
      let begins = prefix_trans (Began old.state ∷ []) seat acts p this in
      let stored : MatchBool account.own (stores_in account.history ≡ notes) (HasMore notes (stores_in account.history)) =
      subst (λ (s : List (Batch × ℕ)). MatchBool account.own (stores_in account.history ≡ s) (HasMore s (stores_in account.history))) is own in
      let front : account.own ≡ true → IsPrefix (stores_in acts) (map (note_of model) commits.appends) =
      λ alone.
      let same : stores_in account.history ≡ notes = subst (λ (b : Bool). MatchBool b (stores_in account.history ≡ notes) (HasMore notes (stores_in account.history))) alone stored in
      subst (λ (s : List (Batch × ℕ)). IsPrefix s (map (note_of model) commits.appends)) (sym same) (notes_front model commits.appends (Some end) notes are_notes) in
      record {
        commits = commits;
        notes = notes;
        are_notes = are_notes;
        stored = stored;
        issued = contains_issued account.history account.receipts issued;
        right = λ alone earlier later r at. issued_right acts (front alone) legal begins earlier later r at;
        held = λ alone h fine earlier later r at. issued_held acts (front alone) legal begins earlier later r at h fine;
        called = λ earlier later batch at. (may_at old.state acts earlier later (Cut batch) legal begins at (λ e. cc e)).0.3;
        of_call = λ earlier later r at. issued_of_call old.state acts earlier later r legal begins at;
        in_order = λ earlier between later r batch at. issued_before_cut old.state acts earlier between later r batch legal begins at;
        calls_asked = λ earlier later conn session number request place at. (may_at old.state acts earlier later (Called conn session number request place) legal begins at (λ e. cc e)).0;
        asked = λ earlier later r at. (may_at old.state acts earlier later (Issued r) legal begins at (λ e. cc e)).0.1;
      }

-- with what a committing side gave back, and the account of its hall
pub ended_acknowledged : {D : Type 0} (model : Ghosts D) (old new : KeeperState D) (end : CommitEnd) (seat : List Act) (account : Account)
    (receipts : List Receipt) (seen : List Act) → HasCommittedAndNoted model old new end seat → IsAccountOf seat receipts seen account → EachIssued account.receipts account.history → IsAcknowledged model old new end account
ended_acknowledged model old new end seat account receipts seen (all, notes) of issued = acknowledged model old new end all.commits account seat notes of.this of.legal of.own issued

-- a hall that did not begin
pub unbegun_acknowledged : {D : Type 0} (model : Ghosts D) (old new : KeeperState D) (end : CommitEnd) (account : Account) (acts : List Act)
    → HasCommittedAndNoted model old new end (Began old.state ∷ []) → account ≡ record { receipts = []; history = acts; own = true } → acts ≡ Began old.state ∷ [] → IsLegal acts → IsAcknowledged model old new end account
unbegun_acknowledged model old new end account acts (all, notes) is here legal =
    let began : List Act = Began old.state ∷ [] in
    let none : Account = record { receipts = []; history = began; own = true } in
    let same : none ≡ account = sym (is ∙ ap (λ (a : List Act). record { receipts = []; history = a; own = true }) here) in
    subst (λ (a : Account). IsAcknowledged model old new end a) same
    (acknowledged model old new end all.commits none began notes (prefix_self began) (subst IsLegal here legal) refl tt)
