-- How the keeper of a committing side goes on, over calls one after the other.
use Rattle.std.proofs.Common.{◌≡◌, inl, inr, ⊎_elim, ℕ, suc, ◌+◌, ◌≤◌, Bool, true, false, Option, Some, None, List, [], ◌∷◌, ◌++◌, length, take, refl, sym, ap, subst, ◌∙◌, zero-add, arith}
use Rattle.std.specs.Prelude.{◌↔◌, if◌then◌else◌, Result, Ok, Err, IsErrAnd, IfErr}
use Rattle.std.proofs.lemmas.List.{length-append, take-append-le, take_all}
use Rattle.fe_disk.specs.Disk.{Rises}
use Rattle.fe_disk.specs.Runs.{LeavesOnly}
use Rattle.fe_disk.proofs.Moments.{started, joined, weaker}
use Rattle.fe_state.specs.State.{ServerState, after_all}
use Rattle.fe_state.specs.History.{IsHistory, AreLegal, after_groups}
use Rattle.fe_state.specs.declared.batch.Batch.{Batch}
use Rattle.fe_state.specs.declared.entry.Entry.{Entry}
use Rattle.fe_state.proofs.Histories.{history-append}
use Rattle.std.specs.Option.{option_map_or}
use Rattle.fe_memory.specs.Memory.{out_of_memory}
use Rattle.fe_keeper.specs.Ends.{Rests, StopsLeave, Works, Breaks, Fails, ForBatch, IsStill}
use Rattle.fe_keeper.specs.Keeper.{KeeperState, StoreState, Progress, fits, must_begin, made_room, renewed, appended, finished_by}
use Rattle.fe_keeper.specs.Stands.{LeavesPrefix, StandsFor, StandsForEither, EachStandsFor}
use Rattle.fe_keeper.specs.declared.fault.Fault.{Fault}
use Rattle.fe_keeper.specs.declared.fault.Fault.TheVariants.{Device, Failed, NoMemory, Mismatch}
use Rattle.fe_hall.proofs.Noted.{none_noted, both_noted}
use Rattle.fe_shared.specs.declared.shared.batches.Unposted.{Unposted}
use Rattle.fe_shared.specs.declared.shared.batches.Unposted.TheVariants as unposted
use Rattle.fe_hall.specs.Commits.{Append, AreAppends, AppendsAreNoted, HoldsSince, Commits, EndsAs, end_of, end_of_post}
use Rattle.fe_history.specs.declared.act.Act.{Act}
use Rattle.fe_hall.specs.declared.commit_end.CommitEnd.{CommitEnd}
use Rattle.fe_hall.specs.declared.commit_end.CommitEnd.TheVariants.{Store, Strange}
use Rattle.fe_disk.specs.declared.disk.Disk.{Ghosts}

-- ---- groups after groups

after_groups-append : (s : ServerState) (front rest : List (List Entry)) → after_groups s (front ++ rest) ≡ after_groups (after_groups s front) rest
after_groups-append s [] rest = refl
after_groups-append s (g ∷ gs) rest = after_groups-append (after_all s g) gs rest

take_behind : {A : Type 0} (xs ys : List A) (m : ℕ) → take (length xs + m) (xs ++ ys) ≡ xs ++ take m ys
take_behind [] ys m = ap (λ k. take k ys) (zero-add m)
take_behind (x ∷ xs) ys m =
    let one : length (x ∷ xs) + m ≡ suc (length xs + m) = omega arith in
    ap (λ k. take k (x ∷ (xs ++ ys))) one ∙ ap (λ t. x ∷ t) (take_behind xs ys m)

-- the state after all groups and some of those after them
after_behind : (begun : ServerState) (groups more : List (List Entry)) (m : ℕ) → after_groups begun (take (length groups + m) (groups ++ more)) ≡ after_groups (after_groups begun groups) (take m more)
after_behind begun groups more m = ap (λ gs. after_groups begun gs) (take_behind groups more m) ∙ after_groups-append begun groups (take m more)

leaves_at : (begun : ServerState) (groups : List (List Entry)) (k j : ℕ) (image : List ℕ) (s : ServerState) → k ≤ j → j ≤ length groups → s ≡ after_groups begun (take j groups) → StandsFor image s
    → LeavesPrefix begun groups k image
leaves_at begun groups k j image s least most is stands = record { state = s; stands = stands; prefix = record { kept = j; least = least; most = most; state_is = is } }

-- a prefix with k groups or more has fewer or more
prefix_fewer : (begun : ServerState) (groups : List (List Entry)) (j k : ℕ) (image : List ℕ) → j ≤ k → LeavesPrefix begun groups k image → LeavesPrefix begun groups j image
prefix_fewer begun groups j k image le p =
    let q = p.prefix in
    leaves_at begun groups j q.kept image p.state (omega (arith, le, q.least)) q.most q.state_is p.stands

-- a prefix of the first groups is one of all
prefix_front : (begun : ServerState) (groups more : List (List Entry)) (k : ℕ) (image : List ℕ) → LeavesPrefix begun groups k image → LeavesPrefix begun (groups ++ more) k image
prefix_front begun groups more k image p =
    let q = p.prefix in
    leaves_at begun (groups ++ more) k q.kept image p.state q.least (omega (arith, q.most, length-append groups more))
    (q.state_is ∙ ap (λ (gs : List (List Entry)). after_groups begun gs) (sym (take-append-le q.kept groups more q.most))) p.stands

-- so is all of the first groups with a prefix of those after
prefix_behind : (begun : ServerState) (groups more : List (List Entry)) (s : ServerState) (k : ℕ) (image : List ℕ) → s ≡ after_groups begun groups → LeavesPrefix s more k image
    → LeavesPrefix begun (groups ++ more) (length groups + k) image
prefix_behind begun groups more s k image is p =
    let q = p.prefix in
    leaves_at begun (groups ++ more) (length groups + k) (length groups + q.kept) image p.state (omega (arith, q.least)) (omega (arith, q.most, length-append groups more))
    (q.state_is ∙ ap (λ (t : ServerState). after_groups t (take q.kept more)) is ∙ sym (after_behind begun groups more q.kept)) p.stands

take_whole : (groups : List (List Entry)) (n : ℕ) → n ≡ length groups → take n groups ≡ groups
take_whole groups n is = take_all n groups (omega (arith, is))

-- ---- appends

-- one append for each group
pub appends_length : {D : Type 0} (s : ServerState) (groups : List (List Entry)) (appends : List (Append D)) → AreAppends s groups appends → length appends ≡ length groups
appends_length s [] [] are = refl
appends_length s (group ∷ groups) (append ∷ appends) are = ap suc (appends_length (after_all s group) groups appends are.3)
appends_length s _ _ are = absurd are

-- appends after appends
appends_both : {D : Type 0} (s t : ServerState) (groups more : List (List Entry)) (first second : List (Append D)) → t ≡ after_groups s groups → AreAppends s groups first → AreAppends t more second
    → AreAppends s (groups ++ more) (first ++ second)
appends_both s t [] more [] second is one two = subst (λ (u : ServerState). AreAppends u more second) is two
appends_both s t [] more (append ∷ appends) second is one two = absurd one
appends_both s t (group ∷ groups) more [] second is one two = absurd one
appends_both s t (group ∷ groups) more (append ∷ appends) second is one two =
    (one.0, one.1, one.2, appends_both (after_all s group) t groups more appends second is one.3 two)

module _ {D : Type 0} (model : Ghosts D) where
  -- what holds before the next append
  pub holds_here : (begun : ServerState) (history : List (List Entry)) (n : ℕ) (here : D) (appends : List (Append D)) (last : D) → HoldsSince model begun history n here appends last
      → LeavesOnly model here last (LeavesPrefix begun history n)
  holds_here begun history n here [] last holds = holds
  holds_here begun history n here (append ∷ appends) last holds = holds.0

  holds_as : (begun : ServerState) (history : List (List Entry)) (n m : ℕ) (here : D) (appends : List (Append D)) (last : D) → n ≡ m → HoldsSince model begun history n here appends last
      → HoldsSince model begun history m here appends last
  holds_as begun history n m here appends last is holds = subst (λ (k : ℕ). HoldsSince model begun history k here appends last) is holds

  -- the groups come after others
  holds_behind : (begun : ServerState) (groups more : List (List Entry)) (s : ServerState) → s ≡ after_groups begun groups → (n : ℕ) (here : D) (appends : List (Append D)) (last : D)
      → HoldsSince model s more n here appends last → HoldsSince model begun (groups ++ more) (length groups + n) here appends last
  holds_behind begun groups more s is n here [] last holds =
      weaker model here last (LeavesPrefix s more n) (LeavesPrefix begun (groups ++ more) (length groups + n)) (λ image p. prefix_behind begun groups more s n image is p) holds
  holds_behind begun groups more s is n here (append ∷ appends) last holds = (
    weaker model here last (LeavesPrefix s more n) (LeavesPrefix begun (groups ++ more) (length groups + n)) (λ image p. prefix_behind begun groups more s n image is p) holds.0,
    holds.1,
    holds.2,
    holds_as begun (groups ++ more) (length groups + (n + 1)) (length groups + n + 1) append.after.store.disk appends last (omega arith)
        (holds_behind begun groups more s is (n + 1) append.after.store.disk appends last holds.3),
  )

  -- what holds of the first groups holds while those after are stored too
  holds_longer : (begun : ServerState) (groups more : List (List Entry)) (n : ℕ) (here mid last : D) → n ≤ length groups → LeavesOnly model here mid (LeavesPrefix begun groups n)
      → LeavesOnly model mid last (LeavesPrefix begun (groups ++ more) (length groups)) → LeavesOnly model here last (LeavesPrefix begun (groups ++ more) n)
  holds_longer begun groups more n here mid last le first second =
      joined model here mid last (LeavesPrefix begun (groups ++ more) n)
      (weaker model here mid (LeavesPrefix begun groups n) (LeavesPrefix begun (groups ++ more) n) (λ image p. prefix_front begun groups more n image p) first)
      (weaker model mid last (LeavesPrefix begun (groups ++ more) (length groups)) (LeavesPrefix begun (groups ++ more) n)
      (λ image p. prefix_fewer begun (groups ++ more) n (length groups) image le p) second)

  holds_both : (begun : ServerState) (groups more : List (List Entry)) (n : ℕ) (here : D) (first : List (Append D)) (mid : D) (second : List (Append D)) (last : D) → n + length first ≡ length groups
      → HoldsSince model begun groups n here first mid → HoldsSince model begun (groups ++ more) (length groups) mid second last
      → HoldsSince model begun (groups ++ more) n here (first ++ second) last
  holds_both begun groups more n here [] mid [] last count one two = holds_longer begun groups more n here mid last (omega (arith, count)) one two
  holds_both begun groups more n here [] mid (append ∷ appends) last count one two = (
    holds_longer begun groups more n here mid last (omega (arith, count)) one two.0,
    omega (arith, one.later, two.1),
    two.2,
    holds_as begun (groups ++ more) (length groups + 1) (n + 1) append.after.store.disk appends last (omega (arith, count)) two.3,
  )
  holds_both begun groups more n here (append ∷ appends) mid second last count one two = (
    holds_longer begun groups more n here mid last (omega (arith, count)) one.0 (holds_here begun (groups ++ more) (length groups) mid second last two),
    one.1,
    one.2,
    holds_both begun groups more (n + 1) append.after.store.disk appends mid second last (omega (arith, count)) one.3 two,
  )

-- ---- calls of a keeper

module _ {D : Type 0} (model : Ghosts D) where
  -- the state was kept
  pub commits_kept : (old new : KeeperState D) (end : Option CommitEnd) → Rests model old new → Commits model old new end
  commits_kept old new end rests = record {
    groups = [];
    history = tt;
    stored = 0;
    all = inl refl;
    state_is = rests.state;
    appends = [];
    are_appends = tt;
    any_moment = λ h works.
        weaker model old.store.disk new.store.disk (λ image. StandsFor image old.state) (LeavesPrefix old.state [] 0)
        (λ image stands. leaves_at old.state [] 0 0 image old.state (omega arith) (omega arith) refl stands) (rests.any_moment h works);
  }

  either : (s : ServerState) (entries : List Entry) (image : List ℕ) → StandsForEither s (after_all s entries) image → LeavesPrefix s (entries ∷ []) 0 image
  either s entries image (inl before) = leaves_at s (entries ∷ []) 0 0 image s (omega arith) (omega arith) refl before
  either s entries image (inr after) = leaves_at s (entries ∷ []) 0 1 image (after_all s entries) (omega arith) (omega arith) refl after

  -- a group was appended, and the history notes it
  pub group_noted : ((disk : D) (image : List ℕ) → model.honest disk → model.left_since disk (model.moment disk) image → model.may_leave disk image) → (old new : KeeperState D) (end : Option CommitEnd) (batch : Batch) (a b : List Act)
      → 1 ≤ length batch.entries → AreLegal old.state batch.entries → new.state ≡ after_all old.state batch.entries → new.store.has_failed ≡ old.store.has_failed → (model.honest new.store.disk ↔ model.honest old.store.disk)
      → (model.honest new.store.disk → new.store.has_failed ≡ false → EachStandsFor model new.store.disk new.state)
      → (model.honest old.store.disk → old.store.has_failed ≡ false → LeavesOnly model old.store.disk new.store.disk (StandsForEither old.state (after_all old.state batch.entries)))
      → AppendsAreNoted model (record { batch = batch; before = old; after = new } ∷ []) end a b
      → (all : Commits model old new end) × AppendsAreNoted model all.appends end a b
  group_noted only_now old new end batch a b some legal state still honesty stands run notes = (
    record {
      groups = batch.entries ∷ [];
      history = (omega (arith, some), legal, tt);
      stored = 1;
      all = inl refl;
      state_is = state;
      appends = record { batch = batch; before = old; after = new } ∷ [];
      are_appends = (refl, state, refl, tt);
      any_moment = λ h works.
          let moments = run h works in (
            weaker model old.store.disk new.store.disk (StandsForEither old.state (after_all old.state batch.entries)) (LeavesPrefix old.state (batch.entries ∷ []) 0)
                (λ image two. either old.state batch.entries image two) moments,
            omega arith,
            moments.later,
            started model new.store.disk (LeavesPrefix old.state (batch.entries ∷ []) 1)
                (λ image left. leaves_at old.state (batch.entries ∷ []) 1 1 image new.state (omega arith) (omega arith) state (stands (honesty.1 h) (still ∙ works) image (only_now new.store.disk image (honesty.1 h) left))),
          );
    },
    notes,
  )

  -- the device failed as a group was appended
  pub commits_torn : (old new : KeeperState D) (entries : List Entry) → 1 ≤ length entries → AreLegal old.state entries → new.state ≡ old.state
      → (model.honest old.store.disk → old.store.has_failed ≡ false → LeavesOnly model old.store.disk new.store.disk (StandsForEither old.state (after_all old.state entries)))
      → Commits model old new (Some (Store Device))
  commits_torn old new entries some legal state run = record {
    groups = entries ∷ [];
    history = (omega (arith, some), legal, tt);
    stored = 0;
    all = inr (refl, refl);
    state_is = state;
    appends = [];
    are_appends = tt;
    any_moment = λ h works.
        weaker model old.store.disk new.store.disk (StandsForEither old.state (after_all old.state entries)) (LeavesPrefix old.state (entries ∷ []) 0)
        (λ image two. either old.state entries image two) (run h works);
  }

  -- calls after calls, with the history
  pub both_commits : (a b c : KeeperState D) (end : Option CommitEnd) (x y z : List Act) → b.store.has_failed ≡ a.store.has_failed → (model.honest b.store.disk ↔ model.honest a.store.disk)
      → (ab : Commits model a b None) → AppendsAreNoted model ab.appends None x y → (bc : Commits model b c end) → AppendsAreNoted model bc.appends end y z
      → (all : Commits model a c end) × AppendsAreNoted model all.appends end x z
  both_commits a b c end x y z works honesty ab one bc two = (
    record {
      groups = ab.groups ++ bc.groups;
      history = history-append a.state ab.groups bc.groups ab.history (subst (λ (s : ServerState). IsHistory s bc.groups) reached bc.history);
      stored = length ab.groups + bc.stored;
      all =
          let n = length-append ab.groups bc.groups in
          ⊎_elim (λ (whole : bc.stored ≡ length bc.groups). inl (omega (arith, whole, n)))
          (λ (torn : (bc.stored + 1 ≡ length bc.groups) × (end ≡ Some (Store Device))). let one = torn.0 in inr (omega (arith, one, n), torn.1)) bc.all;
      state_is =
          bc.state_is ∙ ap (λ (s : ServerState). after_groups s (take bc.stored bc.groups)) reached ∙ sym (after_behind a.state ab.groups bc.groups bc.stored);
      appends = ab.appends ++ bc.appends;
      are_appends =
          subst (λ (gs : List (List Entry)). AreAppends a.state gs (ab.appends ++ bc.appends)) (sym (take_behind ab.groups bc.groups bc.stored))
          (appends_both a.state b.state ab.groups (take bc.stored bc.groups) ab.appends bc.appends reached each bc.are_appends);
      any_moment = λ h fine.
          holds_both model a.state ab.groups bc.groups 0 a.store.disk ab.appends b.store.disk bc.appends c.store.disk (zero-add (length ab.appends) ∙ appends_length a.state ab.groups ab.appends each) (ab.any_moment h fine)
          (holds_as model a.state (ab.groups ++ bc.groups) (length ab.groups + 0) (length ab.groups) b.store.disk bc.appends c.store.disk (omega arith)
          (holds_behind model a.state ab.groups bc.groups b.state reached 0 b.store.disk bc.appends c.store.disk (bc.any_moment (honesty.1 h) (works ∙ fine))));
    },
    both_noted model ab.appends bc.appends end x y z one two,
  )
    where
      whole : take ab.stored ab.groups ≡ ab.groups
      whole =
          take_whole ab.groups ab.stored
          (⊎_elim (λ (all : ab.stored ≡ length ab.groups). all) (λ (torn : (ab.stored + 1 ≡ length ab.groups) × (None ≡ Some (Store Device))). absurd (cc torn.1)) ab.all)

      reached : b.state ≡ after_groups a.state ab.groups
      reached = ab.state_is ∙ ap (λ (gs : List (List Entry)). after_groups a.state gs) whole

      each : AreAppends a.state ab.groups ab.appends
      each = subst (λ (gs : List (List Entry)). AreAppends a.state gs ab.appends) whole ab.are_appends

  -- ---- with the history

  pub kept_noted : (old new : KeeperState D) (end : Option CommitEnd) (rests : Rests model old new) (acts : List Act)
      → (all : Commits model old new end) × AppendsAreNoted model all.appends end acts acts
  unfolding commits_kept
  kept_noted old new end rests acts = (commits_kept old new end rests, none_noted model [] end acts refl)

  -- a batch was stored, and then the state was kept
  pub turn_commits : (a k m n : KeeperState D) (end : Option CommitEnd) (x y z : List Act) → k.store.has_failed ≡ a.store.has_failed → m.store.has_failed ≡ k.store.has_failed
      → (model.honest k.store.disk ↔ model.honest a.store.disk) → (model.honest m.store.disk ↔ model.honest k.store.disk) → (first : Commits model a k None) → AppendsAreNoted model first.appends None x y
      → (second : Commits model k m None) → AppendsAreNoted model second.appends None y z → Rests model m n
      → (all : Commits model a n end) × AppendsAreNoted model all.appends end x z
  turn_commits a k m n end x y z ak km honest_ak honest_km first one second two rests =
      let (stored, noted) = both_commits a k m None x y z ak honest_ak first one second two in
      let (kept, none) = kept_noted m n end rests z in
      both_commits a m n end x z z (km ∙ ak) (λ h. honest_ak.0 (honest_km.0 h), λ h. honest_km.1 (honest_ak.1 h)) stored noted kept none

  -- a side that went on may end
  pub ended_noted : (a b : KeeperState D) (end : Option CommitEnd) (x y : List Act) (c : Commits model a b None) → AppendsAreNoted model c.appends None x y
      → (all : Commits model a b end) × AppendsAreNoted model all.appends end x y
  ended_noted a b end x y c (p, n, is, inr strange) = absurd (cc (strange.0))
  ended_noted a b end x y c (p, n, is, inl notes) = (
    record {
      groups = c.groups;
      history = c.history;
      stored = c.stored;
      all = ⊎_elim (λ (whole : c.stored ≡ length c.groups). inl whole) (λ (torn : (c.stored + 1 ≡ length c.groups) × (None ≡ Some (Store Device))). absurd (cc torn.1)) c.all;
      state_is = c.state_is;
      appends = c.appends;
      are_appends = c.are_appends;
      any_moment = c.any_moment;
    },
    (p, n, is, inl notes),
  )

-- ---- the checkpoint beside

-- a batch that is appended leaves the disk working
pub appended_works : {D : Type 0} (s t : StoreState D) (entries : List Entry) (disk : D) → t ≡ record (appended (made_room s entries) entries) { disk = disk } → t.has_failed ≡ s.has_failed
appended_works {D} s t entries disk is = ap (λ (u : StoreState D). u.has_failed) is ∙ by (must_begin s entries) (fits s entries) s.checkpoint
  where
    by : (whole fit : Bool) (o : Option Progress) → (if whole then renewed s else (if fit then s else option_map_or (finished_by s) o s)).has_failed ≡ s.has_failed
    by true fit o = refl
    by false true o = refl
    by false false None = refl
    by false false (Some p) = refl

module _ {D : Type 0} (model : Ghosts D) where
  -- nothing was done
  pub rests_itself : ((disk : D) (image : List ℕ) → model.honest disk → model.left_since disk (model.moment disk) image → model.may_leave disk image) → (k : KeeperState D)
      → (model.honest k.store.disk → k.store.has_failed ≡ false → EachStandsFor model k.store.disk k.state) → Rests model k k
  rests_itself only_now k stands = record {
    state = refl;
    any_moment = λ h works. started model k.store.disk (λ image. StandsFor image k.state) (λ image left. stands h works image (only_now k.store.disk image h left));
    honesty = (λ h. h, λ h. h);
  }

  pub rests_as : ((disk : D) (image : List ℕ) → model.honest disk → model.left_since disk (model.moment disk) image → model.may_leave disk image) → (old new : KeeperState D) → new ≡ old
      → (model.honest new.store.disk → new.store.has_failed ≡ false → EachStandsFor model new.store.disk new.state) → Rests model old new
  rests_as only_now old new same stands = subst (λ (k : KeeperState D). Rests model k new) same (rests_itself only_now new stands)

  -- calls after calls
  pub rests_both : (a b c : KeeperState D) → b.store.has_failed ≡ a.store.has_failed → Rests model a b → Rests model b c → Rests model a c
  rests_both a b c works ab bc = record {
    state = bc.state ∙ ab.state;
    any_moment = λ h fine.
        joined model a.store.disk b.store.disk c.store.disk (λ image. StandsFor image a.state) (ab.any_moment h fine)
        (subst (λ (s : ServerState). LeavesOnly model b.store.disk c.store.disk (λ image. StandsFor image s)) ab.state (bc.any_moment (ab.honesty.1 h) (works ∙ fine)));
    honesty = (λ h. ab.honesty.0 (bc.honesty.0 h), λ h. bc.honesty.1 (ab.honesty.1 h));
  }

-- ---- what ends tell

module _ {D : Type 0} (model : Ghosts D) where
  pub still_itself : (k : KeeperState D) → IsStill model k k
  still_itself k = record { works = refl; still = refl }

  pub still_both : (a b c : KeeperState D) → IsStill model a b → IsStill model b c → IsStill model a c
  still_both a b c ab bc = record { works = bc.works ∙ ab.works; still = bc.still ∙ ab.still }

  -- a call that breaks the device, after calls that did not
  pub breaks_behind : (a b c : KeeperState D) → IsStill model a b → Breaks model b c → Breaks model a c
  breaks_behind a b c still breaks = record {
    before = sym still.works ∙ breaks.before;
    failed = breaks.failed;
    rises = subst (λ (n : ℕ). Rises n (model.failures c.store.disk)) still.still breaks.rises;
  }

-- ---- faults

module _ {D : Type 0} (model : Ghosts D) (only_now : (disk : D) (image : List ℕ) → model.honest disk → model.left_since disk (model.moment disk) image → model.may_leave disk image) (old new : KeeperState D) (stands : model.honest new.store.disk → new.store.has_failed ≡ false → EachStandsFor model new.store.disk new.state) where
  -- nothing was done
  pub commits_none : (end : Option CommitEnd) → new ≡ old → Commits model old new end
  commits_none end same = commits_kept model old new end (rests_as model only_now old new same stands)

  -- a batch was not appended
  pub commits_fault : (fault : Fault) (first : ℕ) (entries : List Entry) → Fails model (ForBatch old first entries) old new fault → new.state ≡ old.state
      → StopsLeave model old new (StandsForEither old.state (after_all old.state entries))
      → (all : Commits model old new (Some (end_of fault))) × (all.appends ≡ [])
  unfolding commits_none commits_torn commits_kept
  commits_fault Device first entries fails state run =
      let continues = fails.0 in
      (commits_torn model old new entries continues.some continues.legal state run, refl)
  commits_fault Failed first entries fails state run = (commits_none (Some (Store Failed)) fails.1, refl)
  commits_fault (NoMemory error) first entries fails state run = (commits_none (Some (Store (NoMemory error))) fails.1.same, refl)
  commits_fault (Mismatch place) first entries fails state run = (commits_none (Some Strange) fails.1.same, refl)
  commits_fault _ first entries fails state run = absurd fails

module _ {D : Type 0} (model : Ghosts D) (old new : KeeperState D) where
  still_same : new ≡ old → IsStill model old new
  still_same same = record { works = ap (λ (k : KeeperState D). k.store.has_failed) same; still = ap (λ (k : KeeperState D). model.failures k.store.disk) same }

  -- what the end tells of it
  pub fault_tells : (fault : Fault) (first : ℕ) (entries : List Entry) → Fails model (ForBatch old first entries) old new fault → EndsAs model old new (Some (end_of fault))
  fault_tells Device first entries fails = fails.1
  fault_tells Failed first entries fails = fails
  fault_tells (NoMemory error) first entries fails = still_same fails.1.same
  fault_tells (Mismatch place) first entries fails = still_same fails.1.same
  fault_tells _ first entries fails = absurd fails

  -- the disk works on
  pub still_works : Works model old new → IsStill model old new
  still_works works = record { works = works.after ∙ sym works.before; still = works.still }

  -- a batch was not posted, and the disk works on
  pub post_tells : (why : Unposted) → IsStill model old new → EndsAs model old new (Some (end_of_post why))
  post_tells (unposted.Full full) still = still
  post_tells (unposted.Strange strange) still = still

  -- a fault of a checkpoint that takes no memory, or has it
  pub device_alone : (Cause : Fault → Type 0) (fault : Fault) → old.store.has_failed ≡ false → (fault ≡ NoMemory out_of_memory → Cause (NoMemory out_of_memory) → ⊥) → ((place : ℕ) → Cause (Mismatch place) → ⊥) → Fails model Cause old new fault
      → (fault ≡ Device) × Breaks model old new
  device_alone Cause Device works memory mismatch fails = (refl, fails.1)
  device_alone Cause Failed works memory mismatch fails = let had = fails.0 in absurd (cc (had, works))
  device_alone Cause (NoMemory error) works memory mismatch fails = absurd (memory refl fails.0)
  device_alone Cause (Mismatch place) works memory mismatch fails = absurd (mismatch place fails.0)
  device_alone Cause _ works memory mismatch fails = absurd fails

-- what is said of a fault is said of a result that has it
pub fault_is : {T : Type 0} (result : Result T Fault) (fault : Fault) (P : Fault → Type 0) → IsErrAnd result (λ f. f ≡ fault) → P fault → IfErr result P
fault_is (Ok x) fault P is p = absurd is
fault_is (Err f) fault P is p = subst P (sym is) p
