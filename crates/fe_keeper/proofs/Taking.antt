-- A batch that is taken, and the moments of calls that leave the state as it is.
use Rattle.std.proofs.Common.{◌≡◌, ◌↔◌, ◌≤◌, inl, false, ℕ, List, length, Option, Some, None, refl, ap, subst, ◌∙◌, arith}
use Rattle.std.specs.Prelude.{Result, Ok, Err, IfErr, IfSome, IsErrAnd, vec_len}
use Rattle.fe_memory.specs.Memory.{out_of_memory}
use Rattle.fe_disk.specs.Runs.{LeavesOnly}
use Rattle.fe_disk.specs.declared.calls.Calls.{Calls}
use Rattle.fe_disk.proofs.Moments.{started, joined, weaker}
use Rattle.fe_state.specs.State.{ServerState, after_all}
use Rattle.fe_state.specs.declared.entry.Entry.{Entry}
use Rattle.fe_codec.specs.Image.{image_spelling}
use Rattle.fe_format.specs.declared.format.Format.TheVariants.{Two}
use Rattle.fe_replica.specs.declared.taking.Refused.{Refused}
use Rattle.fe_replica.specs.declared.taking.Refused.TheVariants as replica
use Rattle.fe_keeper.specs.within.Faults.{fault_of_refused}
use Rattle.fe_keeper.specs.declared.fault.Fault.{Fault}
use Rattle.fe_keeper.specs.declared.fault.Fault.TheVariants.{NoMemory}
use Rattle.fe_keeper.specs.Stands.{StandsFor, StandsForEither, EachStandsFor}
use Rattle.fe_journal.specs.declared.fault.JournalFault.{JournalFault}
use Rattle.fe_keeper.specs.Keeper.{KeeperState, StoreState, slices_of}
use Rattle.fe_keeper.specs.Ends.{IsDurable, MakesToAppend, Rests, StopsLeave}
use Rattle.fe_keeper.specs.within.Ends.{Carries, IsImageOf, whole_slices}
use Rattle.fe_keeper.specs.within.Upholds.{IsKept, kept_of, Upholds, store_of}
use Rattle.fe_keeper.specs.declared.checkpoint.Checkpoint.{Checkpoint}
use Rattle.fe_keeper.specs.declared.keeper_store.KeeperStore.{KeeperStore}
use Rattle.fe_keeper.specs.declared.keeper.Keeper.TheInside.{Inside}
use Rattle.fe_disk.specs.declared.disk.Disk.{Ghosts}

-- ---- what is refused

-- what is no mismatch is lack of memory
pub memory_told : (refused : Refused) → ((place : ℕ) → refused ≡ replica.Mismatch place → ⊥) → fault_of_refused refused ≡ NoMemory out_of_memory
memory_told (replica.Mismatch at) none = absurd (none at refl)
memory_told (replica.NoMemory error) none = refl

-- so that a batch that continues the history is refused for memory alone
pub memory_alone : {T : Type 0} (P : Type 0) (result : Result T Fault) (refused : Refused) → IsErrAnd result (λ fault. fault ≡ fault_of_refused refused) → ((place : ℕ) → refused ≡ replica.Mismatch place → ⊥)
    → P → IfErr result (λ fault. (fault ≡ NoMemory out_of_memory) × P)
memory_alone P (Ok x) refused told none p = tt
memory_alone P (Err fault) refused told none p = (told ∙ memory_told refused none, p)

-- ---- a keeper as it was

pub same_kept : {D : Type 0} (old new : Inside D) → new.state ≡ old.state → new.store ≡ old.store → kept_of new ≡ kept_of old
same_kept {D} old new state store =
    ap (λ (s : ServerState). kept_in s new.store) state ∙ ap (λ (t : KeeperStore D). kept_in old.state t) store
  where
    kept_in : ServerState → KeeperStore D → KeeperState D
    kept_in s t = record { state = s; store = store_of t }

-- ---- over the moments of a call

module _ {D : Type 0} (model : Ghosts D) where
  pub each_stands : (store : KeeperStore D) (s : ServerState) → Upholds model store s → EachStandsFor model store.journal.disk s
  each_stands store s u = λ image left. record { contents = u.contents; holds = (u.keeps.left image left).holds; stands = u.stands }

  -- a call that does nothing
  pub none_left : (store : KeeperStore D) (s : ServerState) → ((image : List ℕ) → model.left_since store.journal.disk (model.moment store.journal.disk) image → model.may_leave store.journal.disk image) → Upholds model store s
      → LeavesOnly model store.journal.disk store.journal.disk (λ image. StandsFor image s)
  none_left store s only_now u = started model store.journal.disk (λ image. StandsFor image s) (λ image left. each_stands store s u image (only_now image left))

  -- a call of the store that carries the state over leaves the keeper's state as it is
  pub carries_rest : {T : Type 0} (result : Result T JournalFault) (inside : Inside D) (new : KeeperStore D) (old : KeeperState D) → IsKept model inside → kept_of inside ≡ old
      → (model.honest inside.store.journal.disk → Upholds model inside.store inside.state → Carries model result inside.store new inside.state)
      → (model.honest new.journal.disk ↔ model.honest inside.store.journal.disk) → Rests model old (record { state = inside.state; store = store_of new })
  carries_rest result inside new old kept same carries honesty =
      subst (λ (k : KeeperState D). Rests model k (record { state = inside.state; store = store_of new })) same
      (record { state = refl; any_moment = λ h works. (carries h (kept.upheld h works)).any_moment; honesty = honesty })

  -- and what it leaves is durable
  pub carries_durable : (inside : Inside D) (new : KeeperStore D) → IsKept model inside → inside.store.journal.has_failed ≡ false → (model.honest new.journal.disk ↔ model.honest inside.store.journal.disk)
      → (model.honest inside.store.journal.disk → Upholds model inside.store inside.state → Upholds model new inside.state)
      → IsDurable model (record { state = inside.state; store = store_of new })
  carries_durable inside new kept works honesty upholds =
      λ h _. let before = honesty.0 h in each_stands new inside.state (upholds before (kept.upheld before works))

  -- a state that stays is one of the two
  pub stays : (old new : D) (s : ServerState) (entries : List Entry) → LeavesOnly model old new (λ image. StandsFor image s) → LeavesOnly model old new (StandsForEither s (after_all s entries))
  stays old new s entries run = weaker model old new (λ image. StandsFor image s) (StandsForEither s (after_all s entries)) (λ image (h : StandsFor image s). inl h) run

  -- room is made, and then the batch is stored
  pub then_stored : (old mid new : D) (s : ServerState) (entries : List Entry) → LeavesOnly model old mid (λ image. StandsFor image s)
      → LeavesOnly model mid new (StandsForEither s (after_all s entries)) → LeavesOnly model old new (StandsForEither s (after_all s entries))
  then_stored old mid new s entries room run = joined model old mid new (StandsForEither s (after_all s entries)) (stays old mid s entries room) run

  -- a batch that is not put leaves what was left
  pub none_put : (inside : Inside D) (state : ServerState) (old : KeeperState D) (entries : List Entry) → IsKept model inside → kept_of inside ≡ old
      → ((image : List ℕ) → model.honest inside.store.journal.disk → model.left_since inside.store.journal.disk (model.moment inside.store.journal.disk) image → model.may_leave inside.store.journal.disk image)
      → StopsLeave model old (record { state = state; store = store_of inside.store }) (StandsForEither old.state (after_all old.state entries))
  none_put inside state old entries kept same only_now =
      subst (λ (k : KeeperState D). StopsLeave model k (record { state = state; store = store_of inside.store }) (StandsForEither k.state (after_all k.state entries))) same
      (λ h works. stays inside.store.journal.disk inside.store.journal.disk inside.state entries (none_left inside.store inside.state (λ image left. only_now image h left) (kept.upheld h works)))

-- ---- the calls of an append

-- a whole checkpoint has as many slices as the image of its state
made_slices : (whole : Option Checkpoint) (s : ServerState) → IfSome whole (λ made. IsImageOf made s) → whole_slices whole ≤ slices_of (length (image_spelling Two s))
made_slices None s is = omega arith
made_slices (Some made) s is =
    let size : made.image.len ≡ length (image_spelling Two s) = made.image.ok.0 ∙ ap (λ (xs : List ℕ). length xs) is.image_is in
    let same : slices_of (vec_len made.image) ≡ slices_of (length (image_spelling Two s)) = ap slices_of size in
    omega (arith, same)

more_slices : {D : Type 0} (store : StoreState D) (entries : List Entry) (n m : ℕ) (before after : Calls) → n ≤ m → MakesToAppend store entries n before after → MakesToAppend store entries m before after
more_slices store entries n m before after le made = record { to_append = made.to_append; to_finish = made.to_finish; most = (made.most.0, (made.most.1.0, omega (arith, le, made.most.1.1)), made.most.2) }

-- the calls of a put, as the keeper's callers count them
pub calls_there : {D : Type 0} (model : Ghosts D) (inside : Inside D) (old : KeeperState D) (new : D) (entries spelled : List Entry) (whole : Option Checkpoint) → kept_of inside ≡ old → entries ≡ spelled
    → IfSome whole (λ made. IsImageOf made inside.state) → MakesToAppend (store_of inside.store) entries (whole_slices whole) (model.calls inside.store.journal.disk) (model.calls new)
    → MakesToAppend old.store spelled (slices_of (length (image_spelling Two old.state))) (model.calls old.store.disk) (model.calls new)
calls_there {D} model inside old new entries spelled whole same is image made =
    let slices : ℕ = slices_of (length (image_spelling Two inside.state)) in
    let there = more_slices (store_of inside.store) entries (whole_slices whole) slices (model.calls inside.store.journal.disk) (model.calls new) (made_slices whole inside.state image) made in
    subst (λ (k : KeeperState D). MakesToAppend k.store spelled (slices_of (length (image_spelling Two k.state))) (model.calls k.store.disk) (model.calls new)) same
    (subst (λ (es : List Entry). MakesToAppend (store_of inside.store) es slices (model.calls inside.store.journal.disk) (model.calls new)) is there)
