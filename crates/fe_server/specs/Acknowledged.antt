-- What an account, a hall's history and receipts, says of its answers, and of the images that a stop may
-- leave after each. See `docs/model.md`, "The hall".
use Rattle.std.specs.Prelude.{◌≡◌, ◌⊎◌, ℕ, ◌+◌, ◌<◌, ◌≤◌, true, false, List, ◌∷◌, ◌++◌, flat_map, length}
use Rattle.std.specs.Prelude.{slice_get, take, Some, MatchBool, All, Contains, ◌↔◌, [], Option, None, Result}
use Rattle.std.specs.Prelude.{Ok, Err, IfOk}
use Rattle.std.specs.List.{AllByRecursion}
use Rattle.fe_disk.specs.Runs.{LeavesOnly}
use Rattle.fe_state.specs.State.{ServerState}
use Rattle.fe_state.specs.declared.batch.Batch.{Batch}
use Rattle.fe_state.specs.declared.entry.Entry.{Entry}
use Rattle.fe_state.specs.declared.request.Request.{Request}
use Rattle.fe_keeper.specs.Keeper.{KeeperState}
use Rattle.fe_keeper.specs.Stands.{LeavesPrefix, EachStandsFor}
use Rattle.fe_messages.specs.Answers.{IsAnswerIn}
use Rattle.fe_history.specs.Acts.{Account, AreOfCalls, HasMore, IsAnswerOf, StandsIn, cuts_in, entries_in}
use Rattle.fe_history.specs.Acts.{stores_in}
use Rattle.fe_hall.specs.Commits.{Append, AreNotesOf, Commits, AppendsAreNoted, EndsAs}
use Rattle.fe_history.specs.declared.act.Act.{Act}
use Rattle.fe_history.specs.declared.act.Act.TheVariants.{Asked, Called, Cut, Issued, Began}
use Rattle.fe_hall.specs.declared.commit_end.CommitEnd.{CommitEnd}
use Rattle.fe_history.specs.declared.receipt.Receipt.{Receipt}
use Rattle.fe_disk.specs.declared.disk.Disk.{Ghosts}
use Rattle.fe_keeper.specs.declared.fault.Fault as keeper
use Rattle.fe_keeper.specs.declared.fault.Fault.TheVariants as store
use Rattle.fe_server.specs.Connections.{AnswersIssued, AreCounted, IsOfConnection}
use Rattle.fe_server.specs.declared.failed.Failed.{Failed}
use Rattle.fe_server.specs.declared.served.Served.{Served}
use Rattle.fe_server.specs.declared.stop_fault.StopFault.{StopFault}
use Rattle.fe_server.specs.declared.stop_fault.StopFault.TheVariants as fault
use Rattle.fe_server.specs.declared.transcript.Transcript.{Transcript}
use Rattle.fe_hall.specs.declared.commit_end.CommitEnd.TheVariants.{Stopped, Store, Strange, Spent}

-- One of the first n groups has the entry of that place. From the end of that group's append on, up to the
-- last disk, each image that a stop leaves stands for a prefix of the history with that group.
pub record IsHeld {D : Type 0} (model : Ghosts D) (begun : ServerState) (groups : List (List Entry))
    (appends : List (Append D)) (last : D) (n place : ℕ) : Type 0 where
  pub at : ℕ
  pub append : Append D
  pub is_there : slice_get appends at ≡ Some append
  pub before : at < n
  pub not_earlier : append.before.state.place ≤ place
  pub has_it : place < append.after.state.place
  pub every_image : LeavesOnly model append.after.store.disk last (LeavesPrefix begun groups (at + 1))

-- A server ended with this end of its committing side. The side stored groups and noted them, at the end
-- `Strange` perhaps not the last. The history has these notes, in their order, and the answer of each
-- receipt. Whatever a batch finishes was called before the batch was cut, and its session was not closed
-- between the call and the entry (`called`). Each answer that was issued is that of a request which was
-- called before (`of_call`), and has a place before all of the batches that were cut after it was issued
-- (`in_order`). A connection calls only on a session that it had asked for (`calls_asked`), and an answer
-- goes only to such a connection (`asked`). If nobody else noted groups in the hall (`own`), each answer is
-- that of its entry in the groups stored before, or was kept from the beginning; and if the disk was honest
-- and had not failed before, each image that a stop leaves since that group's append has the group.
pub record IsAcknowledged {D : Type 0} (model : Ghosts D) (old new : KeeperState D) (end : CommitEnd)
    (account : Account) : Type 0 where
  pub commits : Commits model old new (Some end)
  pub notes : List (Batch × ℕ)
  pub are_notes : AreNotesOf model commits.appends (Some end) notes
  pub stored : MatchBool account.own (stores_in account.history ≡ notes)
      (HasMore notes (stores_in account.history))
  pub issued : AllByRecursion (λ r. Contains account.history (Issued r)) account.receipts
  pub right : account.own ≡ true → (earlier later : List Act) (r : Receipt)
      → account.history ≡ earlier ++ Issued r ∷ later
      → IsAnswerIn old.state (flat_map (λ group. group) (take (length (stores_in earlier)) commits.groups))
      r.session r.number r.answer r.place
  pub held : account.own ≡ true → model.honest old.store.disk → old.store.has_failed ≡ false
      → (earlier later : List Act) (r : Receipt) → account.history ≡ earlier ++ Issued r ∷ later
      → (r.place < old.state.place) ⊎ IsHeld model old.state commits.groups commits.appends new.store.disk
      (length (stores_in earlier)) r.place
  pub called : (earlier later : List Act) (batch : Batch) → account.history ≡ earlier ++ Cut batch ∷ later
      → AreOfCalls old.state earlier (entries_in (cuts_in earlier)) batch.entries
  pub of_call : (earlier later : List Act) (r : Receipt) → account.history ≡ earlier ++ Issued r ∷ later
      → (request : Request) × IsAnswerOf old.state earlier r request
  pub in_order : (earlier between later : List Act) (r : Receipt) (batch : Batch)
      → account.history ≡ (earlier ++ Issued r ∷ between) ++ Cut batch ∷ later → r.place < batch.first
  pub calls_asked : (earlier later : List Act) (conn session number : ℕ) (request : Request) (place : ℕ)
      → account.history ≡ earlier ++ Called conn session number request place ∷ later
      → StandsIn earlier (Asked conn session)
  pub asked : (earlier later : List Act) (r : Receipt) → account.history ≡ earlier ++ Issued r ∷ later
      → StandsIn earlier (Asked r.conn r.session)

-- ---- how serving a store ends; the committing side is the thread that stores

-- A keeper was lent to a committing side, which had this end. The side stored a history. If the disk was
-- honest and had not failed before, each image that a stop leaves at any moment stands for a prefix of that
-- history. If it is honest and has not failed now, each image that a stop may leave stands for the keeper's
-- state. The end says whether the disk failed, and the disk is honest exactly if it was.
pub record HasCommitted {D : Type 0} (model : Ghosts D) (old new : KeeperState D)
    (end : CommitEnd) : Type 0 where
  pub commits : Commits model old new (Some end)
  pub stands : model.honest new.store.disk → new.store.has_failed ≡ false
      → EachStandsFor model new.store.disk new.state
  pub ended_as : EndsAs model old new (Some end)
  pub honesty : model.honest new.store.disk ↔ model.honest old.store.disk

-- As `HasCommitted`; and the history `acts`, which began with that keeper's state, notes the groups that were
-- stored and no others: all of them, or all but the last if the end is `Strange`.
abbrev pub HasCommittedAndNoted : {D : Type 0} → Ghosts D → KeeperState D → KeeperState D → CommitEnd
    → List Act → Type 0
HasCommittedAndNoted model old new end acts =
    (all : HasCommitted model old new end) × AppendsAreNoted model all.commits.appends (Some end)
    (Began old.state ∷ []) acts

-- ---- what serving returns

-- the fault that ends a server whose keeper gave this one; an end `Store` has only the first three (`EndsAs`)
abbrev pub fault_of_store : keeper.Fault → StopFault
fault_of_store store.Device = fault.Device
fault_of_store store.Failed = fault.Device
fault_of_store (store.NoMemory error) = fault.Memory
fault_of_store other = fault.Strange

-- the fault of a server whose committing side had this end
abbrev pub fault_of_end : CommitEnd → Option StopFault
fault_of_end Stopped = None
fault_of_end (Store why) = Some (fault_of_store why)
fault_of_end Strange = Some fault.Strange
fault_of_end Spent = Some fault.Strange

-- the fault in what is returned, if there is one
abbrev pub fault_in : {D : Type 0} → Result (Served D) (Failed D) → Option StopFault
fault_in (Ok served) = None
fault_in (Err failed) = Some failed.fault

-- After this end of its committing side the server may return this fault, or none. If the side ended with a
-- fault, it is that one. If it was stopped: none, with the books; or `Memory`; or `Strange`, since a book is
-- full, a seat is missing or a receipt is strange.
abbrev pub IsAnswerAt : CommitEnd → Option StopFault → Type 0
IsAnswerAt Stopped None = Unit {0}
IsAnswerAt Stopped (Some given) = (given ≡ fault.Memory) ⊎ (given ≡ fault.Strange)
IsAnswerAt (Store why) answer = answer ≡ fault_of_end (Store why)
IsAnswerAt Strange answer = answer ≡ fault_of_end Strange
IsAnswerAt Spent answer = answer ≡ fault_of_end Spent

-- the keeper that is returned
abbrev pub keeper_in : {D : Type 0} → Result (Served D) (Failed D) → KeeperState D
keeper_in (Ok served) = served.keeper
keeper_in (Err failed) = failed.keeper

-- the account that is returned; after `Ok` its `own` is true, since a hall is closed only if no other than
-- its committing side noted groups
abbrev pub account_in : {D : Type 0} → Result (Served D) (Failed D) → Account
account_in (Ok served) =
    record { receipts = served.audit.receipts; history = served.audit.history; own = true }
account_in (Err failed) = failed.account

-- the transcripts in what is returned
abbrev pub transcripts_in : {D : Type 0} → Result (Served D) (Failed D) → List Transcript
transcripts_in (Ok served) = served.transcripts
transcripts_in (Err failed) = failed.transcripts

-- Of each connection that ended: the first messages of what its socket received were handled, and it was sent
-- the frames of the mails that were taken for it, and nothing else: all, unless a write failed or memory was
-- short (`each`). Each answer among these mails was issued in the account's history (`issued`). After `Ok`
-- the books count the calls and mails of these connections, and no others (`counted`).
pub record HasTranscripts {D : Type 0} (answer : Result (Served D) (Failed D)) : Type 0 where
  pub each : All IsOfConnection (transcripts_in answer)
  pub issued : All (AnswersIssued (account_in answer).history) (transcripts_in answer)
  pub counted : IfOk answer (λ (served : Served D). AreCounted served.transcripts served.audit.books)

-- A keeper whose disk works and that has no checkpoint under way, as one just opened, was served. It is
-- returned with what was stored since; the answer is one that the committing side's end allows
-- (`IsAnswerAt`); `IsAcknowledged` holds of the account; and `HasTranscripts` holds.
pub record WasServed {D : Type 0} (model : Ghosts D) (opened : KeeperState D)
    (answer : Result (Served D) (Failed D)) : Type 0 where
  pub works : opened.store.has_failed ≡ false
  pub none_under_way : opened.store.checkpoint ≡ None
  pub committed : (end : CommitEnd) × HasCommitted model opened (keeper_in answer) end
      × IsAnswerAt end (fault_in answer)
  pub acknowledged : (end : CommitEnd) × IsAnswerAt end (fault_in answer)
      × IsAcknowledged model opened (keeper_in answer) end (account_in answer)
  pub transcripts : HasTranscripts answer
