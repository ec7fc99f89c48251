-- What happened in a hall, a front that many threads share, in one order: batches were cut and stored,
-- connections asked for sessions and called requests, and answers were issued (taken out of their boxes for
-- clients). A receipt is the record of an issued answer. See `docs/model.md`, "The hall".
use Rattle.std.specs.Prelude.{◌≡◌, ◌⊎◌, ℕ, ◌+◌, ◌<◌, Bool, List, [], ◌∷◌, ◌++◌, length, map, slice_get, take}
use Rattle.std.specs.Prelude.{Some, IfSome, MatchBool}
use Rattle.std.specs.List.{flat_map, AllByRecursion}
use mathlib.Core.List.{IsPrefix}
use Rattle.std.specs.FinMap.{get}
use Rattle.fe_state.specs.Sessions.{kept_in}
use Rattle.fe_state.specs.State.{ServerState, IsWithinLimits, after_all}
use Rattle.fe_state.specs.declared.batch.Batch.{Batch}
use Rattle.fe_state.specs.declared.entry.Entry.{Entry}
use Rattle.fe_state.specs.declared.entry.Entry.TheVariants.{Finished}
use Rattle.fe_state.specs.declared.request.Request.{Request}
use Rattle.fe_replica.specs.Replaying.{Continues}
use Rattle.fe_mail.specs.declared.mail.Mail.{Mail}
use Rattle.fe_messages.specs.Answers.{IsFinishedAt, IsKeptSince}
use Rattle.fe_messages.specs.Taking.{FinishesOnly, LeavesOpen}
use Rattle.fe_history.specs.declared.receipt.Receipt.{Receipt}
use Rattle.fe_history.specs.declared.act.Act.{Act}
use Rattle.fe_history.specs.declared.act.Act.TheVariants.{Began, Asked, Called, Cut, Stored, Issued}
use Rattle.fe_history.specs.Receipts.{receipt_of}

-- the batches that were cut
abbrev pub cuts_in : List Act → List Batch
cuts_in [] = []
cuts_in (Cut batch ∷ acts) = batch ∷ cuts_in acts
cuts_in (_ ∷ acts) = cuts_in acts

-- the batches that were stored, each with the moment at which its append had ended
abbrev pub stores_in : List Act → List (Batch × ℕ)
stores_in [] = []
stores_in (Stored batch moment ∷ acts) = (batch, moment) ∷ stores_in acts
stores_in (_ ∷ acts) = stores_in acts

-- the act is one of these acts
abbrev pub StandsIn : List Act → Act → Type 0
StandsIn acts act = (at : ℕ) × (slice_get acts at ≡ Some act)

-- some connection called the request in these acts, under this number of the session
abbrev pub WasCalled : List Act → ℕ → ℕ → Request → Type 0
WasCalled acts session number request =
    (conn place : ℕ) × StandsIn acts (Called conn session number request place)

-- the batches of stores
abbrev pub batches_of : List (Batch × ℕ) → List Batch
batches_of stores = map (λ s. s.0) stores

-- the entries of batches, in their order
abbrev pub entries_in : List Batch → List Entry
entries_in batches = flat_map (λ b. b.entries) batches

-- the place after these batches: how many entries the history has then
abbrev pub place_after : ServerState → List Batch → ℕ
place_after begun batches = begun.place + length (entries_in batches)

-- Some connection called the request in these acts, under this number of the session, and the session was not
-- closed since: of the entries, which are all that were made after this state began the history, none from
-- the place of the call on closes it.
pub record WasCalledSince (begun : ServerState) (acts : List Act) (entries : List Entry) (session number : ℕ)
    (request : Request) : Type 0 where
  pub conn : ℕ
  pub place : ℕ
  pub called : StandsIn acts (Called conn session number request place)
  pub before : List Entry
  pub since : List Entry
  pub entries_are : entries ≡ before ++ since
  pub at : place ≡ begun.place + length before
  pub not_closed : AllByRecursion (LeavesOpen session) since

-- Each of the entries, which come after these earlier ones, finishes only a request that was called in these
-- acts, under its number of its session, and the session was not closed between the call and the entry.
abbrev pub AreOfCalls : ServerState → List Act → List Entry → List Entry → Type 0
AreOfCalls begun acts earlier [] = Unit {0}
AreOfCalls begun acts earlier (e ∷ entries) =
    FinishesOnly (WasCalledSince begun acts earlier) e × AreOfCalls begun acts (earlier ++ e ∷ []) entries

-- The answer is that of one of these entries, or it was kept when the hall began and its request was called
-- in these acts.
abbrev pub IsAnswerOfCall : ServerState → List Act → List Entry → Receipt → Type 0
IsAnswerOfCall begun acts entries r =
    ((kept : IsKeptSince begun r.session r.number r.answer r.place)
    × WasCalled acts r.session r.number kept.request)
    ⊎ IsFinishedAt begun entries r.session r.number r.answer r.place

-- What may happen in a hall that began with this state, after these acts. A batch is cut once those before it
-- are stored, begins where they end, is not empty, and finishes only requests that were called before, of
-- sessions that were not closed since; the batch that was cut is stored; a connection asks for a session
-- whenever it likes, and calls requests of a session that it asked for; and an answer is issued only if it is
-- that of an entry that is stored, or was kept when the hall began and its request was called since; and to a
-- connection that asked for its session.
abbrev pub MayFollow : ServerState → List Act → Act → Type 0
MayFollow begun past (Began state) = ⊥
MayFollow begun past (Cut batch) =
    (cuts_in past ≡ batches_of (stores_in past)) × (batch.first ≡ place_after begun (cuts_in past))
    × (0 < length batch.entries)
    × AreOfCalls begun past (entries_in (cuts_in past)) batch.entries
MayFollow begun past (Stored batch moment) = cuts_in past ≡ batches_of (stores_in past) ++ batch ∷ []
MayFollow begun past (Asked conn session) = Unit {0}
MayFollow begun past (Called conn session number request place) = StandsIn past (Asked conn session)
MayFollow begun past (Issued r) =
    IsAnswerOfCall begun past (entries_in (batches_of (stores_in past))) r
    × StandsIn past (Asked r.conn r.session)

-- each act may follow those before it
abbrev pub FollowEachOther : ServerState → List Act → List Act → Type 0
FollowEachOther begun past [] = Unit {0}
FollowEachOther begun past (a ∷ acts) = MayFollow begun past a × FollowEachOther begun (past ++ a ∷ []) acts

-- the history of a hall begins once, with a state within the limits, and then each act may follow those
-- before it
abbrev pub IsLegal : List Act → Type 0
IsLegal (Began state ∷ acts) = IsWithinLimits state × FollowEachOther state (Began state ∷ []) acts
IsLegal _ = ⊥

-- the act may come after this history
abbrev pub MayBeAppended : List Act → Act → Type 0
MayBeAppended (Began state ∷ past) a = MayFollow state (Began state ∷ past) a
MayBeAppended _ a = ⊥

-- The answer of the receipt is that of this very request, which some connection called in these acts, under
-- its number of its session: it was kept from the beginning, and called since; or it took effect at its place
-- in a batch that was cut after the call, and from the place of the call up to that place no entry closes the
-- session.
pub data IsAnswerOf (begun : ServerState) (acts : List Act) (r : Receipt) (request : Request) : Type 0 where
  Before : kept_in (get begun.sessions r.session) r.number
      ≡ Some (record { request = request; answer = r.answer; place = r.place })
      → WasCalled acts r.session r.number request → IsAnswerOf begun acts r request
  Since : (earlier later : List Act) (batch : Batch) (at : ℕ) → acts ≡ earlier ++ Cut batch ∷ later
      → WasCalledSince begun earlier (entries_in (cuts_in earlier) ++ take at batch.entries) r.session
      r.number request
      → slice_get batch.entries at ≡ Some (Finished r.session r.number request r.answer)
      → r.place ≡ batch.first + at → IsAnswerOf begun acts r request

-- a batch was cut, after this many others
abbrev pub WasCut : List Act → ℕ → Batch → Type 0
WasCut acts count batch =
    (before : List Batch) × (length before ≡ count) × IsPrefix (before ++ batch ∷ []) (cuts_in acts)

-- the batch continues the history of some state and leads to this one, as the last batch that a keeper stored
-- leads to its state
pub record IsStored (batch : Batch) (s : ServerState) : Type 0 where
  pub before : ServerState
  pub continues : Continues before batch.first batch.entries
  pub state_is : s ≡ after_all before batch.entries

-- a batch was stored, and none after it
abbrev pub WasStoredLast : List Act → Batch → Type 0
WasStoredLast acts batch =
    (before : List (Batch × ℕ)) × (moment : ℕ) × (stores_in acts ≡ before ++ (batch, moment) ∷ [])

-- the answer of each receipt was issued
abbrev pub EachIssued : List Receipt → List Act → Type 0
EachIssued receipts acts = AllByRecursion (λ r. StandsIn acts (Issued r)) receipts

-- if the mail is an answer, it was issued to this connection
abbrev pub WasIssued : ℕ → Mail → List Act → Type 0
WasIssued conn mail acts = IfSome (receipt_of conn mail) (λ r. StandsIn acts (Issued r))

-- each answer among these mails was issued to this connection
abbrev pub AreIssued : ℕ → List Mail → List Act → Type 0
AreIssued conn mails acts = AllByRecursion (λ m. WasIssued conn m acts) mails

-- the receipts of the write side of a connection, and a history in which their answers were issued
pub record Receipts : Type 0 where
  pub conn : ℕ
  pub items : List Receipt
  pub history : List Act

-- receipts of write sides, and whether they are those of each side that was added
pub record ReceiptList : Type 0 where
  pub items : List Receipt
  pub whole : Bool

-- receipts as in a `ReceiptList`, and a history in which their answers were issued
pub record GatheredReceipts : Type 0 where
  pub items : List Receipt
  pub whole : Bool
  pub history : List Act

-- these acts go on from both of the others
abbrev pub GoesOnFrom : List Act → List Act → List Act → Type 0
GoesOnFrom one other acts = IsPrefix one acts × IsPrefix other acts

-- the later acts go on from the earlier ones, and this batch, at this moment, is the one that was stored
-- between them
abbrev pub HasStoredNext : List Act → Batch → ℕ → List Act → Type 0
HasStoredNext before batch moment after =
    IsPrefix before after × (stores_in after ≡ stores_in before ++ (batch, moment) ∷ [])

-- the second list begins with the first, and has more
abbrev pub HasMore : List (Batch × ℕ) → List (Batch × ℕ) → Type 0
HasMore stores all = (other : Batch × ℕ) × (others : List (Batch × ℕ)) × (all ≡ stores ++ other ∷ others)

-- What a hall leaves: receipts, its history, and whether its committing side (which stores) noted every group
-- in the history.
pub record Account : Type 0 where
  pub receipts : List Receipt
  pub history : List Act
  pub own : Bool

-- The account has these receipts. Its history is legal, and begins with that of the committing side and with
-- what the write sides saw. `own` says whether the stores in it are just those of the committing side; else
-- it has more after them.
pub record IsAccountOf (seat : List Act) (receipts : List Receipt) (seen : List Act)
    (account : Account) : Type 0 where
  pub same_receipts : account.receipts ≡ receipts
  pub this : IsPrefix seat account.history
  pub that : IsPrefix seen account.history
  pub legal : IsLegal account.history
  pub own : MatchBool account.own (stores_in account.history ≡ stores_in seat)
      (HasMore (stores_in seat) (stores_in account.history))
