-- How the rows of a report are found. No public clause cites this module (`docs/model.md`, "The report").
use Rattle.std.specs.Prelude.{◌≡◌, ℕ, List, ◌++◌, map, Some, T}
use Rattle.std.specs.declared.cmp.Ordering.{Ordering}
use Rattle.std.specs.FinMap.{FinMap, find, get, is_sorted}
use Rattle.fe_words.specs.declared.op.Op.{Op}
use Rattle.fe_waits.specs.Waiting.{AreWaitingRequestsOf, AreListedOnce}
use Rattle.fe_service.specs.Service.{WaitingAccesses}
use Rattle.fe_report.specs.Report.{Spot}

-- the entries are some entries of the map, in its order
pub record ArePart {K X : Type 0} {R : K → K → Ordering} (m : FinMap R X) (es : List (K × X)) : Type 0 where
  pub sorted : T (is_sorted R es)
  pub sound : (q : K) (x : X) → find R q es ≡ Some x → get m q ≡ Some x

-- the row of a session's request, from what the front says of it
abbrev pub row_of : ℕ → ℕ × (ℕ × ℕ × Op) → Spot × Op
row_of session t = (((t.1.0, t.1.1), (session, t.0)), t.1.2)

-- a row was added for each waiting request of the session
pub record IsAdded (waiting : WaitingAccesses) (session : ℕ) (old new : List (Spot × Op)) : Type 0 where
  pub waiting_requests : List (ℕ × (ℕ × ℕ × Op))
  pub agrees : AreWaitingRequestsOf waiting session waiting_requests
  pub once : AreListedOnce waiting_requests
  pub added : new ≡ old ++ map (row_of session) waiting_requests
