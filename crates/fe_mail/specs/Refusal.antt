-- The codes and the names of refusals, the reasons why an event of a client is not done.
-- See `docs/model.md`, "Mails, connections and books".
use Rattle.std.specs.Prelude.{ℕ, List, codes}
use Rattle.fe_mail.specs.declared.refusal.Refusal.{Refusal}
use Rattle.fe_mail.specs.declared.refusal.Refusal.TheVariants.{NotAttached, SessionLimit, BelowFloor}
use Rattle.fe_mail.specs.declared.refusal.Refusal.TheVariants.{BeyondWindow, NumberUsed, StillWaiting}
use Rattle.fe_mail.specs.declared.refusal.Refusal.TheVariants.{Closing, NoMemory, Spent, NotWaiting}

-- the code in frames
abbrev pub code_of : Refusal → ℕ
code_of NotAttached = 1
code_of SessionLimit = 2
code_of BelowFloor = 3
code_of BeyondWindow = 4
code_of NumberUsed = 5
code_of StillWaiting = 6
code_of Closing = 7
code_of (NoMemory error) = 8
code_of Spent = 9
code_of NotWaiting = 10

-- the name in the output of a schedule
abbrev pub name_of : Refusal → List ℕ
name_of NotAttached = codes "not-attached"
name_of SessionLimit = codes "session-limit"
name_of BelowFloor = codes "below-floor"
name_of BeyondWindow = codes "beyond-window"
name_of NumberUsed = codes "number-used"
name_of StillWaiting = codes "still-waiting"
name_of Closing = codes "closing"
name_of (NoMemory error) = codes "no-memory"
name_of Spent = codes "spent"
name_of NotWaiting = codes "not-waiting"
