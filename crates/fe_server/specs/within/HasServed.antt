-- What serving a keeper's store leaves (`docs/model.md`, "The hall").
use Rattle.std.specs.Prelude.{◌≡◌, ℕ, List, [], ◌∷◌, Result, IfOk, nat_lt}
use Rattle.fe_state.specs.State.{ServerState}
use Rattle.fe_history.specs.declared.act.Act.{Act}
use Rattle.fe_history.specs.declared.act.Act.TheVariants.{Began}
use Rattle.fe_shared.specs.Seats.{IsBlankOf}
use Rattle.fe_disk.specs.declared.disk.Disk.{Ghosts}
use Rattle.fe_keeper.specs.Keeper.{KeeperState}
use Rattle.fe_hall.specs.declared.commit_end.CommitEnd.{CommitEnd}
use Rattle.fe_server.specs.Acknowledged.{IsAcknowledged, HasCommitted, HasTranscripts, IsAnswerAt, account_in}
use Rattle.fe_server.specs.Acknowledged.{fault_in, keeper_in}
use Rattle.fe_server.specs.FinishedConnections.{IsSettled}
use Rattle.fe_server.specs.declared.failed.Failed.{Failed}
use Rattle.fe_server.specs.declared.served.Served.{Served}

-- Nothing was counted or noted yet: a blank makes the whole ledger of the calls, another that of the mails,
-- and what is noted, in the mails' book, is only that the hall began with this state.
pub record AreBlank {B : Type 0} (calls_ledger calls_parts all_calls calls_name calls_blank mails_ledger
    mails_parts all_mails mails_name mails_blank : ℕ)
    (mails_book book : B) (acts : List Act) (state : ServerState) : Type 0 where
  pub of_calls : IsBlankOf calls_ledger calls_parts all_calls calls_name calls_blank
  pub of_mails : IsBlankOf mails_ledger mails_parts all_mails mails_name mails_blank
  pub same_book : book ≡ mails_book
  pub begun : acts ≡ Began state ∷ []

-- The store of a keeper was served: the keeper is returned with what was stored since, the answer is one that
-- the committing side's end allows (`IsAnswerAt`), `IsAcknowledged` holds of the account, the audit, if there
-- is one, is settled, and `HasTranscripts` holds.
pub record HasServed {D : Type 0} (model : Ghosts D) (keeper : KeeperState D) (accepts : ℕ)
    (answer : Result (Served D) (Failed D)) : Type 0 where
  pub committed : (end : CommitEnd) × HasCommitted model keeper (keeper_in answer) end
      × IsAnswerAt end (fault_in answer)
  pub acknowledged : (end : CommitEnd) × IsAnswerAt end (fault_in answer)
      × IsAcknowledged model keeper (keeper_in answer) end (account_in answer)
  pub settled : IfOk answer (λ (served : Served D).
      IsSettled (nat_lt 0 accepts) served.keeper.state served.audit)
  pub transcripts : HasTranscripts answer
