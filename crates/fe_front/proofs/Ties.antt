-- What keeps the parts of a front tied.
use Rattle.std.proofs.Common.{◌≡◌, ℕ, ◌+◌, length, arith}
use Rattle.std.specs.Ordering.{nat_cmp}
use Rattle.std.specs.FinMap.{FinMap, len}
use Rattle.fe_service.specs.Service.{ServiceState}
use Rattle.fe_mail.specs.Books.{Books, Balances}
use Rattle.fe_mail.specs.Connections.{mails_in}
use Rattle.fe_mail.specs.declared.connection.Connection.{Connection}
use Rattle.fe_front.specs.within.Inside.{IsSound}
use Rattle.fe_front.specs.declared.front.Front.TheInside.{Inside}
use Rattle.fe_front.proofs.Agreement.{Agree}

-- an event that makes this many entries
pub made_sound : (t : Inside) (service : ServiceState) (connections : FinMap nat_cmp Connection) (books : Books) (made : ℕ) → IsSound t
    → service.state.place ≡ t.service.state.place + made → length service.pending ≡ length t.service.pending + made
    → Agree service.attachments connections → Balances books (len service.waiting) (mails_in connections)
    → IsSound (record { service = service; connections = connections; books = books; durable = t.durable; out = t.out; spare = t.spare })
made_sound t service connections books made sound place pending agree balance = record {
  tied = record {
    agree = agree;
    place = omega (arith, place, pending, sound.tied.place);
    few_out = sound.tied.few_out;
    out_first = sound.tied.out_first;
    balance = balance;
  };
  spare = sound.spare;
}

-- an event that makes no entry
pub quiet_sound : (t : Inside) (service : ServiceState) (connections : FinMap nat_cmp Connection) (books : Books) → IsSound t
    → service.state.place ≡ t.service.state.place → length service.pending ≡ length t.service.pending
    → Agree service.attachments connections → Balances books (len service.waiting) (mails_in connections)
    → IsSound (record { service = service; connections = connections; books = books; durable = t.durable; out = t.out; spare = t.spare })
quiet_sound t service connections books sound place pending =
    made_sound t service connections books 0 sound (omega (arith, place)) (omega (arith, pending))
