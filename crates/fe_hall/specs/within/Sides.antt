-- What the sides of a hall do, step by step: the committing side, the thread that stores, with its keeper; a
-- read side with its reads; a write side with the history (`docs/model.md`, "The hall").
use Rattle.std.specs.Prelude.{◌↔◌, List, Option, ◌≡◌, ℕ, ◌+◌, ◌≤◌, Some, IfSome}
use Rattle.fe_disk.specs.declared.disk.Disk.{Ghosts}
use Rattle.fe_keeper.specs.Ends.{IsDurable, Rests}
use Rattle.fe_keeper.specs.Keeper.{KeeperState}
use Rattle.fe_history.specs.declared.act.Act.{Act}
use Rattle.fe_hall.specs.Commits.{AppendsAreNoted, Commits, EndsAs}
use Rattle.fe_hall.specs.declared.commit_end.CommitEnd.{CommitEnd}
use Rattle.fe_hall.specs.declared.ends.ReadEnd.{ReadEnd}
use Rattle.fe_hall.specs.declared.ends.ReadEnd.TheVariants.{Turns}
use mathlib.Core.List.{IsPrefix}
use Rattle.fe_mail.specs.declared.mail.Mail.{Mail}
use Rattle.fe_history.specs.Acts.{AreIssued}

-- The keeper's state is the same. Over an honest disk that had not failed, each image that a stop leaves
-- during the call stands for it; so does each that it leaves afterwards, if the disk has still not failed.
abbrev pub KeepsStanding : {D : Type 0} → Ghosts D → KeeperState D → KeeperState D → Type 0
KeepsStanding model old new = Rests model old new × IsDurable model new

-- What the side did from one keeper to the other: it appended groups and noted them in the history, and all
-- of it is durable. The disk is honest if it was. An end of `None` says that the side goes on.
pub record StoresOn {D : Type 0} (model : Ghosts D) (old new : KeeperState D) (end : Option CommitEnd)
    (before after : List Act) : Type 0 where
  pub commits : (all : Commits model old new end) × AppendsAreNoted model all.appends end before after
  pub durable : IsDurable model new
  pub ended_as : EndsAs model old new end
  pub honesty : model.honest new.store.disk ↔ model.honest old.store.disk

-- a side that may make this many reads (`None`: any number) makes no more, and just as many if it ends as
-- `Turns`
abbrev pub KeepsTurns : Option ℕ → ReadEnd → ℕ → ℕ → Type 0
KeepsTurns turns end before after =
    (end ≡ Turns → (most : ℕ) × (turns ≡ Some most) × (after ≡ before + most))
    × IfSome turns (λ most. after ≤ before + most)

-- the later history goes on from the earlier one, and in it each answer among these mails was issued to this
-- connection
abbrev pub IssuesOn : ℕ → List Mail → List Act → List Act → Type 0
IssuesOn conn mails before after = IsPrefix before after × AreIssued conn mails after
