-- What was taken out of a box is issued, if it is an answer.
use Rattle.std.proofs.Common.{◌≡◌, ℕ, Bool, List, Some, Option, subst, sym}
use Rattle.std.specs.Prelude.{IfSome}
use Rattle.fe_mail.specs.declared.mail.Mail.{Mail}
use Rattle.fe_history.specs.Acts.{MayBeAppended}
use Rattle.fe_history.specs.Receipts.{receipt_of}
use Rattle.fe_history.specs.declared.act.Act.{Act}
use Rattle.fe_history.specs.declared.act.Act.TheVariants.{Issued}
use Rattle.fe_history.specs.declared.receipt.Receipt.{Receipt}
use Rattle.fe_shared.specs.Marks.{MayBeIssued}
use Rattle.fe_shared.specs.declared.taking.Taking.{Taking}
use Rattle.fe_shared.specs.declared.taking.Taking.TheVariants as taking

module _ (conn : ℕ) (t : Taking) (m : Mail) (more : Bool) (is : t ≡ taking.Mail m more) where
  -- an answer that may be issued
  pub may_append : (r : Receipt) (acts : List Act) → Some r ≡ receipt_of conn m → MayBeIssued conn t acts → MayBeAppended acts (Issued r)
  may_append r acts some may =
      subst (λ (o : Option Receipt). IfSome o (λ q. MayBeAppended acts (Issued q))) (sym some) (subst (λ (u : Taking). MayBeIssued conn u acts) is may)
