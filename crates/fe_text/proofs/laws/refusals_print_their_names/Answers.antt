use Rattle.std.proofs.Common.{◌≡◌, refl}
use Rattle.fe_mail.specs.Refusal.{code_of, name_of}
use Rattle.fe_mail.specs.declared.refusal.Refusal.{Refusal}
use Rattle.fe_mail.specs.declared.refusal.Refusal.TheVariants.{NotAttached, SessionLimit, BelowFloor, BeyondWindow, NumberUsed, StillWaiting, Closing, NoMemory, Spent, NotWaiting}
use Rattle.fe_text.specs.Printed.{refusal_text}
use Rattle.fe_text.proofs.laws.refusals_print_their_names.Goals as goal

same_name : (refusal : Refusal) → refusal_text (code_of refusal) ≡ name_of refusal
unfolding refusal_text
same_name NotAttached = refl
same_name SessionLimit = refl
same_name BelowFloor = refl
same_name BeyondWindow = refl
same_name NumberUsed = refl
same_name StillWaiting = refl
same_name Closing = refl
same_name (NoMemory error) = refl
same_name Spent = refl
same_name NotWaiting = refl

pub returns : goal.returns
returns c = same_name
