use Rattle.std.proofs.Common.{inl, inr, refl}
use Rattle.femem.proofs.settings_at.Goals as goal

pub returns-in-Err-clause-refused : goal.returns-in-Err-clause-refused
returns-in-Err-clause-refused g c = inr (inl refl)
