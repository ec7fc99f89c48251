use Rattle.std.proofs.Common.{ap, ◌∙◌}
use Rattle.fe_waits.specs.within.Inner.{lengths, members_of}
use Rattle.fe_waits.proofs.KeptLemmas.{kept-new}
use Rattle.fe_waits.proofs.MemberLemmas.{members-empty}
use Rattle.fe_waits.proofs.WordLemmas.{lengths-empty}
use Rattle.fe_waits.proofs.waits.Waits.new.Goals as goal

pub invariant_of-result : goal.invariant_of-result
invariant_of-result c = kept-new _ _ _ c.in_ok-pool.ensures.items c.in_ok-sessions.ensures c.in_ok-words.ensures.empty

pub returns-clause-arrays : goal.returns-clause-arrays
returns-clause-arrays c = ap lengths c.in_ok-words.ensures.empty ∙ lengths-empty

pub returns-clause-members : goal.returns-clause-members
returns-clause-members c = ap members_of c.in_ok-pool.ensures.items ∙ members-empty 2048
