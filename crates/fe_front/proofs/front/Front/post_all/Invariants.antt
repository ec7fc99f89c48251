use Rattle.std.proofs.Common.{◌≡◌, ◌+◌, drop}
use Rattle.fe_front.specs.Posting.{posted_all, Notes}
use Rattle.fe_front.proofs.front.Front.post_all.Given as goal

-- the entries that are left, posted from here on, leave what all leave
abbrev pub invariant-loop-k : goal.invariant-loop-k
invariant-loop-k l = record {
  notes : Notes l.initial.self l.self l.initial.changed l.changed;
  posted : posted_all l.self (drop l.k l.entries) (l.first + l.k) ≡ posted_all l.initial.self l.entries l.first;
}
