-- Steps of a desk, one after the other.
use Rattle.std.proofs.Common.{◌≡◌, ℕ, List, [], ◌∷◌, ◌++◌, refl, sym, ap, ◌∙◌, subst}
use Rattle.fe_disk.specs.Memory.{MemoryState}
use Rattle.fe_desk.specs.Crash.{DeskState}
use Rattle.fe_desk.specs.DeskRunState.{DeskRunState}
use Rattle.fe_desk.specs.Steps.{DeskRun}
use Rattle.fe_desk.specs.declared.step.Step.{Step}
use Rattle.fe_desk.specs.declared.step.Step.TheVariants as step
use Rattle.fe_schedules.specs.Ready.{Moves, ChecksEach}
use Rattle.fe_schedules.specs.Runs.{ActsOn, IsMachine, TakesSteps, last_disk}
use Rattle.fe_text.specs.declared.line.Line.{Line}
use Rattle.fe_text.specs.declared.line.Line.TheVariants as line
use Rattle.fe_schedules.specs.declared.machine.Machine.{Machine}
use Rattle.fe_schedules.proofs.Readiness.{disk_is}

pub runs_both : (xs ys : List Step) (s u t : DeskRunState) → DeskRun s xs u → DeskRun u ys t → DeskRun s (xs ++ ys) t
runs_both [] ys s u t e f = subst (λ (w : DeskRunState). DeskRun w ys t) e f
runs_both (x ∷ xs) ys s u t e f = (e.0, e.1, runs_both xs ys e.0 u t e.2 f)

checks_both : (xs ys : List Step) (d m e : DeskState MemoryState) → ChecksEach d xs m → ChecksEach m ys e → ChecksEach d (xs ++ ys) e
checks_both [] ys d m e p q = subst (λ (w : DeskState MemoryState). ChecksEach w ys e) p q
checks_both (x ∷ xs) ys d m e p q = (p.0, p.1, checks_both xs ys p.0 m e p.2 q)

pub moves_none : (d : DeskState MemoryState) → Moves d [] d
moves_none d = record { runs = refl; from = λ begun from. from; acknowledged = λ begun limits is. is; checks = refl }

pub moves_both : (d m e : DeskState MemoryState) (xs ys : List Step) → Moves d xs m → Moves m ys e → Moves d (xs ++ ys) e
moves_both d m e xs ys p q = record { runs = runs_both xs ys d.run_state m.run_state e.run_state p.runs q.runs; from = λ begun from. q.from begun (p.from begun from); acknowledged = λ begun limits is. q.acknowledged begun limits (p.acknowledged begun limits is); checks = checks_both xs ys d m e p.checks q.checks }

-- the same of a machine
pub takes_both : (m u n : Machine) (xs ys : List Step) → TakesSteps m xs u → TakesSteps u ys n → TakesSteps m (xs ++ ys) n
takes_both m u n xs ys p q = record { machine = q.machine; moves = moves_both m.desk u.desk n.desk xs ys p.moves q.moves }

-- no call of the disk failed
pub calm_disk : (m : Machine) → IsMachine m → (last_disk m).failures ≡ 0
calm_disk m is = ap (λ (disk : MemoryState). disk.failures) (disk_is m is) ∙ is.ready.calm

-- ---- lines with no steps

pub held : (m : Machine) (l : Line) → IsMachine m → l ≡ line.Hold → ActsOn m l m
held m l is e = subst (λ (k : Line). ActsOn m k m) (sym e) (record { machine = is; mid = m.desk; begins = refl; steps = []; are = refl; moves = moves_none m.desk })

pub flushed : (m : Machine) (l : Line) → IsMachine m → l ≡ line.Flush → ActsOn m l m
flushed m l is e = subst (λ (k : Line). ActsOn m k m) (sym e) (record { machine = is; mid = m.desk; begins = refl; steps = []; are = refl; moves = moves_none m.desk })

-- ---- lines whose steps these are

pub went : (m n : Machine) (l : Line) (conn : ℕ) → l ≡ line.Gone conn → TakesSteps m (step.Gone conn ∷ []) n → ActsOn m l n
went m n l conn e t = subst (λ (k : Line). ActsOn m k n) (sym e) (record { machine = t.machine; mid = m.desk; begins = refl; steps = step.Gone conn ∷ []; are = refl; moves = t.moves })

pub checked : (m n : Machine) (l : Line) → l ≡ line.Check → TakesSteps m (step.CheckBegin ∷ step.CheckFinish ∷ []) n → ActsOn m l n
checked m n l e t = subst (λ (k : Line). ActsOn m k n) (sym e) (record { machine = t.machine; mid = m.desk; begins = refl; steps = step.CheckBegin ∷ step.CheckFinish ∷ []; are = refl; moves = t.moves })
