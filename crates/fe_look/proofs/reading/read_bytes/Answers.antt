use Rattle.std.proofs.Common.{rules, ◌≡◌, ℕ, List, true, false, sym, ◌∙◌, subst, arith}
use Rattle.fe_journal.proofs.Founds.{formatted}
use Rattle.fe_look.specs.Reading.{ReadsFor, TellsReading}
use Rattle.fe_look.specs.declared.reading.Reading.{Reading}
use Rattle.fe_look.proofs.reading.read_bytes.Goals.{in-Overtaken, in-Unformatted}
use Rattle.fe_look.proofs.reading.read_bytes.Goals as goal

pub loop-k-preserved : goal.loop-k-preserved
loop-k-preserved g c =
    let seen = g.D.Disk.seen c.args.disk.now in
    let told = λ (honest : g.D.Disk.honest c.args.disk.now). subst (λ (l : List ℕ). TellsReading l c.in_ok-bytes.field-0) (c.loop-k.invariant.kept.reads honest).same (c.in_ok-bytes.ensures.tells (c.loop-k.invariant.kept.honesty.1 honest)) in
    let reads = λ (r : Reading). ReadsFor r (g.D.Disk.calls c.loop-k.disk) (g.D.Disk.calls c.read_once.new.disk) in
    let before = c.loop-k.invariant in
    record {
      never = λ honest is_formatted. elim c.match-branch-2.branch [
        | in-Overtaken w ↦ subst (λ (r : Reading). TellsReading seen r) w.in-Overtaken.is (told honest)
        | in-Unformatted w ↦ c.loop-k.invariant.never honest (sym w.is_formatted-is ∙ is_formatted)
      ];
      tells = λ honest _. elim c.match-branch-2.branch [
        | in-Overtaken w ↦ absurd (subst (λ (r : Reading). TellsReading seen r) w.in-Overtaken.is (told honest))
        | in-Unformatted w ↦ subst (λ (r : Reading). TellsReading seen r) w.in-Unformatted.is (told honest)
      ];
      still = search rules;
      read = elim c.match-branch-2.branch [
        | in-Overtaken w ↦ let now = subst reads w.in-Overtaken.is c.in_ok-bytes.ensures.reads in omega (arith, now, before.read)
        | in-Unformatted w ↦ let now = subst reads w.in-Unformatted.is c.in_ok-bytes.ensures.reads in omega (arith, now, before.read)
      ];
      headers = λ plain. elim c.match-branch-2.branch [
        | in-Overtaken w ↦ let never : true ≡ false = sym w.is_formatted-is ∙ plain in absurd (cc never)
        | in-Unformatted w ↦
            let now = subst reads w.in-Unformatted.is c.in_ok-bytes.ensures.reads in
            let earlier = before.headers (sym w.is_formatted-is ∙ plain) in
            omega (arith, now, earlier)
      ];
      slots = λ formatted. elim c.match-branch-2.branch [
        | in-Overtaken w ↦ let now = subst reads w.in-Overtaken.is c.in_ok-bytes.ensures.reads in omega (arith, now, before.read)
        | in-Unformatted w ↦
            let now = subst reads w.in-Unformatted.is c.in_ok-bytes.ensures.reads in
            let earlier = before.slots (sym w.is_formatted-is ∙ formatted) in
            omega (arith, now, earlier)
      ];
      unsynced = omega (arith, before.unsynced, c.in_ok-bytes.ensures.unsynced);
      kept = search rules;
    }

pub returns-else-is_formatted-clause-refused : goal.returns-else-is_formatted-clause-refused
returns-else-is_formatted-clause-refused g c = λ honest.
    let tells = c.loop-k.invariant.tells honest (omega arith) in
    record { tells = tells; valid = λ s stands. absurd (formatted stands.contents (g.D.Disk.seen c.args.disk.now) stands.holds tells) }
