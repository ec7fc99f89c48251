use Rattle.std.proofs.Common.{◌≡◌, List, ℕ, ◌++◌, ap, ◌∙◌, string_bytes, rules}
use Rattle.fe_schedules.specs.Schedule.{endings}
use Rattle.fe_disk.specs.Memory.{MemoryState}
use Rattle.fe_desk.specs.Crash.{DeskState}
use Rattle.fe_schedules.specs.Ready.{IsBetweenLines}
use Rattle.fe_schedules.proofs.Between.{line_none, after_line, between_next}
use Rattle.fe_schedules.proofs.Moving.{moves_both}
use Rattle.fe_schedules.proofs.run.Run.run_line.Goals as goal

pub print-requires-clause-posted : goal.print-requires-clause-posted
print-requires-clause-posted c =
    let r = c.args.self.now in
    let a = c.in_ok-act.ensures.acts in
    line_none c.args.line.now r.machine.desk a.mid c.act.new.self.desk c.commit.new.self.desk a.steps c.holds_after-self.result c.requires.run.between a.begins a.are a.moves c.in_ok-commit.ensures.moved.moves

pub returns-in-Ok-clause-ran : goal.returns-in-Ok-clause-ran
returns-in-Ok-clause-ran c =
    let r = c.args.self.now in
    let a = c.in_ok-act.ensures.acts in
    let e = c.commit.new.self.desk in
    let p = c.in_ok-print.ensures.printed.text in
    let held = endings c.holds_after-self.result in
    let line : string_bytes c.print.new.text ≡ p.more = p.is ∙ ap (λ (x : List ℕ). x ++ p.more) c.clear.ensures.bytes in
    let pushed : string_bytes c.push_str.new.self ≡ string_bytes r.text ++ string_bytes c.print.new.text = search rules in
    let moves = moves_both a.mid c.act.new.self.desk e a.steps held a.moves c.in_ok-commit.ensures.moved.moves in
    let ready = c.in_ok-commit.ensures.moved.machine.ready in
    let after = after_line c.args.line.now r.machine.desk a.mid e (a.steps ++ held) c.requires.run.machine.ready c.requires.run.none c.requires.run.between a.begins moves ready in
    let none = line_none c.args.line.now r.machine.desk a.mid c.act.new.self.desk e a.steps c.holds_after-self.result c.requires.run.between a.begins a.are a.moves c.in_ok-commit.ensures.moved.moves in
    let between : IsBetweenLines c.print.new.self.desk = between_next r.machine.desk c.commit.new.self c.print.new.self _ _ after none c.in_ok-print.ensures.printed in
    record {
      run = record {
        machine = c.in_ok-print.ensures.printed.machine;
        none = ap (λ (d : DeskState MemoryState). d.run_state.groups) c.in_ok-print.ensures.printed.desk;
        between = between;
        few = c.requires.run.few;
        room = c.requires.run.room;
        count = c.requires.run.count;
      };
      lines = search rules;
      begun = search rules;
      mid = a.mid;
      begins = a.begins;
      steps = a.steps;
      are = a.are;
      last = e;
      moves = moves;
      ready = ready;
      answers = after.answers;
      anew = c.in_ok-print.ensures.printed.desk;
      holding = c.holds_after-self.ensures;
      prints = record { more = p.more; prints = p.prints; is = pushed ∙ ap (λ (x : List ℕ). string_bytes r.text ++ x) line };
    }
