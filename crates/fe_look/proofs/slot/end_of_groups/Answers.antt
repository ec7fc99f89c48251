use Rattle.std.proofs.Common.{rules, ◌≡◌, ◌+◌, ℕ, List, [], ◌∷◌, sym, ◌∙◌, subst, refl, arith}
use Rattle.std.specs.Prelude.{slice_index}
use Rattle.fe_journal.specs.Layout.{number_at, IsGateOpen, IsGateShut}
use Rattle.fe_look.proofs.Areas.{gates_le, gates_behind}
use Rattle.fe_look.proofs.slot.end_of_groups.Goals as goal

pub returns-then-branch-ne1-clause-ends : goal.returns-then-branch-ne1-clause-ends
returns-then-branch-ne1-clause-ends g c = λ honest.
    let seen = g.D.Disk.seen c.args.disk.now in
    let gate = c.args.area + c.loop-at.at in
    let same = (c.loop-at.invariant.kept.reads honest).same in
    let byte = subst (λ (l : List ℕ). c.in_ok-read_byte.field-0 ≡ slice_index l gate) same (c.in_ok-read_byte.ensures.byte (c.loop-at.invariant.kept.honesty.1 honest)) in
    let shut : IsGateShut seen gate = λ is_open. absurd (search (rules, byte, is_open)) in
    c.loop-at.invariant.leads honest [] c.loop-at.at (refl, shut)

pub loop-at-preserved : goal.loop-at-preserved
loop-at-preserved g c =
    let seen = g.D.Disk.seen c.args.disk.now in
    let gate = c.args.area + c.loop-at.at in
    let here : g.D.Disk.honest c.args.disk.now → IsGateOpen seen gate × (number_at seen (gate + 1) 4 ≡ c.in_ok-at.field-0) = λ honest.
    let honest_1 = c.loop-at.invariant.kept.honesty.1 honest in
    let same = (c.loop-at.invariant.kept.reads honest).same in
    let byte = subst (λ (l : List ℕ). c.in_ok-read_byte.field-0 ≡ slice_index l gate) same (c.in_ok-read_byte.ensures.byte honest_1) in
    let same_1 = (c.in_ok-read_byte.ensures.device.kept.reads honest_1).same ∙ same in
    let number = subst (λ (l : List ℕ). c.in_ok-at.field-0 ≡ number_at l (gate + 1) 4) same_1 (c.in_ok-at.ensures.number (c.in_ok-read_byte.ensures.device.kept.honesty.1 honest_1)) in
    let is_open : slice_index seen gate ≡ 1 = search (rules, byte) in
    (is_open, sym number) in
    record {
      leads = λ honest ns end gates. let now = here honest in c.loop-at.invariant.leads honest (c.in_ok-at.field-0 ∷ ns) end (now.0, now.1, gates);
      follows = λ honest end ends.
          let now = here honest in
          let before = c.loop-at.invariant.follows honest end ends in
          gates_behind seen c.args.area c.loop-at.at c.in_ok-at.field-0 end before.0 now.0 now.1 before.1;
      still = search rules;
      works = λ later rises.
          let byte = c.in_ok-read_byte.ensures.device.fault in
          let number = c.in_ok-at.ensures.device.fault in
          absurd (search rules);
      read = λ later. omega (arith, c.loop-at.invariant.kept.counts, c.in_ok-read_byte.ensures.counts, c.in_ok-at.ensures.counts);
      unsynced = omega (arith, c.loop-at.invariant.unsynced, c.in_ok-read_byte.ensures.device.unsynced, c.in_ok-at.ensures.device.unsynced);
      kept = search rules;
    }

pub returns-clause-none : goal.returns-clause-none
returns-clause-none g c = λ honest end ends.
    let gates = c.loop-at.invariant.follows honest end ends in
    let le = gates_le (g.D.Disk.seen c.args.disk.now) c.args.area c.loop-at.at gates.0 end gates.1 in
    omega (arith, le)
