use Rattle.std.proofs.Common.{ℕ, ◌+◌, List, length, sym, ◌∙◌, ap, subst}
use Rattle.fe_journal.specs.Contents.{HoldsGroups, Cursor}
use Rattle.fe_format.specs.declared.format.Format.{Format}
use Rattle.fe_journal.proofs.Openings.{rest_holds}
use Rattle.fe_journal.proofs.groups.Groups.skip.Goals as goal

pub returns-in-None-clause-at : goal.returns-in-None-clause-at
returns-in-None-clause-at c = λ payload rest lists. absurd (c.in-None.ensures.next payload rest lists)

pub returns-in-None-clause-rest : goal.returns-in-None-clause-rest
returns-in-None-clause-rest c = λ payload rest lists. absurd (c.in-None.ensures.next payload rest lists)

pub returns-clause-at : goal.returns-clause-at
returns-clause-at c = λ payload rest lists.
    let further : Cursor → List ℕ → Cursor = λ s l. record { bytes = s.bytes; start = s.start; at = s.at + (5 + length l) } in
    ap (λ (s : Cursor). further s c.in-Some.payload.now) c.self.view_is ∙ ap (λ (l : List ℕ). further c.args.self.now l) (c.in-Some.ensures.next payload rest lists)

pub returns-clause-rest : goal.returns-clause-rest
returns-clause-rest c = λ payload rest lists.
    let now = c.args.self.now in
    let behind = subst (λ (l : List ℕ). HoldsGroups lists.0 now.bytes 0 (now.at + (5 + length l)) rest) (sym (c.in-Some.ensures.next payload rest lists)) (rest_holds lists.0 now.bytes now.at payload rest lists.1) in
    subst (λ (s : Cursor). (format : Format) × HoldsGroups format s.bytes 0 (s.at + (5 + length c.in-Some.payload.now)) rest) (sym c.self.view_is) (lists.0, behind)
