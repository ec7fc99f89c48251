use Rattle.std.proofs.Common.{◌≡◌, ◌-◌, length, map}
use Rattle.fe_desk.specs.within.Desk.{HasAllWithMail, client_of, KeepsFront}
use Rattle.fe_desk.proofs.Walking.{IsWalkedTo}
use Rattle.fe_desk.proofs.box_emptying.empty_boxes.Given as goal

-- the ports before this one are done with, and the others are as they were
abbrev pub invariant-loop-at : goal.invariant-loop-at
invariant-loop-at l =
    record { walked : IsWalkedTo l.fn.front (map client_of l.fn.ports.items) l.written l.front l.ports.items l.at; numbers : map (λ p. p.conn) l.ports.items ≡ map (λ p. p.conn) l.fn.ports.items; keeps : KeepsFront l.fn.front l.front; mailed : HasAllWithMail l.front l.mailed }

abbrev pub decreases-loop-at : goal.decreases-loop-at
decreases-loop-at l = length l.ports.items - l.at
