use Rattle.std.proofs.Common.{◌≡◌, length}
use Rattle.fe_state.specs.UndoLog.{rewound, IsLogOf}
use Rattle.fe_state.proofs.state.State.rewind.Given as goal

abbrev pub invariant-loop-self : goal.invariant-loop-self
invariant-loop-self l = record {
  log : IsLogOf l.log l.self;
  beginning : rewound l.log l.self ≡ rewound l.initial.log l.initial.self;
  room : l.log.room ≡ l.initial.log.room;
}

abbrev pub decreases-loop-self : goal.decreases-loop-self
decreases-loop-self l = length l.log.undos
