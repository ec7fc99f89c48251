use Rattle.std.proofs.Common.{◌≡◌, inl, inr, ℕ, Some, None, true, false, sym, ap, ◌∙◌}
use Rattle.std.specs.Prelude.{Result, Ok}
use Rattle.fe_front.specs.Front.{has_room}
use Rattle.fe_desk.specs.DeskRunState.{DeskRunState, cleared}
use Rattle.fe_desk.specs.Room.{MayBegin, StopsMaking, begun_room, made, room_begun, roomy, with_room}
use Rattle.fe_desk.specs.DeskRunState as way
use Rattle.fe_desk.specs.Crash.{DeskState}
use Rattle.fe_desk.specs.within.Desk.{run_state_of}
use Rattle.fe_desk.specs.within.Goes.{GoesTo, WasBegun}
use Rattle.fe_disk.specs.declared.disk.Disk.{Ghosts}
use Rattle.fe_keeper.specs.declared.fault.Fault.{Fault}
use Rattle.fe_desk.proofs.Connecting.{making_stays}
use Rattle.fe_desk.proofs.Making.{committed_room, room_by}
use Rattle.fe_desk.proofs.Reading.{committed}
use Rattle.fe_desk.proofs.Stops.{made_alike, stops_room}
use Rattle.fe_desk.proofs.Goes.{passed_on, then, before, after, done, weaker_on}
use Rattle.fe_desk.proofs.desk_inner.DeskInner.make_room.Goals as goal

-- what is out is cleared and what is pending is committed, where there was no room
roomed : {D : Type 0} {k : Ghosts D} {x : Unit {0}} {r : Result (Unit {0}) Fault} {a b c : DeskState D} (conn : ℕ)
    → GoesTo k (begun_room a.run_state conn) (WasBegun a.run_state conn) (Ok x) a b → has_room b.run_state.front ≡ false
    → GoesTo k (made (committed (cleared b.run_state))) (MayBegin b.run_state conn) r b c
    → GoesTo k (roomy a.run_state conn) (StopsMaking a.run_state conn) r a c
roomed {D} {k} {x} {r} {a} {b} {c} conn goes none commit =
    then goes
    (weaker_on (λ is. is ∙ sym (room_by b.run_state false none) ∙ ap (λ (s : DeskRunState). with_room s) goes.ends.1)
    (λ last may. stops_room a.run_state b.run_state last conn goes.ends.1 none may) commit)

pub returns-in_err-go_on-clause-goes : goal.returns-in_err-go_on-clause-goes
returns-in_err-go_on-clause-goes g c = passed_on c.from_residual.ensures.1 (λ last begun. inl begun) c.in_err-go_on.ensures

pub returns-then-room-clause-goes : goal.returns-then-room-clause-goes
returns-then-room-clause-goes g c =
    done (λ is. sym (room_by (run_state_of c.go_on.new.self) true (sym c.room.ensures ∙ c.if-room.true)) ∙ ap (λ (s : DeskRunState). with_room s) is) c.in_ok-go_on.ensures

pub clear-requires : goal.clear-requires
clear-requires g c =
    let goes = c.in_ok-go_on.ensures in
    record { desk = goes.desk; works = goes.ends.0.fine.after }

pub returns-in_err-clear-clause-goes : goal.returns-in_err-clear-clause-goes
returns-in_err-clear-clause-goes g c =
    roomed c.args.conn c.in_ok-go_on.ensures (sym c.room.ensures ∙ c.if-room.false)
    (passed_on c.from_residual-in_err-clear.ensures.1 (λ last is. inl is) c.in_err-clear.ensures)

pub clear-requires-2 : goal.clear-requires-2
clear-requires-2 g c =
    let cut = c.cut.new.self in
    let goes = c.in_ok-clear.ensures in
    record {
      desk = (making_stays g.D.Disk (run_state_of cut) cut.keeper cut.trace.synced (Some c.args.conn)).desk (c.cut.ensures.stays.desk goes.desk);
      works = ap (λ (k : _). k.store.has_failed) c.cut.ensures.stays.store.keeper ∙ goes.ends.0.fine.after;
    }

pub returns-in_err-clear-2-clause-goes : goal.returns-in_err-clear-2-clause-goes
returns-in_err-clear-2-clause-goes g c =
    let goes = c.in_ok-clear.ensures in
    let same = c.cut.ensures.stays.store in
    let begun : record (run_state_of c.cut.new.self) { making = Some c.args.conn } ≡ room_begun (run_state_of c.go_on.new.self) c.args.conn =
    ap (λ (s : DeskRunState). record s { making = Some c.args.conn }) (c.cut.ensures.cut ∙ ap (λ (s : DeskRunState). way.cut s) goes.ends.1) in
    roomed c.args.conn c.in_ok-go_on.ensures (sym c.room.ensures ∙ c.if-room.false)
    (then goes
    (before goes.ends.0.fine.after (record { keeper = same.keeper; groups = same.groups; synced = same.synced }) c.cut.ensures.stays.owes
    (passed_on c.from_residual-in_err-clear-2.ensures.1 (λ last is. inr (is ∙ begun)) c.in_err-clear-2.ensures)))

pub returns-clause-room : goal.returns-clause-room
returns-clause-room g c =
    let goes = c.in_ok-clear.ensures in
    let second = c.in_ok-clear-2.ensures in
    let begun : record (run_state_of c.cut.new.self) { making = Some c.args.conn } ≡ room_begun (run_state_of c.go_on.new.self) c.args.conn =
    ap (λ (s : DeskRunState). record s { making = Some c.args.conn }) (c.cut.ensures.cut ∙ ap (λ (s : DeskRunState). way.cut s) goes.ends.1) in
    let is = ap (λ (s : DeskRunState). made s) second.ends.1 ∙ ap (λ (s : DeskRunState). made (cleared s)) begun ∙ made_alike (way.cut (cleared (run_state_of c.go_on.new.self))) (Some c.args.conn) in
    ap (λ (s : DeskRunState). has_room s.front) is ∙ committed_room (run_state_of c.go_on.new.self) c.in_ok-go_on.ensures.desk.tied.handed

pub returns-clause-goes : goal.returns-clause-goes
returns-clause-goes g c =
    let goes = c.in_ok-clear.ensures in
    let second = c.in_ok-clear-2.ensures in
    let same = c.cut.ensures.stays.store in
    let last = c.clear-2.new.self in
    let begun : record (run_state_of c.cut.new.self) { making = Some c.args.conn } ≡ room_begun (run_state_of c.go_on.new.self) c.args.conn =
    ap (λ (s : DeskRunState). record s { making = Some c.args.conn }) (c.cut.ensures.cut ∙ ap (λ (s : DeskRunState). way.cut s) goes.ends.1) in
    roomed c.args.conn c.in_ok-go_on.ensures (sym c.room.ensures ∙ c.if-room.false)
    (then goes
    (before goes.ends.0.fine.after (record { keeper = same.keeper; groups = same.groups; synced = same.synced }) c.cut.ensures.stays.owes
    (after second (making_stays g.D.Disk (run_state_of last) last.keeper last.trace.synced None)
    (ap (λ (s : DeskRunState). made s) second.ends.1 ∙ ap (λ (s : DeskRunState). made (cleared s)) begun ∙ made_alike (way.cut (cleared (run_state_of c.go_on.new.self))) (Some c.args.conn)))))
