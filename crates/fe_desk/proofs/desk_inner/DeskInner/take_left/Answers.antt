use Rattle.std.proofs.Common.{◌<◌, length, map, refl, sym, subst, List, arith}
use Rattle.std.proofs.lemmas.List.{length-map}
use Rattle.fe_desk.specs.DeskRunState.{Client}
use Rattle.fe_desk.specs.within.Desk.{client_of, desk_of, run_state_of}
use Rattle.fe_wire.specs.declared.client_message.ClientMessage.{ClientMessage}
use Rattle.fe_desk.proofs.Places.{found_there, port_changed}
use Rattle.fe_desk.specs.Steps.{find}
use Rattle.fe_desk.proofs.Reading.{left_among, relieved}
use Rattle.fe_desk.proofs.Leftovers.{going_first, going_on, taken_all, clients_then, place_as, some_left, left_here, port_next, desk_enters, none_left_here, fewer_left}
use Rattle.fe_desk.proofs.Stops.{first_stops, first_tears, room_keeps}
use Rattle.fe_desk.proofs.Goes.{then, passed, done}
use Rattle.fe_desk.proofs.desk_inner.DeskInner.take_left.Goals as goal

pub loop-self-init : goal.loop-self-init
loop-self-init g c =
    going_first {k = g.D.Disk} c.args.conn c.args.at (desk_of c.args.self.now) g.met.D.Disk.only_now c.requires.ready c.requires.place

pub index-requires : goal.index-requires
index-requires g c = omega (arith, c.loop-self.invariant.place.within, length-map c.loop-self.self.trace.ports.items client_of)

pub make_room-requires : goal.make_room-requires
make_room-requires g c =
    let goes = c.loop-self.invariant.goes in
    record { desk = goes.desk; works = goes.ends.0.fine.after }

pub returns-in_err-make_room-clause-clients : goal.returns-in_err-make_room-clause-clients
returns-in_err-make_room-clause-clients g c =
    clients_then c.args.conn (run_state_of c.args.self.now) (run_state_of c.loop-self.self) (run_state_of c.make_room.new.self) (room_keeps c.args.conn _ c.in_err-make_room.ensures.goes) c.loop-self.invariant.taken

pub returns-in_err-make_room-clause-place : goal.returns-in_err-make_room-clause-place
returns-in_err-make_room-clause-place g c = place_as _ _ c.args.conn c.args.at (room_keeps c.args.conn _ c.in_err-make_room.ensures.goes) c.loop-self.invariant.place

pub index_mut-requires : goal.index_mut-requires
index_mut-requires g c =
    let place = place_as _ _ c.args.conn c.args.at (room_keeps c.args.conn _ c.in_ok-make_room.ensures.goes) c.loop-self.invariant.place in
    omega (arith, place.within, length-map c.make_room.new.self.trace.ports.items client_of)

pub first_left-message-requires : goal.first_left-message-requires
first_left-message-requires g c =
    let clients = room_keeps c.args.conn _ c.in_ok-make_room.ensures.goes in
    let place = place_as _ _ c.args.conn c.args.at clients c.loop-self.invariant.place in
    let some = some_left c.loop-self.self.trace.ports.items c.args.conn c.args.at c.index.result.now _ c.loop-self.invariant.place c.index.ensures c.has_left.ensures c.loop-self-test.true in
    subst (λ (ms : List ClientMessage). 0 < length ms) (left_here c.make_room.new.self.trace.ports.items c.args.conn c.args.at c.index_mut.result.now place c.index_mut.ensures.value)
    (subst (λ (cs : List Client). 0 < length (left_among (find c.args.conn cs))) (sym clients) some)

pub loop-self-smaller : goal.loop-self-smaller
loop-self-smaller g c =
    let mid = c.make_room.new.self in
    let clients = room_keeps c.args.conn _ c.in_ok-make_room.ensures.goes in
    let place = place_as _ _ c.args.conn c.args.at clients c.loop-self.invariant.place in
    let taken = c.take_message.ensures.taken in
    fewer_left (run_state_of c.loop-self.self) (run_state_of mid) _ c.args.conn
    clients (found_there (map client_of c.loop-self.self.trace.ports.items) c.args.conn c.args.at c.loop-self.invariant.place)
    (port_next (run_state_of mid) mid.trace.ports.items c.args.conn c.args.at c.index_mut.result.now c.first_left-message.new.port c.first_left-message.result taken.0 c.take_message.new.front refl
    place c.index_mut.ensures.value c.first_left-message.ensures.first c.first_left-message.ensures.client taken.1)

pub loop-self-preserved : goal.loop-self-preserved
loop-self-preserved g c =
    let mid = c.make_room.new.self in
    let ports = mid.trace.ports.items in
    let place = place_as _ _ c.args.conn c.args.at (room_keeps c.args.conn _ c.in_ok-make_room.ensures.goes) c.loop-self.invariant.place in
    let q = c.first_left-message.new.port in
    let taken = c.take_message.ensures.taken in
    going_on c.args.conn c.args.at (desk_of c.args.self.now) (desk_of c.loop-self.self) (desk_of mid) _
    (found_there (map client_of c.args.self.now.trace.ports.items) c.args.conn c.args.at c.requires.place) c.loop-self.invariant
    c.in_ok-make_room.ensures.goes
    (port_next (run_state_of mid) ports c.args.conn c.args.at c.index_mut.result.now q c.first_left-message.result taken.0 c.take_message.new.front refl
    place c.index_mut.ensures.value c.first_left-message.ensures.first c.first_left-message.ensures.client taken.1)
    (record {
      desk = λ desk.
          desk_enters g.D.Disk (desk_of mid) _ taken.0 c.args.conn (relieved (client_of q).left)
          (record { keeper = refl; groups = refl; synced = refl }) refl taken.2
          (port_changed ports c.args.conn c.args.at c.index_mut.result.now q (relieved (client_of q).left) place c.index_mut.ensures.value c.first_left-message.ensures.client)
          (λ d. refl) desk;
      store = record { keeper = refl; groups = refl; synced = refl };
      owes = refl;
    })

pub returns-clause-clients : goal.returns-clause-clients
returns-clause-clients g c =
    clients_then c.args.conn (run_state_of c.args.self.now) (run_state_of c.loop-self.self) (run_state_of c.loop-self.self) refl c.loop-self.invariant.taken

pub returns-in_err-make_room-clause-goes : goal.returns-in_err-make_room-clause-goes
returns-in_err-make_room-clause-goes g c =
    let old = desk_of c.args.self.now in
    let a = desk_of c.loop-self.self in
    let u = desk_of c.make_room.new.self in
    let going = c.loop-self.invariant in
    let clients = room_keeps c.args.conn _ c.in_err-make_room.ensures.goes in
    let some = some_left c.loop-self.self.trace.ports.items c.args.conn c.args.at c.index.result.now _ going.place c.index.ensures c.has_left.ensures c.loop-self-test.true in
    then going.goes
    (passed c.from_residual.ensures.1
    (λ short. first_stops c.args.conn old.run_state a.run_state u.run_state some clients short.until short.at_hand going.taken)
    (λ last stops tears. first_tears c.args.conn old.run_state a.run_state last u some clients stops going.taken tears) c.in_err-make_room.ensures.goes)

pub returns-clause-goes : goal.returns-clause-goes
returns-clause-goes g c =
    let going = c.loop-self.invariant in
    done
    (λ any. taken_all c.args.conn (run_state_of c.args.self.now) (run_state_of c.loop-self.self)
    (none_left_here c.loop-self.self.trace.ports.items c.args.conn c.args.at c.index.result.now _ going.place c.index.ensures c.has_left.ensures c.loop-self-test.false) going.taken) going.goes
