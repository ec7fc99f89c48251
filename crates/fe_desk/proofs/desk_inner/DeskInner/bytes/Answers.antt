use Rattle.std.proofs.Common.{◌≡◌, map, List, Bool, true, false, inl, inr, Err, refl, sym, ap, subst, ◌∙◌, slice_set}
use Rattle.fe_memory.specs.Memory.{out_of_memory}
use Rattle.fe_wire.specs.Stream.{Decoding, CompletesMessage}
use Rattle.fe_desk.specs.DeskRunState.{Client}
use Rattle.fe_desk.specs.Steps.{after_frame}
use Rattle.fe_desk.specs.declared.fault.DeskFault.TheVariants.{NoMemory}
use Rattle.fe_desk.specs.within.Desk.{client_of, desk_of, run_state_of}
use Rattle.fe_desk.specs.Ends.{StopsShort}
use Rattle.fe_desk.specs.within.Goes.{GoesPiece, TakesStream, StopsStream}
use Rattle.fe_desk.proofs.Goes.{stays_itself, unread, piece_done, piece_short, piece_faulty, then, before}
use Rattle.fe_desk.proofs.Places.{port_changed}
use Rattle.fe_desk.proofs.Leftovers.{left_here}
use Rattle.fe_desk.proofs.Pieces.{relieves, has_fed, all_taken, port_same, port_reads, fed_place, desk_reads, reading, stream_unknown, stream_off, stream_unread, stream_all, fed_stops}
use Rattle.fe_desk.proofs.desk_inner.DeskInner.bytes.Goals as goal

pub returns-in_default-clause-goes : goal.returns-in_default-clause-goes
returns-in_default-clause-goes g c =
    unread {k = g.D.Disk} g.met.D.Disk.only_now c.requires.ready (stream_unknown (run_state_of c.args.self.now) c.args.conn c.args.piece.now c.in_default.ensures.none)

pub returns-in-Err-clause-goes : goal.returns-in-Err-clause-goes
returns-in-Err-clause-goes g c =
    piece_faulty false c.desk_fault.ensures (λ stops. inl stops) (λ last stops. inl stops) c.in-Err.ensures.goes

pub returns-then-not-connected-clause-goes : goal.returns-then-not-connected-clause-goes
returns-then-not-connected-clause-goes g c =
    let is = relieves (run_state_of c.args.self.now) (run_state_of c.take_left.new.self) c.args.conn c.in-Some.at c.in-Some.ensures.place c.take_left.ensures.clients in
    let goes = c.in_default-take_left.ensures.goes in
    piece_done goes stays_itself (stream_off c.args.piece.now is goes.ends.1 (sym c.connected.ensures ∙ c.if-not-connected.true))

pub feed-requires : goal.feed-requires
feed-requires g c =
    let u = run_state_of c.take_left.new.self in
    sym (left_here c.take_left.new.self.trace.ports.items c.args.conn c.in-Some.at c.index_mut.result.now c.take_left.ensures.place c.index_mut.ensures.value)
    ∙ all_taken c.args.conn (run_state_of c.args.self.now) u c.in_default-take_left.ensures.goes.ends.1

pub returns-in-Err-feed : goal.returns-in-Err-feed
returns-in-Err-feed g c =
    let s = run_state_of c.args.self.now in
    let b = desk_of c.take_left.new.self in
    let conn = c.args.conn in
    let piece = c.args.piece.now in
    let ports = c.take_left.new.self.trace.ports.items in
    let p = c.index_mut.result.now in
    let goes = c.in_default-take_left.ensures.goes in
    let is = relieves s b.run_state conn c.in-Some.at c.in-Some.ensures.place c.take_left.ensures.clients in
    let same = sym (port_same ports conn c.in-Some.at p c.feed.new.self c.take_left.ensures.place c.index_mut.ensures.value c.in-Err-feed.ensures.err) in
    let completes : CompletesMessage is.client.decoder piece =
    subst (λ (d : Decoding). CompletesMessage d piece) (port_reads piece is ports c.in-Some.at p refl c.take_left.ensures.place c.index_mut.ensures.value) c.in-Err-feed.ensures.memory in
    record {
      places = c.find.ensures.places;
      goes =
          subst
          (λ (cs : List Client). GoesPiece g.D.Disk (TakesStream s conn piece) (λ fed t. StopsShort fed s conn piece t) (StopsStream s conn piece) (Err (NoMemory out_of_memory false)) (desk_of c.args.self.now)
          (record b { run_state = record b.run_state { clients = cs } })) same
          (piece_short goes (stream_unread piece is goes.ends.1 (sym c.connected.ensures ∙ c.if-not-connected.false) completes));
    }

pub take_left-requires-2-clause-ready : goal.take_left-requires-2-clause-ready
take_left-requires-2-clause-ready g c =
    let ports = c.take_left.new.self.trace.ports.items in
    let q = c.feed.new.self in
    let change = reading q.decoder (client_of q).left in
    let goes = c.in_default-take_left.ensures.goes in
    record {
      desk =
          desk_reads g.D.Disk (desk_of c.take_left.new.self) c.args.conn change (map client_of (slice_set ports c.in-Some.at q)) (λ d. refl)
          (port_changed ports c.args.conn c.in-Some.at c.index_mut.result.now q change c.take_left.ensures.place c.index_mut.ensures.value c.in-Ok.ensures.client) goes.desk;
      works = goes.ends.0.fine.after;
    }

pub take_left-requires-2-clause-place : goal.take_left-requires-2-clause-place
take_left-requires-2-clause-place g c =
    fed_place c.take_left.new.self.trace.ports.items c.args.conn c.in-Some.at c.index_mut.result.now c.feed.new.self c.take_left.ensures.place c.index_mut.ensures.value c.in-Ok.ensures.client

pub returns-in-Err-take_left : goal.returns-in-Err-take_left
returns-in-Err-take_left g c =
    let s = run_state_of c.args.self.now in
    let u = run_state_of c.take_left.new.self in
    let m = record u { clients = map client_of (slice_set c.take_left.new.self.trace.ports.items c.in-Some.at c.feed.new.self) } in
    let n = run_state_of c.take_left-2.new.self in
    let goes = c.in_default-take_left.ensures.goes in
    let is = relieves s u c.args.conn c.in-Some.at c.in-Some.ensures.place c.take_left.ensures.clients in
    let fed =
    has_fed c.args.conn c.in-Some.at c.args.piece.now s u c.take_left.new.self.trace.ports.items c.index_mut.result.now c.feed.new.self is goes.ends.1 (sym c.connected.ensures ∙ c.if-not-connected.false) refl
    c.take_left.ensures.place c.index_mut.ensures.value c.in-Ok.ensures.reads c.in-Ok.ensures.client in
    record {
      places = c.find.ensures.places;
      goes =
          piece_faulty true c.desk_fault-in-Err-take_left.ensures (λ stops. fed_stops fed n stops) (λ last stops. inr (fed_stops fed last stops))
          (then goes (before goes.ends.0.fine.after (record { keeper = refl; groups = refl; synced = refl }) refl c.in-Err-take_left.ensures.goes));
    }

pub returns-then-bad : goal.returns-then-bad
returns-then-bad g c =
    let s = run_state_of c.args.self.now in
    let u = run_state_of c.take_left.new.self in
    let m = record u { clients = map client_of (slice_set c.take_left.new.self.trace.ports.items c.in-Some.at c.feed.new.self) } in
    let n = run_state_of c.take_left-2.new.self in
    let goes = c.in_default-take_left.ensures.goes in
    let is = relieves s u c.args.conn c.in-Some.at c.in-Some.ensures.place c.take_left.ensures.clients in
    let fed =
    has_fed c.args.conn c.in-Some.at c.args.piece.now s u c.take_left.new.self.trace.ports.items c.index_mut.result.now c.feed.new.self is goes.ends.1 (sym c.connected.ensures ∙ c.if-not-connected.false) refl
    c.take_left.ensures.place c.index_mut.ensures.value c.in-Ok.ensures.reads c.in-Ok.ensures.client in
    let rest = c.in_default-take_left-2.ensures.goes in
    let bad : c.feed.new.self.decoder.is_bad ≡ true = sym c.in-Ok.ensures.bad ∙ c.if-bad.true in
    let gone : run_state_of c.leave.new.self ≡ after_frame c.feed.new.self.decoder.is_bad n c.args.conn = c.leave.ensures.gone ∙ ap (λ (x : Bool). after_frame x n c.args.conn) (sym bad) in
    record {
      places = c.find.ensures.places;
      goes =
          piece_done (then goes (before goes.ends.0.fine.after (record { keeper = refl; groups = refl; synced = refl }) refl rest))
          c.leave.ensures.stays (stream_all fed n (run_state_of c.leave.new.self) rest.ends.1 gone);
    }

pub returns-else-bad : goal.returns-else-bad
returns-else-bad g c =
    let s = run_state_of c.args.self.now in
    let u = run_state_of c.take_left.new.self in
    let m = record u { clients = map client_of (slice_set c.take_left.new.self.trace.ports.items c.in-Some.at c.feed.new.self) } in
    let n = run_state_of c.take_left-2.new.self in
    let goes = c.in_default-take_left.ensures.goes in
    let is = relieves s u c.args.conn c.in-Some.at c.in-Some.ensures.place c.take_left.ensures.clients in
    let fed =
    has_fed c.args.conn c.in-Some.at c.args.piece.now s u c.take_left.new.self.trace.ports.items c.index_mut.result.now c.feed.new.self is goes.ends.1 (sym c.connected.ensures ∙ c.if-not-connected.false) refl
    c.take_left.ensures.place c.index_mut.ensures.value c.in-Ok.ensures.reads c.in-Ok.ensures.client in
    let rest = c.in_default-take_left-2.ensures.goes in
    let bad : c.feed.new.self.decoder.is_bad ≡ false = sym c.in-Ok.ensures.bad ∙ c.if-bad.false in
    record {
      places = c.find.ensures.places;
      goes =
          piece_done (then goes (before goes.ends.0.fine.after (record { keeper = refl; groups = refl; synced = refl }) refl rest)) stays_itself
          (stream_all fed n n rest.ends.1 (ap (λ (x : Bool). after_frame x n c.args.conn) (sym bad)));
    }
