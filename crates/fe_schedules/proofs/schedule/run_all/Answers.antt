use Rattle.std.proofs.Common.{◌≡◌, ℕ, ◌<◌, List, [], ◌++◌, Option, Some, None, take, ◌+◌, ◌^◌, inl, inr, string_bytes, arith, refl, sym, subst, append-nil, rules}
use Rattle.std.specs.Io.KnownBytes.{Consumes}
use Rattle.fe_text.specs.Line.{ReadsSome}
use Rattle.fe_schedules.specs.Schedule.{ReaderFails, IsReadMore, of_stream}
use Rattle.fe_schedules.specs.Runs.{SoFar, Whole, Ended, last_disk}
use Rattle.fe_text.specs.declared.fault.StreamFault.TheVariants as stream
use Rattle.fe_schedules.specs.declared.run.Run.{Run}
use Rattle.fe_text.proofs.Results.{ok_of, err_of, err_then, failed}
use Rattle.fe_schedules.proofs.Starting.{broke, halted, ended, finished}
use Rattle.fe_schedules.proofs.Taking.{read_more, read_same}
use Rattle.fe_schedules.proofs.schedule.run_all.Goals.{in-Some+in_ok-take_piece-in-Some, in-None}
use Rattle.fe_schedules.proofs.schedule.run_all.Goals as goal

pub returns-in_err-read_piece-clause-fault : goal.returns-in_err-read_piece-clause-fault
returns-in_err-read_piece-clause-fault g c =
    let so = c.loop-turn.invariant.so in
    let end = c.in_err-read_piece.field-0.0 in
    rw (failed c.from_residual.result (of_stream end) c.from_residual.ensures.1)
    (halted (ReaderFails g.R.Source.has_failed g.R.Source.was_read c.args.reader.now c.read_piece.new.self) (g.W.Sink.has_failed c.loop-turn.writer) (c.read_piece.new.self ≡ c.args.reader.now) end (inl c.in_err-read_piece.ensures.fails) (g.R.Source.remaining c.args.reader.now) (g.R.Source.remaining c.loop-turn.reader) so.0 (g.W.Sink.contents c.args.writer.now) (g.W.Sink.contents c.loop-turn.writer) c.loop-turn.run so.1 so.2 c.loop-turn.invariant.none_kept)

pub returns-in-Some-eq0-clause-ok : goal.returns-in-Some-eq0-clause-ok
returns-in-Some-eq0-clause-ok g c =
    let so = c.loop-turn.invariant.so in
    let o = g.R.Source.remaining c.args.reader.now in
    let mid = g.R.Source.remaining c.loop-turn.reader in
    let new = g.R.Source.remaining c.read_piece.new.self in
    let before = g.W.Sink.contents c.args.writer.now in
    let after = g.W.Sink.contents c.finish.new.writer in
    let is : c.in_ok-read_piece.field-0 ≡ Some 0 = search rules in
    let reads = subst (λ (n : Option ℕ). ReadsSome mid new c.read_piece.new.piece n) is c.in_ok-read_piece.ensures.reads in
    let room = subst (λ (n : ℕ). 0 < n) (sym c.read_piece.ensures.len) c.loop-turn.invariant.room in
    let all = subst (λ (r : List ℕ). Consumes o new r) (append-nil so.0) (read_more o mid new so.0 [] so.1 reads.1) in
    ok_of c.finish.result (λ end. Ended (g.W.Sink.has_failed c.finish.new.writer) end so.0 before after []) (λ whole. finished o new so.0 before after (last_disk c.finish.new.self.machine) all (reads.2 refl room) whole) (c.finish.ensures.ended so.0 before so.2)

pub returns-in-Some-eq0-clause-fault : goal.returns-in-Some-eq0-clause-fault
returns-in-Some-eq0-clause-fault g c =
    let so = c.loop-turn.invariant.so in
    let o = g.R.Source.remaining c.args.reader.now in
    let mid = g.R.Source.remaining c.loop-turn.reader in
    let new = g.R.Source.remaining c.read_piece.new.self in
    let before = g.W.Sink.contents c.args.writer.now in
    let after = g.W.Sink.contents c.finish.new.writer in
    let is : c.in_ok-read_piece.field-0 ≡ Some 0 = search rules in
    let reads = subst (λ (n : Option ℕ). ReadsSome mid new c.read_piece.new.piece n) is c.in_ok-read_piece.ensures.reads in
    let room = subst (λ (n : ℕ). 0 < n) (sym c.read_piece.ensures.len) c.loop-turn.invariant.room in
    let all = subst (λ (r : List ℕ). Consumes o new r) (append-nil so.0) (read_more o mid new so.0 [] so.1 reads.1) in
    err_then c.finish.result (λ end e. ended (ReaderFails g.R.Source.has_failed g.R.Source.was_read c.args.reader.now c.read_piece.new.self) (g.W.Sink.has_failed c.finish.new.writer) (c.read_piece.new.self ≡ c.args.reader.now) end o new so.0 before after all (reads.2 refl room) e)
    (err_of c.finish.result (Whole so.0 before after [] (last_disk c.finish.new.self.machine)) (λ end. Ended (g.W.Sink.has_failed c.finish.new.writer) end so.0 before after []) (c.finish.ensures.ended so.0 before so.2))

pub returns-in_err-take_piece-in-Some-clause-fault : goal.returns-in_err-take_piece-in-Some-clause-fault
returns-in_err-take_piece-in-Some-clause-fault g c =
    let so = c.loop-turn.invariant.so in
    let o = g.R.Source.remaining c.args.reader.now in
    let mid = g.R.Source.remaining c.loop-turn.reader in
    let new = g.R.Source.remaining c.read_piece.new.self in
    let before = g.W.Sink.contents c.args.writer.now in
    let piece : List ℕ = take c.in-Some.count c.read_piece.new.piece in
    let end = c.in_err-take_piece-in-Some.field-0.0 in
    let is : c.in_ok-read_piece.field-0 ≡ Some c.in-Some.count = search rules in
    let reads = subst (λ (n : Option ℕ). ReadsSome mid new c.read_piece.new.piece n) is c.in_ok-read_piece.ensures.reads in
    let all = read_more o mid new so.0 piece so.1 reads.1 in
    rw (failed c.from_residual-in_err-take_piece-in-Some.result end c.from_residual-in_err-take_piece-in-Some.ensures.1)
    (broke (ReaderFails g.R.Source.has_failed g.R.Source.was_read c.args.reader.now c.read_piece.new.self) (g.W.Sink.has_failed c.take_piece.new.writer) (c.read_piece.new.self ≡ c.args.reader.now) end o new (so.0 ++ piece) before (g.W.Sink.contents c.take_piece.new.writer) all (c.in_err-take_piece-in-Some.ensures.taken so.0 before so.2))

pub loop-turn-preserved : goal.loop-turn-preserved
loop-turn-preserved g c =
    let so = c.loop-turn.invariant.so in
    let o = g.R.Source.remaining c.args.reader.now in
    let mid = g.R.Source.remaining c.loop-turn.reader in
    let new = g.R.Source.remaining c.read_piece.new.self in
    let before = g.W.Sink.contents c.args.writer.now in
    let now = g.W.Sink.contents c.match-branch-2.writer in
    let room = subst (λ (n : ℕ). 0 < n) (sym c.read_piece.ensures.len) c.loop-turn.invariant.room in
    let reads_on : IsReadMore g.R.Source.was_read c.args.reader.now c.read_piece.new.self (c.loop-turn.turn + 1) = λ count first. subst (λ (n : ℕ). g.R.Source.was_read c.read_piece.new.self n) (omega arith) (c.read_piece.ensures.counts (count + c.loop-turn.turn) (c.loop-turn.invariant.reads count first)) in
    elim c.match-branch-2.branch [
      | in-Some+in_ok-take_piece-in-Some w ↦
          let piece : List ℕ = take w.in-Some.count c.read_piece.new.piece in
          let is : c.in_ok-read_piece.field-0 ≡ Some w.in-Some.count = search rules in
          let reads = subst (λ (n : Option ℕ). ReadsSome mid new c.read_piece.new.piece n) is c.in_ok-read_piece.ensures.reads in
          record {
            room = room;
            none_kept = subst (λ (r : Run). string_bytes r.text ≡ []) (sym w.run-is) w.take_piece.ensures.none_kept;
            reads = reads_on;
            so = (
              so.0 ++ piece,
              read_more o mid new so.0 piece so.1 reads.1,
              subst (λ (r : Run). SoFar (so.0 ++ piece) before now r) (sym w.run-is)
                  (subst (λ wr. SoFar (so.0 ++ piece) before (g.W.Sink.contents wr) w.take_piece.new.self) (sym w.writer-is) (w.in_ok-take_piece-in-Some.ensures.taken so.0 before so.2)),
            );
          }
      | in-None w ↦
          let is : c.in_ok-read_piece.field-0 ≡ None = search rules in
          let keeps = subst (λ (n : Option ℕ). ReadsSome mid new c.read_piece.new.piece n) is c.in_ok-read_piece.ensures.reads in
          record {
            room = room;
            none_kept = subst (λ (r : Run). string_bytes r.text ≡ []) (sym w.run-is) c.loop-turn.invariant.none_kept;
            reads = reads_on;
            so = (
              so.0,
              read_same o mid new so.0 so.1 keeps,
              subst (λ (r : Run). SoFar so.0 before now r) (sym w.run-is)
                  (subst (λ wr. SoFar so.0 before (g.W.Sink.contents wr) c.loop-turn.run) (sym w.writer-is) so.2),
            );
          }
    ]

pub returns-clause-fault : goal.returns-clause-fault
returns-clause-fault g c =
    let so = c.loop-turn.invariant.so in
    let least = c.loop-turn-test.false in
    let most = c.loop-turn.auto.turn-end in
    let turns : c.loop-turn.turn ≡ 2 ^ 40 = omega (arith, least, most) in
    halted (ReaderFails g.R.Source.has_failed g.R.Source.was_read c.args.reader.now c.loop-turn.reader) (g.W.Sink.has_failed c.loop-turn.writer) (c.loop-turn.reader ≡ c.args.reader.now) stream.Input (inr (refl, subst (λ (n : ℕ). IsReadMore g.R.Source.was_read c.args.reader.now c.loop-turn.reader n) turns c.loop-turn.invariant.reads))
    (g.R.Source.remaining c.args.reader.now) (g.R.Source.remaining c.loop-turn.reader) so.0 (g.W.Sink.contents c.args.writer.now) (g.W.Sink.contents c.loop-turn.writer) c.loop-turn.run so.1 so.2 c.loop-turn.invariant.none_kept
