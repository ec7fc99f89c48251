use Rattle.std.proofs.Common.{refl, arith, rules}
use Rattle.fe_text.proofs.Written.{written_more, still_flushed}
use Rattle.fe_text.proofs.counted_writer.CountedWriter.write_all.Goals as goal

pub loop-turn-preserved : goal.loop-turn-preserved
loop-turn-preserved g c =
    let before = g.W.Write.contents c.args.self.now.calls.stream in
    let here = g.W.Write.contents c.loop-turn.self.calls.stream in
    let after = g.W.Write.contents c.write.new.self.stream in
    record {
      within = search rules;
      written = written_more before here after c.args.text.now _ c.loop-turn.done c.in_ok-done.field-0 refl (search rules) c.loop-turn.invariant.written c.in_ok-done.ensures.ok;
      counts = omega (arith, c.write.ensures.counts);
      flushed = still_flushed c.loop-turn.done c.in_ok-done.field-0 _ _ _ c.loop-turn.invariant.flushed c.in_ok-done.ensures.idle;
      stays = λ fault broken. c.write.ensures.stays fault (c.loop-turn.invariant.stays fault broken);
    }
