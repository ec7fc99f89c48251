use Rattle.std.proofs.Common.{ℕ, ◌<◌, length, refl, sym, subst}
use Rattle.fe_client.proofs.Separates.{and_names, one_kept, one_more, read_once_flows, none_read}
use Rattle.fe_client.proofs.separate.SeparateStreams.read.Goals as goal

pub returns-clause-happened : goal.returns-clause-happened
returns-clause-happened g c =
    let s = c.args.self.now in
    let room : 0 < length c.read_piece.new.piece = subst (λ (n : ℕ). 0 < n) (sym c.read_piece.ensures.len) c.requires in
    and_names c.read_piece.result _ _ (λ given. none_read (g.W.Sink.is_handed_on s.writer.now) given c.read_piece.new.piece) refl refl refl (one_kept (g.R.Source.was_read s.reader.now) (g.R.Source.was_read c.read_piece.new.self) c.read_piece.ensures.counts)
    (read_once_flows c.read_piece.result (g.R.Source.remaining s.reader.now) (g.R.Source.remaining c.read_piece.new.self) (g.C.Connection.sent s.connection.now) (g.C.Connection.received s.connection.now) (g.W.Sink.contents s.writer.now)
    c.read_piece.new.piece room c.read_piece.ensures.reads)

pub returns-clause-counts : goal.returns-clause-counts
returns-clause-counts g c = λ count.
    one_more (g.R.Source.was_read c.args.self.now.reader.now) (g.R.Source.was_read c.read_piece.new.self) c.read_piece.ensures.counts count
