use Rattle.fe_streams.proofs.Taken.{read_adds}
use Rattle.fe_streams.proofs.incoming.Incoming.read_some.Goals as goal

pub invariant_of-self : goal.invariant_of-self
invariant_of-self g c =
    let s = c.loop.self in
    record { read = (read_adds (g.R.Read.remaining s.began.value) (g.R.Read.remaining s.reader) (g.R.Read.remaining c.read.new.self) c.read.result c.read.new.buf s.read c.read.ensures.bytes).0 }
