use Rattle.std.proofs.Common.{refl}
use Rattle.fe_server.proofs.opening.serve.Goals as goal

pub returns-in-Some-clause-served : goal.returns-in-Some-clause-served
returns-in-Some-clause-served g c = record {
  opened = c.in-Ok.keeper;
  opens = rw c.as_str.ensures.value at c.in-Ok.ensures.opened;
  served = record {
    works = c.in-Ok.ensures.works;
    none_under_way = c.in-Ok.ensures.none_under_way;
    committed = c.serve_store.ensures.committed;
    acknowledged = c.serve_store.ensures.acknowledged;
    transcripts = c.serve_store.ensures.transcripts;
  };
}

pub returns-in-None-clause-unserved : goal.returns-in-None-clause-unserved
returns-in-None-clause-unserved g c = rw c.as_str.ensures.value at c.in-Ok.ensures.opened

pub returns-in-Err-clause-unserved : goal.returns-in-Err-clause-unserved
returns-in-Err-clause-unserved g c = record {
  tells = rw c.as_str.ensures.value at c.in-Err.ensures.tells;
  wrong_size = λ found is_size. c.in-Err.ensures.wrong_size found (rw is_size refl);
  unformatted = λ is_unformatted. c.in-Err.ensures.unformatted (rw is_unformatted refl);
}
