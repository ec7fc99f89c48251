-- How the fields of the front give what callers see. No public clause cites this module (`docs/model.md`,
-- "The front").
use Rattle.std.specs.Prelude.{◌≡◌, [], Some, None}
use Rattle.fe_front.specs.Front.{FrontState, IsTied}
use Rattle.fe_front.specs.declared.front.Front.TheInside.{Inside}

abbrev pub front_of : Inside → FrontState
front_of f = record {
  service = f.service;
  connections = f.connections;
  durable = f.durable;
  out = f.out;
  books = f.books;
}

-- the parts are tied, and while no batch is out, the memory for the entries after the next cut is there
pub record IsSound (f : Inside) : Type 0 where
  pub tied : IsTied (front_of f)
  pub spare : f.out ≡ None → f.spare ≡ Some []
