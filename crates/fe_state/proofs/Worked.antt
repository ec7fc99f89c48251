-- The worked examples, each computed from what a finite map has after a change.
use Rattle.std.proofs.Common.{◌≡◌, [], ◌∷◌, refl}
use Rattle.std.specs.Ordering.{nat_cmp}
use Rattle.std.specs.Cmp.{nat_cmp_total}
use Rattle.std.specs.FinMap.{entries, get-entries, entries-insert, len-entries, get-empty}
use Rattle.fe_state.proofs.Empty.{no_entries}
use Rattle.fe_state.proofs.Maps.{get_inserted, get_removed, get_retained}
use Rattle.fe_state.specs.Examples.{ExampleAnswers, ExampleEffects, ExampleEntries, cells, one_array}
use Rattle.fe_state.specs.Sessions.{Session}

one_entry : entries one_array.arrays ≡ (1, cells) ∷ []
one_entry = rw (entries-insert nat_cmp_total, no_entries) refl

pub answers : ExampleAnswers
answers = record {
  value = simp (get-entries, one_entry);
  done = simp (get-entries, one_entry);
  waits = simp (get-entries, one_entry);
  not_now = simp (get-entries, one_entry);
  now = simp (get-entries, one_entry);
  made = simp (len-entries, one_entry);
  found = simp one_entry;
  removed = simp (get-entries, one_entry);
  no_array = simp (get-entries, one_entry);
  bad_index = simp (get-entries, one_entry);
  bad_name = refl;
  bad_length = refl;
  name_taken = simp one_entry;
  word_limit = simp (len-entries, one_entry);
  array_limit = λ d full free. rw (free, full) refl;
}

pub effects : ExampleEffects
effects = record {
  made = simp (len-entries, one_entry);
  written = simp (get-entries, one_entry);
  taken = simp (get-entries, one_entry);
  waiting = simp (get-entries, one_entry);
  not_now = simp (get-entries, one_entry);
}

pub steps : ExampleEntries
steps = record {
  first = simp (get-empty {X = Session} nat_cmp);
  again = simp get_inserted;
  finished = simp get_inserted;
  kept = get_inserted _ _ _;
  settled = simp get_inserted;
  dropped = get_retained _ _ _;
  closed = get_removed _ _;
}
