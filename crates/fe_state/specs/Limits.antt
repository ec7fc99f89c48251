-- The limits of the server. `docs/model.md` has them in words ("The state of the server", "Waiting requests",
-- "The front"), apart from that of a batch.
use Rattle.std.specs.Prelude.{ℕ}

-- the most sessions
abbrev pub most_sessions : ℕ
most_sessions = 64

-- how many numbers a session's window has, from its floor on
abbrev pub window_length : ℕ
window_length = 32

-- the greatest floor, 2^63 - 32: the numbers of its window are below 2^63
abbrev pub greatest_floor : ℕ
greatest_floor = 9223372036854775776

-- the most arrays
abbrev pub most_arrays : ℕ
most_arrays = 64

-- the most words, in one array and in all together
abbrev pub most_words : ℕ
most_words = 65536

-- the most bytes of a name
abbrev pub longest_name : ℕ
longest_name = 32

-- the greatest place, 2^63 - 1: no entry follows there
abbrev pub greatest_place : ℕ
greatest_place = 9223372036854775807

-- the most requests that wait, 64 * 32: one for each number of each session
abbrev pub most_waiting : ℕ
most_waiting = 2048

-- the most entries that one event adds: its own, and one for each request that waited
abbrev pub most_event_entries : ℕ
most_event_entries = 2049

-- the most entries of a batch: an event makes entries only while at most 2,048 earlier ones are pending
abbrev pub most_batch_entries : ℕ
most_batch_entries = 4097
