-- The limits of boxes, reports and books. `docs/model.md`, "Mails, connections and books", has them in words.
use Rattle.std.specs.Prelude.{ℕ}

-- the most mails in a box
abbrev pub most_mails_in_box : ℕ
most_mails_in_box = 128

-- the most bytes of a report
abbrev pub longest_report : ℕ
longest_report = 262144

-- the most calls, and the most mails, that books count: 2^63 - 1
abbrev pub most_booked : ℕ
most_booked = 9223372036854775807
