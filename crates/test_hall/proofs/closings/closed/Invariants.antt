use Rattle.test_hall.proofs.closings.closed.Given as goal

abbrev pub ghosts-close_as-C-Ledger : goal.ghosts-close_as-C-Ledger
ghosts-close_as-C-Ledger g a = record { name = a.calls.name; parts = a.calls.parts }

abbrev pub ghosts-close_as-C-Tally : goal.ghosts-close_as-C-Tally
ghosts-close_as-C-Tally g a = record { all = a.calls.parts; book = a.history.book }

abbrev pub ghosts-close_as-M-Ledger : goal.ghosts-close_as-M-Ledger
ghosts-close_as-M-Ledger g a = record { name = a.mails.name; parts = a.mails.parts }

abbrev pub ghosts-close_as-M-Tally : goal.ghosts-close_as-M-Tally
ghosts-close_as-M-Tally g a = record { all = a.mails.parts; book = a.history.book }
