use Rattle.test_hall.proofs.memory.store_group.Given as goal

abbrev pub ghosts-store_as-C-Ledger : goal.ghosts-store_as-C-Ledger
ghosts-store_as-C-Ledger g a = record { name = a.calls.name; parts = a.calls.parts }

abbrev pub ghosts-store_as-C-Tally : goal.ghosts-store_as-C-Tally
ghosts-store_as-C-Tally g a = record { all = a.calls.parts; book = a.history.book }

abbrev pub ghosts-store_as-M-Ledger : goal.ghosts-store_as-M-Ledger
ghosts-store_as-M-Ledger g a = record { name = a.mails.name; parts = a.mails.parts }

abbrev pub ghosts-store_as-M-Tally : goal.ghosts-store_as-M-Tally
ghosts-store_as-M-Tally g a = record { all = a.mails.parts; book = a.history.book }
