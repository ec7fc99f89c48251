use Rattle.test_hall.proofs.stage.perform.Given as goal

abbrev pub ghosts-perform_as-C-Ledger : goal.ghosts-perform_as-C-Ledger
ghosts-perform_as-C-Ledger g a = record { name = a.calls.name; parts = a.calls.parts }

abbrev pub ghosts-perform_as-C-Tally : goal.ghosts-perform_as-C-Tally
ghosts-perform_as-C-Tally g a = record { all = a.calls.parts; book = a.history.book }

abbrev pub ghosts-perform_as-M-Ledger : goal.ghosts-perform_as-M-Ledger
ghosts-perform_as-M-Ledger g a = record { name = a.mails.name; parts = a.mails.parts }

abbrev pub ghosts-perform_as-M-Tally : goal.ghosts-perform_as-M-Tally
ghosts-perform_as-M-Tally g a = record { all = a.mails.parts; book = a.history.book }
