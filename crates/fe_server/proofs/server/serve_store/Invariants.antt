use Rattle.fe_server.proofs.server.serve_store.Given as goal

abbrev pub ghosts-serve_as-C-Ledger : goal.ghosts-serve_as-C-Ledger
ghosts-serve_as-C-Ledger g a = record { name = a.calls.name; parts = a.calls.parts }

abbrev pub ghosts-serve_as-C-Tally : goal.ghosts-serve_as-C-Tally
ghosts-serve_as-C-Tally g a = record { all = a.calls.parts; book = a.history.book }

abbrev pub ghosts-serve_as-M-Ledger : goal.ghosts-serve_as-M-Ledger
ghosts-serve_as-M-Ledger g a = record { name = a.mails.name; parts = a.mails.parts }

abbrev pub ghosts-serve_as-M-Tally : goal.ghosts-serve_as-M-Tally
ghosts-serve_as-M-Tally g a = record { all = a.mails.parts; book = a.history.book }
