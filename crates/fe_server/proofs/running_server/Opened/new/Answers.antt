use Rattle.fe_server.proofs.running_server.Opened.new.Goals as goal

pub new-requires-clause-begun : goal.new-requires-clause-begun
new-requires-clause-begun g c = (c.args.state.now, c.in-Ok-front_over.ensures, c.requires.begun)

pub new-requires-clause-calls : goal.new-requires-clause-calls
new-requires-clause-calls g c = c.requires.of_calls

pub new-requires-clause-mails : goal.new-requires-clause-mails
new-requires-clause-mails g c = c.requires.of_mails

pub new-requires-clause-history : goal.new-requires-clause-history
new-requires-clause-history g c = c.requires.same_book
