use Rattle.std.proofs.Common.{◌≡◌, rules}
use Rattle.fe_front.specs.Steps.{connected}
use Rattle.fe_desk.proofs.Connecting.{joins_again}
use Rattle.fe_desk.proofs.connections.join.Goals as goal

pub returns-in_ok-connect-in-Some-clause-joined : goal.returns-in_ok-connect-in-Some-clause-joined
returns-in_ok-connect-in-Some-clause-joined c =
    let front : c.connect.new.self ≡ connected c.args.front.now c.args.conn = search rules in
    joins_again c.args.front.now c.connect.new.self c.args.ports.now.items c.args.conn c.in-Some.at c.index_mut.result.now c.restart.new.self c.in-Some.ensures.place c.index_mut.ensures.value c.restart.ensures.client c.restart.ensures.begins front
