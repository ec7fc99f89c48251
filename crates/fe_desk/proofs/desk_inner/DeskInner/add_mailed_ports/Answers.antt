use Rattle.std.proofs.Common.{◌≡◌, ◌∙◌, ℕ, List, Some, map, sym, subst, arith}
use Rattle.fe_desk.specs.declared.port.Port.{Port}
use Rattle.fe_desk.specs.within.Desk.{client_number_at, client_of, port_bit, run_state_of}
use Rattle.fe_desk.proofs.WithMail.{all_mailed, lone_mailed, some_mailed}
use Rattle.fe_desk.proofs.desk_inner.DeskInner.add_mailed_ports.Goals as goal

pub returns-then-not-quiet-clause-mailed : goal.returns-then-not-quiet-clause-mailed
returns-then-not-quiet-clause-mailed g c = all_mailed 0 c.args.self.now.front (run_state_of c.args.self.now).clients c.add_all.new.self c.add_all.ensures

pub returns-in-Some-clause-mailed : goal.returns-in-Some-clause-mailed
returns-in-Some-clause-mailed g c =
    let s = run_state_of c.args.self.now in
    let at = c.in-Some.at in
    lone_mailed 0 s.front s.clients c.add.new.self c.args.places.now.last at (c.requires.replies c.if-not-quiet.false) (c.has_lone_mail.ensures c.if-has_lone_mail.true)
    (c.requires.places.known c.args.places.now.last at (sym c.known.ensures ∙ c.in-Some.is))
    (subst (λ (n : ℕ). port_bit c.add.new.self n ≡ 1) (omega arith) c.add.ensures.added)

pub returns-then-ports-le-FEW-clause-mailed : goal.returns-then-ports-le-FEW-clause-mailed
returns-then-ports-le-FEW-clause-mailed g c = all_mailed 0 c.args.self.now.front (run_state_of c.args.self.now).clients c.add_all-then-ports-le-FEW.new.self c.add_all-then-ports-le-FEW.ensures

pub returns-clause-mailed : goal.returns-clause-mailed
returns-clause-mailed g c =
    let s = run_state_of c.args.self.now in
    some_mailed 0 s.front s.clients c.add_ports.new.written c.args.mailed.now (c.requires.replies c.if-not-quiet.false) c.requires.mailed (λ at conn is has.
    subst (λ (n : ℕ). port_bit c.add_ports.new.written n ≡ 1) (omega arith)
    (c.add_ports.ensures.added at conn (subst (λ (ps : List Port). client_number_at (map client_of ps) at ≡ Some conn) (sym c.as_slice-ports.ensures.value) is) has))
