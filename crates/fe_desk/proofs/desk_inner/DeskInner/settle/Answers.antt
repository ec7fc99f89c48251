use Rattle.std.proofs.Common.{inl, refl, sym}
use Rattle.fe_desk.specs.within.Desk.{run_state_of}
use Rattle.fe_desk.specs.Messages.{outputs}
use Rattle.fe_desk.proofs.Outputs.{extends_itself}
use Rattle.fe_desk.proofs.WithMail.{all_mailed}
use Rattle.fe_desk.proofs.StepParts.{settles_all, discharged_at}
use Rattle.fe_desk.proofs.desk_inner.DeskInner.settle.Goals as goal

pub empty-requires-clause-mailed : goal.empty-requires-clause-mailed
empty-requires-clause-mailed g c = λ conn. inl (c.add_all.ensures conn)

pub empty-requires-clause-written : goal.empty-requires-clause-written
empty-requires-clause-written g c = all_mailed 0 c.args.self.now.front (run_state_of c.args.self.now).clients c.add_all-then-self.new.self c.add_all-then-self.ensures

pub returns-then-self-clause-settles : goal.returns-then-self-clause-settles
returns-then-self-clause-settles g c = settles_all c.empty.result (run_state_of c.args.self.now) (run_state_of c.empty.new.self) c.if-self.true c.empty.ensures.empties

pub returns : goal.returns
returns g c =
    let s = run_state_of c.args.self.now in
    record {
      settles = sym (discharged_at s c.if-self.false);
      writes = record { desk = c.requires; store = record { keeper = refl; groups = refl; synced = refl }; extends = extends_itself (outputs s) };
    }
