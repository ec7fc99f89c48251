use Rattle.std.proofs.Common.{◌≡◌, sym, ap, subst, ◌∙◌}
use Rattle.fe_mail.specs.Connections.{mails_on}
use Rattle.fe_desk.specs.within.Desk.{IsSilentFrom, run_state_of, desk_of}
use Rattle.fe_desk.specs.Messages.{outputs}
use Rattle.fe_desk.specs.Steps.{AreWritten, HasNoMail}
use Rattle.fe_desk.proofs.Outputs.{extends_itself, extends_both, extends_as, acts_extends}
use Rattle.fe_desk.proofs.Advancing.{store_itself, advances_as, advances_itself, advances_after, advances_then}
use Rattle.fe_desk.proofs.Quiets.{quiet_emptied, quiet_after, acts_written}
use Rattle.fe_desk.proofs.Placing.{places_extend}
use Rattle.fe_desk.proofs.Silence.{acts_silent, stepped_silent}
use Rattle.fe_desk.specs.DeskRunState.{DeskRunState}
use Rattle.fe_desk.proofs.WithMail.{changed_since}
use Rattle.fe_desk.proofs.StepParts.{discharged_at}
use Rattle.fe_desk.proofs.Stepping.{refused, settled, step_settling, step_fault, step_owing, step_whole, act_silent, of_fault}
use Rattle.fe_desk.proofs.desk_inner.DeskInner.step.Goals as goal

pub returns-then-has_failed : goal.returns-then-has_failed
returns-then-has_failed g c = record {
  desk = c.requires.desk;
  is_step = refused g.D.Disk c.args.step.now (desk_of c.args.self.now) (sym c.has_failed.ensures ∙ c.if-has_failed.true);
  quiet = tt;
  written = tt;
  places = c.requires.places;
  extends = extends_itself (outputs (run_state_of c.args.self.now));
  advances = advances_itself g.D.Disk g.met.D.Disk.only_now (desk_of c.args.self.now) c.requires.desk;
}

pub returns-in-Err : goal.returns-in-Err
returns-in-Err g c = record {
  desk = c.settle.ensures.writes.desk;
  is_step =
      step_settling g.D.Disk c.args.step.now (desk_of c.args.self.now) (sym c.has_failed.ensures ∙ c.if-has_failed.false) c.settle.ensures.writes.desk c.settle.ensures.writes.store
      c.in-Err.ensures.settles;
  quiet = tt;
  written = tt;
  places = places_extend c.args.places.now (run_state_of c.args.self.now).clients (run_state_of c.settle.new.self).clients c.settle.ensures.writes.extends c.requires.places;
  extends = c.settle.ensures.writes.extends;
  advances =
      advances_as g.D.Disk g.met.D.Disk.only_now (desk_of c.args.self.now) (desk_of c.settle.new.self) c.requires.desk c.settle.ensures.writes.store;
}

pub act-requires : goal.act-requires
act-requires g c =
    let settled = c.settle.ensures.writes in
    record {
      ready = record { desk = settled.desk; works = ap (λ (k : _). k.store.has_failed) settled.store.keeper ∙ sym c.has_failed.ensures ∙ c.if-has_failed.false };
      places = places_extend c.args.places.now (run_state_of c.args.self.now).clients (run_state_of c.settle.new.self).clients settled.extends c.requires.places;
    }

pub returns-in_err-act : goal.returns-in_err-act
returns-in_err-act g c =
    let old = c.args.self.now in
    let mid = c.settle.new.self in
    let new = c.act.new.self in
    let settles = c.in_default.ensures.settles in
    record {
      desk = c.in_err-act.ensures.goes.desk;
      is_step =
          step_fault g.D.Disk c.args.step.now (desk_of old) c.from_residual.result c.from_residual.ensures.1 (sym c.has_failed.ensures ∙ c.if-has_failed.false) (settled (desk_of old) (desk_of mid) settles c.settle.ensures.writes.store) c.in_err-act.ensures.goes;
      quiet = of_fault (HasNoMail (run_state_of new)) c.from_residual.result _ c.from_residual.ensures.1;
      written = of_fault (IsSilentFrom 0 (outputs (run_state_of new)) c.args.written.now) c.from_residual.result _ c.from_residual.ensures.1;
      places = places_extend c.act.new.places (run_state_of mid).clients (run_state_of new).clients (extends_as (outputs (run_state_of mid)) (outputs (run_state_of new)) (act_silent g.D.Disk c.args.step.now (desk_of mid) c.in_err-act.ensures.goes)) c.act.ensures.places;
      extends = extends_both (outputs (run_state_of old)) (outputs (run_state_of mid)) (outputs (run_state_of new)) c.settle.ensures.writes.extends (extends_as (outputs (run_state_of mid)) (outputs (run_state_of new)) (act_silent g.D.Disk c.args.step.now (desk_of mid) c.in_err-act.ensures.goes));
      advances = advances_after g.D.Disk (desk_of old) (desk_of mid) (desk_of new) c.settle.ensures.writes.store c.in_err-act.ensures.goes.advances;
    }

-- where no box had a mail, the settling changed nothing
pub add_mailed-requires : goal.add_mailed-requires
add_mailed-requires g c = λ posts.
    let e = c.posts.ensures posts in
    let quiet = c.requires.quiet e.0 in
    let settles = c.in_default.ensures.settles in
    let same : run_state_of c.settle.new.self ≡ run_state_of c.args.self.now = settles ∙ discharged_at (run_state_of c.args.self.now) quiet.owes in
    changed_since c.settle.new.self.front c.act.new.self.front c.act.new.changed (λ conn. ap (λ (s : DeskRunState). mails_on s.front.connections conn) same ∙ quiet.boxes conn) (c.act.ensures.changed e.1)

pub returns-then-has_no_mail : goal.returns-then-has_no_mail
returns-then-has_no_mail g c =
    let old = c.args.self.now in
    let mid = c.settle.new.self in
    let last = c.act.new.self in
    let goes = c.in_ok-act.ensures.goes in
    let settles = c.in_default.ensures.settles in
    let before = c.requires.quiet c.if-quiet.true in
    let quiet = quiet_after (run_state_of old) (run_state_of mid) (run_state_of last) c.args.step.now settles before goes.ends.acts goes.owes (c.has_no_mail.ensures c.if-has_no_mail.true) in
    let same : run_state_of mid ≡ run_state_of old = settles ∙ discharged_at (run_state_of old) before.owes in
    let extends = acts_extends (run_state_of mid) c.args.step.now (run_state_of last) goes.ends.acts in
    record {
      desk = goes.desk;
      is_step =
          step_whole g.D.Disk c.args.step.now (desk_of old) (sym c.has_failed.ensures ∙ c.if-has_failed.false) settles c.settle.ensures.writes.store goes (store_itself (desk_of last))
          (record { after = quiet_emptied (run_state_of last) quiet; quiet = quiet }) goes.desk;
      quiet = quiet;
      written = acts_silent c.args.written.now (run_state_of mid) c.args.step.now (run_state_of last) goes.ends.acts (subst (λ (s : DeskRunState). IsSilentFrom 0 (outputs s) c.args.written.now) (sym same) c.requires.written);
      places = places_extend c.act.new.places (run_state_of mid).clients (run_state_of last).clients extends c.act.ensures.places;
      extends = extends_both (outputs (run_state_of old)) (outputs (run_state_of mid)) (outputs (run_state_of last)) c.settle.ensures.writes.extends extends;
      advances = advances_after g.D.Disk (desk_of old) (desk_of mid) (desk_of last) c.settle.ensures.writes.store goes.advances;
    }

pub add_mailed_ports-requires-clause-places : goal.add_mailed_ports-requires-clause-places
add_mailed_ports-requires-clause-places g c =
    let mid = run_state_of c.settle.new.self in
    let last = run_state_of c.act.new.self in
    places_extend c.act.new.places mid.clients last.clients (acts_extends mid c.args.step.now last c.in_ok-act.ensures.goes.ends.acts) c.act.ensures.places

pub add_mailed_ports-requires-clause-replies : goal.add_mailed_ports-requires-clause-replies
add_mailed_ports-requires-clause-replies g c = λ quiet.
    let old = run_state_of c.args.self.now in
    let mid = run_state_of c.settle.new.self in
    let before = c.requires.quiet quiet in
    let settles = c.in_default.ensures.settles in
    let same : mid ≡ old = settles ∙ discharged_at old before.owes in
    acts_written mid c.args.step.now (run_state_of c.act.new.self) c.in_ok-act.ensures.goes.ends.acts (subst (λ (s : DeskRunState). AreWritten s.clients) (sym same) before.replies)

pub empty-requires-clause-desk : goal.empty-requires-clause-desk
empty-requires-clause-desk g c = c.in_ok-act.ensures.goes.desk

pub returns-in-Err-empty : goal.returns-in-Err-empty
returns-in-Err-empty g c =
    let old = c.args.self.now in
    let mid = c.settle.new.self in
    let last = c.act.new.self in
    let new = c.empty.new.self in
    let goes = c.in_ok-act.ensures.goes in
    let settles = c.in_default.ensures.settles in
    record {
      desk = c.empty.ensures.writes.desk;
      is_step =
          step_owing g.D.Disk c.args.step.now (desk_of old) (sym c.has_failed.ensures ∙ c.if-has_failed.false) settles c.settle.ensures.writes.store goes c.empty.ensures.writes.store
          c.in-Err-empty.ensures.empties c.empty.ensures.writes.desk;
      quiet = tt;
      written = tt;
      places = places_extend c.add_mailed_ports.new.places (run_state_of last).clients (run_state_of new).clients c.empty.ensures.writes.extends c.add_mailed_ports.ensures.places;
      extends =
          extends_both (outputs (run_state_of old)) (outputs (run_state_of last)) (outputs (run_state_of new))
          (extends_both (outputs (run_state_of old)) (outputs (run_state_of mid)) (outputs (run_state_of last)) c.settle.ensures.writes.extends (acts_extends (run_state_of mid) c.args.step.now (run_state_of last) goes.ends.acts))
          c.empty.ensures.writes.extends;
      advances =
          advances_then g.D.Disk (desk_of old) (desk_of last) (desk_of new)
          (advances_after g.D.Disk (desk_of old) (desk_of mid) (desk_of last) c.settle.ensures.writes.store goes.advances) c.empty.ensures.writes.store;
    }

pub returns-in-Ok : goal.returns-in-Ok
returns-in-Ok g c =
    let old = c.args.self.now in
    let mid = c.settle.new.self in
    let last = c.act.new.self in
    let new = c.empty.new.self in
    let goes = c.in_ok-act.ensures.goes in
    let settles = c.in_default.ensures.settles in
    let empty = c.in-Ok.ensures.empties in
    record {
      desk = c.empty.ensures.writes.desk;
      is_step = step_whole g.D.Disk c.args.step.now (desk_of old) (sym c.has_failed.ensures ∙ c.if-has_failed.false) settles c.settle.ensures.writes.store goes c.empty.ensures.writes.store empty c.empty.ensures.writes.desk;
      quiet = empty.quiet;
      written = stepped_silent c.args.quiet (run_state_of last).front last.trace.ports.items new.trace.ports.items c.args.written.now c.add_mailed_ports.new.written
          (λ is.
          let before = c.requires.quiet is in
          let same : run_state_of mid ≡ run_state_of old = settles ∙ discharged_at (run_state_of old) before.owes in
          acts_silent c.args.written.now (run_state_of mid) c.args.step.now (run_state_of last) goes.ends.acts (subst (λ (s : DeskRunState). IsSilentFrom 0 (outputs s) c.args.written.now) (sym same) c.requires.written))
          c.add_mailed_ports.ensures.all c.add_mailed_ports.ensures.still c.add_mailed_ports.ensures.mailed (ap (λ (s : DeskRunState). s.clients) empty.after);
      places = places_extend c.add_mailed_ports.new.places (run_state_of last).clients (run_state_of new).clients c.empty.ensures.writes.extends c.add_mailed_ports.ensures.places;
      extends =
          extends_both (outputs (run_state_of old)) (outputs (run_state_of last)) (outputs (run_state_of new))
          (extends_both (outputs (run_state_of old)) (outputs (run_state_of mid)) (outputs (run_state_of last)) c.settle.ensures.writes.extends (acts_extends (run_state_of mid) c.args.step.now (run_state_of last) goes.ends.acts))
          c.empty.ensures.writes.extends;
      advances =
          advances_then g.D.Disk (desk_of old) (desk_of last) (desk_of new)
          (advances_after g.D.Disk (desk_of old) (desk_of mid) (desk_of last) c.settle.ensures.writes.store goes.advances) c.empty.ensures.writes.store;
    }
