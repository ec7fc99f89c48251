use Rattle.std.proofs.Common.{refl, sym, ap, subst}
use Rattle.fe_desk.specs.declared.handed.Handed.{Handed}
use Rattle.fe_desk.specs.within.Desk.{IsHanded, desk_of, run_state_of, with_handed}
use Rattle.fe_desk.proofs.Advancing.{desk_as}
use Rattle.fe_front.proofs.Coming.{none-posted}
use Rattle.fe_desk.proofs.Goes.{stays_same}
use Rattle.fe_desk.proofs.Groups.{posts, tied_posted}
use Rattle.fe_desk.proofs.desk_inner.DeskInner.post.Goals as goal

pub returns-in-Stored-clause-stays : goal.returns-in-Stored-clause-stays
returns-in-Stored-clause-stays g c =
    let old = c.args.self.now in
    let batch = c.in-Stored.batch in
    let tied = c.requires.tied in
    let out = subst (λ (h : Handed). IsHanded h old.front.out) (sym c.in-Stored.ensures.value) tied.handed in
    let is = posts c.post.result old.front c.post.new.self batch c.post.ensures.refused c.post.ensures.posted out in
    record {
      desk = λ desk.
          desk_as g.D.Disk (desk_of old) _ desk (record { keeper = refl; groups = refl; synced = refl })
          (tied_posted (run_state_of old) _ old.keeper.state batch (sym c.in-Stored.ensures.value) c.replace.ensures.after is tied)
          (λ conn there. desk.known conn (none-posted old.front c.post.new.self batch is conn there));
      store = record { keeper = refl; groups = refl; synced = refl };
      owes = refl;
    }

pub returns-in_default-clause-stays : goal.returns-in_default-clause-stays
returns-in_default-clause-stays g c = stays_same (ap (λ (h : Handed). with_handed (desk_of c.args.self.now) h) c.replace.ensures.value)
