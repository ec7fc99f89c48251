use Rattle.fe_front.specs.Front.{FrontState}
use Rattle.std.proofs.Common.{◌+◌, length, length-append, sym, ap, subst, ◌∙◌}
use Rattle.std.specs.FinMap.{len}
use Rattle.fe_service.specs.AttachmentsState.{without_session}
use Rattle.fe_mail.specs.Books.{Balances}
use Rattle.fe_mail.specs.Connections.{mails_in}
use Rattle.fe_service.specs.Events.{MayClose}
use Rattle.fe_front.proofs.Attaching.{room_for}
use Rattle.fe_front.proofs.Admitted.{leaves, own_there}
use Rattle.fe_front.proofs.Agreement.{Agree, agree-closing}
use Rattle.fe_front.proofs.Counts.{waiting-split}
use Rattle.fe_front.proofs.Ties.{made_sound}
use Rattle.fe_front.proofs.front.Front.bye.Goals as goal

pub close-count-requires : goal.close-count-requires
close-count-requires c =
    let old = c.args.self.now in
    let (mine, left) = leaves old c.args.conn c.in_ok-session.session (sym c.leaving.ensures ∙ c.in_ok-session.was) in
    subst
    (λ (f : FrontState). MayClose f.service c.in_ok-session.session)
    (sym c.self.view_is)
    (record {
      exists = own_there old c.args.conn c.in_ok-session.session c.state.ensures.front.service c.state.ensures.front.tied.agree mine;
      room = room_for old left c.requires.room;
    })

pub invariant_of-self : goal.invariant_of-self
invariant_of-self c =
    let old = c.self.inside in
    let session = c.in_ok-session.session in
    let is = c.close-count.ensures.closed in
    let all = waiting-split old.service.waiting session ∙ ap (λ n. len (without_session old.service.waiting session) + n) (sym c.close-count.ensures.count) in
    let books = c.waiters_withdrawn.ensures.balance (len (without_session old.service.waiting session)) (mails_in old.connections) (subst (λ n. Balances old.books n (mails_in old.connections)) all c.self.invariant.tied.balance) in
    made_sound old c.close-count.new.self old.connections c.waiters_withdrawn.new.self 1 c.self.invariant
    (ap (λ s. s.state.place) is)
    (ap (λ s. length s.pending) is ∙ length-append old.service.pending _)
    (subst (λ s. Agree s.attachments old.connections) (sym is) (agree-closing old.service.attachments old.connections c.self.invariant.tied.agree session))
    (subst (λ s. Balances c.waiters_withdrawn.new.self (len s.waiting) (mails_in old.connections)) (sym is) books)

pub returns-clause-session : goal.returns-clause-session
returns-clause-session c = (leaves c.args.self.now c.args.conn c.in_ok-session.session (sym c.leaving.ensures ∙ c.in_ok-session.was)).0.has
