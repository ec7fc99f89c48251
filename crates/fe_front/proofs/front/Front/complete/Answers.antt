use Rattle.std.proofs.Common.{◌≡◌, ◌+◌, ◌-◌, ◌∷◌, length, length-append, refl, sym, ap, subst, ◌∙◌, arith}
use Rattle.std.specs.FinMap.{len}
use Rattle.fe_state.specs.State.{after, reply}
use Rattle.fe_state.specs.declared.entry.Entry.TheVariants.{Finished}
use Rattle.fe_service.specs.Events.{MayComplete}
use Rattle.fe_service.proofs.Turns.{turns_place}
use Rattle.fe_mail.specs.Books.{Balances}
use Rattle.fe_mail.specs.Connections.{mails_in}
use Rattle.fe_front.specs.Call.{Completed, request_at, waiters_completed}
use Rattle.fe_front.specs.Front.{FrontState, is_spent}
use Rattle.fe_front.specs.within.Inside.{front_of}
use Rattle.fe_front.proofs.Agreement.{Agree}
use Rattle.fe_front.proofs.Counts.{waiting-served}
use Rattle.fe_front.proofs.Ties.{made_sound}
use Rattle.fe_front.proofs.front.Front.complete.Goals as goal

pub complete-requires : goal.complete-requires
complete-requires c =
    subst
    (λ (f : FrontState). MayComplete f.service c.args.session c.args.number c.args.request c.args.answer c.args.effect)
    (sym c.self.view_is)
    (record { free = c.requires.new.free; answered = c.requires.answered; changes = sym c.requires.effect; room = c.requires.room })

pub invariant_of-self : goal.invariant_of-self
invariant_of-self c =
    let old = c.self.inside in
    let new = c.complete.new.self in
    let own = Finished c.args.session c.args.number c.args.request c.args.answer in
    let (served, completes, counted) = c.in-Ok.ensures.completes in
    let place = ap (λ s. s.place) completes.serves.state ∙ turns_place (after old.service.state own) served in
    let pending = ap length completes.pending ∙ length-append old.service.pending (own ∷ served) in
    let turns = waiting-served (after old.service.state own) old.service.waiting served completes.serves.turns in
    let left = ap len completes.serves.rest in
    let before = c.call_completed.ensures.balance (len old.service.waiting) (mails_in old.connections) c.self.invariant.tied.balance in
    let books = c.count_served.ensures.balance (len new.waiting) (mails_in old.connections) (subst (λ n. Balances c.call_completed.new.self n (mails_in old.connections)) (omega (arith, turns, left, counted)) before) in
    made_sound old new old.connections c.count_served.new.books (1 + length served) c.self.invariant
    (omega (arith, place))
    (omega (arith, pending))
    (subst (λ s. Agree s old.connections) (sym completes.attachments) c.self.invariant.tied.agree)
    books

pub returns-in-Ok-clause-completed : goal.returns-in-Ok-clause-completed
returns-in-Ok-clause-completed c =
    let old = c.self.inside in
    let is = c.self.view_is in
    let (served, completes, counted) = c.in-Ok.ensures.completes in
    let entries = Finished c.args.session c.args.number c.args.request c.args.answer ∷ served in
    let one : c.in-Ok.entries - 1 ≡ length served = omega (arith, counted) in
    let books = c.count_served.ensures.books ∙ ap (λ n. waiters_completed n c.call_completed.new.self) one ∙ ap (waiters_completed (length served)) c.call_completed.ensures.books in
    let new : FrontState = record { service = c.complete.new.self; connections = old.connections; durable = old.durable; out = old.out; books = c.count_served.new.books } in
    let completed : Completed (front_of old) c.args.session c.args.number c.args.request c.in-Ok.entries entries new = record {
      answer = c.args.answer;
      served = served;
      new = ap (λ f. request_at f c.args.session c.args.number) is ∙ c.requires.new.new;
      unspent = ap is_spent is ∙ c.requires.new.unspent;
      answered = ap (λ f. reply f.service.state c.args.request) is ∙ c.requires.answered;
      completes = completes;
      entries = refl;
      count = counted;
      rest = λ i. record { service = c.complete.new.self; connections = old.connections; durable = old.durable; out = old.out; books = books i };
    } in
    (c.in-Ok.entries, entries, refl, subst (λ (f : FrontState). Completed f c.args.session c.args.number c.args.request c.in-Ok.entries entries new) is completed)
