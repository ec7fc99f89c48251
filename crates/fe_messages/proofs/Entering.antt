-- Messages of connections enter the front: the entries that they make lead to the state now and are pending after the others, and
-- those of a front are legal.
use Rattle.std.proofs.Common.{◌≡◌, ◌⊎◌, ℕ, inl, inr, List, [], ◌∷◌, ◌++◌, append-nil, Result, Ok, Err, refl, sym, ap, subst, ◌∙◌}
use Rattle.std.specs.Option.{option_map_or}
use Rattle.std.specs.FinMap.{get}
use Rattle.fe_memory.specs.Memory.{out_of_memory}
use Rattle.fe_state.specs.State.{ServerState, IsWithinLimits, after, after_all}
use Rattle.fe_state.specs.History.{AreLegal}
use Rattle.fe_state.specs.declared.entry.Entry.{Entry}
use Rattle.fe_state.specs.declared.entry.Entry.TheVariants.{Attached, Closed, Settled}
use Rattle.fe_state.specs.declared.request.Request.{Request}
use Rattle.fe_mail.specs.declared.mail.Mail.{Mail}
use Rattle.fe_mail.specs.declared.mail.Mail.TheVariants as mail
use Rattle.fe_mail.specs.declared.refusal.Refusal.{Refusal}
use Rattle.fe_mail.specs.declared.refusal.Refusal.TheVariants.{NoMemory}
use Rattle.fe_wire.specs.declared.client_message.ClientMessage.{ClientMessage}
use Rattle.fe_wire.specs.declared.client_message.ClientMessage.TheVariants as message
use Rattle.fe_report.specs.Report.{report_text, held_attachments}
use Rattle.fe_front.specs.Front.{FrontState, IsFront}
use Rattle.fe_front.specs.Event as event
use Rattle.fe_front.specs.Step.{FrontStep}
use Rattle.fe_front.specs.Steps.{released, freed, mailed, attached_to, settled_to, closed_by, cancelled_by}
use Rattle.fe_front.specs.Call.{attaching, settling, leaving, cancelling, Called, IsCallRefused, WantsMemory, call_refused_by, repeated}
use Rattle.fe_front.specs.declared.outcome.Outcome.{Outcome}
use Rattle.fe_front.specs.declared.outcome.Outcome.TheVariants as outcome
use Rattle.fe_front.proofs.Keeping.{Keeps, NoneComes, both, released-keeps, freed-keeps, mailed-keeps, cancelled-keeps, repeated-keeps}
use Rattle.fe_front.proofs.Events.{Answers, attach_step, settle_step, bye_step, cancel_step, refusal_told, call_refusal_told}
use Rattle.fe_front.proofs.Leading.{steps_lead}
use Rattle.fe_messages.specs.Taking.{Takes, Enters}
use Rattle.fe_front.proofs.Coming.{same_connections, attached-comes}

-- What a message leaves of a front, whether its entries are legal or not: they lead to the state now, and are pending after the others.
pub record Leaves (f : FrontState) (es : List Entry) (g : FrontState) : Type 0 where
  pub state : g.service.state ≡ after_all f.service.state es
  pub pending : g.service.pending ≡ f.service.pending ++ es
  pub out : g.out ≡ f.out
  pub durable : g.durable ≡ f.durable
  pub none_comes : NoneComes f g

-- ---- no entry

none_leaves : (f h g : FrontState) (es : List Entry) → es ≡ [] → g ≡ h → Keeps f h → Leaves f es g
none_leaves f h g es none is keeps =
    let leaves : Leaves f [] h =
    record { state = keeps.state; pending = keeps.pending ∙ sym (append-nil f.service.pending); out = keeps.out; durable = keeps.durable; none_comes = keeps.none_comes } in
    subst (λ (x : FrontState). Leaves f es x) (sym is) (subst (λ (xs : List Entry). Leaves f xs h) (sym none) leaves)

mailed_leaves : (f g : FrontState) (es : List Entry) (conn : ℕ) (m : Mail) → es ≡ [] → g ≡ mailed f conn m → Leaves f es g
mailed_leaves f g es conn m none is = none_leaves f (mailed f conn m) g es none is (mailed-keeps f conn m)

-- a refused call is booked, and its refusal mailed
call_refused_leaves : (f g : FrontState) (es : List Entry) (conn : ℕ) (m : Mail) → es ≡ [] → g ≡ mailed (call_refused_by f) conn m → Leaves f es g
call_refused_leaves f g es conn m none is =
    let l = mailed_leaves (call_refused_by f) g es conn m none is in
    record { state = l.state; pending = l.pending; out = l.out; durable = l.durable; none_comes = l.none_comes }

-- ---- one entry

-- only the service has changed, by an entry
one_leaves : (f h g : FrontState) (es : List Entry) (e : Entry) → g ≡ h → es ≡ e ∷ [] → h.service.state ≡ after f.service.state e → h.service.pending ≡ f.service.pending ++ e ∷ [] → h.out ≡ f.out → h.durable ≡ f.durable
    → NoneComes f h → Leaves f es g
one_leaves f h g es e is one state pending out durable none_comes =
    subst (λ (x : FrontState). Leaves f es x) (sym is) (subst (λ (xs : List Entry). Leaves f xs h) (sym one) (record { state = state; pending = pending; out = out; durable = durable; none_comes = none_comes }))

attach_leaves : (f g : FrontState) (conn session : ℕ) (es : List Entry) → FrontStep f (event.Attach conn session) es g → Leaves f es g
attach_leaves f g conn session es step =
    let left = released f conn in
    let keeps = both f left (freed left session) (released-keeps f conn) (freed-keeps left session) in
    let entry : ServerState → Entry = λ s. Attached session (option_map_or (λ x. x.floor) (get s.sessions session) 1) in
    one_leaves f (attached_to f conn session) g es (entry f.service.state) step.1.front step.1.entries
    (ap (λ (s : ServerState). after s (entry s)) keeps.state)
    (ap (λ (xs : List Entry). xs ++ entry (freed left session).service.state ∷ []) keeps.pending ∙ ap (λ (s : ServerState). f.service.pending ++ entry s ∷ []) keeps.state)
    keeps.out keeps.durable (attached-comes f conn session)

settle_leaves : (f g : FrontState) (conn floor : ℕ) (es : List Entry) → FrontStep f (event.Settle conn floor) es g → Leaves f es g
settle_leaves f g conn floor es step = one_leaves f (settled_to f step.0 floor) g es (Settled step.0 floor) step.2.front step.2.entries refl refl refl refl (λ q is. is)

bye_leaves : (f g : FrontState) (conn : ℕ) (es : List Entry) → FrontStep f (event.Bye conn) es g → Leaves f es g
bye_leaves f g conn es step = one_leaves f (closed_by f step.0) g es (Closed step.0) step.2.front step.2.entries refl refl refl refl (λ q is. is)

-- ---- calls

repeat_leaves : (f g : FrontState) (conn session number : ℕ) (es : List Entry) → es ≡ [] → g ≡ repeated f conn session number → Leaves f es g
repeat_leaves f g conn session number es none is = none_leaves f (repeated f conn session number) g es none is (repeated-keeps f conn session number)

call_leaves : (f g : FrontState) (conn session number : ℕ) (request : Request) (o : Outcome) (es : List Entry) → Called f conn session number request o es g → Leaves f es g
call_leaves f g conn session number request (outcome.Completed n) es r = record {
  state = r.completes.serves.state ∙ sym (ap (λ (xs : List Entry). after_all f.service.state xs) r.entries);
  pending = r.completes.pending ∙ ap (λ (xs : List Entry). f.service.pending ++ xs) (sym r.entries);
  out = ap (λ (h : FrontState). h.out) r.rest;
  durable = ap (λ (h : FrontState). h.durable) r.rest;
  none_comes = same_connections f g (ap (λ (h : FrontState). h.connections) r.rest);
}
call_leaves f g conn session number request outcome.Waits es r = none_leaves f _ g es r.entries r.rest (record { state = refl; durable = refl; out = refl; pending = refl; none_comes = λ q is. is })
call_leaves f g conn session number request outcome.AlreadyWaiting es r = repeat_leaves f g conn session number es r.entries r.rest
call_leaves f g conn session number request outcome.SentAgain es r = repeat_leaves f g conn session number es r.entries r.rest
call_leaves f g conn session number request outcome.NotYetSynced es r = repeat_leaves f g conn session number es r.entries r.rest

-- ---- messages

pub message_leaves : (f g : FrontState) (conn : ℕ) (m : ClientMessage) (es : List Entry) → Takes f conn m es g → Leaves f es g
message_leaves f g conn (message.Attach session) es (inl step) = attach_leaves f g conn session es step
message_leaves f g conn (message.Attach session) es (inr (r, why, refused)) = mailed_leaves f g es conn (mail.Refused session r) refused.entries refused.front
message_leaves f g conn (message.Call number request) es (inl (o, step)) = call_leaves f g conn step.0 number request o es step.2
message_leaves f g conn (message.Call number request) es (inr (r, why, refused)) = call_refused_leaves f g es conn (mail.Refused number r) refused.entries refused.front
message_leaves f g conn (message.Cancel number) es (inl step) =
    none_leaves f (cancelled_by f conn step.0 number) g es step.2.entries step.2.front (cancelled-keeps f conn step.0 number)
message_leaves f g conn (message.Cancel number) es (inr (r, why, refused)) = mailed_leaves f g es conn (mail.Refused number r) refused.entries refused.front
message_leaves f g conn (message.Settle floor) es (inl step) = settle_leaves f g conn floor es step
message_leaves f g conn (message.Settle floor) es (inr (r, why, refused)) = mailed_leaves f g es conn (mail.Refused floor r) refused.entries refused.front
message_leaves f g conn message.Bye es (inl step) = bye_leaves f g conn es step
message_leaves f g conn message.Bye es (inr (r, why, refused)) = mailed_leaves f g es conn (mail.Refused 0 r) refused.entries refused.front
message_leaves f g conn message.Report es (inl step) = mailed_leaves f g es conn _ step.1.entries step.1.front
message_leaves f g conn message.Report es (inr refused) = mailed_leaves f g es conn _ refused.entries refused.front

-- a message is taken with some entries
abbrev pub Taken : FrontState → ℕ → ClientMessage → FrontState → Type 0
Taken f conn m g = (es : List Entry) × Takes f conn m es g × Enters f es g

taken : (f g : FrontState) (conn : ℕ) (m : ClientMessage) (es : List Entry) → Takes f conn m es g → AreLegal f.service.state es → Taken f conn m g
taken f g conn m es takes legal =
    let l = message_leaves f g conn m es takes in
    (es, takes, record { legal = legal; state = l.state; pending = l.pending; out = l.out; durable = l.durable; none_comes = l.none_comes })

-- ---- and what they are taken with

module _ (f g k : FrontState) (conn : ℕ) where
  module _ (front : IsFront f) (limits : IsWithinLimits f.service.state) where
    pub attach_taken : {A : Type 0} (session : ℕ) (result : Result A Refusal) → Answers (attaching f conn session) result (λ _. attached_to f conn session) f g → (u : A) → result ≡ Ok u
        → Taken f conn (message.Attach session) g
    attach_taken session result p u ok =
        let (es, step) = attach_step f g conn session result p u ok in
        taken f g conn (message.Attach session) es (inl step) (steps_lead f g (event.Attach conn session) es front limits step).legal

    pub settle_taken : {A : Type 0} (floor : ℕ) (result : Result A Refusal) → Answers (settling f conn floor) result (λ s. settled_to f s floor) f g → (u : A) → result ≡ Ok u
        → Taken f conn (message.Settle floor) g
    settle_taken floor result p u ok =
        let (es, step) = settle_step f g conn floor result p u ok in
        taken f g conn (message.Settle floor) es (inl step) (steps_lead f g (event.Settle conn floor) es front limits step).legal

    pub bye_taken : {A : Type 0} (result : Result A Refusal) → Answers (leaving f conn) result (closed_by f) f g → (u : A) → result ≡ Ok u → Taken f conn message.Bye g
    bye_taken result p u ok =
        let (es, step) = bye_step f g conn result p u ok in
        taken f g conn message.Bye es (inl step) (steps_lead f g (event.Bye conn) es front limits step).legal

    pub call_taken : (number : ℕ) (request : Request) (o : Outcome) → ((es : List Entry) × FrontStep f (event.Call conn number request o) es g) → Taken f conn (message.Call number request) g
    call_taken number request o (es, step) = taken f g conn (message.Call number request) es (inl (o, step)) (steps_lead f g (event.Call conn number request o) es front limits step).legal

  pub cancel_taken : {A : Type 0} (number : ℕ) (result : Result A Refusal) → Answers (cancelling f conn number) result (λ s. cancelled_by f conn s number) f g → (u : A) → result ≡ Ok u
      → Taken f conn (message.Cancel number) g
  cancel_taken number result p u ok = taken f g conn (message.Cancel number) [] (inl (cancel_step f g conn number result p u ok)) tt

  -- and refused
  module _ {A : Type 0} (result : Result A Refusal) (r : Refusal) (is : result ≡ Err r) where
    pub attach_refused : (session : ℕ) → Answers (attaching f conn session) result (λ _. attached_to f conn session) f g → k ≡ mailed g conn (mail.Refused session r)
        → Taken f conn (message.Attach session) k
    attach_refused session p told =
        let (refused, step) = refusal_told f g k conn session r (attaching f conn session) result (λ _. attached_to f conn session) p is told in
        taken f k conn (message.Attach session) [] (inr (r, refused, record { entries = refl; front = step.1.front })) tt

    pub settle_refused : (floor : ℕ) → Answers (settling f conn floor) result (λ s. settled_to f s floor) f g → k ≡ mailed g conn (mail.Refused floor r)
        → Taken f conn (message.Settle floor) k
    settle_refused floor p told =
        let (refused, step) = refusal_told f g k conn floor r (settling f conn floor) result (λ s. settled_to f s floor) p is told in
        taken f k conn (message.Settle floor) [] (inr (r, refused, record { entries = refl; front = step.1.front })) tt

    pub bye_refused : Answers (leaving f conn) result (closed_by f) f g → k ≡ mailed g conn (mail.Refused 0 r) → Taken f conn message.Bye k
    bye_refused p told =
        let (refused, step) = refusal_told f g k conn 0 r (leaving f conn) result (closed_by f) p is told in
        taken f k conn message.Bye [] (inr (r, refused, record { entries = refl; front = step.1.front })) tt

    pub cancel_refused : (number : ℕ) → Answers (cancelling f conn number) result (λ s. cancelled_by f conn s number) f g → k ≡ mailed g conn (mail.Refused number r)
        → Taken f conn (message.Cancel number) k
    cancel_refused number p told =
        let (refused, step) = refusal_told f g k conn number r (cancelling f conn number) result (λ s. cancelled_by f conn s number) p is told in
        taken f k conn (message.Cancel number) [] (inr (r, refused, record { entries = refl; front = step.1.front })) tt

  pub call_refused : (number : ℕ) (request : Request) (r : Refusal) → IsCallRefused f conn number request r ⊎ ((r ≡ NoMemory out_of_memory) × WantsMemory f conn number request) → g ≡ call_refused_by f
      → k ≡ mailed g conn (mail.Refused number r) → Taken f conn (message.Call number request) k
  call_refused number request r may same told =
      taken f k conn (message.Call number request) [] (inr (r, may, record { entries = refl; front = call_refusal_told f g k conn number r same told })) tt

  -- ---- the report

  pub report_taken : (text : List ℕ) → text ≡ report_text f.service.waiting (held_attachments f) → k ≡ mailed f conn (mail.Report text) → Taken f conn message.Report k
  report_taken text is told =
      let front : k ≡ mailed f conn (mail.Report (report_text f.service.waiting (held_attachments f))) = told ∙ ap (λ (t : List ℕ). mailed f conn (mail.Report t)) is in
      taken f k conn message.Report [] (inl (tt, record { entries = refl; front = front })) tt

  pub report_refused : k ≡ mailed f conn (mail.Refused 0 (NoMemory out_of_memory)) → Taken f conn message.Report k
  report_refused told = taken f k conn message.Report [] (inr (record { entries = refl; front = told })) tt
