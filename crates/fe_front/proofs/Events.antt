-- What a call of the front did is its event's case of the front's step.
use Rattle.std.proofs.Common.{◌≡◌, ◌⊎◌, ◌↔◌, ℕ, Bool, true, false, not, true≢false, inl, inr, List, [], ◌∷◌, length, Option, Some, None, Result, Ok, Err, MatchResult, IsOk, IsErr, refl, sym, ap, ◌∙◌}
use Rattle.std.specs.Prelude.{is_ok, is_err, slice_get, if◌then◌else◌}
use Rattle.std.proofs.lemmas.Bool.{cases_eq}
use Rattle.fe_state.specs.declared.batch.Batch.{Batch}
use Rattle.fe_state.specs.declared.entry.Entry.{Entry}
use Rattle.fe_state.specs.declared.entry.Entry.TheVariants.{Attached, Closed, Settled}
use Rattle.fe_service.specs.Events.{floor_of}
use Rattle.fe_service.specs.AttachmentsState.{is_closing}
use Rattle.fe_mail.specs.Connections.{mails_on}
use Rattle.fe_mail.specs.declared.mail.Mail.{Mail}
use Rattle.fe_mail.specs.declared.mail.Mail.TheVariants as mail
use Rattle.fe_mail.specs.declared.refusal.Refusal.{Refusal}
use Rattle.fe_mail.specs.declared.refusal.Refusal.TheVariants.{NotAttached, Closing, SessionLimit, Spent}
use Rattle.fe_front.specs.Front.{FrontState, is_connected, is_spent}
use Rattle.fe_front.specs.Event as event
use Rattle.fe_front.specs.Step.{FrontStep}
use Rattle.fe_front.specs.Steps.{attached_to, settled_to, closed_by, cancelled_by, taken, mailed}
use Rattle.fe_front.specs.Call.{attaching, settling, leaving, cancelling, has_no_attachment, call_refused_by}
use Rattle.fe_front.specs.Posting.{IsOut, posted}
use Rattle.fe_front.specs.Laws.{refused_to}
use Rattle.fe_front.specs.declared.out.Out.{Out}

-- an event takes a front to another, with some entries
abbrev pub Happens : FrontState → event.Event → FrontState → Type 0
Happens f e g = (es : List Entry) × FrontStep f e es g

-- ---- what an event answered, where a definition gives the session or the refusal

-- the clause of such an event
abbrev pub Answers : {A : Type 0} → Result ℕ Refusal → Result A Refusal → (ℕ → FrontState) → FrontState → FrontState → Type 0
Answers x result h f g = MatchResult x (λ s. IsOk result × (g ≡ h s)) (λ q. (result ≡ Err q) × (g ≡ f))

abbrev refusal_in : {A : Type 0} → Result A Refusal → Refusal → Refusal
refusal_in (Ok x) r = r
refusal_in (Err q) r = q

when_ok : {A : Type 0} (x : Result ℕ Refusal) (result : Result A Refusal) (h : ℕ → FrontState) (f g : FrontState) → Answers x result h f g → (u : A) → result ≡ Ok u
    → (s : ℕ) × (x ≡ Ok s) × (g ≡ h s)
when_ok (Ok s) result h f g p u ok = (s, refl, p.1)
when_ok (Err q) result h f g p u ok = absurd (true≢false (sym (ap is_ok ok) ∙ ap is_ok p.0))

-- an event was refused, and changed nothing
pub record Refuses (x : Result ℕ Refusal) (r : Refusal) (f g : FrontState) : Type 0 where
  pub refused : x ≡ Err r
  pub same : g ≡ f

pub when_err : {A : Type 0} (x : Result ℕ Refusal) (result : Result A Refusal) (h : ℕ → FrontState) (f g : FrontState) (r : Refusal) → Answers x result h f g → result ≡ Err r
    → Refuses x r f g
when_err (Ok s) result h f g r p is = absurd (true≢false (sym p.0 ∙ ap is_ok is))
when_err {A} (Err q) result h f g r p is = record {
  refused = ap (λ (t : Refusal). Err t) (ap (λ (x : Result A Refusal). refusal_in x r) (sym p.0 ∙ is));
  same = p.1;
}

-- the session that may be attached is the one that was asked
attaching_is : (f : FrontState) (conn session s : ℕ) → attaching f conn session ≡ Ok s → attaching f conn session ≡ Ok session
attaching_is f conn session s = by (is_connected f conn) (is_closing f.service.attachments session) (has_no_attachment f session) (is_spent f)
  where
    answer : Bool → Bool → Bool → Bool → Result ℕ Refusal
    answer a b c d = if not a then Err NotAttached else if b then Err Closing else if c then Err SessionLimit else if d then Err Spent else Ok session

    by : (a b c d : Bool) → answer a b c d ≡ Ok s → answer a b c d ≡ Ok session
    by false b c d e = absurd (true≢false (sym (ap is_ok e)))
    by true true c d e = absurd (true≢false (sym (ap is_ok e)))
    by true false true d e = absurd (true≢false (sym (ap is_ok e)))
    by true false false true e = absurd (true≢false (sym (ap is_ok e)))
    by true false false false e = refl

module _ (f g : FrontState) (conn : ℕ) where
  -- ---- events that make entries, from the clause and an `Ok`

  pub attach_step : {A : Type 0} (session : ℕ) (result : Result A Refusal) → Answers (attaching f conn session) result (λ _. attached_to f conn session) f g → (u : A) → result ≡ Ok u
      → Happens f (event.Attach conn session) g
  attach_step session result p u ok =
      let (s, may, is) = when_ok (attaching f conn session) result (λ _. attached_to f conn session) f g p u ok in
      (Attached session (floor_of f.service session) ∷ [], (attaching_is f conn session s may, record { entries = refl; front = is }))

  pub settle_step : {A : Type 0} (floor : ℕ) (result : Result A Refusal) → Answers (settling f conn floor) result (λ s. settled_to f s floor) f g → (u : A) → result ≡ Ok u
      → Happens f (event.Settle conn floor) g
  settle_step floor result p u ok =
      let (s, may, is) = when_ok (settling f conn floor) result (λ s. settled_to f s floor) f g p u ok in
      (Settled s floor ∷ [], (s, may, record { entries = refl; front = is }))

  pub bye_step : {A : Type 0} (result : Result A Refusal) → Answers (leaving f conn) result (closed_by f) f g → (u : A) → result ≡ Ok u → Happens f (event.Bye conn) g
  bye_step result p u ok =
      let (s, may, is) = when_ok (leaving f conn) result (closed_by f) f g p u ok in
      (Closed s ∷ [], (s, may, record { entries = refl; front = is }))

  -- ---- events that make none

  pub cancel_step : {A : Type 0} (number : ℕ) (result : Result A Refusal) → Answers (cancelling f conn number) result (λ s. cancelled_by f conn s number) f g → (u : A) → result ≡ Ok u
      → FrontStep f (event.Cancel conn number) [] g
  cancel_step number result p u ok =
      let (s, may, is) = when_ok (cancelling f conn number) result (λ s. cancelled_by f conn s number) f g p u ok in
      (s, may, record { entries = refl; front = is })

  pub take_mail_step : (m : Option Mail) → m ≡ slice_get (mails_on f.connections conn) 0 → g ≡ taken f conn → FrontStep f (event.TakeMail conn m) [] g
  take_mail_step m first is = (first, record { entries = refl; front = is })

  pub refusal_step : (number : ℕ) (r : Refusal) → g ≡ mailed f conn (mail.Refused number r) → FrontStep f (event.GiveMail conn (mail.Refused number r)) [] g
  refusal_step number r is = (tt, record { entries = refl; front = is })

module _ (f g : FrontState) where
  out_or_not : (o : Option Out) (batch : Batch) → IsOut o batch ⊎ (¬ IsOut o batch)
  out_or_not None batch = inr (λ no. no)
  out_or_not (Some o) batch = by (cases_eq batch.first o.first) (cases_eq (length batch.entries) o.length)
    where
      by : (batch.first ≡ o.first) ⊎ (batch.first ≡ o.first → ⊥) → (length batch.entries ≡ o.length) ⊎ (length batch.entries ≡ o.length → ⊥) → IsOut (Some o) batch ⊎ (¬ IsOut (Some o) batch)
      by (inl first) (inl sized) = inl (first, sized)
      by (inr other) b = inr (λ out. other out.0)
      by (inl first) (inr other) = inr (λ out. other out.1)

  -- a batch that was not refused was the one that was out
  pub post_step : {A E : Type 0} (batch : Batch) (result : Result A E) → (IsErr result ↔ (¬ IsOut f.out batch)) → (u : A) → result ≡ Ok u → g ≡ posted f batch
      → FrontStep f (event.Post batch) [] g
  post_step batch result refused u ok is = (by (out_or_not f.out batch), record { entries = refl; front = is })
    where
      by : IsOut f.out batch ⊎ (¬ IsOut f.out batch) → IsOut f.out batch
      by (inl out) = out
      by (inr other) = absurd (true≢false (sym (refused.1 other) ∙ ap is_err ok))

-- ---- refusals that are mailed

module _ (f g k : FrontState) (conn number : ℕ) (r : Refusal) where
  -- an event that was refused, and its refusal after it
  pub refusal_told : {A : Type 0} (x : Result ℕ Refusal) (result : Result A Refusal) (h : ℕ → FrontState) → Answers x result h f g → result ≡ Err r → k ≡ mailed g conn (mail.Refused number r)
      → (x ≡ Err r) × FrontStep f (event.GiveMail conn (mail.Refused number r)) [] k
  refusal_told x result h p is told =
      let refuses = when_err x result h f g r p is in
      (refuses.refused, refusal_step f k conn number r (told ∙ ap (λ (y : FrontState). mailed y conn (mail.Refused number r)) refuses.same))

  -- a call that was refused is booked, and its refusal is mailed after it
  pub call_refusal_told : g ≡ call_refused_by f → k ≡ mailed g conn (mail.Refused number r) → k ≡ refused_to f conn number r
  call_refusal_told same told = told ∙ ap (λ (y : FrontState). mailed y conn (mail.Refused number r)) same
