-- The entries of a step are legal, and lead to the state after it.
use Rattle.std.proofs.Common.{◌≡◌, ℕ, ◌-◌, ◌^◌, ◌<◌, Bool, true, false, List, [], length, refl, sym, ap, subst, ◌∙◌, arith}
use Rattle.std.specs.Prelude.{nat_lt, if◌then◌else◌, Ok}
use Rattle.std.specs.Option.{option_map_or}
use Rattle.std.specs.FinMap.{get}
use Rattle.fe_state.specs.History.{AreLegal}
use Rattle.fe_state.specs.State.{ServerState, IsLegal, IsWithinLimits, after, after_all}
use Rattle.fe_state.specs.declared.entry.Entry.{Entry}
use Rattle.fe_state.specs.declared.entry.Entry.TheVariants.{Attached, Closed, Settled, Finished}
use Rattle.fe_state.specs.declared.request.Request.{Request}
use Rattle.fe_service.specs.Events.{IsAttachable, floor_of}
use Rattle.fe_service.specs.Service.{ServiceState, IsService}
use Rattle.fe_service.proofs.Attaching.{attach_legal}
use Rattle.fe_service.proofs.Turns.{finished_usable, serves_legally}
use Rattle.fe_front.specs.Front.{FrontState, IsFront, is_spent}
use Rattle.fe_front.specs.Event.{Event, Connect, Attach, Call, Settle, Bye, Cancel, Gone, Cut, Post, TakeMail, GiveMail}
use Rattle.fe_front.specs.Call.{Called, Completed, Repeats, repeated, attaching, addressed, settling, leaving}
use Rattle.fe_front.specs.Step.{FrontStep, OneEntry, NoEntry, Leads}
use Rattle.fe_front.specs.Steps.{connected, attached_to, settled_to, closed_by, cancelled_by, dropped, released, taken, mailed, cut, has_no_cut}
use Rattle.fe_front.specs.Posting.{posted}
use Rattle.fe_mail.specs.Connections.{mails_on}
use Rattle.fe_front.specs.declared.outcome.Outcome.{Outcome}
use Rattle.fe_front.specs.declared.outcome.Outcome.TheVariants as outcome
use Rattle.fe_front.proofs.Admitted.{leaves, settles, own_there, may_rise_to, free_within}
use Rattle.fe_front.proofs.Counts.{waiting-served}
use Rattle.fe_front.proofs.Keeping.{released-keeps, freed-keeps, mailed-keeps, dropped-keeps, posted_all-keeps, cancelled-keeps, repeated-keeps}
use Rattle.fe_front.proofs.Attaching.{attaches, left_of}

-- an event that makes no entry and leaves the state
still : (f f' g : FrontState) (es : List Entry) → NoEntry f' es g → g.service.state ≡ f.service.state → Leads f es f'
still f f' g es none same = record {
  legal = subst (AreLegal f.service.state) (sym none.entries) tt;
  state = ap (λ (f : FrontState). f.service.state) none.front ∙ same ∙ sym (ap (after_all f.service.state) none.entries);
}

-- one that makes one entry
one : (f f' g : FrontState) (es : List Entry) (e : Entry) → OneEntry f' es e g → IsLegal f.service.state e → g.service.state ≡ after f.service.state e → Leads f es f'
one f f' g es e made legal same = record {
  legal = subst (AreLegal f.service.state) (sym made.entries) (legal, tt);
  state = ap (λ (f : FrontState). f.service.state) made.front ∙ same ∙ sym (ap (after_all f.service.state) made.entries);
}

place_left : (f : FrontState) → is_spent f ≡ false → f.service.state.place < 2 ^ 63 - 1
place_left f e = let left = left_of f.service.state.place e in omega (arith, left)

attach_leads : (f f' : FrontState) (conn session : ℕ) (es : List Entry) → IsFront f → attaching f conn session ≡ Ok session
    → OneEntry f' es (Attached session (floor_of f.service session)) (attached_to f conn session) → Leads f es f'
attach_leads f f' conn session es front e made =
    let found = attaches f conn session session e in
    let s : ServiceState = record f.service { pending = [] } in
    let service : IsService s = record { usable = front.service.usable; quiet = front.service.quiet; has_attachment = front.service.has_attachment } in
    let attachable : IsAttachable s session = record { not_closing = found.attachable.not_closing; attachment = found.attachable.attachment } in
    let legal = attach_legal s session service attachable (record { places = left_of f.service.state.place found.unspent; few = omega arith }) in
    let mid = released f conn in
    let kept = (freed-keeps mid session).state ∙ (released-keeps f conn).state in
    one f f' (attached_to f conn session) es (Attached session (floor_of f.service session)) made legal
    (ap (λ (s : ServerState). after s (Attached session (option_map_or (λ x. x.floor) (get s.sessions session) 1))) kept)

chosen : (f g : FrontState) (b : Bool) → g.service.state ≡ f.service.state → (if b then g else f).service.state ≡ f.service.state
chosen f g true same = same
chosen f g false same = refl

unchosen : (f g : FrontState) (b : Bool) → g.service.state ≡ f.service.state → (if b then f else g).service.state ≡ f.service.state
unchosen f g true same = refl
unchosen f g false same = same

repeat_leads : (f f' : FrontState) (conn session number : ℕ) (request : Request) (o : Outcome) (es : List Entry) → Repeats f conn session number request o es f' → Leads f es f'
repeat_leads f f' conn session number request o es r = still f f' (repeated f conn session number) es (record { entries = r.entries; front = r.rest }) (repeated-keeps f conn session number).state

complete_leads : (f f' : FrontState) (conn session number : ℕ) (request : Request) (n : ℕ) (es : List Entry) → IsFront f → addressed f conn number ≡ Ok session
    → Completed f session number request n es f' → Leads f es f'
complete_leads f f' conn session number request n es front e r =
    let own = Finished session number request r.answer in
    let free = free_within f conn session number front e r.new in
    let legal : IsLegal f.service.state own = record { has_place = place_left f r.unspent; allowed = free.usable; answered = r.answered } in
    let serves = r.completes.serves in
    let few = waiting-served (after f.service.state own) f.service.waiting r.served serves.turns in
    let usable = finished_usable f.service.state f.service.waiting session number request r.answer front.service.usable free.new in
    let left = left_of f.service.state.place r.unspent in
    let rest = serves_legally (after f.service.state own) f'.service.state f.service.waiting f'.service.waiting r.served usable (omega (arith, few, left, front.few_waiting)) serves in
    record {
      legal = subst (AreLegal f.service.state) (sym r.entries) (legal, rest);
      state = serves.state ∙ sym (ap (after_all f.service.state) r.entries);
    }

call_leads : (f f' : FrontState) (conn session number : ℕ) (request : Request) (o : Outcome) (es : List Entry) → IsFront f → addressed f conn number ≡ Ok session
    → Called f conn session number request o es f' → Leads f es f'
call_leads f f' conn session number request (outcome.Completed n) es front e r = complete_leads f f' conn session number request n es front e r
call_leads f f' conn session number request outcome.Waits es front e r = still f f' _ es (record { entries = r.entries; front = r.rest }) refl
call_leads f f' conn session number request outcome.AlreadyWaiting es front e r = repeat_leads f f' conn session number request outcome.AlreadyWaiting es r
call_leads f f' conn session number request outcome.SentAgain es front e r = repeat_leads f f' conn session number request outcome.SentAgain es r
call_leads f f' conn session number request outcome.NotYetSynced es front e r = repeat_leads f f' conn session number request outcome.NotYetSynced es r

settle_leads : (f f' : FrontState) (conn session floor : ℕ) (es : List Entry) → IsFront f → settling f conn floor ≡ Ok session
    → OneEntry f' es (Settled session floor) (settled_to f session floor) → Leads f es f'
settle_leads f f' conn session floor es front e made =
    let (mine, may) = settles f conn session floor e in
    let rises = may_rise_to f session floor (own_there f conn session front.service front.tied.agree mine) may in
    one f f' (settled_to f session floor) es (Settled session floor) made (record { has_place = place_left f may.unspent; allowed = rises; answered = tt }) refl

bye_leads : (f f' : FrontState) (conn session : ℕ) (es : List Entry) → IsFront f → leaving f conn ≡ Ok session → OneEntry f' es (Closed session) (closed_by f session) → Leads f es f'
bye_leads f f' conn session es front e made =
    let (mine, unspent) = leaves f conn session e in
    one f f' (closed_by f session) es (Closed session) made
    (record { has_place = place_left f unspent; allowed = own_there f conn session front.service front.tied.agree mine; answered = tt }) refl

pub steps_lead : (f f' : FrontState) (event : Event) (es : List Entry) → IsFront f → IsWithinLimits f.service.state → FrontStep f event es f' → Leads f es f'
steps_lead f f' (Connect conn) es front limits step = still f f' (connected f conn) es step.1 refl
steps_lead f f' (Attach conn session) es front limits step = attach_leads f f' conn session es front step.0 step.1
steps_lead f f' (Call conn number request o) es front limits step = call_leads f f' conn step.0 number request o es front step.1 step.2
steps_lead f f' (Settle conn floor) es front limits step = settle_leads f f' conn step.0 floor es front step.1 step.2
steps_lead f f' (Bye conn) es front limits step = bye_leads f f' conn step.0 es front step.1 step.2
steps_lead f f' (Cancel conn number) es front limits step = still f f' (cancelled_by f conn step.0 number) es step.2 (cancelled-keeps f conn step.0 number).state
steps_lead f f' (Gone conn count) es front limits step = still f f' (dropped f conn) es step.1 (dropped-keeps f conn).state
steps_lead f f' (Cut batch) es front limits step = still f f' (cut f) es step.1 (unchosen f _ (has_no_cut f) refl)
steps_lead f f' (Post batch) es front limits step = still f f' (posted f batch) es step.1 (posted_all-keeps f batch.entries batch.first).state
steps_lead f f' (TakeMail conn m) es front limits step = still f f' (taken f conn) es step.1 (chosen f _ (nat_lt 0 (length (mails_on f.connections conn))) refl)
steps_lead f f' (GiveMail conn m) es front limits step = still f f' (mailed f conn m) es step.1 (mailed-keeps f conn m).state
