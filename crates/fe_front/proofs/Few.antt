-- How many entries a step makes.
use Rattle.std.proofs.Common.{ℕ, ◌≤◌, List, length, ap, arith}
use Rattle.fe_state.specs.State.{after}
use Rattle.fe_state.specs.declared.entry.Entry.{Entry}
use Rattle.fe_state.specs.declared.entry.Entry.TheVariants.{Finished}
use Rattle.fe_state.specs.declared.request.Request.{Request}
use Rattle.fe_front.specs.Event.{Event, Connect, Attach, Call, Settle, Bye, Cancel, Gone, Cut, Post, TakeMail, GiveMail}
use Rattle.fe_front.specs.Front.{FrontState, IsFront}
use Rattle.fe_front.specs.Call.{Called, Repeats}
use Rattle.fe_front.specs.Step.{FrontStep, OneEntry, NoEntry}
use Rattle.fe_front.specs.declared.outcome.Outcome.{Outcome}
use Rattle.fe_front.specs.declared.outcome.Outcome.TheVariants as outcome
use Rattle.fe_front.proofs.Counts.{waiting-served}

none : (f' g : FrontState) (es : List Entry) → NoEntry f' es g → length es ≤ 2049
none f' g es made = let size = ap length made.entries in omega (arith, size)

one : (f' g : FrontState) (es : List Entry) (e : Entry) → OneEntry f' es e g → length es ≤ 2049
one f' g es e made = let size = ap length made.entries in omega (arith, size)

repeats_few : (f f' : FrontState) (conn session number : ℕ) (request : Request) (o : Outcome) (es : List Entry) → Repeats f conn session number request o es f' → length es ≤ 2049
repeats_few f f' conn session number request o es r = let size = ap length r.entries in omega (arith, size)

call_few : (f f' : FrontState) (conn session number : ℕ) (request : Request) (o : Outcome) (es : List Entry) → IsFront f → Called f conn session number request o es f' → length es ≤ 2049
call_few f f' conn session number request (outcome.Completed n) es front r =
    let own = Finished session number request r.answer in
    let served = waiting-served (after f.service.state own) f.service.waiting r.served r.completes.serves.turns in
    let size = ap length r.entries in
    omega (arith, served, size, front.few_waiting)
call_few f f' conn session number request outcome.Waits es front r = let size = ap length r.entries in omega (arith, size)
call_few f f' conn session number request outcome.AlreadyWaiting es front r = repeats_few f f' conn session number request outcome.AlreadyWaiting es r
call_few f f' conn session number request outcome.SentAgain es front r = repeats_few f f' conn session number request outcome.SentAgain es r
call_few f f' conn session number request outcome.NotYetSynced es front r = repeats_few f f' conn session number request outcome.NotYetSynced es r

pub steps_few : (f f' : FrontState) (event : Event) (es : List Entry) → IsFront f → FrontStep f event es f' → length es ≤ 2049
steps_few f f' (Connect conn) es front step = none f' _ es step.1
steps_few f f' (Attach conn session) es front step = one f' _ es _ step.1
steps_few f f' (Call conn number request o) es front step = call_few f f' conn step.0 number request o es front step.2
steps_few f f' (Settle conn floor) es front step = one f' _ es _ step.2
steps_few f f' (Bye conn) es front step = one f' _ es _ step.2
steps_few f f' (Cancel conn number) es front step = none f' _ es step.2
steps_few f f' (Gone conn count) es front step = none f' _ es step.1
steps_few f f' (Cut batch) es front step = none f' _ es step.1
steps_few f f' (Post batch) es front step = none f' _ es step.1
steps_few f f' (TakeMail conn m) es front step = none f' _ es step.1
steps_few f f' (GiveMail conn m) es front step = none f' _ es step.1
