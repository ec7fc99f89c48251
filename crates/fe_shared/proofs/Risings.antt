-- The ledgers of a hall follow the front's books through each event.
use Rattle.std.proofs.Common.{◌≡◌, inl, inr, ℕ, ◌+◌, ◌-◌, ◌^◌, ◌<◌, ◌≤◌, List, [], length, Option, Some, Result, Ok, Err, IsErr, ◌↔◌, OnOk, OnErr, refl, sym, subst, arith}
use Rattle.std.proofs.lemmas.Bool.{and_parts, leb-true, ltb-true}
use Rattle.std.specs.Prelude.{IsTrue, nat_lt, slice_get}
use Rattle.fe_memory.specs.Memory.{out_of_memory}
use Rattle.fe_state.specs.declared.batch.Batch.{Batch}
use Rattle.fe_state.specs.declared.entry.Entry.{Entry}
use Rattle.fe_mail.specs.Books.{Books}
use Rattle.fe_mail.specs.declared.mail.Mail.{Mail}
use Rattle.fe_mail.specs.declared.mail.Mail.TheVariants as mail
use Rattle.fe_mail.specs.declared.refusal.Refusal.{Refusal}
use Rattle.fe_mail.specs.declared.refusal.Refusal.TheVariants.{NoMemory}
use Rattle.fe_wire.specs.declared.client_message.ClientMessage.{ClientMessage}
use Rattle.fe_wire.specs.declared.client_message.ClientMessage.TheVariants as message
use Rattle.fe_front.specs.Front.{FrontState, IsFront}
use Rattle.fe_front.specs.Event as event
use Rattle.fe_front.specs.Step.{FrontStep}
use Rattle.fe_front.specs.Laws.{HaveRoom, Rise, calls_of, taken_of, most_mails_of, refused_to}
use Rattle.fe_front.specs.Posting.{IsOut, posted}
use Rattle.fe_front.specs.Steps.{taken}
use Rattle.fe_mail.specs.Connections.{mails_on}
use Rattle.fe_front.proofs.Events.{post_step, take_mail_step}
use Rattle.fe_front.proofs.Rising as rising
use Rattle.fe_messages.specs.Taking.{Takes, IsRefused}
use Rattle.fe_shared.specs.Seats.{IsOpen, calls_in, most_counted, takes_more, posts_more}

-- the books of the front after an event: open still, with this many calls and taken mails more
pub record Goes (f g : FrontState) (called took : ℕ) : Type 0 where
  pub books : IsOpen g.books
  pub calls : g.books.calls ≡ f.books.calls + called
  pub taken : g.books.taken ≡ f.books.taken + took

goes : (f g : FrontState) (called took most : ℕ) → Rise f.books called took most g.books → f.books.calls + called ≤ 2 ^ 63 - 8192 → f.books.mails + most ≤ 2 ^ 63 - 8192 → Goes f g called took
goes f g called took most rise few fewer = record {
  books = record { unspent = rise.unspent; calls = omega (arith, rise.calls, few); mails = omega (arith, rise.mails, fewer) };
  calls = rise.calls;
  taken = rise.taken;
}

has_room : (b : Books) (called most : ℕ) → IsOpen b → b.calls + called ≤ 2 ^ 63 - 8192 → b.mails + most ≤ 2 ^ 63 - 8192 → HaveRoom b called most
has_room b called most is_open few fewer = record { unspent = is_open.unspent; few_calls = omega (arith, few); few_mails = omega (arith, fewer) }

-- an event whose calls and mails there is room for
pub step_goes : (f g : FrontState) (e : event.Event) (es : List Entry) → IsFront f → IsOpen f.books → f.books.calls + calls_of e ≤ 2 ^ 63 - 8192 → f.books.mails + most_mails_of e ≤ 2 ^ 63 - 8192
    → FrontStep f e es g → Goes f g (calls_of e) (taken_of e)
step_goes f g e es front is_open few fewer step =
    goes f g (calls_of e) (taken_of e) (most_mails_of e) (rising.books_rise.rises f g e es front (has_room f.books (calls_of e) (most_mails_of e) is_open few fewer) step) few fewer

pub post_goes : (f g : FrontState) (batch : Batch) → IsFront f → IsOpen f.books → IsTrue (posts_more f.books batch) → FrontStep f (event.Post batch) [] g → Goes f g 0 0
post_goes f g batch front is_open more step =
    step_goes f g (event.Post batch) [] front is_open (omega (arith, is_open.calls)) (leb-true (f.books.mails + length batch.entries) most_counted more) step

-- a front that is as it was
pub stays : (f g : FrontState) → IsOpen f.books → g ≡ f → Goes f g 0 0
stays f g is_open same = subst (λ (h : FrontState). Goes f h 0 0) (sym same) (record { books = is_open; calls = omega arith; taken = omega arith })

-- a batch that is posted, or refused
pub posted_goes : {E A : Type 0} (f g : FrontState) (batch : Batch) (result : Result A E) → IsFront f → IsOpen f.books → IsTrue (posts_more f.books batch) → (IsErr result ↔ (¬ IsOut f.out batch))
    → OnOk result (g ≡ posted f batch) → OnErr result (g ≡ f) → Goes f g 0 0
posted_goes {E} f g batch (Ok u) front is_open more refused ok err = post_goes f g batch front is_open more (post_step f g {E = E} batch (Ok u) refused u refl ok)
posted_goes f g batch (Err e) front is_open more refused ok err = stays f g is_open err

pub posted_steps : {E A : Type 0} (f g : FrontState) (batch : Batch) (result : Result A E) → (IsErr result ↔ (¬ IsOut f.out batch)) → OnOk result (g ≡ posted f batch)
    → OnOk result (FrontStep f (event.Post batch) [] g)
posted_steps {E} f g batch (Ok u) refused ok = post_step f g {E = E} batch (Ok u) refused u refl ok
posted_steps f g batch (Err e) refused ok = tt

pub take_mail_goes : (f g : FrontState) (conn : ℕ) (m : Option Mail) → IsFront f → IsOpen f.books → FrontStep f (event.TakeMail conn m) [] g → Goes f g 0 (taken_of (event.TakeMail conn m))
take_mail_goes f g conn m front is_open step = step_goes f g (event.TakeMail conn m) [] front is_open (omega (arith, is_open.calls)) (omega (arith, is_open.mails)) step

-- room for a message
record HasPlace (b : Books) : Type 0 where
  pub calls : b.calls < most_counted
  pub mails : b.mails < most_counted

place : (b : Books) → IsTrue (takes_more b) → HasPlace b
place b more =
    let both = and_parts (nat_lt b.calls most_counted) (nat_lt b.mails most_counted) more in
    record { calls = ltb-true b.calls most_counted both.0; mails = ltb-true b.mails most_counted both.1 }

module _ (f g : FrontState) (conn : ℕ) (es : List Entry) (front : IsFront f) (is_open : IsOpen f.books) (more : HasPlace f.books) where
  -- an event that is no call
  other_goes : (e : event.Event) → calls_of e ≡ 0 → most_mails_of e ≤ 1 → FrontStep f e es g → Goes f g (calls_of e) (taken_of e)
  other_goes e none few step = step_goes f g e es front is_open (omega (arith, none, more.calls)) (omega (arith, few, more.mails)) step

  -- a refusal that is given
  refused_goes : (number : ℕ) (r : Refusal) → IsRefused f conn number r es g → Goes f g 0 0
  refused_goes number r told =
      other_goes (event.GiveMail conn (mail.Refused number r)) refl (omega arith) (tt, record { entries = told.entries; front = told.front })

  call_refused_goes : (number : ℕ) (r : Refusal) → g ≡ refused_to f conn number r → Goes f g 1 0
  call_refused_goes number r is =
      subst (λ (h : FrontState). Goes f h 1 0) (sym is)
      (goes f (refused_to f conn number r) 1 0 1 (rising.books_rise.refused_to f conn number r (has_room f.books 1 1 is_open (omega (arith, more.calls)) (omega (arith, more.mails)))) (omega (arith, more.calls)) (omega (arith, more.mails)))

  by_message : (m : ClientMessage) → Takes f conn m es g → Goes f g (calls_in m) 0
  by_message (message.Attach session) (inl step) = other_goes (event.Attach conn session) refl (omega arith) step
  by_message (message.Attach session) (inr told) = refused_goes session told.0 told.2
  by_message (message.Call number request) (inl called) =
      step_goes f g (event.Call conn number request called.0) es front is_open (omega (arith, more.calls)) (omega (arith, more.mails)) called.1
  by_message (message.Call number request) (inr told) = call_refused_goes number told.0 told.2.front
  by_message (message.Cancel number) (inl step) = other_goes (event.Cancel conn number) refl (omega arith) step
  by_message (message.Cancel number) (inr told) = refused_goes number told.0 told.2
  by_message (message.Settle shared) (inl step) = other_goes (event.Settle conn shared) refl (omega arith) step
  by_message (message.Settle shared) (inr told) = refused_goes shared told.0 told.2
  by_message message.Bye (inl step) = other_goes (event.Bye conn) refl (omega arith) step
  by_message message.Bye (inr told) = refused_goes 0 told.0 told.2
  by_message message.Report (inl step) = other_goes (event.GiveMail conn _) refl (omega arith) step
  by_message message.Report (inr told) = refused_goes 0 (NoMemory out_of_memory) told

pub takes_goes : (f g : FrontState) (conn : ℕ) (m : ClientMessage) (es : List Entry) → IsFront f → IsOpen f.books → IsTrue (takes_more f.books) → Takes f conn m es g → Goes f g (calls_in m) 0
takes_goes f g conn m es front is_open more step = by_message f g conn es front is_open (place f.books more) m step

-- a mail that was taken
pub taken_goes : (f g : FrontState) (conn : ℕ) (m : Mail) → IsFront f → IsOpen f.books → Some m ≡ slice_get (mails_on f.connections conn) 0 → g ≡ taken f conn → Goes f g 0 1
taken_goes f g conn m front is_open first is = take_mail_goes f g conn (Some m) front is_open (take_mail_step f g conn (Some m) first is)
