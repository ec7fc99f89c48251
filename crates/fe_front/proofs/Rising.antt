-- How the books of a front rise.
use Rattle.std.proofs.Common.{◌≡◌, ℕ, zero, suc, ◌+◌, ◌-◌, ◌^◌, ◌<◌, ◌≤◌, Bool, true, false, List, [], ◌∷◌, length, drop, slice_get, Option, Some, None, IsSome, refl, sym, ap, subst, ◌∙◌, arith}
use Rattle.std.specs.Prelude.{nat_lt, if◌then◌else◌, min}
use Rattle.std.specs.Option.{option_map_or}
use Rattle.std.specs.FinMap.{len}
use Rattle.std.proofs.lemmas.Bool.{lt-ltb}
use Rattle.fe_state.specs.declared.batch.Batch.{Batch}
use Rattle.fe_state.specs.declared.entry.Entry.{Entry}
use Rattle.fe_state.specs.declared.entry.Entry.TheVariants.{Attached, Closed, Settled, Finished}
use Rattle.fe_state.specs.declared.kept.Kept.{Kept}
use Rattle.fe_state.specs.declared.request.Request.{Request}
use Rattle.fe_service.specs.AttachmentsState.{holder_of, is_closing}
use Rattle.fe_service.specs.Events.{left}
use Rattle.fe_mail.specs.Books.{Books, Balances, counting, moving, call_completed, call_repeated, waiter_completed, waiters_withdrawn, mail_refused_by_box, mail_taken, box_dropped}
use Rattle.fe_mail.specs.Connections.{session_on, mails_on, mails_in, with_mails, session_of, mail_of}
use Rattle.fe_mail.specs.declared.mail.Mail.{Mail}
use Rattle.fe_mail.specs.declared.mail.Mail.TheVariants as mail
use Rattle.fe_mail.specs.declared.refusal.Refusal.{Refusal}
use Rattle.fe_mail.proofs.MailCounts.{mails_in-take}
use Rattle.fe_front.specs.Call.{Called, kept_at, repeated, waiters_completed, call_refused_by}
use Rattle.fe_front.specs.Event.{Event, Connect, Attach, Call, Settle, Bye, Cancel, Gone, Cut, Post, TakeMail, GiveMail}
use Rattle.fe_front.specs.Front.{FrontState, IsFront, out_length, is_connected}
use Rattle.fe_front.specs.Posting.{IsOut, delivered, vacated, posted_entry, posted_all, posted}
use Rattle.fe_front.specs.Laws.{HaveRoom, Rise, BooksRise, calls_of, taken_of, most_mails_of, refused_to}
use Rattle.fe_front.specs.Step.{FrontStep}
use Rattle.fe_front.specs.Steps.{parted, released, freed, departed, withdrawn_from, unboxed, dropped, boxed, overflowed, mailed, cancelled_from, cancelled_by, taken, cut, has_no_cut}
use Rattle.fe_front.specs.declared.out.Out.{Out}
use Rattle.fe_front.specs.declared.outcome.Outcome.{Outcome}
use Rattle.fe_front.specs.declared.outcome.Outcome.TheVariants as outcome

-- ---- books

-- a count that has room is counted
counted : (b c : Books) (n : ℕ) → b.spent ≡ false → n < 2 ^ 63 - 1 → counting b n c ≡ c
counted b c n unspent below =
    ap (λ (s : Bool). if s then b else if nat_lt n (2 ^ 63 - 1) then c else record b { spent = true }) unspent
    ∙ ap (λ (s : Bool). if s then c else record b { spent = true }) (lt-ltb n (2 ^ 63 - 1) below)

moved : (b c : Books) → b.spent ≡ false → moving b c ≡ c
moved b c unspent = ap (λ (s : Bool). if s then b else c) unspent

-- books that stay
stay : (b : Books) → b.spent ≡ false → Rise b 0 0 0 b
stay b unspent = record { unspent = unspent; calls = omega arith; taken = omega arith; no_fewer = omega arith; mails = omega arith }

-- a rise, and another after it
both : {a b c : Books} {called took most more others mails : ℕ} → Rise a called took most b → Rise b more others mails c → Rise a (called + more) (took + others) (most + mails) c
both p q = record {
  unspent = q.unspent;
  calls = omega (arith, p.calls, q.calls);
  taken = omega (arith, p.taken, q.taken);
  no_fewer = omega (arith, p.no_fewer, q.no_fewer);
  mails = omega (arith, p.mails, q.mails);
}

-- a rise that makes fewer mails than it may
most : {a b : Books} {called took few many : ℕ} → few ≤ many → Rise a called took few b → Rise a called took many b
most below p = record { unspent = p.unspent; calls = p.calls; taken = p.taken; no_fewer = p.no_fewer; mails = omega (arith, below, p.mails) }

-- one more call
call_rises : (b c : Books) (mails : ℕ) → HaveRoom b 1 mails → c.spent ≡ b.spent → c.calls ≡ b.calls + 1 → c.taken ≡ b.taken → c.mails ≡ b.mails → Rise b 1 0 0 (counting b b.calls c)
call_rises b c more room spent calls taken mails =
    subst (Rise b 1 0 0) (sym (counted b c b.calls room.unspent (omega (arith, room.few_calls))))
    (record { unspent = spent ∙ room.unspent; calls = calls; taken = omega (arith, taken); no_fewer = omega (arith, mails); mails = omega (arith, mails) })

-- one more mail
mail_rises : (b c : Books) → b.spent ≡ false → b.mails < 2 ^ 63 - 1 → c.spent ≡ b.spent → c.calls ≡ b.calls → c.taken ≡ b.taken → c.mails ≡ b.mails + 1 → Rise b 0 0 1 (counting b b.mails c)
mail_rises b c unspent below spent calls taken mails =
    subst (Rise b 0 0 1) (sym (counted b c b.mails unspent below))
    (record { unspent = spent ∙ unspent; calls = omega (arith, calls); taken = omega (arith, taken); no_fewer = omega (arith, mails); mails = omega (arith, mails) })

-- calls and mails go from column to column
move_rises : (b c : Books) (more : ℕ) → b.spent ≡ false → c.spent ≡ b.spent → c.calls ≡ b.calls → c.taken ≡ b.taken + more → c.mails ≡ b.mails → Rise b 0 more 0 (moving b c)
move_rises b c more unspent spent calls taken mails =
    subst (Rise b 0 more 0) (sym (moved b c unspent))
    (record { unspent = spent ∙ unspent; calls = omega (arith, calls); taken = taken; no_fewer = omega (arith, mails); mails = omega (arith, mails) })

completed_rises : (b : Books) → b.spent ≡ false → Rise b 0 0 0 (waiter_completed b)
completed_rises b unspent =
    move_rises b (record b { waiting = b.waiting - min 1 b.waiting; completed = b.completed + min 1 b.waiting }) 0 unspent refl refl (omega arith) refl

withdrawn_rises : (n : ℕ) (b : Books) → b.spent ≡ false → Rise b 0 0 0 (waiters_withdrawn n b)
withdrawn_rises n b unspent =
    move_rises b (record b { waiting = b.waiting - min n b.waiting; withdrawn = b.withdrawn + min n b.waiting }) 0 unspent refl refl (omega arith) refl

box_rises : (n : ℕ) (b : Books) → b.spent ≡ false → Rise b 0 0 0 (box_dropped n b)
box_rises n b unspent =
    move_rises b (record b { left = b.left - min n b.left; dropped = b.dropped + min n b.left }) 0 unspent refl refl (omega arith) refl

taken_rises : (b : Books) → b.spent ≡ false → 1 ≤ b.left → Rise b 0 1 0 (mail_taken b)
taken_rises b unspent left =
    move_rises b (record b { left = b.left - min 1 b.left; taken = b.taken + min 1 b.left }) 1 unspent refl refl (omega (arith, left)) refl

served_rises : (n : ℕ) (b : Books) → b.spent ≡ false → Rise b 0 0 0 (waiters_completed n b)
served_rises zero b unspent = stay b unspent
served_rises (suc n) b unspent = let first = served_rises n b unspent in both first (completed_rises (waiters_completed n b) first.unspent)

-- ---- fronts

freed_books : (f : FrontState) (session : ℕ) → (freed f session).books ≡ f.books
freed_books f session = by (holder_of f.service.attachments session)
  where
    by : (o : Option ℕ) → (option_map_or (λ conn. parted f conn session) o f).books ≡ f.books
    by None = refl
    by (Some conn) = refl

released_books : (f : FrontState) (conn : ℕ) → (released f conn).books ≡ f.books
released_books f conn = by (session_on f.connections conn)
  where
    by : (o : Option ℕ) → (option_map_or (parted f conn) o f).books ≡ f.books
    by None = refl
    by (Some session) = refl

vacated_books : (f : FrontState) (session : ℕ) → (vacated f session).books ≡ f.books
vacated_books f session = by (is_closing f.service.attachments session)
  where
    by : (b : Bool) → (if b then record f { service = left f.service session } else f).books ≡ f.books
    by true = refl
    by false = refl

cut_books : (f : FrontState) → (cut f).books ≡ f.books
cut_books f = by (has_no_cut f)
  where
    by : (b : Bool) → (if b then f else record f { service = record f.service { pending = [] }; out = Some (record { first = f.durable; length = length f.service.pending }) }).books ≡ f.books
    by true = refl
    by false = refl

-- books of a front that are those of another
same_rises : (f g : FrontState) → f.books.spent ≡ false → g.books ≡ f.books → Rise f.books 0 0 0 g.books
same_rises f g unspent same = subst (Rise f.books 0 0 0) (sym same) (stay f.books unspent)

departed_rises : (f : FrontState) (conn : ℕ) → f.books.spent ≡ false → Rise f.books 0 0 0 (departed f conn).books
departed_rises f conn unspent = by (session_on f.connections conn)
  where
    by : (o : Option ℕ) → Rise f.books 0 0 0 (option_map_or (λ session. parted (withdrawn_from f session) conn session) o f).books
    by None = stay f.books unspent
    by (Some session) = withdrawn_rises _ f.books unspent

dropped_rises : (f : FrontState) (conn : ℕ) → f.books.spent ≡ false → Rise f.books 0 0 0 (dropped f conn).books
dropped_rises f conn unspent = by (is_connected f conn)
  where
    by : (b : Bool) → Rise f.books 0 0 0 (if b then unboxed (departed f conn) conn else f).books
    by true = let gone = departed_rises f conn unspent in both gone (box_rises (length (mails_on (departed f conn).connections conn)) (departed f conn).books gone.unspent)
    by false = stay f.books unspent

mailed_rises : (f : FrontState) (conn : ℕ) (m : Mail) → f.books.spent ≡ false → f.books.mails < 2 ^ 63 - 1 → Rise f.books 0 0 1 (mailed f conn m).books
mailed_rises f conn m unspent below = by (is_connected f conn) (nat_lt (length (mails_on f.connections conn)) 128)
  where
    full : Rise f.books 0 0 1 (mail_refused_by_box f.books)
    full = mail_rises f.books (record f.books { mails = f.books.mails + 1; dropped = f.books.dropped + 1 }) unspent below refl refl refl refl

    by : (a b : Bool) → Rise f.books 0 0 1 (if a then (if b then boxed f conn m else overflowed f conn) else f).books
    by false b = most (omega arith) (stay f.books unspent)
    by true true = mail_rises f.books (record f.books { mails = f.books.mails + 1; left = f.books.left + 1 }) unspent below refl refl refl refl
    by true false = both full (dropped_rises (record f { books = mail_refused_by_box f.books }) conn full.unspent)

-- ---- posting

delivered_rises : (f : FrontState) (e : Entry) (place : ℕ) → f.books.spent ≡ false → f.books.mails < 2 ^ 63 - 1 → Rise f.books 0 0 1 (delivered f e place).books
delivered_rises f e place unspent below = by (holder_of f.service.attachments (session_of e))
  where
    by : (o : Option ℕ) → Rise f.books 0 0 1 (option_map_or (λ conn. mailed f conn (mail_of e place)) o f).books
    by None = most (omega arith) (stay f.books unspent)
    by (Some conn) = mailed_rises f conn (mail_of e place) unspent below

entry_rises : (f : FrontState) (e : Entry) (place : ℕ) → f.books.spent ≡ false → f.books.mails < 2 ^ 63 - 1 → Rise f.books 0 0 1 (posted_entry f e place).books
entry_rises f (Attached session floor) place unspent below = delivered_rises f (Attached session floor) place unspent below
entry_rises f (Settled session floor) place unspent below = delivered_rises f (Settled session floor) place unspent below
entry_rises f (Finished session number request answer) place unspent below = delivered_rises f (Finished session number request answer) place unspent below
entry_rises f (Closed session) place unspent below =
    let g = delivered f (Closed session) place in
    subst (Rise f.books 0 0 1) (sym (vacated_books (freed g session) session ∙ freed_books g session)) (delivered_rises f (Closed session) place unspent below)

entries_rise : (f : FrontState) (es : List Entry) (place : ℕ) → f.books.spent ≡ false → f.books.mails + length es ≤ 2 ^ 63 - 1 → Rise f.books 0 0 (length es) (posted_all f es place).books
entries_rise f [] place unspent room = stay f.books unspent
entries_rise f (e ∷ es) place unspent room =
    let first = entry_rises f e place unspent (omega (arith, room)) in
    let rest = entries_rise (posted_entry f e place) es (place + 1) first.unspent (omega (arith, room, first.mails)) in
    most (omega arith) (both first rest)

-- a batch that is as the one that is out has no more entries than that may have
few_entries : (o : Option Out) (batch : Batch) → out_length o ≤ 4097 → IsOut o batch → length batch.entries ≤ 4097
few_entries None batch few out = absurd out
few_entries (Some o) batch few out = omega (arith, few, out.1)

posted_rises : (f : FrontState) (batch : Batch) → HaveRoom f.books 0 (length batch.entries) → Rise f.books 0 0 (length batch.entries) (posted f batch).books
posted_rises f batch room = entries_rise f batch.entries batch.first room.unspent room.few_mails

-- ---- calls

repeated_rises : (f : FrontState) (conn session number : ℕ) → HaveRoom f.books 1 1 → Rise f.books 1 0 1 (repeated f conn session number).books
repeated_rises f conn session number room = by (kept_at g session number)
  where
    g : FrontState
    g = record f { books = call_repeated f.books }

    once : Rise f.books 1 0 0 g.books
    once = call_rises f.books (record f.books { calls = f.books.calls + 1; repeated = f.books.repeated + 1 }) 1 room refl refl refl refl

    chosen : (b : Bool) (m : Mail) → Rise f.books 1 0 1 (if b then mailed g conn m else g).books
    chosen true m = both once (mailed_rises g conn m once.unspent (omega (arith, once.mails, room.few_mails)))
    chosen false m = most (omega arith) once

    by : (o : Option Kept) → Rise f.books 1 0 1 (option_map_or (λ (k : Kept). if nat_lt k.place g.durable then mailed g conn (mail.Answer session number k.answer k.place) else g) o g).books
    by None = most (omega arith) once
    by (Some k) = chosen (nat_lt k.place g.durable) (mail.Answer session number k.answer k.place)

called_rises : (f g : FrontState) (conn session number : ℕ) (request : Request) (o : Outcome) (es : List Entry) → HaveRoom f.books 1 1
    → Called f conn session number request o es g → Rise f.books 1 0 1 g.books
called_rises f g conn session number request (outcome.Completed n) es room r =
    let once = call_rises f.books (record f.books { calls = f.books.calls + 1; completed = f.books.completed + 1 }) 1 room refl refl refl refl in
    subst (λ (h : FrontState). Rise f.books 1 0 1 h.books) (sym r.rest)
    (most (omega arith) (both once (served_rises (length r.served) (call_completed f.books) once.unspent)))
called_rises f g conn session number request outcome.Waits es room r =
    subst (λ (h : FrontState). Rise f.books 1 0 1 h.books) (sym r.rest)
    (most (omega arith) (call_rises f.books (record f.books { calls = f.books.calls + 1; waiting = f.books.waiting + 1 }) 1 room refl refl refl refl))
called_rises f g conn session number request outcome.AlreadyWaiting es room r = subst (λ (h : FrontState). Rise f.books 1 0 1 h.books) (sym r.rest) (repeated_rises f conn session number room)
called_rises f g conn session number request outcome.SentAgain es room r = subst (λ (h : FrontState). Rise f.books 1 0 1 h.books) (sym r.rest) (repeated_rises f conn session number room)
called_rises f g conn session number request outcome.NotYetSynced es room r = subst (λ (h : FrontState). Rise f.books 1 0 1 h.books) (sym r.rest) (repeated_rises f conn session number room)

refused_rises : (f : FrontState) (mails : ℕ) → HaveRoom f.books 1 mails → Rise f.books 1 0 0 (call_refused_by f).books
refused_rises f mails room = call_rises f.books (record f.books { calls = f.books.calls + 1; refused = f.books.refused + 1 }) mails room refl refl refl refl

refused_to_rises : (f : FrontState) (conn number : ℕ) (refusal : Refusal) → HaveRoom f.books 1 1 → Rise f.books 1 0 1 (refused_to f conn number refusal).books
refused_to_rises f conn number refusal room =
    let once = refused_rises f 1 room in
    both once (mailed_rises (call_refused_by f) conn (mail.Refused number refusal) once.unspent (omega (arith, once.mails, room.few_mails)))

-- ---- a mail that is taken

-- a mail that is there is in a box, and the books count it as left
some_left : (f : FrontState) (conn : ℕ) → f.books.spent ≡ false → Balances f.books (len f.service.waiting) (mails_in f.connections)
    → IsSome (slice_get (mails_on f.connections conn) 0) → 1 ≤ f.books.left
some_left f conn unspent balance there = let one = mails_in-take f.connections conn there in let same = balance.left_is unspent in omega (arith, one, same)

take_rises : (f : FrontState) (conn : ℕ) (m : Option Mail) → f.books.spent ≡ false → Balances f.books (len f.service.waiting) (mails_in f.connections)
    → m ≡ slice_get (mails_on f.connections conn) 0 → Rise f.books 0 (taken_of (TakeMail conn m)) 0 (taken f conn).books
take_rises f conn m unspent balance is = subst (λ (o : Option Mail). Rise f.books 0 (taken_of (TakeMail conn o)) 0 (taken f conn).books) (sym is) (by (mails_on f.connections conn) left)
  where
    left : IsSome (slice_get (mails_on f.connections conn) 0) → 1 ≤ f.books.left
    left = some_left f conn unspent balance

    by : (ms : List Mail) → (IsSome (slice_get ms 0) → 1 ≤ f.books.left)
        → Rise f.books 0 (taken_of (TakeMail conn (slice_get ms 0))) 0 (if nat_lt 0 (length ms) then record f { connections = with_mails f.connections conn (drop 1 ms); books = mail_taken f.books } else f).books
    by [] some = stay f.books unspent
    by (x ∷ xs) some =
        subst (λ (b : Bool). Rise f.books 0 1 0 (if b then record f { connections = with_mails f.connections conn xs; books = mail_taken f.books } else f).books)
        (sym (lt-ltb 0 (length (x ∷ xs)) (omega arith))) (taken_rises f.books unspent (some refl))

-- ---- events

withdraws : (f g : FrontState) (n : ℕ) → f.books.spent ≡ false → g.books ≡ waiters_withdrawn n f.books → Rise f.books 0 0 0 g.books
withdraws f g n unspent is = subst (Rise f.books 0 0 0) (sym is) (withdrawn_rises n f.books unspent)

cancelled_rises : (f : FrontState) (conn session number : ℕ) → HaveRoom f.books 0 1 → Rise f.books 0 0 1 (cancelled_by f conn session number).books
cancelled_rises f conn session number room =
    let out = withdrawn_rises 1 f.books room.unspent in
    both out (mailed_rises (cancelled_from f session number) conn (mail.Withdrawn number) out.unspent (omega (arith, out.mails, room.few_mails)))

-- an event that leaves the front as a definition says
at_front : (f g h : FrontState) (called took many : ℕ) → g ≡ h → Rise f.books called took many h.books → Rise f.books called took many g.books
at_front f g h called took many is rises = subst (λ (x : FrontState). Rise f.books called took many x.books) (sym is) rises

events_rise : (f f' : FrontState) (event : Event) (es : List Entry) → IsFront f → HaveRoom f.books (calls_of event) (most_mails_of event) → FrontStep f event es f'
    → Rise f.books (calls_of event) (taken_of event) (most_mails_of event) f'.books
events_rise f f' (Connect conn) es front room step = same_rises f f' room.unspent (ap (λ (h : FrontState). h.books) step.1.front)
events_rise f f' (Attach conn session) es front room step =
    same_rises f f' room.unspent (ap (λ (h : FrontState). h.books) step.1.front ∙ freed_books (released f conn) session ∙ released_books f conn)
events_rise f f' (Call conn number request o) es front room step = called_rises f f' conn step.0 number request o es room step.2
events_rise f f' (Settle conn floor) es front room step = same_rises f f' room.unspent (ap (λ (h : FrontState). h.books) step.2.front)
events_rise f f' (Bye conn) es front room step = withdraws f f' _ room.unspent (ap (λ (h : FrontState). h.books) step.2.front)
events_rise f f' (Cancel conn number) es front room step = at_front f f' (cancelled_by f conn step.0 number) 0 0 1 step.2.front (cancelled_rises f conn step.0 number room)
events_rise f f' (Gone conn count) es front room step = at_front f f' (dropped f conn) 0 0 0 step.1.front (dropped_rises f conn room.unspent)
events_rise f f' (Cut batch) es front room step = same_rises f f' room.unspent (ap (λ (h : FrontState). h.books) step.1.front ∙ cut_books f)
events_rise f f' (Post batch) es front room step = at_front f f' (posted f batch) 0 0 (length batch.entries) step.1.front (posted_rises f batch room)
events_rise f f' (TakeMail conn m) es front room step = at_front f f' (taken f conn) 0 (taken_of (TakeMail conn m)) 0 step.1.front (take_rises f conn m room.unspent front.tied.balance step.0)
events_rise f f' (GiveMail conn m) es front room step = at_front f f' (mailed f conn m) 0 0 1 step.1.front (mailed_rises f conn m room.unspent (omega (arith, room.few_mails)))

few_mails : (f f' : FrontState) (event : Event) (es : List Entry) → IsFront f → FrontStep f event es f' → most_mails_of event ≤ 4097
few_mails f f' (Post batch) es front step = few_entries f.out batch front.tied.few_out step.0
few_mails f f' (Connect conn) es front step = omega arith
few_mails f f' (Attach conn session) es front step = omega arith
few_mails f f' (Call conn number request o) es front step = omega arith
few_mails f f' (Settle conn floor) es front step = omega arith
few_mails f f' (Bye conn) es front step = omega arith
few_mails f f' (Cancel conn number) es front step = omega arith
few_mails f f' (Gone conn count) es front step = omega arith
few_mails f f' (Cut batch) es front step = omega arith
few_mails f f' (TakeMail conn m) es front step = omega arith
few_mails f f' (GiveMail conn m) es front step = omega arith

few_calls : (event : Event) → calls_of event ≤ 1
few_calls (Call conn number request o) = omega arith
few_calls (Connect conn) = omega arith
few_calls (Attach conn session) = omega arith
few_calls (Settle conn floor) = omega arith
few_calls (Bye conn) = omega arith
few_calls (Cancel conn number) = omega arith
few_calls (Gone conn count) = omega arith
few_calls (Cut batch) = omega arith
few_calls (Post batch) = omega arith
few_calls (TakeMail conn m) = omega arith
few_calls (GiveMail conn m) = omega arith

pub books_rise : BooksRise
books_rise = record { rises = events_rise; few_mails = few_mails; refused = λ f room. refused_rises f 0 room; refused_to = refused_to_rises }
