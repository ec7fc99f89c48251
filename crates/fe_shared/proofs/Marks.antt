-- The front under a hall's lock follows the hall's history through each event.
use Rattle.std.proofs.Common.{◌≡◌, inl, inr, ℕ, ◌+◌, ◌<◌, ◌≤◌, Bool, true, false, List, [], ◌∷◌, ◌++◌, length, Option, Some, None, Result, Ok, Err, OnOk, OnErr, refl, sym, ap, subst, ◌∙◌, arith, append_assoc, length-append}
use Rattle.std.proofs.lemmas.Bool.Decides.{nat_tests}
use Rattle.std.proofs.lemmas.List.{append-nil, map-append}
use Rattle.std.proofs.lemmas.Option.{IfSome_then}
use Rattle.std.specs.Prelude.{IfSome, drop, is_some, nat_eq, nat_lt, not, slice_get, if◌then◌else◌, ◌||◌}
use Rattle.std.specs.List.{AllByRecursion}
use Rattle.std.specs.Option.{option_map, option_map_or}
use Rattle.std.specs.Ordering.{nat_cmp}
use Rattle.std.specs.FinMap.{get, get-empty}
use mathlib.Core.List.{IsPrefix}
use Rattle.fe_state.specs.Sessions.{kept_in}
use Rattle.fe_state.specs.State.{ServerState, after_all}
use Rattle.fe_state.specs.declared.batch.Batch.{Batch}
use Rattle.fe_state.specs.declared.entry.Entry.{Entry}
use Rattle.fe_state.specs.declared.entry.Entry.TheVariants.{Finished}
use Rattle.fe_state.specs.declared.kept.Kept.{Kept}
use Rattle.fe_state.specs.declared.request.Request.{Request}
use Rattle.fe_state.proofs.Histories.{after-append}
use Rattle.fe_mail.specs.Books.{mail_taken}
use Rattle.fe_mail.specs.Connections.{mails_on, with_mails, mail_of, session_of, session_on}
use Rattle.fe_mail.specs.declared.connection.Connection.{Connection}
use Rattle.fe_mail.specs.declared.mail.Mail.{Mail}
use Rattle.fe_mail.specs.declared.mail.Mail.TheVariants as mail
use Rattle.fe_wire.specs.declared.client_message.ClientMessage.{ClientMessage}
use Rattle.fe_wire.specs.declared.client_message.ClientMessage.TheVariants as message
use Rattle.fe_waits.specs.Waiting.{WaitingAccess}
use Rattle.fe_service.specs.Service.{request_of}
use Rattle.fe_service.proofs.Turns.{turns_place}
use Rattle.fe_front.specs.Front.{FrontState, IsFront}
use Rattle.fe_front.specs.Posting.{IsOut, posted, posted_entry}
use Rattle.fe_front.specs.Steps.{connected, cut, dropped, has_no_cut, taken}
use Rattle.fe_front.specs.declared.out.Out.{Out}
use Rattle.fe_front.proofs.Keeping.{dropped-keeps, posted_all-keeps}
use Rattle.fe_messages.specs.Answers.{AreAnswered}
use Rattle.fe_messages.specs.Taking.{Enters, Takes, AsksOnly, CallsOnly, FinishesOnly, HasOnly}
use Rattle.fe_messages.proofs.Answers.{KeepsBelow, answered-append, answered-split, finished_at, keeps_below, legal_answered}
use Rattle.fe_messages.proofs.Recorded.{kept_of, kept_after, cut_within}
use Rattle.fe_messages.proofs.Boxes.{AllIn, AllPosted, all_weaker, boxes-connected, boxes-dropped, boxes-posted_all, boxes-taken}
use Rattle.fe_messages.proofs.Boxing.{message_boxes}
use Rattle.fe_messages.proofs.AttachmentLaws.{Loses, addressed_has, connected_loses, dropped_loses, first_has, has_lost, has_more, message_has, posted_entry_loses, posted_loses, taken_loses}
use Rattle.fe_messages.proofs.WaitLaws.{ClosesIdle, ClosesNone, Fewer, connected_fewer, dropped_fewer, first_waits, message_closes, message_waits, none_open, posted_fewer, taken_fewer, waits_fewer, waits_more, waits_open}
use Rattle.fe_history.specs.declared.act.Act.{Act}
use Rattle.fe_history.specs.declared.act.Act.TheVariants.{Asked, Began, Called, Cut, Issued}
use Rattle.fe_history.specs.declared.receipt.Receipt.{Receipt}
use Rattle.fe_shared.specs.declared.taking.Taking.{Taking}
use Rattle.fe_shared.specs.declared.taking.Taking.TheVariants as taking
use Rattle.fe_history.specs.Acts.{AreOfCalls, IsLegal, WasCalled, WasCalledSince, WasCut, WasStoredLast, batches_of, cuts_in, entries_in, stores_in}
use Rattle.fe_shared.specs.Marks.{AskedIn, BoxesAsked, BoxesTellOfCalls, IsBegun, IsMarked, MayBeIssued, TellsOfCall, WaitsAreCalled, WasAskedFor, cut_entries, made_entries, out_batches, out_of}
use Rattle.fe_history.specs.Rules.{WasAppended, CutsAfter, Hears, pending_batch}
use Rattle.fe_history.specs.Receipts.{receipt_of}
use Rattle.fe_history.proofs.Acts.{answer_of_call_later, appended_rise, cut_few, cuts_append, cuts_rise, entries_append, entries_called_both, entries_called_later, finishes_more, one_cut, prefix_self, prefix_trans, prefix_whole, since_later, since_more, stands_last, stands_later, stored_cut, stored_rise, issued_may, may_from}

-- ---- answers in boxes

-- what a mail tells, it tells in more acts, where more batches are posted
tells_more : (begun : ServerState) (xs ys : List Act) (posted more : List Batch) → IsPrefix xs ys → IsPrefix posted more → (m : Mail) → TellsOfCall begun xs posted m → TellsOfCall begun ys more m
tells_more begun xs ys posted more p q m is = IfSome_then (receipt_of 0 m) is (λ (r : Receipt). answer_of_call_later begun xs ys posted more r p q)

boxes_more : (begun : ServerState) (xs ys : List Act) (posted more : List Batch) (f : FrontState) → IsPrefix xs ys → IsPrefix posted more → BoxesTellOfCalls begun xs posted f → BoxesTellOfCalls begun ys more f
boxes_more begun xs ys posted more f p q boxes conn =
    all_weaker (TellsOfCall begun xs posted) (TellsOfCall begun ys more) (tells_more begun xs ys posted more p q) (mails_on f.connections conn) (boxes conn)

-- the mails of entries that are posted tell their answers
posts_tell : (begun : ServerState) (acts : List Act) (posted : List Batch) (front es rest : List Entry) (place : ℕ) → AreAnswered begun (entries_in posted) → entries_in posted ≡ front ++ (es ++ rest)
    → place ≡ begun.place + length front → AllPosted (λ conn session. Unit {0}) (λ conn. TellsOfCall begun acts posted) es place
posts_tell begun acts posted front [] rest place answered is at = tt
posts_tell begun acts posted front (e ∷ es) rest place answered is at = (
  λ conn may. of e is,
  posts_tell begun acts posted (front ++ e ∷ []) es rest (place + 1) answered (is ∙ sym (append_assoc front (e ∷ []) (es ++ rest))) (let many = length-append front (e ∷ []) in omega (arith, at, many)),
)
  where
    of : (e : Entry) → entries_in posted ≡ front ++ (e ∷ (es ++ rest)) → TellsOfCall begun acts posted (mail_of e place)
    of (Finished session number request answer) is = inr (finished_at begun (entries_in posted) front (es ++ rest) session number request answer place answered is at)
    of _ is = tt

-- the mails of entries that are posted are of sessions that those who have them asked for
posts_asked : (acts : List Act) (es : List Entry) (place : ℕ) → AllPosted (AskedIn acts) (WasAskedFor acts) es place
posts_asked acts [] place = tt
posts_asked acts (e ∷ es) place = (λ conn may. of conn e may, posts_asked acts es (place + 1))
  where
    of : (conn : ℕ) (e : Entry) → AskedIn acts conn (session_of e) → WasAskedFor acts conn (mail_of e place)
    of conn (Finished session number request answer) may = may
    of conn _ may = tt

-- what was asked for stays asked for
asked_more : (xs ys : List Act) → IsPrefix xs ys → (conn session : ℕ) → AskedIn xs conn session → AskedIn ys conn session
asked_more xs ys p conn session asked = stands_later xs ys (Asked conn session) p asked

was_more : (xs ys : List Act) → IsPrefix xs ys → (conn : ℕ) (m : Mail) → WasAskedFor xs conn m → WasAskedFor ys conn m
was_more xs ys p conn m asked = IfSome_then (receipt_of conn m) asked (λ (r : Receipt). asked_more xs ys p conn r.session)

boxes_asked_more : (xs ys : List Act) (f : FrontState) → IsPrefix xs ys → BoxesAsked xs f → BoxesAsked ys f
boxes_asked_more xs ys f p boxes conn = all_weaker (WasAskedFor xs conn) (WasAskedFor ys conn) (was_more xs ys p conn) (mails_on f.connections conn) (boxes conn)

-- ---- requests that wait

-- what waits was called in more acts
waits_later : (begun : ServerState) (xs ys : List Act) (es : List Entry) (f : FrontState) → IsPrefix xs ys → WaitsAreCalled begun xs es f → WaitsAreCalled begun ys es f
waits_later begun xs ys es f p = waits_more (WasCalledSince begun xs es) (WasCalledSince begun ys es) f (λ session number request. since_later begun xs ys es session number request p)

-- and since then, if more entries come that close no session for which a request waits
waits_since : (begun : ServerState) (acts : List Act) (all es : List Entry) (g : FrontState) → ClosesIdle es g → WaitsAreCalled begun acts all g → WaitsAreCalled begun acts (all ++ es) g
waits_since begun acts all es g closes only key = by (get g.service.waiting key) refl (only key)
  where
    by : (o : Option WaitingAccess) → get g.service.waiting key ≡ o → IfSome o (λ w. WasCalledSince begun acts all key.0 key.1 (request_of w)) → IfSome o (λ w. WasCalledSince begun acts (all ++ es) key.0 key.1 (request_of w))
    by None is was = tt
    by (Some w) is was = since_more begun acts all es key.0 key.1 (request_of w) (waits_open es g key w closes is) was

-- entries that close no session are of calls since which no session was closed, if each is of a call before them
entries_open : (begun : ServerState) (acts : List Act) (all es : List Entry) → AllByRecursion ClosesNone es → AllByRecursion (FinishesOnly (WasCalledSince begun acts all)) es → AreOfCalls begun acts all es
entries_open begun acts all [] none calls = tt
entries_open begun acts all (e ∷ es) none calls =
    let more : List Entry = all ++ e ∷ [] in
    let rises : (session number : ℕ) (request : Request) → WasCalledSince begun acts all session number request → WasCalledSince begun acts more session number request =
    λ session number request. since_more begun acts all (e ∷ []) session number request (none_open session e none.0, tt) in (
      calls.0,
      entries_open begun acts more es none.1
          (all_weaker (FinishesOnly (WasCalledSince begun acts all)) (FinishesOnly (WasCalledSince begun acts more)) (finishes_more (WasCalledSince begun acts all) (WasCalledSince begun acts more) rises) es calls.1),
    )

entries_since : (begun : ServerState) (acts : List Act) (all es : List Entry) (g : FrontState) → ClosesIdle es g → AllByRecursion (FinishesOnly (WasCalledSince begun acts all)) es → AreOfCalls begun acts all es
entries_since begun acts all es g (inl none) calls = entries_open begun acts all es none calls
entries_since begun acts all es g (inr (session, is, idle)) calls = subst (λ (xs : List Entry). AreOfCalls begun acts all xs) (sym is) (tt, tt)

-- ---- events that make nothing

-- a hall begins
pub begun_marked : (f : FrontState) (acts : List Act) → IsBegun f acts → IsLegal acts → IsMarked f 0 acts
begun_marked f acts (begun, first, begins) legal = record {
  begun = begun;
  begins = ([], sym begins);
  is_legal = legal;
  posted = [];
  out = None;
  counted = refl;
  stored = (batches_of (stores_in acts), refl);
  cut = (cuts_in acts, refl);
  same_out = first.out;
  durable = omega (arith, first.durable);
  state = first.state ∙ sym (ap (λ (es : List Entry). after_all begun es) first.pending);
  answered = subst (λ (es : List Entry). AreAnswered begun es) (sym first.pending) tt;
  boxes = λ conn. subst (λ (ms : List Mail). AllByRecursion (TellsOfCall begun acts []) ms) (sym (none conn)) tt;
  pending_called = subst (λ (es : List Entry). AreOfCalls begun acts (cut_entries [] None) es) (sym first.pending) tt;
  waiting_called = first_waits (WasCalledSince begun acts (made_entries [] None f)) begun f first;
  has = first_has (AskedIn acts) begun f first;
  asked = λ conn. subst (λ (ms : List Mail). AllByRecursion (WasAskedFor acts conn) ms) (sym (none conn)) tt;
}
  where
    none : (conn : ℕ) → mails_on f.connections conn ≡ []
    none conn = ap (λ m. mails_on m conn) first.connections ∙ ap (λ o. option_map_or (λ (c : Connection). c.mails) o []) (get-empty nat_cmp conn)

-- these entries come, which are answered; the batch that is out and the mark stay
record Grows (f : FrontState) (es : List Entry) (g : FrontState) : Type 0 where
  pub state : g.service.state ≡ after_all f.service.state es
  pub answered : AreAnswered f.service.state es
  pub pending : g.service.pending ≡ f.service.pending ++ es
  pub out : g.out ≡ f.out
  pub durable : g.durable ≡ f.durable

-- what follows of the entries that come, of the boxes and of those that wait after it
grown_marked : (f g : FrontState) (es : List Entry) (count : ℕ) (acts : List Act) → Grows f es g → (m : IsMarked f count acts) → BoxesTellOfCalls m.begun acts m.posted g
    → AreOfCalls m.begun acts (made_entries m.posted m.out f) es → WaitsAreCalled m.begun acts (made_entries m.posted m.out f ++ es) g → HasOnly (AskedIn acts) g → BoxesAsked acts g → IsMarked g count acts
grown_marked f g es count acts grows m boxes called waits has asked =
    let front : List Entry = entries_in m.posted in
    let outs : List Entry = entries_in (out_batches m.out) in
    let pending : List Entry = f.service.pending in
    let all : List Entry = made_entries m.posted m.out f in
    let made : all ++ es ≡ made_entries m.posted m.out g =
    append_assoc front (outs ++ pending) es ∙ ap (λ (xs : List Entry). front ++ xs) (append_assoc outs pending es ∙ ap (λ (xs : List Entry). outs ++ xs) (sym grows.pending)) in
    record {
      begun = m.begun;
      begins = m.begins;
      is_legal = m.is_legal;
      posted = m.posted;
      out = m.out;
      counted = m.counted;
      stored = m.stored;
      cut = m.cut;
      same_out = grows.out ∙ m.same_out;
      durable = grows.durable ∙ m.durable;
      state =
          grows.state ∙ ap (λ (s : ServerState). after_all s es) m.state ∙ sym (after-append m.begun all es)
          ∙ ap (λ (xs : List Entry). after_all m.begun xs) made;
      answered =
          subst (λ (xs : List Entry). AreAnswered m.begun xs) made
          (answered-append m.begun all es m.answered (subst (λ (s : ServerState). AreAnswered s es) m.state grows.answered));
      boxes = boxes;
      pending_called =
          subst (λ (xs : List Entry). AreOfCalls m.begun acts (cut_entries m.posted m.out) xs) (sym grows.pending)
          (entries_called_both m.begun acts (cut_entries m.posted m.out) pending es m.pending_called
          (subst (λ (xs : List Entry). AreOfCalls m.begun acts xs es) (sym (append_assoc front outs pending)) called));
      waiting_called = subst (λ (xs : List Entry). WaitsAreCalled m.begun acts xs g) made waits;
      has = has;
      asked = asked;
    }

-- no entry comes
grows_none : (f g : FrontState) → g.service.state ≡ f.service.state → g.service.pending ≡ f.service.pending → g.out ≡ f.out → g.durable ≡ f.durable → Grows f [] g
grows_none f g state pending out durable = record { state = state; answered = tt; pending = pending ∙ sym (append-nil f.service.pending); out = out; durable = durable }

remains_marked : (f g : FrontState) (count : ℕ) (acts : List Act) → Grows f [] g → Loses f g → Fewer f g → ((P : ℕ → Mail → Type 0) → AllIn P f.connections → AllIn P g.connections)
    → IsMarked f count acts → IsMarked g count acts
remains_marked f g count acts same loses fewer boxes m =
    let all : List Entry = made_entries m.posted m.out f in
    grown_marked f g [] count acts same m (boxes (λ conn. TellsOfCall m.begun acts m.posted) m.boxes) tt
    (subst (λ (es : List Entry). WaitsAreCalled m.begun acts es g) (sym (append-nil all)) (waits_fewer (WasCalledSince m.begun acts all) f g fewer m.waiting_called))
    (has_lost (AskedIn acts) f g loses m.has) (boxes (WasAskedFor acts) m.asked)

pub marked_still : (f g : FrontState) (count : ℕ) (acts : List Act) → g ≡ f → IsMarked f count acts → IsMarked g count acts
marked_still f g count acts same marked = subst (λ (h : FrontState). IsMarked h count acts) (sym same) marked

pub connected_marked : {A E : Type 0} (f g : FrontState) (conn : ℕ) (result : Result A E) (count : ℕ) (acts : List Act) → OnOk result (g ≡ connected f conn) → OnErr result (g ≡ f)
    → IsMarked f count acts → IsMarked g count acts
connected_marked f g conn (Ok u) count acts is err marked =
    marked_still (connected f conn) g count acts is
    (remains_marked f (connected f conn) count acts (grows_none f (connected f conn) refl refl refl refl) (connected_loses f conn) (connected_fewer f conn)
    (λ P. boxes-connected P f conn) marked)
connected_marked f g conn (Err e) count acts ok is marked = marked_still f g count acts is marked

pub gone_marked : (f g : FrontState) (conn count : ℕ) (acts : List Act) → g ≡ dropped f conn → IsMarked f count acts → IsMarked g count acts
gone_marked f g conn count acts is marked =
    let keeps = dropped-keeps f conn in
    marked_still (dropped f conn) g count acts is
    (remains_marked f (dropped f conn) count acts (grows_none f (dropped f conn) keeps.state keeps.pending keeps.out keeps.durable)
    (dropped_loses f conn) (dropped_fewer f conn) (λ P. boxes-dropped P f conn) marked)

pub taken_marked : (f g : FrontState) (conn count : ℕ) (acts : List Act) → g ≡ taken f conn → IsMarked f count acts → IsMarked g count acts
taken_marked f g conn count acts is marked =
    marked_still (taken f conn) g count acts is
    (remains_marked f (taken f conn) count acts (by (nat_lt 0 (length (mails_on f.connections conn)))) (taken_loses f conn) (taken_fewer f conn) (λ P. boxes-taken P f conn) marked)
  where
    by : (b : Bool) → Grows f [] (if b then record f { connections = with_mails f.connections conn (drop 1 (mails_on f.connections conn)); books = mail_taken f.books } else f)
    by true = grows_none f _ refl refl refl refl
    by false = grows_none f f refl refl refl refl

-- a history that goes on
later_marked : (f : FrontState) (count : ℕ) (acts later : List Act) → IsPrefix acts later → IsLegal later → IsMarked f count acts → IsMarked f count later
later_marked f count acts later p legal m =
    record {
      begun = m.begun;
      begins = prefix_trans (Began m.begun ∷ []) acts later m.begins p;
      is_legal = legal;
      posted = m.posted;
      out = m.out;
      counted = m.counted;
      stored = prefix_trans m.posted (batches_of (stores_in acts)) (batches_of (stores_in later)) m.stored (stored_rise acts later p);
      cut = prefix_trans (m.posted ++ out_batches m.out) (cuts_in acts) (cuts_in later) m.cut (cuts_rise acts later p);
      same_out = m.same_out;
      durable = m.durable;
      state = m.state;
      answered = m.answered;
      boxes = boxes_more m.begun acts later m.posted m.posted f p (prefix_self m.posted) m.boxes;
      pending_called = entries_called_later m.begun acts later (cut_entries m.posted m.out) f.service.pending p m.pending_called;
      waiting_called = waits_later m.begun acts later (made_entries m.posted m.out f) f p m.waiting_called;
      has = has_more (AskedIn acts) (AskedIn later) f (asked_more acts later p) m.has;
      asked = boxes_asked_more acts later f p m.asked;
    }

-- what is heard is added
hears_rises : (acts : List Act) (conn : ℕ) (had : Option ℕ) (place : ℕ) (m : ClientMessage) (later : List Act) → Hears acts conn had place m later → IsPrefix acts later
hears_rises acts conn had place (message.Attach session) later h = appended_rise acts later (Asked conn session) h
hears_rises acts conn (Some session) place (message.Call number request) later h = appended_rise acts later (Called conn session number request place) h
hears_rises acts conn had place _ later h = subst (λ (zs : List Act). IsPrefix acts zs) (sym h) (prefix_self acts)

-- a message asks for a session that the history heard of
hears_asks : (acts : List Act) (conn : ℕ) (had : Option ℕ) (place : ℕ) (m : ClientMessage) (later : List Act) → Hears acts conn had place m later → AsksOnly (AskedIn later conn) m
hears_asks acts conn had place (message.Attach session) later h = stands_last h.earlier later (Asked conn session) h.is
hears_asks acts conn had place _ later h = tt

-- and calls a request that the history heard of, at the place that the entries made so far lead to
hears_calls : (begun : ServerState) (all : List Entry) (acts : List Act) (conn : ℕ) (had : Option ℕ) (place : ℕ) (m : ClientMessage) (later : List Act) → place ≡ begun.place + length all → Hears acts conn had place m later
    → CallsOnly (WasCalledSince begun later all) had m
hears_calls begun all acts conn had place (message.Attach session) later at h = tt
hears_calls begun all acts conn (Some session) place (message.Call number request) later at h = record {
  conn = conn;
  place = place;
  called = stands_last h.earlier later (Called conn session number request place) h.is;
  before = all;
  since = [];
  entries_are = sym (append-nil all);
  at = at;
  not_closed = tt;
}
hears_calls begun all acts conn had place _ later at h = tt

-- the session that a connection has is one that it asked for
pub had_asked : (f : FrontState) (conn count : ℕ) (acts : List Act) → IsMarked f count acts → IfSome (session_on f.connections conn) (λ session. AskedIn acts conn session)
had_asked f conn count acts m = by (session_on f.connections conn) refl
  where
    by : (o : Option ℕ) → session_on f.connections conn ≡ o → IfSome o (λ session. AskedIn acts conn session)
    by None is = tt
    by (Some session) is = m.has.sessions conn session is

-- a batch that was posted has an entry, or more
pub posted_few : (f : FrontState) (count : ℕ) (acts : List Act) → IsMarked f count acts → count ≤ f.durable
posted_few f count acts m =
    let few = cut_few m.begun acts m.posted (out_batches m.out) m.begins m.is_legal m.cut in
    omega (arith, m.counted, m.durable, few)

-- ---- messages that are taken

-- An answer that is kept and durable is that of the call that brings it again, if its request was called.
kept_answers : (begun : ServerState) (acts : List Act) (posted : List Batch) (rest : List Entry) (session number : ℕ) (k : Kept) → AreAnswered begun (entries_in posted ++ rest) → KeepsBelow begun
    → kept_of (after_all begun (entries_in posted ++ rest)) session number ≡ Some k → k.place < begun.place + length (entries_in posted) → WasCalled acts session number k.request
    → TellsOfCall begun acts posted (mail.Answer session number k.answer k.place)
kept_answers begun acts posted rest session number k all limits kept below called = elim (kept_after begun (entries_in posted ++ rest) session number k kept) [
  | inl was ↦ inl (record { request = k.request; kept = was; earlier = limits session number k was }, called)
  | inr r ↦
      let (behind, is) = cut_within (entries_in posted) rest r.before r.behind (Finished session number k.request k.answer) r.entries (omega (arith, r.at, below)) in
      inr (finished_at begun (entries_in posted) r.before behind session number k.request k.answer k.place (answered-split begun (entries_in posted) rest all).0 is r.at)
]

-- what was called since was called
was_called : (begun : ServerState) (acts : List Act) (es : List Entry) (session number : ℕ) (request : Request) → WasCalledSince begun acts es session number request → WasCalled acts session number request
was_called begun acts es session number request c = (c.conn, c.place, c.called)

takes_marked : (f g : FrontState) (conn : ℕ) (m : ClientMessage) (es : List Entry) (count : ℕ) (acts : List Act) → Enters f es g → Takes f conn m es g → AsksOnly (AskedIn acts conn) m → (marked : IsMarked f count acts)
    → CallsOnly (WasCalledSince marked.begun acts (made_entries marked.posted marked.out f)) (session_on f.connections conn) m → IsMarked g count acts
takes_marked f g conn sent es count acts enters takes asks m calls =
    let begun : ServerState = m.begun in
    let rest : List Entry = entries_in (out_batches m.out) ++ f.service.pending in
    let all : List Entry = made_entries m.posted m.out f in
    let Called' : ℕ → ℕ → Request → Type 0 = WasCalledSince begun acts all in
    let waits = message_waits Called' f g conn sent es takes calls m.waiting_called in
    let closes : ClosesIdle es g = message_closes f g conn sent es takes in
    grown_marked f g es count acts
    (record { state = enters.state; answered = legal_answered f.service.state es enters.legal; pending = enters.pending; out = enters.out; durable = enters.durable }) m
    (message_boxes (λ q. TellsOfCall begun acts m.posted) (λ q number r. tt) (λ q number. tt) (λ q text. tt) f conn g sent es
    (λ session number k is_call to is below.
    kept_answers begun acts m.posted rest session number k m.answered (keeps_below begun (subst IsLegal (sym m.begins.1) m.is_legal).0)
    (sym (ap (λ (s : ServerState). kept_in (get s.sessions session) number) m.state) ∙ is) (omega (arith, m.durable, below))
    (was_called begun acts all session number k.request
    (subst (λ (o : Option ℕ). CallsOnly Called' o (message.Call number k.request)) (addressed_has f conn number session to)
    (subst (λ (c : ClientMessage). CallsOnly Called' (session_on f.connections conn) c) is_call calls))))
    takes m.boxes)
    (entries_since begun acts all es g closes waits.1) (waits_since begun acts all es g closes waits.0) (message_has (AskedIn acts) f g conn sent es asks takes m.has)
    (message_boxes (WasAskedFor acts) (λ q number r. tt) (λ q number. tt) (λ q text. tt) f conn g sent es
    (λ session number k is_call to is below. m.has.sessions conn session (addressed_has f conn number session to)) takes m.asked)

-- a message that the history hears is taken
pub heard_marked : (f g : FrontState) (conn : ℕ) (m : ClientMessage) (es : List Entry) (count : ℕ) (acts later : List Act) → Hears acts conn (session_on f.connections conn) f.service.state.place m later → IsLegal later
    → Enters f es g → Takes f conn m es g → IsMarked f count acts → IsMarked g count later
unfolding later_marked
heard_marked f g conn message es count acts later heard legal enters takes m =
    let had : Option ℕ = session_on f.connections conn in
    let place : ℕ = f.service.state.place in
    let all : List Entry = made_entries m.posted m.out f in
    let at : place ≡ m.begun.place + length all = ap (λ (s : ServerState). s.place) m.state ∙ turns_place m.begun all in
    takes_marked f g conn message es count later enters takes (hears_asks acts conn had place message later heard)
    (later_marked f count acts later (hears_rises acts conn had place message later heard) legal m) (hears_calls m.begun all acts conn had place message later at heard)

-- ---- batches that are cut

none_there : (o : Option Out) (b : Bool) → (is_some o || b) ≡ false → (o ≡ None) × (b ≡ false)
none_there None b is = (refl, is)
none_there (Some o) b is = absurd (cc is)

no_batch : (o : Option Out) (out : Option Batch) → o ≡ None → o ≡ option_map out_of out → out ≡ None
no_batch o None none is = refl
no_batch o (Some b) none is = absurd (cc (sym none ∙ is))

module _ (f : FrontState) (count : ℕ) (acts : List Act) (m : IsMarked f count acts) (some : has_no_cut f ≡ false) where
  no_out : m.out ≡ None
  no_out = no_batch f.out m.out (none_there f.out (nat_eq (length f.service.pending) 0) some).0 m.same_out

  posted_cut : IsPrefix m.posted (cuts_in acts)
  posted_cut = subst (λ (bs : List Batch). IsPrefix bs (cuts_in acts)) (append-nil m.posted) (subst (λ (o : Option Batch). IsPrefix (m.posted ++ out_batches o) (cuts_in acts)) no_out m.cut)

  pub cut_next : CutsAfter acts count (pending_batch f)
  cut_next = record {
    begun = m.begun;
    begins = m.begins;
    before = m.posted;
    stored = m.stored;
    counted = m.counted;
    first = m.durable;
    some = by (length f.service.pending) (none_there f.out (nat_eq (length f.service.pending) 0) some).1;
    called = subst (λ (xs : List Entry). AreOfCalls m.begun acts xs f.service.pending) (ap (λ (o : Option Batch). cut_entries m.posted o) no_out ∙ append-nil (entries_in m.posted)) m.pending_called;
  }
    where
      by : (n : ℕ) → nat_eq n 0 ≡ false → 0 < n
      by n is = grind (arith, nat_tests)

  module _ (later : List Act) (legal : IsLegal later) (c : WasAppended acts (Cut (pending_batch f)) later) (many : length (cuts_in c.earlier) ≡ count) where
    all_cut : cuts_in later ≡ m.posted ++ pending_batch f ∷ []
    all_cut =
        let before : IsPrefix m.posted (cuts_in c.earlier) = prefix_trans m.posted (cuts_in acts) (cuts_in c.earlier) posted_cut (cuts_rise acts c.earlier c.seen) in
        let same : cuts_in c.earlier ≡ m.posted = prefix_whole m.posted (cuts_in c.earlier) before (many ∙ m.counted) in
        ap cuts_in c.is ∙ cuts_append c.earlier (Cut (pending_batch f) ∷ []) ∙ ap (λ (bs : List Batch). bs ++ pending_batch f ∷ []) same

    last_cut : IsPrefix (m.posted ++ pending_batch f ∷ []) (cuts_in later)
    last_cut = ([], append-nil (m.posted ++ pending_batch f ∷ []) ∙ sym all_cut)

    pub cut_was : WasCut later count (pending_batch f)
    cut_was = (m.posted, sym m.counted, last_cut)

    pub cut_marked : (g : FrontState) → g ≡ cut f → IsMarked g count later
    unfolding later_marked
    cut_marked g is =
        let h : FrontState = record f { service = record f.service { pending = [] }; out = Some (record { first = f.durable; length = length f.service.pending }) } in
        let now : g ≡ h = is ∙ ap (λ (b : Bool). if b then f else h) some in
        let rises : IsPrefix acts later = appended_rise acts later (Cut (pending_batch f)) c in
        let after = later_marked f count acts later rises legal m in
        let pending : List Entry = f.service.pending in
        let made : made_entries m.posted m.out f ≡ made_entries m.posted (Some (pending_batch f)) h =
        ap (λ (o : Option Batch). made_entries m.posted o f) no_out ∙ ap (λ (es : List Entry). entries_in m.posted ++ es) (sym (append-nil (pending ++ []) ∙ append-nil pending)) in
        marked_still h g count later now (record {
          begun = m.begun;
          begins = after.begins;
          is_legal = legal;
          posted = m.posted;
          out = Some (pending_batch f);
          counted = m.counted;
          stored = after.stored;
          cut = last_cut;
          same_out = refl;
          durable = m.durable;
          state = m.state ∙ ap (λ (es : List Entry). after_all m.begun es) made;
          answered = subst (λ (es : List Entry). AreAnswered m.begun es) made m.answered;
          boxes = after.boxes;
          pending_called = tt;
          waiting_called = subst (λ (xs : List Entry). WaitsAreCalled m.begun later xs h) made after.waiting_called;
          has = has_lost (AskedIn later) f h (record { holders = λ session conn is. is; sessions = λ conn session is. is }) after.has;
          asked = after.asked;
        })

-- ---- batches that are posted

module _ (f g : FrontState) (batch : Batch) (count : ℕ) (acts seat later : List Act) (legal : IsLegal later) (p : IsPrefix acts later) (q : IsPrefix seat later) (last : WasStoredLast seat batch) (front : IsFront f)
    (is_out : IsOut f.out batch) (is : g ≡ posted f batch) (m : IsMarked f count acts) where
  -- what is marked of a front whose batch that is out is this
  abbrev WithOut : Option Batch → Type 0
  WithOut o = IsPrefix (m.posted ++ out_batches o) (cuts_in acts) × (f.out ≡ option_map out_of o) × (f.service.state ≡ after_all m.begun (made_entries m.posted o f))
      × AreAnswered m.begun (made_entries m.posted o f) × AreOfCalls m.begun acts (cut_entries m.posted o) f.service.pending × WaitsAreCalled m.begun acts (made_entries m.posted o f) f

  abbrev before : List Batch
  before = batches_of last.0

  stored_last : IsPrefix (before ++ batch ∷ []) (batches_of (stores_in later))
  stored_last =
      let all : batches_of (stores_in seat) ≡ before ++ batch ∷ [] = ap batches_of last.2 ∙ map-append (λ (s : Batch × ℕ). s.0) last.0 ((batch, last.1) ∷ []) in
      subst (λ (bs : List Batch). IsPrefix bs (batches_of (stores_in later))) all (stored_rise seat later q)

  with_batch : (b : Batch) → WithOut (Some b) → IsMarked g (count + 1) later
  with_batch b (was_cut, out, state, answered, pending_was, waiting_was) =
      let begun : ServerState = m.begun in
      let begins = prefix_trans (Began begun ∷ []) acts later m.begins p in
      let same_place : IsOut (Some (out_of b)) batch = subst (λ (o : Option Out). IsOut o batch) out is_out in
      let first : b.first ≡ f.durable = subst (λ (o : Option Out). IfSome o (λ x. x.first ≡ f.durable)) out front.tied.out_first in
      let here : IsPrefix (m.posted ++ b ∷ []) (cuts_in later) = prefix_trans (m.posted ++ b ∷ []) (cuts_in acts) (cuts_in later) was_cut (cuts_rise acts later p) in
      let there : IsPrefix (before ++ batch ∷ []) (cuts_in later) =
      prefix_trans (before ++ batch ∷ []) (batches_of (stores_in later)) (cuts_in later) stored_last (stored_cut begun later begins legal) in
      let one = one_cut begun later m.posted before b batch begins legal here there (sym same_place.0) in
      let now : List Batch = m.posted ++ batch ∷ [] in
      let pending : List Entry = f.service.pending in
      let entries : entries_in now ≡ entries_in m.posted ++ entries_in (batch ∷ []) = entries_append m.posted (batch ∷ []) in
      let size : length (batch.entries ++ []) ≡ length batch.entries = ap length (append-nil batch.entries) in
      let same_pending : g.service.pending ≡ pending = ap (λ (h : FrontState). h.service.pending) is ∙ (posted_all-keeps f batch.entries batch.first).pending in
      let made : made_entries m.posted (Some b) f ≡ made_entries now None g =
      ap (λ (x : Batch). made_entries m.posted (Some x) f) one.1 ∙ sym (append_assoc (entries_in m.posted) (entries_in (batch ∷ [])) pending) ∙ ap (λ (es : List Entry). es ++ pending) (sym entries)
      ∙ ap (λ (es : List Entry). entries_in now ++ es) (sym same_pending) in
      let same_cuts : cut_entries m.posted (Some b) ≡ cut_entries now None =
      ap (λ (x : Batch). cut_entries m.posted (Some x)) one.1 ∙ sym entries ∙ sym (append-nil (entries_in now)) in
      let all : AreAnswered begun (made_entries now None g) = subst (λ (es : List Entry). AreAnswered begun es) made answered in
      let posts : AllPosted (λ conn session. Unit {0}) (λ conn. TellsOfCall begun later now) batch.entries batch.first =
      posts_tell begun later now (entries_in m.posted) batch.entries [] batch.first (answered-split begun (entries_in now) (g.service.pending) all).0 entries (omega (arith, same_place.0, first, m.durable)) in
      let old_boxes : BoxesTellOfCalls begun later now f = boxes_more begun acts later m.posted now f p (batch ∷ [], refl) m.boxes in
      let has : HasOnly (AskedIn later) f = has_more (AskedIn acts) (AskedIn later) f (asked_more acts later p) m.has in
      record {
        begun = begun;
        begins = begins;
        is_legal = legal;
        posted = now;
        out = None;
        counted = omega (arith, m.counted, length-append m.posted (batch ∷ []));
        stored = subst (λ (bs : List Batch). IsPrefix (bs ++ batch ∷ []) (batches_of (stores_in later))) (sym one.0) stored_last;
        cut = subst (λ (bs : List Batch). IsPrefix bs (cuts_in later)) (sym (append-nil now)) (subst (λ (x : Batch). IsPrefix (m.posted ++ x ∷ []) (cuts_in later)) one.1 here);
        same_out = ap (λ (h : FrontState). h.out) is;
        durable =
            let mark = ap (λ (h : FrontState). h.durable) is in
            let many = ap length entries ∙ length-append (entries_in m.posted) (entries_in (batch ∷ [])) in
            omega (arith, mark, same_place.0, first, m.durable, many, size);
        state = ap (λ (h : FrontState). h.service.state) is ∙ (posted_all-keeps f batch.entries batch.first).state ∙ state ∙ ap (λ (es : List Entry). after_all begun es) made;
        answered = all;
        boxes =
            subst (λ (h : FrontState). BoxesTellOfCalls begun later now h) (sym is)
            (boxes-posted_all (λ conn. TellsOfCall begun later now) (λ conn session. Unit {0}) (λ h. Unit {0}) (λ h has session conn holds. tt) (λ h e place has. tt) f batch.entries batch.first posts tt old_boxes);
        pending_called =
            subst (λ (es : List Entry). AreOfCalls begun later (cut_entries now None) es) (sym same_pending)
            (subst (λ (xs : List Entry). AreOfCalls begun later xs pending) same_cuts (entries_called_later begun acts later (cut_entries m.posted (Some b)) pending p pending_was));
        waiting_called =
            subst (λ (h : FrontState). WaitsAreCalled begun later (made_entries now None g) h) (sym is)
            (waits_fewer (WasCalledSince begun later (made_entries now None g)) f (posted f batch) (posted_fewer f batch)
            (subst (λ (xs : List Entry). WaitsAreCalled begun later xs f) made (waits_later begun acts later (made_entries m.posted (Some b) f) f p waiting_was)));
        has = subst (λ (h : FrontState). HasOnly (AskedIn later) h) (sym is) (has_lost (AskedIn later) f (posted f batch) (posted_loses f batch) has);
        asked =
            subst (λ (h : FrontState). BoxesAsked later h) (sym is)
            (boxes-posted_all (WasAskedFor later) (AskedIn later) (HasOnly (AskedIn later)) (λ h has session conn is. has.holders session conn is)
            (λ h e place has. has_lost (AskedIn later) h (posted_entry h e place) (posted_entry_loses h e place) has) f batch.entries batch.first (posts_asked later batch.entries batch.first) has (boxes_asked_more acts later f p m.asked));
      }

  pub posted_marked : IsMarked g (count + 1) later
  posted_marked = by m.out (m.cut, m.same_out, m.state, m.answered, m.pending_called, m.waiting_called)
    where
      by : (o : Option Batch) → WithOut o → IsMarked g (count + 1) later
      by None w = absurd (subst (λ (o : Option Out). IsOut o batch) w.1 is_out)
      by (Some b) w = with_batch b w

-- ---- what may be issued

-- what is first in a box is as each mail in it
first_in : (P : Mail → Type 0) (m : Mail) (ms : List Mail) → Some m ≡ slice_get ms 0 → AllByRecursion P ms → P m
first_in P m [] is all = absurd (cc is)
first_in P m (x ∷ ms) is all = let same : x ≡ m = cc is in subst P same all.0

-- what is first in a box may be issued
pub first_may : (f : FrontState) (conn : ℕ) (m : Mail) (more : Bool) (count : ℕ) (acts : List Act) → Some m ≡ slice_get (mails_on f.connections conn) 0 → IsMarked f count acts → MayBeIssued conn (taking.Mail m more) acts
first_may f conn m more count acts first marked =
    by m (first_in (TellsOfCall marked.begun acts marked.posted) m (mails_on f.connections conn) first (marked.boxes conn)) (first_in (WasAskedFor acts conn) m (mails_on f.connections conn) first (marked.asked conn))
  where
    by : (m : Mail) → TellsOfCall marked.begun acts marked.posted m → WasAskedFor acts conn m → MayBeIssued conn (taking.Mail m more) acts
    by (mail.Answer session number answer place) is asked =
        let r : Receipt = record { conn = conn; session = session; number = number; answer = answer; place = place } in
        may_from marked.begun acts (Issued r) marked.begins (answer_of_call_later marked.begun acts acts marked.posted (batches_of (stores_in acts)) r (prefix_self acts) marked.stored is, asked)
    by _ is asked = tt

-- what may be issued after some acts may be issued later
pub may_later : (conn : ℕ) (t : Taking) (xs ys : List Act) → IsPrefix xs ys → MayBeIssued conn t xs → MayBeIssued conn t ys
may_later conn (taking.Mail mail more) xs ys p may = IfSome_then (receipt_of conn mail) may (λ (r : Receipt). issued_may xs ys r p)
may_later conn _ xs ys p may = tt

-- a front that has a cut is not without one
pub some_pending : (none has : Bool) → has ≡ not none → has ≡ true → none ≡ false
some_pending true has is held = absurd (cc (sym held ∙ is))
some_pending false has is held = refl
