-- What is true of each box stays true where mails are made and taken, connections come and go, and entries are posted.
use Rattle.std.proofs.Common.{◌≡◌, ℕ, zero, suc, ◌+◌, ◌<◌, ◌≤◌, Bool, true, false, List, [], ◌∷◌, ◌++◌, length, drop, Option, Some, None, is_some, inl, inr, refl, sym, ap, subst, ◌∙◌, arith, length-append}
use Rattle.std.specs.Prelude.{All, IfSome, nat_lt, if◌then◌else◌}
use Rattle.std.specs.Option.{option_map_or}
use Rattle.std.specs.Ordering.{nat_cmp}
use Rattle.std.specs.FinMap.{FinMap, get, insert, remove, get-empty}
use Rattle.std.proofs.lemmas.Bool.{ltb-true}
use Rattle.std.proofs.lemmas.List.Elements.{All-append}
use Rattle.fe_state.proofs.Maps.{get_inserted, get_beside, get_removed, get_left, same_or_other}
use Rattle.fe_state.specs.State.{ServerState}
use Rattle.fe_state.specs.declared.batch.Batch.{Batch}
use Rattle.fe_state.specs.declared.entry.Entry.{Entry}
use Rattle.fe_state.specs.declared.entry.Entry.TheVariants.{Attached, Closed, Settled, Finished}
use Rattle.fe_state.specs.declared.kept.Kept.{Kept}
use Rattle.fe_state.specs.declared.request.Request.{Request}
use Rattle.fe_service.specs.AttachmentsState.{holder_of, is_closing}
use Rattle.fe_service.specs.Events.{left}
use Rattle.fe_mail.specs.Books.{mail_refused_by_box, mail_taken, call_repeated}
use Rattle.fe_mail.specs.Connections.{first_connection, session_on, mails_on, with_session, with_mails, session_of, mail_of}
use Rattle.fe_mail.specs.declared.connection.Connection.{Connection}
use Rattle.fe_mail.specs.declared.mail.Mail.{Mail}
use Rattle.fe_mail.specs.declared.mail.Mail.TheVariants as mail
use Rattle.fe_mail.proofs.Lookups.{mails_on-with_session, mails_on-with_mails, mails_on-with_mails-beside}
use Rattle.fe_front.specs.Laws.{IsBelow, MailsStayDurable, BoxesStayShort}
use Rattle.fe_front.specs.Call.{Called, kept_at, repeated}
use Rattle.fe_front.specs.Event.{Event, Connect, Attach, Call, Settle, Bye, Cancel, Gone, Cut, Post, TakeMail, GiveMail, IsReportOrRefusal}
use Rattle.fe_front.specs.Front.{FrontState, IsFront, IsFirst, is_connected}
use Rattle.fe_front.specs.Posting.{IsOut, delivered, vacated, posted_entry, posted_all}
use Rattle.fe_front.specs.Step.{FrontStep}
use Rattle.fe_front.specs.Steps.{parted, released, freed, departed, withdrawn_from, unboxed, dropped, boxed, overflowed, mailed, cancelled_from, taken, cut, has_no_cut}
use Rattle.fe_front.specs.declared.out.Out.{Out}
use Rattle.fe_front.specs.declared.outcome.Outcome.{Outcome}
use Rattle.fe_front.specs.declared.outcome.Outcome.TheVariants as outcome
use Rattle.fe_front.proofs.Keeping.{released-keeps, freed-keeps, dropped-keeps, mailed-keeps, cancelled-keeps, repeated-keeps}

below_now : (a b : ℕ) → nat_lt a b ≡ true → a < b
below_now a b e = omega (arith, ltb-true)

-- what is true of an empty box, of a box without its first mail, and of one with another mail that is below a mark
module _ (mark : ℕ) (P : List Mail → Type 0) (nothing : P []) (less : (ms : List Mail) → P ms → P (drop 1 ms))
    (more : (m : Mail) (ms : List Mail) → IsBelow mark m → length ms < 128 → P ms → P (ms ++ m ∷ [])) where
  abbrev Each : FinMap nat_cmp Connection → Type 0
  Each m = (q : ℕ) → P (mails_on m q)

  -- ---- connections

  each_come : (m : FinMap nat_cmp Connection) (conn : ℕ) → Each m → Each (insert m conn first_connection)
  each_come m conn each q = elim (same_or_other q conn) as (λ _. P (mails_on (insert m conn first_connection) q)) [
    | inl same ↦ subst (λ o. P (option_map_or (λ (c : Connection). c.mails) o [])) (sym (ap (get (insert m conn first_connection)) same ∙ get_inserted m conn first_connection)) nothing
    | inr other ↦ subst (λ o. P (option_map_or (λ (c : Connection). c.mails) o [])) (sym (get_beside m conn first_connection q other)) (each q)
  ]

  each_go : (m : FinMap nat_cmp Connection) (conn : ℕ) → Each m → Each (remove m conn)
  each_go m conn each q = elim (same_or_other q conn) as (λ _. P (mails_on (remove m conn) q)) [
    | inl same ↦ subst (λ o. P (option_map_or (λ (c : Connection). c.mails) o [])) (sym (ap (get (remove m conn)) same ∙ get_removed m conn)) nothing
    | inr other ↦ subst (λ o. P (option_map_or (λ (c : Connection). c.mails) o [])) (sym (get_left m conn q other)) (each q)
  ]

  each_with_session : (m : FinMap nat_cmp Connection) (conn : ℕ) (session : Option ℕ) → Each m → Each (with_session m conn session)
  each_with_session m conn session each q = subst P (sym (mails_on-with_session m conn session q)) (each q)

  each_with_mails : (m : FinMap nat_cmp Connection) (conn : ℕ) (mails : List Mail) → P mails → Each m → Each (with_mails m conn mails)
  each_with_mails m conn mails here each q = elim (same_or_other q conn) as (λ _. P (mails_on (with_mails m conn mails) q)) [
    | inl same ↦ by same (get m conn) refl
    | inr other ↦ subst P (sym (mails_on-with_mails-beside m conn mails q other)) (each q)
  ]
    where
      by : q ≡ conn → (o : Option Connection) → get m conn ≡ o → P (mails_on (with_mails m conn mails) q)
      by same None is = subst (λ o. P (mails_on (option_map_or (λ (c : Connection). insert m conn (record { session = c.session; mails = mails })) o m) q)) (sym is) (each q)
      by same (Some c) is = subst P (sym (ap (mails_on (with_mails m conn mails)) same ∙ mails_on-with_mails m conn mails (ap is_some is))) here

  -- ---- fronts

  abbrev EachBox : FrontState → Type 0
  EachBox f = Each f.connections

  at_front : {f g : FrontState} → g ≡ f → EachBox f → EachBox g
  at_front is each = subst EachBox (sym is) each

  released_box : (f : FrontState) (conn : ℕ) → EachBox f → EachBox (released f conn)
  released_box f conn each = by (session_on f.connections conn)
    where
      by : (o : Option ℕ) → EachBox (option_map_or (parted f conn) o f)
      by None = each
      by (Some session) = each_with_session f.connections conn None each

  freed_box : (f : FrontState) (session : ℕ) → EachBox f → EachBox (freed f session)
  freed_box f session each = by (holder_of f.service.attachments session)
    where
      by : (o : Option ℕ) → EachBox (option_map_or (λ conn. parted f conn session) o f)
      by None = each
      by (Some conn) = each_with_session f.connections conn None each

  departed_box : (f : FrontState) (conn : ℕ) → EachBox f → EachBox (departed f conn)
  departed_box f conn each = by (session_on f.connections conn)
    where
      by : (o : Option ℕ) → EachBox (option_map_or (λ session. parted (withdrawn_from f session) conn session) o f)
      by None = each
      by (Some session) = each_with_session f.connections conn None each

  dropped_box : (f : FrontState) (conn : ℕ) → EachBox f → EachBox (dropped f conn)
  dropped_box f conn each = by (is_connected f conn)
    where
      by : (b : Bool) → EachBox (if b then unboxed (departed f conn) conn else f)
      by true = each_go (departed f conn).connections conn (departed_box f conn each)
      by false = each

  mailed_box : (f : FrontState) (conn : ℕ) (m : Mail) → IsBelow mark m → EachBox f → EachBox (mailed f conn m)
  mailed_box f conn m below each = by (is_connected f conn) (nat_lt (length (mails_on f.connections conn)) 128) refl
    where
      by : (a b : Bool) → nat_lt (length (mails_on f.connections conn)) 128 ≡ b → EachBox (if a then (if b then boxed f conn m else overflowed f conn) else f)
      by false b is = each
      by true true is =
          each_with_mails f.connections conn (mails_on f.connections conn ++ m ∷ [])
          (more m (mails_on f.connections conn) below (below_now (length (mails_on f.connections conn)) 128 is) (each conn)) each
      by true false is = dropped_box (record f { books = mail_refused_by_box f.books }) conn each

  taken_box : (f : FrontState) (conn : ℕ) → EachBox f → EachBox (taken f conn)
  taken_box f conn each = by (nat_lt 0 (length (mails_on f.connections conn)))
    where
      by : (b : Bool) → EachBox (if b then record f { connections = with_mails f.connections conn (drop 1 (mails_on f.connections conn)); books = mail_taken f.books } else f)
      by true = each_with_mails f.connections conn (drop 1 (mails_on f.connections conn)) (less (mails_on f.connections conn) (each conn)) each
      by false = each

  cut_box : (f : FrontState) → EachBox f → EachBox (cut f)
  cut_box f each = by (has_no_cut f)
    where
      by : (b : Bool) → EachBox (if b then f else record f { service = record f.service { pending = [] }; out = Some (record { first = f.durable; length = length f.service.pending }) })
      by true = each
      by false = each

  -- ---- posting

  mail_below : (e : Entry) (place : ℕ) → place < mark → IsBelow mark (mail_of e place)
  mail_below (Attached session floor) place below = tt
  mail_below (Closed session) place below = tt
  mail_below (Settled session floor) place below = tt
  mail_below (Finished session number request answer) place below = below

  delivered_box : (f : FrontState) (e : Entry) (place : ℕ) → place < mark → EachBox f → EachBox (delivered f e place)
  delivered_box f e place below each = by (holder_of f.service.attachments (session_of e))
    where
      by : (o : Option ℕ) → EachBox (option_map_or (λ conn. mailed f conn (mail_of e place)) o f)
      by None = each
      by (Some conn) = mailed_box f conn (mail_of e place) (mail_below e place below) each

  vacated_box : (f : FrontState) (session : ℕ) → EachBox f → EachBox (vacated f session)
  vacated_box f session each = by (is_closing f.service.attachments session)
    where
      by : (b : Bool) → EachBox (if b then record f { service = left f.service session } else f)
      by true = each
      by false = each

  entry_box : (f : FrontState) (e : Entry) (place : ℕ) → place < mark → EachBox f → EachBox (posted_entry f e place)
  entry_box f (Attached session floor) place below each = delivered_box f (Attached session floor) place below each
  entry_box f (Settled session floor) place below each = delivered_box f (Settled session floor) place below each
  entry_box f (Finished session number request answer) place below each = delivered_box f (Finished session number request answer) place below each
  entry_box f (Closed session) place below each =
      let g = delivered f (Closed session) place in
      vacated_box (freed g session) session (freed_box g session (delivered_box f (Closed session) place below each))

  entries_box : (f : FrontState) (es : List Entry) (place : ℕ) → place + length es ≤ mark → EachBox f → EachBox (posted_all f es place)
  entries_box f [] place below each = each
  entries_box f (e ∷ es) place below each =
      entries_box (posted_entry f e place) es (place + 1) (omega arith) (entry_box f e place (omega arith) each)

  -- ---- calls

  repeated_box : (f : FrontState) (conn session number : ℕ) → f.durable ≤ mark → EachBox f → EachBox (repeated f conn session number)
  repeated_box f conn session number durable each = by (kept_at g session number)
    where
      g : FrontState
      g = record f { books = call_repeated f.books }

      chosen : (k : Kept) (b : Bool) → nat_lt k.place f.durable ≡ b → EachBox (if b then mailed g conn (mail.Answer session number k.answer k.place) else g)
      chosen k true is = let below = below_now k.place f.durable is in mailed_box g conn (mail.Answer session number k.answer k.place) (omega arith) each
      chosen k false is = each

      by : (o : Option Kept) → EachBox (option_map_or (λ (k : Kept). if nat_lt k.place g.durable then mailed g conn (mail.Answer session number k.answer k.place) else g) o g)
      by None = each
      by (Some k) = chosen k (nat_lt k.place f.durable) refl

  called_box : (f g : FrontState) (conn session number : ℕ) (request : Request) (o : Outcome) (es : List Entry) → f.durable ≤ mark
      → Called f conn session number request o es g → EachBox f → EachBox g
  called_box f g conn session number request (outcome.Completed n) es durable r each = at_front r.rest each
  called_box f g conn session number request outcome.Waits es durable r each = at_front r.rest each
  called_box f g conn session number request outcome.AlreadyWaiting es durable r each = at_front r.rest (repeated_box f conn session number durable each)
  called_box f g conn session number request outcome.SentAgain es durable r each = at_front r.rest (repeated_box f conn session number durable each)
  called_box f g conn session number request outcome.NotYetSynced es durable r each = at_front r.rest (repeated_box f conn session number durable each)

  -- ---- events

  told_below : (m : Mail) → IsReportOrRefusal m → IsBelow mark m
  told_below (mail.Answer session number answer place) is = absurd is
  told_below (mail.Report text) is = tt
  told_below (mail.Refused number refusal) is = tt
  told_below (mail.Welcome session floor) is = tt
  told_below (mail.Withdrawn number) is = tt
  told_below (mail.Settled floor) is = tt
  told_below (mail.Goodbye session) is = tt

  step_box : (f f' : FrontState) (event : Event) (es : List Entry) → FrontStep f event es f' → f.durable ≤ mark → f'.durable ≤ mark → EachBox f → EachBox f'
  step_box f f' (Connect conn) es step old new each = at_front step.1.front (each_come f.connections conn each)
  step_box f f' (Attach conn session) es step old new each =
      at_front step.1.front (each_with_session _ conn (Some session) (freed_box (released f conn) session (released_box f conn each)))
  step_box f f' (Call conn number request o) es step old new each = called_box f f' conn step.0 number request o es old step.2 each
  step_box f f' (Settle conn floor) es step old new each = at_front step.2.front each
  step_box f f' (Bye conn) es step old new each = at_front step.2.front each
  step_box f f' (Cancel conn number) es step old new each = at_front step.2.front (mailed_box (cancelled_from f step.0 number) conn (mail.Withdrawn number) tt each)
  step_box f f' (Gone conn count) es step old new each = at_front step.1.front (dropped_box f conn each)
  step_box f f' (Cut batch) es step old new each = at_front step.1.front (cut_box f each)
  step_box f f' (Post batch) es step old new each =
      let mark_is = ap (λ (g : FrontState). g.durable) step.1.front in
      at_front step.1.front (entries_box f batch.entries batch.first (omega (arith, mark_is, new)) each)
  step_box f f' (TakeMail conn m) es step old new each = at_front step.1.front (taken_box f conn each)
  step_box f f' (GiveMail conn m) es step old new each = at_front step.1.front (mailed_box f conn m (told_below m step.0) each)

-- ---- the mark

called_mark : (f g : FrontState) (conn session number : ℕ) (request : Request) (o : Outcome) (es : List Entry)
    → Called f conn session number request o es g → g.durable ≡ f.durable
called_mark f g conn session number request (outcome.Completed n) es r = ap (λ (h : FrontState). h.durable) r.rest
called_mark f g conn session number request outcome.Waits es r = ap (λ (h : FrontState). h.durable) r.rest
called_mark f g conn session number request outcome.AlreadyWaiting es r = ap (λ (h : FrontState). h.durable) r.rest ∙ (repeated-keeps f conn session number).durable
called_mark f g conn session number request outcome.SentAgain es r = ap (λ (h : FrontState). h.durable) r.rest ∙ (repeated-keeps f conn session number).durable
called_mark f g conn session number request outcome.NotYetSynced es r = ap (λ (h : FrontState). h.durable) r.rest ∙ (repeated-keeps f conn session number).durable

cut_mark : (f : FrontState) → (cut f).durable ≡ f.durable
cut_mark f = by (has_no_cut f)
  where
    by : (b : Bool) → (if b then f else record f { service = record f.service { pending = [] }; out = Some (record { first = f.durable; length = length f.service.pending }) }).durable ≡ f.durable
    by true = refl
    by false = refl

taken_mark : (f : FrontState) (conn : ℕ) → (taken f conn).durable ≡ f.durable
taken_mark f conn = by (nat_lt 0 (length (mails_on f.connections conn)))
  where
    by : (b : Bool) → (if b then record f { connections = with_mails f.connections conn (drop 1 (mails_on f.connections conn)); books = mail_taken f.books } else f).durable ≡ f.durable
    by true = refl
    by false = refl

out_first : (f : FrontState) (batch : Batch) → IsFront f → IsOut f.out batch → batch.first ≡ f.durable
out_first f batch front out = by f.out out front.tied.out_first
  where
    by : (o : Option Out) → IsOut o batch → IfSome o (λ o. o.first ≡ f.durable) → batch.first ≡ f.durable
    by None is first = absurd is
    by (Some o) is first = is.0 ∙ first

-- the mark never falls
mark_rises : (f f' : FrontState) (event : Event) (es : List Entry) → IsFront f → FrontStep f event es f' → f.durable ≤ f'.durable
mark_rises f f' (Connect conn) es front step = let same = ap (λ (g : FrontState). g.durable) step.1.front in omega (arith, same)
mark_rises f f' (Attach conn session) es front step =
    let same = ap (λ (g : FrontState). g.durable) step.1.front ∙ (freed-keeps (released f conn) session).durable ∙ (released-keeps f conn).durable in
    omega (arith, same)
mark_rises f f' (Call conn number request o) es front step = let same = called_mark f f' conn step.0 number request o es step.2 in omega (arith, same)
mark_rises f f' (Settle conn floor) es front step = let same = ap (λ (g : FrontState). g.durable) step.2.front in omega (arith, same)
mark_rises f f' (Bye conn) es front step = let same = ap (λ (g : FrontState). g.durable) step.2.front in omega (arith, same)
mark_rises f f' (Cancel conn number) es front step = let same = ap (λ (g : FrontState). g.durable) step.2.front ∙ (cancelled-keeps f conn step.0 number).durable in omega (arith, same)
mark_rises f f' (Gone conn count) es front step = let same = ap (λ (g : FrontState). g.durable) step.1.front ∙ (dropped-keeps f conn).durable in omega (arith, same)
mark_rises f f' (Cut batch) es front step = let same = ap (λ (g : FrontState). g.durable) step.1.front ∙ cut_mark f in omega (arith, same)
mark_rises f f' (Post batch) es front step =
    let mark_is = ap (λ (g : FrontState). g.durable) step.1.front in
    let first = out_first f batch front step.0 in
    omega (arith, mark_is, first)
mark_rises f f' (TakeMail conn m) es front step = let same = ap (λ (g : FrontState). g.durable) step.1.front ∙ taken_mark f conn in omega (arith, same)
mark_rises f f' (GiveMail conn m) es front step = let same = ap (λ (g : FrontState). g.durable) step.1.front ∙ (mailed-keeps f conn m).durable in omega (arith, same)

-- ---- the laws

-- a front that begins has no box
no_mails : (f : FrontState) (begun : ServerState) → IsFirst begun f → (conn : ℕ) → mails_on f.connections conn ≡ []
no_mails f begun first conn = ap (λ m. mails_on m conn) first.connections ∙ ap (λ o. option_map_or (λ (c : Connection). c.mails) o []) (get-empty nat_cmp conn)

below_more : (low high : ℕ) (m : Mail) → low ≤ high → IsBelow low m → IsBelow high m
below_more low high (mail.Answer session number answer place) up below = omega arith
below_more low high (mail.Report text) up below = tt
below_more low high (mail.Refused number refusal) up below = tt
below_more low high (mail.Welcome session floor) up below = tt
below_more low high (mail.Withdrawn number) up below = tt
below_more low high (mail.Settled floor) up below = tt
below_more low high (mail.Goodbye session) up below = tt

one_below : (mark : ℕ) (m : Mail) → IsBelow mark m → All (IsBelow mark) (m ∷ [])
one_below mark m below zero d in_it = below
one_below mark m below (suc k) d in_it = absurd (omega arith)

rest_below : (mark : ℕ) (ms : List Mail) → All (IsBelow mark) ms → All (IsBelow mark) (drop 1 ms)
rest_below mark [] below k d in_it = absurd (omega arith)
rest_below mark (m ∷ ms) below k d in_it = below (suc k) d (omega arith)

rest_short : (ms : List Mail) → length ms ≤ 128 → length (drop 1 ms) ≤ 128
rest_short [] short = omega arith
rest_short (m ∷ ms) short = omega arith

pub durable_always : MailsStayDurable
durable_always = record {
  first = λ begun f first conn k d in_it. let size = ap length (no_mails f begun first conn) in absurd (omega (arith, size, in_it));
  step = λ f f' event es front step holds.
      let up = mark_rises f f' event es front step in
      step_box f'.durable (All (IsBelow f'.durable)) (λ k d in_it. absurd (omega arith)) (rest_below f'.durable)
      (λ m ms below room all. All-append (IsBelow f'.durable) ms (m ∷ []) all (one_below f'.durable m below))
      f f' event es step up (omega arith) (λ conn k d in_it. below_more f.durable f'.durable _ up (holds conn k d in_it));
  refused = λ f holds. holds;
}

pub short_always : BoxesStayShort
short_always = record {
  first = λ begun f first conn. let size = ap length (no_mails f begun first conn) in omega (arith, size);
  step = λ f f' event es front step short.
      step_box (f.durable + f'.durable) (λ ms. length ms ≤ 128) (omega arith) rest_short
      (λ m ms below room few. omega (arith, length-append ms (m ∷ []), room))
      f f' event es step (omega arith) (omega arith) short;
  refused = λ f short. short;
}
