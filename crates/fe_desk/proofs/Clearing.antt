-- A desk whose trace begins anew where its clients were told all that is stored: what stood acknowledged stands. And steps that leave no
-- batch stored and not posted.
use Rattle.std.proofs.Common.{◌≡◌, inl, inr, ℕ, ◌+◌, Bool, true, false, List, [], ◌∷◌, ◌++◌, length, map, Option, Some, None, refl, sym, ap, subst, ◌∙◌, arith}
use Rattle.std.specs.Prelude.{if◌then◌else◌, MatchBool, IfSome}
use Rattle.std.specs.List.{AllByRecursion}
use Rattle.std.proofs.lemmas.List.{length-append}
use Rattle.fe_state.specs.State.{ServerState, after_all}
use Rattle.fe_state.specs.History.{after_groups}
use Rattle.fe_state.specs.declared.batch.Batch.{Batch}
use Rattle.fe_state.specs.declared.entry.Entry.{Entry}
use Rattle.fe_state.proofs.Histories.{after-append}
use Rattle.fe_service.proofs.Turns.{turns_place}
use Rattle.fe_mail.specs.declared.mail.Mail.{Mail}
use Rattle.fe_messages.specs.Answers.{AreAnswered}
use Rattle.fe_messages.specs.Mails.{reply_of}
use Rattle.fe_messages.proofs.Recorded.{kept_of, kept_after}
use Rattle.fe_messages.proofs.Answers.{KeepsBelow, answered-split}
use Rattle.fe_wire.specs.declared.client_message.ClientMessage.{ClientMessage}
use Rattle.fe_wire.specs.declared.server_message.ServerMessage.{ServerMessage}
use Rattle.fe_front.specs.Front.{FrontState, has_room, is_connected}
use Rattle.fe_front.specs.Steps as front
use Rattle.fe_desk.specs.declared.handed.Handed.{Handed}
use Rattle.std.specs.Option.{option_map_or}
use Rattle.fe_desk.specs.declared.handed.Handed.TheVariants.{Nothing, Cut, Stored}
use Rattle.fe_desk.specs.declared.step.Step.{Step}
use Rattle.fe_desk.specs.declared.step.Step.TheVariants as step
use Rattle.fe_desk.specs.Acknowledged.{IsAcknowledged, IsWritten, IsOnItsWay, StandsOn, AsksFor, HasNoneToPost, HasToldAll, cut_entries, entries_of, stored_groups}
use Rattle.fe_desk.specs.Crash.{DeskState, IsFrom, desk_anew, unwritten_to}
use Rattle.fe_desk.specs.DeskRunState.{Client, DeskRunState, cut, stored_from, posted, posted_from, cleared, emptied, discharged}
use Rattle.fe_desk.specs.Room.{begun_room, is_making, made, roomy, unmade}
use Rattle.fe_desk.proofs.Reading.{committed}
use Rattle.fe_desk.specs.Steps.{AreWritten, find, after_frame, TakesAll, TakesPiece, TakesBytes, Connects, Acts, DeskStep}

-- ---- groups and their entries

pub after_entries : (s : ServerState) (groups : List (List Entry)) → after_groups s groups ≡ after_all s (entries_of groups)
after_entries s [] = refl
after_entries s (group ∷ groups) = after_entries (after_all s group) groups ∙ sym (after-append s group (entries_of groups))

pub place_after : (s : ServerState) (groups : List (List Entry)) → (after_groups s groups).place ≡ s.place + length (entries_of groups)
place_after s groups = ap (λ (x : ServerState). x.place) (after_entries s groups) ∙ turns_place s (entries_of groups)

-- what is kept after groups is kept at a place before
pub below_after : (begun : ServerState) (groups : List (List Entry)) → KeepsBelow begun → KeepsBelow (after_groups begun groups)
below_after begun groups below session number k kept =
    let place = place_after begun groups in
    elim (kept_after begun (entries_of groups) session number k (sym (ap (λ (s : ServerState). kept_of s session number) (after_entries begun groups)) ∙ kept)) [
      | inl was ↦ let before = below session number k was in omega (arith, place, before)
      | inr r ↦ let many = ap (λ (es : List Entry). length es) r.entries ∙ length-append r.before _ in let at = r.at in omega (arith, place, at, many)
    ]

-- ---- a trace that begins anew

anew_written : (now : ServerState) (asked : ℕ → ℕ → Bool) (cs : List Client) → AreWritten cs → AllByRecursion (IsWritten now [] asked) (map unwritten_to cs)
anew_written now asked [] none = tt
anew_written now asked (c ∷ cs) none = (
  record {
    mails = [];
    stand = tt;
    written = refl;
    waits = subst (λ (o : Option ServerMessage). IfSome o (λ r. (m : Mail) × (r ≡ reply_of m) × StandsOn now [] (asked c.conn) m)) (sym none.0) tt;
  },
  anew_written now asked cs none.1,
)

anew_left : (asked : ℕ → ℕ → Bool) (cs : List Client) → AllByRecursion (λ (c : Client). AllByRecursion (AsksFor (asked c.conn)) c.left) cs
    → AllByRecursion (λ (c : Client). AllByRecursion (AsksFor (asked c.conn)) c.left) (map unwritten_to cs)
anew_left asked [] all = tt
anew_left asked (c ∷ cs) all = (all.0, anew_left asked cs all.1)

way_anew : (begun now : ServerState) (groups : List (List Entry)) (f : FrontState) (h : Handed) → now.place ≡ begun.place + length (entries_of groups) → HasNoneToPost h
    → IsOnItsWay begun groups f h → IsOnItsWay now [] f h
way_anew begun now groups f Nothing place none way = let mark : f.durable ≡ now.place + 0 = omega (arith, place, way) in mark
way_anew begun now groups f (Cut batch) place none way = let before = way.0 in
    let mark : f.durable ≡ now.place + 0 = omega (arith, place, before) in (mark, way.1, way.2)
way_anew begun now groups f (Stored batch) place none way = absurd none

module _ {D : Type 0} (begun : ServerState) (asked : ℕ → ℕ → Bool) where
  pub cleared_acknowledged : (d : DeskState D) → HasToldAll d.run_state → IsFrom begun d → IsAcknowledged begun asked d → IsAcknowledged d.keeper.state asked (desk_anew d)
  cleared_acknowledged d told from is =
      let groups : List (List Entry) = stored_groups d in
      let f : FrontState = d.run_state.front in
      let now : ServerState = d.keeper.state in
      let rest : List Entry = cut_entries d.run_state.handed ++ f.service.pending in
      let there : now ≡ after_all begun (entries_of groups) = from.replica ∙ after_entries begun groups in
      let parts = answered-split begun (entries_of groups) rest is.answered in
      record {
        answers = anew_written now asked d.run_state.clients told.mails.replies;
        boxed = λ conn. subst (λ (ms : List Mail). AllByRecursion (StandsOn now [] (asked conn)) ms) (sym (told.mails.boxes conn)) tt;
        left = anew_left asked d.run_state.clients is.left;
        holders = is.holders;
        sessions = is.sessions;
        state = is.state ∙ after-append begun (entries_of groups) rest ∙ ap (λ (s : ServerState). after_all s rest) (sym there);
        answered = subst (λ (s : ServerState). AreAnswered s rest) (sym there) parts.1;
        way = way_anew begun now groups f d.run_state.handed (ap (λ (s : ServerState). s.place) from.replica ∙ place_after begun groups) told.posted is.way;
        all = λ works. refl;
      }

-- ---- steps that leave no batch stored and not posted

cut_none : (s : DeskRunState) → HasNoneToPost s.handed → HasNoneToPost (cut s).handed
cut_none s none = by (front.next_batch s.front)
  where
    by : (o : Option Batch) → HasNoneToPost (option_map_or Cut o s.handed)
    by None = none
    by (Some batch) = tt

posted_none : (s : DeskRunState) → HasNoneToPost (posted s).handed
posted_none s = by s.handed
  where
    by : (h : Handed) → HasNoneToPost (posted_from h (record s { handed = h })).handed
    by Nothing = tt
    by (Cut batch) = tt
    by (Stored batch) = tt

cleared_none : (s : DeskRunState) → HasNoneToPost (cleared s).handed
cleared_none s = posted_none (stored_from s.handed s)

roomy_none : (s : DeskRunState) (conn : ℕ) → HasNoneToPost s.handed → HasNoneToPost (roomy s conn).handed
roomy_none s conn none = by (has_room (begun_room s conn).front) (begun (is_making s conn))
  where
    begun : (b : Bool) → HasNoneToPost (if b then made (cleared s) else s).handed
    begun true = cleared_none s
    begun false = none

    by : (b : Bool) → HasNoneToPost (begun_room s conn).handed → HasNoneToPost (if b then begun_room s conn else made (committed (cleared (begun_room s conn)))).handed
    by true none = none
    by false none = cleared_none (cut (cleared (begun_room s conn)))

unmade_none : (s : DeskRunState) (conn : ℕ) → HasNoneToPost s.handed → HasNoneToPost (unmade s conn).handed
unmade_none s conn none = by (is_making s conn)
  where
    by : (b : Bool) → HasNoneToPost (if b then record s { making = None } else s).handed
    by true = none
    by false = none

frame_none : (bad : Bool) (s : DeskRunState) (conn : ℕ) → HasNoneToPost s.handed → HasNoneToPost (after_frame bad s conn).handed
frame_none true s conn none = unmade_none s conn none
frame_none false s conn none = none

abbrev None_in : DeskRunState → Type 0
None_in s = HasNoneToPost s.handed

all_none : (s : DeskRunState) (conn : ℕ) (ms : List ClientMessage) (t : DeskRunState) → TakesAll s conn ms t → None_in s → None_in t
all_none s conn [] t takes none = subst None_in (sym takes) none
all_none s conn (m ∷ ms) t takes none = all_none takes.0 conn ms t takes.2 (subst None_in (sym takes.1.after) (roomy_none s conn none))

bytes_none : (s : DeskRunState) (o : Option Client) (piece : List ℕ) (t : DeskRunState) → TakesBytes s o piece t → None_in s → None_in t
bytes_none s None piece t takes none = subst None_in (sym takes) none
bytes_none s (Some c) piece t takes none = by (is_connected takes.mid.front c.conn) takes.reading (all_none _ c.conn c.left takes.mid takes.leftovers none)
  where
    by : (b : Bool) → MatchBool b (TakesPiece takes.mid c.conn c.decoder piece t) (t ≡ takes.mid) → None_in takes.mid → None_in t
    by true reads there = subst None_in (sym reads.after) (frame_none reads.decoder.is_bad reads.last c.conn (all_none _ c.conn reads.more reads.last reads.takes there))
    by false is there = subst None_in (sym is) there

-- not an append
abbrev pub IsNoAppend : Step → Type 0
IsNoAppend step.Append = ⊥
IsNoAppend other = Unit {0}

acts_none : (s : DeskRunState) (x : Step) (t : DeskRunState) → IsNoAppend x → Acts s x t → None_in s → None_in t
acts_none s (step.Connect conn) t is acts none = by (is_connected s.front conn) acts
  where
    by : (b : Bool) → MatchBool b (t ≡ s) (Connects s conn t) → None_in t
    by true same = subst None_in (sym same) none
    by false connects = subst None_in (sym connects.after) (unmade_none s conn none)
acts_none s (step.Bytes conn piece) t is acts none = bytes_none s (find conn s.clients) piece.items t acts none
acts_none s (step.Gone conn) t is acts none = subst None_in (sym acts) (unmade_none s conn none)
acts_none s step.Cut t is acts none = subst None_in (sym acts) (cut_none s none)
acts_none s step.Append t is acts none = absurd is
acts_none s step.Post t is acts none = subst None_in (sym acts) (posted_none s)
acts_none s step.CheckBegin t is acts none = subst None_in (sym acts) none
acts_none s step.CheckStep t is acts none = subst None_in (sym acts) none
acts_none s step.CheckFinish t is acts none = subst None_in (sym acts) none

discharged_none : (s : DeskRunState) → None_in s → None_in (discharged s)
discharged_none s none = by s.owes
  where
    by : (b : Bool) → None_in (if b then emptied s else s)
    by true = none
    by false = none

pub step_none : (s : DeskRunState) (x : Step) (t : DeskRunState) → IsNoAppend x → DeskStep s x t → HasNoneToPost s.handed → HasNoneToPost t.handed
step_none s x t is takes none = subst None_in (sym takes.after) (acts_none (discharged s) x takes.last is takes.acts (discharged_none s none))

-- a post leaves none in any case
pub post_none : (s t : DeskRunState) → DeskStep s step.Post t → HasNoneToPost t.handed
post_none s t takes = subst None_in (sym takes.after) (subst None_in (sym takes.acts) (posted_none (discharged s)))
