-- What stands after any number of stops: one history, on which all answers that were written stand.
use Rattle.std.proofs.Common.{◌≡◌, ◌⊎◌, inl, inr, ℕ, zero, suc, ◌≤◌, List, [], ◌∷◌, ◌++◌, append-nil, append_assoc, length, take, drop, refl, sym, ap, subst, ◌∙◌, arith}
use Rattle.std.proofs.lemmas.List.Elements.{Contains-append_right}
use Rattle.std.specs.Prelude.{Contains, map, Option, None, Some, IfSome, Bool}
use Rattle.std.specs.List.{AllByRecursion}
use Rattle.std.proofs.lemmas.List.{length-append, length-take-le, take-append-drop}
use Rattle.fe_state.specs.State.{ServerState, reply, after_all}
use Rattle.fe_state.specs.History.{AreLegal, IsHistory, after_groups}
use Rattle.fe_state.specs.declared.answer.Answer.{Answer}
use Rattle.fe_state.specs.declared.entry.Entry.{Entry}
use Rattle.fe_state.specs.declared.entry.Entry.TheVariants.{Attached, Closed, Settled}
use Rattle.fe_state.specs.declared.kept.Kept.{Kept}
use Rattle.fe_state.proofs.Histories.{after-append, history-cut}
use Rattle.fe_state.proofs.Spent.{legal-flat, finishes_once}
use Rattle.fe_mail.specs.declared.mail.Mail.{Mail}
use Rattle.fe_mail.specs.declared.mail.Mail.TheVariants as mail
use Rattle.fe_messages.specs.Answers.{IsFinishedAt, IsKeptSince, AreAnswered}
use Rattle.fe_messages.specs.Mails.{reply_of}
use Rattle.fe_messages.proofs.Recorded.{kept_of, kept_after}
use Rattle.fe_messages.proofs.Answers.{KeepsBelow, finished_at, finished_more, keeps_below, legal_answered}
use Rattle.fe_messages.proofs.Boxes.{all_weaker}
use Rattle.fe_wire.specs.declared.server_message.ServerMessage.{ServerMessage}
use Rattle.fe_keeper.specs.Damage.{StandsForOne}
use Rattle.fe_desk.specs.Acknowledged.{AnswersStand, StandsOn, IsWritten, IsAcknowledged, entries_of, stored_groups}
use Rattle.fe_desk.specs.Crash.{DeskState}
use Rattle.fe_desk.specs.Lives.{Life, AreLives, kept_groups, Stop, all_groups, IsStopOf, LeadsTo, AreStops, FinishOnceIn, AreOneStore, StopsAreLives}
use Rattle.fe_desk.specs.DeskRunState.{DeskRunState}
use Rattle.fe_desk.proofs.Acknowledging.{entries-append, stands_behind}
use Rattle.fe_desk.proofs.Clearing.{after_entries, place_after, below_after}
use Rattle.fe_desk.proofs.Lives.{lives_join}

-- ---- groups and their entries

history_answered : (s : ServerState) (groups : List (List Entry)) → IsHistory s groups → AreAnswered s (entries_of groups)
history_answered s groups history = legal_answered s (entries_of groups) (legal-flat s groups history)

-- at least this many of a list and another begin with the first
take_past : (xs ys : List (List Entry)) (k : ℕ) → length xs ≤ k → (more : List (List Entry)) × (take k (xs ++ ys) ≡ xs ++ more)
take_past [] ys k le = (take k ys, refl)
take_past (x ∷ xs) ys zero le = absurd (omega (arith, le))
take_past (x ∷ xs) ys (suc k) le = let r = take_past xs ys k (omega (arith, le)) in (r.0, ap (λ (zs : List (List Entry)). x ∷ zs) r.1)

-- so they begin with the first of these, that many at most
take_within : (m : ℕ) (xs ys : List (List Entry)) (k : ℕ) → m ≤ length xs → m ≤ k → (more : List (List Entry)) × (take k (xs ++ ys) ≡ take m xs ++ more)
take_within m xs ys k few le =
    let r = take_past (take m xs) (drop m xs ++ ys) k (omega (arith, length-take-le m xs few, le)) in
    (r.0, ap (λ (zs : List (List Entry)). take k zs) (ap (λ (zs : List (List Entry)). zs ++ ys) (sym (take-append-drop m xs)) ∙ append_assoc (take m xs) (drop m xs) ys) ∙ r.1)

-- ---- what stands, after more groups

module _ (begun : ServerState) (below : KeepsBelow begun) (front : List (List Entry)) (all : AreAnswered begun (entries_of front)) where
  -- an entry after the front is one after it
  finished_behind : (groups : List (List Entry)) (session number : ℕ) (answer : Answer) (place : ℕ) → IsFinishedAt (after_groups begun front) (entries_of groups) session number answer place
      → IsFinishedAt begun (entries_of (front ++ groups)) session number answer place
  finished_behind groups session number answer place is =
      let start = place_after begun front in
      let many = length-append (entries_of front) is.before in
      let at = is.at in
      record {
        before = entries_of front ++ is.before;
        request = is.request;
        behind = is.behind;
        entries = entries-append front groups ∙ ap (λ (es : List Entry). entries_of front ++ es) is.entries ∙ sym (append_assoc (entries_of front) is.before _);
        at = omega (arith, start, many, at);
        replied = ap (λ (s : ServerState). reply s is.request) (after-append begun (entries_of front) is.before ∙ ap (λ (s : ServerState). after_all s is.before) (sym (after_entries begun front)))
            ∙ is.replied;
      }

  -- an answer that is kept after the front is one of it, or was kept before
  kept_behind : (groups : List (List Entry)) (session number : ℕ) (answer : Answer) (place : ℕ) → IsKeptSince (after_groups begun front) session number answer place
      → IsKeptSince begun session number answer place ⊎ IsFinishedAt begun (entries_of (front ++ groups)) session number answer place
  kept_behind groups session number answer place is =
      let k : Kept = record { request = is.request; answer = answer; place = place } in
      elim (kept_after begun (entries_of front) session number k (sym (ap (λ (s : ServerState). kept_of s session number) (after_entries begun front)) ∙ is.kept)) [
        | inl was ↦ inl (record { request = is.request; kept = was; earlier = below session number k was })
        | inr r ↦
            inr (subst (λ (es : List Entry). IsFinishedAt begun es session number answer place) (sym (entries-append front groups))
            (finished_more begun (entries_of front) (entries_of groups) session number answer place (finished_at begun (entries_of front) r.before r.behind session number is.request answer place all r.entries r.at)))
      ]

  among_after : (groups : List (List Entry)) (e : Entry) → Contains (entries_of groups) e → Contains (entries_of (front ++ groups)) e
  among_after groups e is = subst (λ (es : List Entry). Contains es e) (sym (entries-append front groups)) (Contains-append_right (entries_of front) (entries_of groups) e is)

  stands_after : (groups : List (List Entry)) (mine : ℕ → Bool) (m : Mail) → StandsOn (after_groups begun front) groups mine m → StandsOn begun (front ++ groups) mine m
  stands_after groups mine (mail.Welcome session floor) (may, is) = (may, among_after groups (Attached session floor) is)
  stands_after groups mine (mail.Refused number refusal) is = tt
  stands_after groups mine (mail.Withdrawn number) is = tt
  stands_after groups mine (mail.Settled floor) (session, may, is) = (session, may, among_after groups (Settled session floor) is)
  stands_after groups mine (mail.Goodbye session) (may, is) = (may, among_after groups (Closed session) is)
  stands_after groups mine (mail.Report text) is = tt
  stands_after groups mine (mail.Answer session number answer place) (may, inl kept) = (may, kept_behind groups session number answer place kept)
  stands_after groups mine (mail.Answer session number answer place) (may, inr is) = (may, inr (finished_behind groups session number answer place is))

-- ---- what was written

waits_weaker : (P Q : Mail → Type 0) → ((m : Mail) → P m → Q m) → (o : Option ServerMessage) → IfSome o (λ r. (m : Mail) × (r ≡ reply_of m) × P m) → IfSome o (λ r. (m : Mail) × (r ≡ reply_of m) × Q m)
waits_weaker P Q weaker None waits = tt
waits_weaker P Q weaker (Some r) (m, is, such) = (m, is, weaker m such)

written_weaker : (begun other : ServerState) (groups more : List (List Entry)) (asked : ℕ → ℕ → Bool) → ((mine : ℕ → Bool) (m : Mail) → StandsOn begun groups mine m → StandsOn other more mine m) → (s : DeskRunState)
    → AnswersStand begun groups asked s → AnswersStand other more asked s
written_weaker begun other groups more asked weaker s written =
    all_weaker (IsWritten begun groups asked) (IsWritten other more asked)
    (λ c w. record {
      mails = w.mails;
      stand = all_weaker (StandsOn begun groups (asked c.conn)) (StandsOn other more (asked c.conn)) (weaker (asked c.conn)) w.mails w.stand;
      written = w.written;
      waits = waits_weaker (StandsOn begun groups (asked c.conn)) (StandsOn other more (asked c.conn)) (weaker (asked c.conn)) c.reply w.waits;
    })
    s.clients written

-- ---- stops

once_in : (s : ServerState) (groups : List (List Entry)) → IsHistory s groups → FinishOnceIn groups
once_in s groups history before between behind session number first second one other is =
    finishes_once s before between behind session number first second one other (subst (λ (es : List Entry). AreLegal s es) is (legal-flat s groups history))

abbrev Later : Type 0 → ServerState → ServerState → List (List Entry) → Type 0
Later D begun s front = (asked : ℕ → ℕ → Bool) (d : DeskState D) → IsAcknowledged s asked d → AnswersStand begun (front ++ stored_groups d) asked d.run_state

module _ {D : Type 0} where
  lived : (begun s : ServerState) (stops : List (Stop D)) (lives : List Life) → map (λ (life : Life). life.groups) lives ≡ map all_groups stops → map (λ (life : Life). life.synced) lives ≡ map (λ (x : Stop D). x.synced) stops → AreLives begun lives s
      → AllByRecursion (λ (x : Stop D). AnswersStand begun (kept_groups lives) x.asked x.last.run_state) stops → Later D begun s (kept_groups lives) → AreOneStore begun stops s
  lived begun s stops lives groups synced are answers later = record {
    lives = lives;
    groups = groups;
    synced = synced;
    are = are;
    one = λ next history. lives_join begun s lives next are history;
    once = λ next history. once_in begun (kept_groups lives ++ next) (lives_join begun s lives next are history).history;
    answers = answers;
    later = later;
  }

  -- one stop more, before the others
  stopped : (begun s : ServerState) (x : Stop D) (xs : List (Stop D)) (kept : ℕ) → KeepsBelow begun → IsStopOf begun x → x.synced ≤ kept → kept ≤ length (all_groups x)
      → AreOneStore (after_groups begun (take kept (all_groups x))) xs s → AreOneStore begun (x ∷ xs) s
  stopped begun s x xs kept below is least most rest =
      let front : List (List Entry) = take kept (all_groups x) in
      let life : Life = record { groups = all_groups x; synced = x.synced; kept = kept } in
      let history : IsHistory begun front = (history-cut begun front (drop kept (all_groups x)) (subst (λ (gs : List (List Entry)). IsHistory begun gs) (sym (take-append-drop kept (all_groups x))) is.history)).0 in
      let all : AreAnswered begun (entries_of front) = history_answered begun front history in
      let stored = is.stored in
      let first : List (List Entry) = stored_groups x.last in
      let past = take_within x.last.synced x.last.run_state.groups x.under_way kept is.few (omega (arith, stored, least)) in
      let whole : first ++ (past.0 ++ kept_groups rest.lives) ≡ front ++ kept_groups rest.lives =
      sym (append_assoc first past.0 (kept_groups rest.lives)) ∙ ap (λ (gs : List (List Entry)). gs ++ kept_groups rest.lives) (sym past.1) in
      let own : AnswersStand begun (front ++ kept_groups rest.lives) x.asked x.last.run_state =
      subst (λ (gs : List (List Entry)). AnswersStand begun gs x.asked x.last.run_state) whole
      (written_weaker begun begun first (first ++ (past.0 ++ kept_groups rest.lives)) x.asked (stands_behind begun first (past.0 ++ kept_groups rest.lives)) x.last.run_state is.lived.answers) in
      lived begun s (x ∷ xs) (life ∷ rest.lives) (ap (λ (gs : List (List (List Entry))). all_groups x ∷ gs) rest.groups) (ap (λ (ns : List ℕ). x.synced ∷ ns) rest.synced) (is.history, least, most, rest.are) (
        own,
        all_weaker (λ (y : Stop D). AnswersStand (after_groups begun front) (kept_groups rest.lives) y.asked y.last.run_state) (λ (y : Stop D). AnswersStand begun (front ++ kept_groups rest.lives) y.asked y.last.run_state)
            (λ y w. written_weaker (after_groups begun front) begun (kept_groups rest.lives) (front ++ kept_groups rest.lives) y.asked (stands_after begun below front all (kept_groups rest.lives)) y.last.run_state w) xs rest.answers,
      )
      (λ asked d now.
      subst (λ (gs : List (List Entry)). AnswersStand begun gs asked d.run_state) (sym (append_assoc front (kept_groups rest.lives) (stored_groups d)))
      (written_weaker (after_groups begun front) begun (kept_groups rest.lives ++ stored_groups d) (front ++ (kept_groups rest.lives ++ stored_groups d)) asked (stands_after begun below front all (kept_groups rest.lives ++ stored_groups d)) d.run_state
      (rest.later asked d now)))

  -- where a life ended: how many groups are kept, and they lead to the next state
  record End (begun : ServerState) (x : Stop D) (next : ServerState) : Type 0 where
    kept : ℕ
    least : x.synced ≤ kept
    most : kept ≤ length (all_groups x)
    leads : next ≡ after_groups begun (take kept (all_groups x))

  -- no group was under way
  idle_groups : (x : Stop D) → x.under_way ≡ [] → all_groups x ≡ x.last.run_state.groups
  idle_groups x idle = ap (λ (gs : List (List Entry)). x.last.run_state.groups ++ gs) idle ∙ append-nil x.last.run_state.groups

  module _ (for_one : StandsForOne) where
    end_of : (begun : ServerState) (x : Stop D) (next : ServerState) → IsStopOf begun x → (o : Option (List ℕ)) → LeadsTo begun x o next → End begun x next
    end_of begun x next stop (Some image) is =
        let prefix = is.leaves.prefix in
        record { kept = prefix.kept; least = prefix.least; most = prefix.most; leads = for_one image next is.leaves.state is.stands is.leaves.stands ∙ prefix.state_is }
    end_of begun x next stop None is =
        let all = idle_groups x is.idle in
        let few = stop.few in
        let synced = is.synced in
        let many = ap (λ (gs : List (List Entry)). length gs) all in
        record {
          kept = x.last.synced;
          least = omega (arith, synced);
          most = omega (arith, few, many);
          leads = sym is.keeper ∙ is.from.replica ∙ ap (λ (gs : List (List Entry)). after_groups begun (take x.last.synced gs)) (sym all);
        }

    stops_lived : (begun s : ServerState) (stops : List (Stop D)) → KeepsBelow begun → AreStops begun stops s → AreOneStore begun stops s
    stops_lived begun s [] below is =
        lived begun s [] [] refl refl is tt (λ asked d now. (subst (λ (z : ServerState). IsAcknowledged z asked d) is now).answers)
    stops_lived begun s (x ∷ xs) below is =
        let stop : IsStopOf begun x = is.0 in
        let ends : End begun x is.1.0 = end_of begun x is.1.0 stop x.image is.1.1 in
        let next : ServerState = after_groups begun (take ends.kept (all_groups x)) in
        stopped begun s x xs ends.kept below stop ends.least ends.most
        (stops_lived next s xs (below_after begun (take ends.kept (all_groups x)) below) (subst (λ (z : ServerState). AreStops z xs s) ends.leads is.1.2))

    pub stops_are_lives : StopsAreLives D
    stops_are_lives begun s stops limits are = stops_lived begun s stops (keeps_below begun limits) are
