-- What happened stays legal, batch by batch.
use Rattle.std.proofs.Common.{◌≡◌, ◌⊎◌, inl, inr, ℕ, ◌+◌, ◌<◌, ◌≤◌, List, [], ◌∷◌, ◌++◌, length, refl, ap, sym, ◌∙◌, subst, arith, append_assoc, length-append}
use Rattle.std.proofs.lemmas.List.{append-nil, length-map, map-append}
use Rattle.std.proofs.lemmas.List.Concat.{flat_map-append}
use Rattle.std.proofs.lemmas.Option.{IfSome_then}
use mathlib.Core.List.{IsPrefix}
use Rattle.fe_state.specs.State.{ServerState}
use Rattle.fe_state.specs.declared.answer.Answer.{Answer}
use Rattle.fe_state.specs.declared.batch.Batch.{Batch}
use Rattle.fe_state.specs.declared.entry.Entry.{Entry}
use Rattle.fe_state.specs.declared.entry.Entry.TheVariants.{Finished}
use Rattle.fe_state.specs.declared.request.Request.{Request}
use Rattle.fe_messages.specs.Answers.{IsAnswerIn, IsFinishedAt}
use Rattle.fe_messages.specs.Taking.{FinishesOnly, LeavesOpen}
use Rattle.fe_messages.proofs.Boxes.{all_append, all_weaker}
use Rattle.fe_messages.proofs.Answers.{finished_more}
use Rattle.fe_history.specs.declared.act.Act.{Act}
use Rattle.fe_history.specs.declared.act.Act.TheVariants.{Began, Asked, Called, Cut, Stored, Issued}
use Rattle.fe_history.specs.declared.receipt.Receipt.{Receipt}
use Rattle.std.specs.List.{AllByRecursion, filter_map, cons_option}
use Rattle.std.specs.Prelude.{zero, suc, take, slice_get, Option, Some, None, IfSome, Result, Ok, Err, OnOk, OnErr, false}
use Rattle.fe_mail.specs.declared.mail.Mail.{Mail}
use Rattle.fe_history.specs.Receipts.{receipt_of}
use Rattle.fe_history.specs.Acts.{AreOfCalls, IsAnswerOf, IsAnswerOfCall, WasCalled, WasCalledSince, FollowEachOther, HasMore, IsLegal, MayBeAppended, MayFollow, ReceiptList, WasCut, batches_of, cuts_in, entries_in, place_after, stores_in, StandsIn, EachIssued, WasIssued, AreIssued}
use Rattle.fe_history.specs.Rules.{WasAppended, CutsAfter}

-- ---- lists

pub prefix_trans : {A : Type 0} (xs ys zs : List A) → IsPrefix xs ys → IsPrefix ys zs → IsPrefix xs zs
prefix_trans xs ys zs p q = (p.0 ++ q.0, sym (append_assoc xs p.0 q.0) ∙ (ap (λ w. w ++ q.0) p.1 ∙ q.1))

pub prefix_self : {A : Type 0} (xs : List A) → IsPrefix xs xs
prefix_self xs = ([], append-nil xs)

-- a beginning of the same length is the whole
pub prefix_whole : {A : Type 0} (xs ys : List A) → IsPrefix xs ys → length ys ≡ length xs → ys ≡ xs
prefix_whole {A} xs ys p same = by p.0 p.1
  where
    by : (rest : List A) → xs ++ rest ≡ ys → ys ≡ xs
    by [] is = sym is ∙ append-nil xs
    by (z ∷ zs) is = absurd (omega (arith, ap length is, length-append xs (z ∷ zs), same))

-- two lists with one more each are the same where these are, up to their lengths
fronts_same : {A : Type 0} (xs ys : List A) (x y : A) → xs ++ x ∷ [] ≡ ys ++ y ∷ [] → (xs ≡ ys) × (x ≡ y)
fronts_same [] [] x y is = (refl, cc is)
fronts_same [] (w ∷ ys) x y is = absurd (omega (arith, ap length is, length-append ys (y ∷ [])))
fronts_same (z ∷ xs) [] x y is = absurd (omega (arith, ap length is, length-append xs (x ∷ [])))
fronts_same (z ∷ xs) (w ∷ ys) x y is =
    let head : z ≡ w = cc is in
    let tail : xs ++ x ∷ [] ≡ ys ++ y ∷ [] = cc is in
    let rest = fronts_same xs ys x y tail in
    (ap (λ v. v ∷ xs) head ∙ ap (λ vs. w ∷ vs) rest.0, rest.1)

prefix_length : {A : Type 0} (xs ys : List A) → IsPrefix xs ys → length xs ≤ length ys
prefix_length xs ys p = omega (arith, ap length p.1, length-append xs p.0)

-- ---- an act after others

goes_append : (begun : ServerState) (past acts : List Act) (a : Act) → FollowEachOther begun past acts → MayFollow begun (past ++ acts) a → FollowEachOther begun past (acts ++ a ∷ [])
goes_append begun past [] a goes may = (subst (λ (p : List Act). MayFollow begun p a) (append-nil past) may, tt)
goes_append begun past (x ∷ acts) a goes may =
    (goes.0, goes_append begun (past ++ x ∷ []) acts a goes.1 (subst (λ (p : List Act). MayFollow begun p a) (sym (append_assoc past (x ∷ []) acts)) may))

pub legal_append : (log : List Act) (a : Act) → IsLegal log → MayBeAppended log a → IsLegal (log ++ a ∷ [])
legal_append (Began s ∷ log) a legal may = (legal.0, goes_append s (Began s ∷ []) log a legal.1 may)
legal_append _ a legal may = absurd legal

-- an act of a history may follow those before it
goes_at : (begun : ServerState) (past earlier later : List Act) (a : Act) → FollowEachOther begun past (earlier ++ a ∷ later) → MayFollow begun (past ++ earlier) a
goes_at begun past [] later a goes = subst (λ (p : List Act). MayFollow begun p a) (sym (append-nil past)) goes.0
goes_at begun past (x ∷ earlier) later a goes =
    subst (λ (p : List Act). MayFollow begun p a) (append_assoc past (x ∷ []) earlier) (goes_at begun (past ++ x ∷ []) earlier later a goes.1)

-- a beginning of acts that follow each other follows too
goes_front : (begun : ServerState) (past xs ys : List Act) → FollowEachOther begun past (xs ++ ys) → FollowEachOther begun past xs
goes_front begun past [] ys goes = tt
goes_front begun past (x ∷ xs) ys goes = (goes.0, goes_front begun (past ++ x ∷ []) xs ys goes.1)

-- an act of a legal history, other than its beginning, may follow those before it, which are a legal history too
pub may_at : (begun : ServerState) (log earlier later : List Act) (a : Act) → IsLegal log → IsPrefix (Began begun ∷ []) log → log ≡ earlier ++ a ∷ later → (Began begun ≡ a → ⊥)
    → MayFollow begun earlier a × IsLegal earlier × IsPrefix (Began begun ∷ []) earlier
may_at begun log [] later a legal begins is other =
    let whole : Began begun ∷ begins.0 ≡ a ∷ later = begins.1 ∙ is in
    absurd (other (cc whole))
may_at begun log (e ∷ earlier) later a legal begins is other =
    let whole : Began begun ∷ begins.0 ≡ e ∷ (earlier ++ a ∷ later) = begins.1 ∙ is in
    let head : Began begun ≡ e = cc whole in
    let tail : begins.0 ≡ earlier ++ a ∷ later = cc whole in
    let all = subst IsLegal (sym begins.1) legal in
    let goes = subst (λ (xs : List Act). FollowEachOther begun (Began begun ∷ []) xs) tail all.1 in
    subst (λ (x : Act). MayFollow begun (x ∷ earlier) a × IsLegal (x ∷ earlier) × IsPrefix (Began begun ∷ []) (x ∷ earlier)) head
    (goes_at begun (Began begun ∷ []) earlier later a goes, (all.0, goes_front begun (Began begun ∷ []) earlier (a ∷ later) goes), (earlier, refl))

-- what may follow a history that began may be appended to it
pub may_from : (begun : ServerState) (log : List Act) (a : Act) → IsPrefix (Began begun ∷ []) log → MayFollow begun log a → MayBeAppended log a
may_from begun log a begins = subst (λ (xs : List Act). MayFollow begun xs a → MayBeAppended xs a) begins.1 (λ may. may)

-- ---- cuts and stores

pub cuts_append : (xs ys : List Act) → cuts_in (xs ++ ys) ≡ cuts_in xs ++ cuts_in ys
cuts_append [] ys = refl
cuts_append (Cut b ∷ xs) ys = ap (λ bs. b ∷ bs) (cuts_append xs ys)
cuts_append (_ ∷ xs) ys = cuts_append xs ys

pub stores_append : (xs ys : List Act) → stores_in (xs ++ ys) ≡ stores_in xs ++ stores_in ys
stores_append [] ys = refl
stores_append (Stored b m ∷ xs) ys = ap (λ s. (b, m) ∷ s) (stores_append xs ys)
stores_append (_ ∷ xs) ys = stores_append xs ys

-- an act that is no cut, or no store
pub no_cuts : (log : List Act) (a : Act) → cuts_in (a ∷ []) ≡ [] → cuts_in (log ++ a ∷ []) ≡ cuts_in log
no_cuts log a none = cuts_append log (a ∷ []) ∙ ap (λ bs. cuts_in log ++ bs) none ∙ append-nil (cuts_in log)

pub no_stores : (log : List Act) (a : Act) → stores_in (a ∷ []) ≡ [] → stores_in (log ++ a ∷ []) ≡ stores_in log
no_stores log a none = stores_append log (a ∷ []) ∙ ap (λ s. stores_in log ++ s) none ∙ append-nil (stores_in log)

pub cuts_rise : (xs ys : List Act) → IsPrefix xs ys → IsPrefix (cuts_in xs) (cuts_in ys)
cuts_rise xs ys p = (cuts_in p.0, sym (cuts_append xs p.0) ∙ ap cuts_in p.1)

pub stores_rise : (xs ys : List Act) → IsPrefix xs ys → IsPrefix (stores_in xs) (stores_in ys)
stores_rise xs ys p = (stores_in p.0, sym (stores_append xs p.0) ∙ ap stores_in p.1)

-- the batches of more stores
pub batches_rise : (xs ys : List (Batch × ℕ)) → IsPrefix xs ys → IsPrefix (batches_of xs) (batches_of ys)
batches_rise xs ys p = (batches_of p.0, sym (map-append (λ (s : Batch × ℕ). s.0) xs p.0) ∙ ap batches_of p.1)

pub stored_rise : (xs ys : List Act) → IsPrefix xs ys → IsPrefix (batches_of (stores_in xs)) (batches_of (stores_in ys))
stored_rise xs ys p = batches_rise (stores_in xs) (stores_in ys) (stores_rise xs ys p)

pub entries_append : (xs ys : List Batch) → entries_in (xs ++ ys) ≡ entries_in xs ++ entries_in ys
entries_append xs ys = flat_map-append (λ (b : Batch). b.entries) xs ys

-- an answer that one of these batches finishes, one of more finishes
pub finished_within : (begun : ServerState) (xs ys : List Batch) (session number : ℕ) (answer : Answer) (place : ℕ) → IsPrefix xs ys → IsFinishedAt begun (entries_in xs) session number answer place
    → IsFinishedAt begun (entries_in ys) session number answer place
finished_within begun xs ys session number answer place p is =
    subst (λ (es : List Entry). IsFinishedAt begun es session number answer place) (sym (entries_append xs p.0) ∙ ap entries_in p.1) (finished_more begun (entries_in xs) (entries_in p.0) session number answer place is)

-- ---- acts of a beginning

-- what is in a beginning is in the whole
get_rises : {A : Type 0} (xs rest : List A) (k : ℕ) (x : A) → slice_get xs k ≡ Some x → slice_get (xs ++ rest) k ≡ Some x
get_rises [] rest k x h = absurd cc
get_rises (y ∷ xs) rest zero x h = h
get_rises (y ∷ xs) rest (suc k) x h = get_rises xs rest k x h

get_last : {A : Type 0} (xs : List A) (x : A) → slice_get (xs ++ x ∷ []) (length xs) ≡ Some x
get_last [] x = refl
get_last (y ∷ xs) x = get_last xs x

pub stands_later : (xs ys : List Act) (a : Act) → IsPrefix xs ys → StandsIn xs a → StandsIn ys a
stands_later xs ys a p s = (s.0, subst (λ (zs : List Act). slice_get zs s.0 ≡ Some a) p.1 (get_rises xs p.0 s.0 a s.1))

pub stands_last : (xs ys : List Act) (a : Act) → ys ≡ xs ++ a ∷ [] → StandsIn ys a
stands_last xs ys a is = (length xs, subst (λ (zs : List Act). slice_get zs (length xs) ≡ Some a) (sym is) (get_last xs a))

-- what was called, was called in what goes on from there
pub called_later : (xs ys : List Act) (session number : ℕ) (request : Request) → IsPrefix xs ys → WasCalled xs session number request → WasCalled ys session number request
called_later xs ys session number request p called = (called.0, called.1, stands_later xs ys (Called called.0 session number request called.1) p called.2)

pub since_later : (begun : ServerState) (xs ys : List Act) (es : List Entry) (session number : ℕ) (request : Request) → IsPrefix xs ys → WasCalledSince begun xs es session number request
    → WasCalledSince begun ys es session number request
since_later begun xs ys es session number request p c = record {
  conn = c.conn;
  place = c.place;
  called = stands_later xs ys (Called c.conn session number request c.place) p c.called;
  before = c.before;
  since = c.since;
  entries_are = c.entries_are;
  at = c.at;
  not_closed = c.not_closed;
}

-- more entries, which do not close the session
pub since_more : (begun : ServerState) (acts : List Act) (es more : List Entry) (session number : ℕ) (request : Request) → AllByRecursion (LeavesOpen session) more → WasCalledSince begun acts es session number request
    → WasCalledSince begun acts (es ++ more) session number request
since_more begun acts es more session number request left c = record {
  conn = c.conn;
  place = c.place;
  called = c.called;
  before = c.before;
  since = c.since ++ more;
  entries_are = ap (λ (xs : List Entry). xs ++ more) c.entries_are ∙ append_assoc c.before c.since more;
  at = c.at;
  not_closed = all_append (LeavesOpen session) c.since more c.not_closed left;
}

-- what an entry finishes was called, where more was called
pub finishes_more : (called more : ℕ → ℕ → Request → Type 0) → ((session number : ℕ) (request : Request) → called session number request → more session number request) → (e : Entry) → FinishesOnly called e → FinishesOnly more e
finishes_more called more so (Finished session number request answer) is = so session number request is
finishes_more called more so _ is = tt

pub entries_called_later : (begun : ServerState) (xs ys : List Act) (front es : List Entry) → IsPrefix xs ys → AreOfCalls begun xs front es → AreOfCalls begun ys front es
entries_called_later begun xs ys front [] p called = tt
entries_called_later begun xs ys front (e ∷ es) p called = (
  finishes_more (WasCalledSince begun xs front) (WasCalledSince begun ys front) (λ session number request. since_later begun xs ys front session number request p) e called.0,
  entries_called_later begun xs ys (front ++ e ∷ []) es p called.1,
)

-- entries after others that were called too
pub entries_called_both : (begun : ServerState) (acts : List Act) (front es more : List Entry) → AreOfCalls begun acts front es → AreOfCalls begun acts (front ++ es) more → AreOfCalls begun acts front (es ++ more)
entries_called_both begun acts front [] more called then = subst (λ (xs : List Entry). AreOfCalls begun acts xs more) (append-nil front) then
entries_called_both begun acts front (e ∷ es) more called then =
    (called.0, entries_called_both begun acts (front ++ e ∷ []) es more called.1 (subst (λ (xs : List Entry). AreOfCalls begun acts xs more) (sym (append_assoc front (e ∷ []) es)) then))

-- an answer of a call in some acts, of one of these batches, is one in more acts, of one of more batches
pub answer_of_call_later : (begun : ServerState) (xs ys : List Act) (posted more : List Batch) (r : Receipt) → IsPrefix xs ys → IsPrefix posted more → IsAnswerOfCall begun xs (entries_in posted) r
    → IsAnswerOfCall begun ys (entries_in more) r
answer_of_call_later begun xs ys posted more r p q (inl (kept, called)) = inl (kept, called_later xs ys r.session r.number kept.request p called)
answer_of_call_later begun xs ys posted more r p q (inr is) = inr (finished_within begun posted more r.session r.number r.answer r.place q is)

-- it is an answer, whatever was called
pub answer_of_call : (begun : ServerState) (acts : List Act) (entries : List Entry) (r : Receipt) → IsAnswerOfCall begun acts entries r → IsAnswerIn begun entries r.session r.number r.answer r.place
answer_of_call begun acts entries r (inl (kept, called)) = inl kept
answer_of_call begun acts entries r (inr is) = inr is

-- what may be issued may be issued later
pub issued_may : (xs ys : List Act) (r : Receipt) → IsPrefix xs ys → MayBeAppended xs (Issued r) → MayBeAppended ys (Issued r)
issued_may (Began s ∷ xs) ys r p may =
    let began : List Act = Began s ∷ xs in
    may_from s ys (Issued r) (prefix_trans (Began s ∷ []) began ys (xs, refl) p) (
      answer_of_call_later s began ys (batches_of (stores_in xs)) (batches_of (stores_in ys)) r p (stored_rise began ys p) may.0,
      stands_later began ys (Asked r.conn r.session) p may.1,
    )
issued_may _ ys r p may = absurd may

-- ---- what is always true of cuts and stores

-- all that was cut is stored, or all but the last
abbrev IsBalanced : List Act → Type 0
IsBalanced acts = (cuts_in acts ≡ batches_of (stores_in acts)) ⊎ ((b : Batch) × (cuts_in acts ≡ batches_of (stores_in acts) ++ b ∷ []))

-- each batch has entries, and begins where the one before it ends
abbrev AreInOrder : ℕ → List Batch → Type 0
AreInOrder at [] = Unit {0}
AreInOrder at (b ∷ bs) = (b.first ≡ at) × (0 < length b.entries) × AreInOrder (at + length b.entries) bs

order_append : (at : ℕ) (bs : List Batch) (b : Batch) → AreInOrder at bs → b.first ≡ at + length (entries_in bs) → 0 < length b.entries → AreInOrder at (bs ++ b ∷ [])
order_append at [] b order first some = (omega (arith, first), some, tt)
order_append at (x ∷ bs) b order first some =
    (order.0, order.1, order_append (at + length x.entries) bs b order.2 (omega (arith, first, length-append x.entries (entries_in bs))) some)

record IsSound (begun : ServerState) (acts : List Act) : Type 0 where
  pub balanced : IsBalanced acts
  pub ordered : AreInOrder begun.place (cuts_in acts)

still : (xs ys : List Act) → cuts_in xs ≡ cuts_in ys → stores_in xs ≡ stores_in ys → IsBalanced xs → IsBalanced ys
still xs ys cuts stores (inl all) = inl (sym cuts ∙ all ∙ ap batches_of stores)
still xs ys cuts stores (inr (b, all)) = inr (b, sym cuts ∙ all ∙ ap (λ (s : List (Batch × ℕ)). batches_of s ++ b ∷ []) stores)

sound_append : (begun : ServerState) (past : List Act) (a : Act) → IsSound begun past → MayFollow begun past a → IsSound begun (past ++ a ∷ [])
sound_append begun past (Began s) sound may = absurd may
sound_append begun past (Cut b) sound may =
    let cuts : cuts_in (past ++ Cut b ∷ []) ≡ cuts_in past ++ b ∷ [] = cuts_append past (Cut b ∷ []) in
    record {
      balanced = inr (b, cuts ∙ ap (λ (bs : List Batch). bs ++ b ∷ []) (may.0 ∙ ap batches_of (sym (no_stores past (Cut b) refl))));
      ordered = subst (λ (bs : List Batch). AreInOrder begun.place bs) (sym cuts) (order_append begun.place (cuts_in past) b sound.ordered may.1 may.2);
    }
sound_append begun past (Stored b m) sound may =
    let cuts = no_cuts past (Stored b m) refl in
    let stores : batches_of (stores_in (past ++ Stored b m ∷ [])) ≡ batches_of (stores_in past) ++ b ∷ [] =
    ap batches_of (stores_append past (Stored b m ∷ [])) ∙ map-append (λ (s : Batch × ℕ). s.0) (stores_in past) ((b, m) ∷ []) in
    record { balanced = inl (cuts ∙ may ∙ sym stores); ordered = subst (λ (bs : List Batch). AreInOrder begun.place bs) (sym cuts) sound.ordered }
sound_append begun past a sound may =
    let cuts = sym (no_cuts past a refl) in
    record {
      balanced = still past (past ++ a ∷ []) cuts (sym (no_stores past a refl)) sound.balanced;
      ordered = subst (λ (bs : List Batch). AreInOrder begun.place bs) cuts sound.ordered;
    }

sound_goes : (begun : ServerState) (past acts : List Act) → IsSound begun past → FollowEachOther begun past acts → IsSound begun (past ++ acts)
sound_goes begun past [] sound goes = subst (IsSound begun) (sym (append-nil past)) sound
sound_goes begun past (a ∷ acts) sound goes = subst (IsSound begun) (append_assoc past (a ∷ []) acts) (sound_goes begun (past ++ a ∷ []) acts (sound_append begun past a sound goes.0) goes.1)

legal_sound : (begun : ServerState) (acts : List Act) → IsPrefix (Began begun ∷ []) acts → IsLegal acts → IsSound begun acts
legal_sound begun acts begins legal =
    subst (IsSound begun) begins.1 (sound_goes begun (Began begun ∷ []) begins.0 (record { balanced = inl refl; ordered = tt }) (subst IsLegal (sym begins.1) legal).1)

-- what was stored was cut
stored_first : (acts : List Act) → IsBalanced acts → IsPrefix (batches_of (stores_in acts)) (cuts_in acts)
stored_first acts (inl all) = ([], append-nil (batches_of (stores_in acts)) ∙ sym all)
stored_first acts (inr (b, all)) = (b ∷ [], sym all)

pub stored_cut : (begun : ServerState) (acts : List Act) → IsPrefix (Began begun ∷ []) acts → IsLegal acts → IsPrefix (batches_of (stores_in acts)) (cuts_in acts)
stored_cut begun acts begins legal = stored_first acts (legal_sound begun acts begins legal).balanced

-- a batch of some that are in order begins no earlier than they do
begins_later : (at : ℕ) (bs cs : List Batch) (c : Batch) → AreInOrder at (bs ++ c ∷ cs) → at ≤ c.first
begins_later at [] cs c order = omega (arith, order.0)
begins_later at (b ∷ bs) cs c order = omega (arith, begins_later (at + length b.entries) bs cs c order.2)

-- each batch has an entry, or more
order_few : (at : ℕ) (xs ys : List Batch) → AreInOrder at (xs ++ ys) → length xs ≤ length (entries_in xs)
order_few at [] ys order = omega arith
order_few at (x ∷ xs) ys order =
    omega (arith, order.1, order_few (at + length x.entries) xs ys order.2, length-append x.entries (entries_in xs))

-- batches that are in order and begin at one place are the same, after the same others
one_first : (at : ℕ) (xs ys zs ws : List Batch) (b c : Batch) → AreInOrder at (xs ++ b ∷ ys) → xs ++ b ∷ ys ≡ zs ++ c ∷ ws → b.first ≡ c.first → (xs ≡ zs) × (b ≡ c)
one_first at [] ys [] ws b c order is first = (refl, cc is)
one_first at [] ys (z ∷ zs) ws b c order is first =
    let same : ys ≡ zs ++ c ∷ ws = cc is in
    let later = begins_later (at + length b.entries) zs ws c (subst (λ (bs : List Batch). AreInOrder (at + length b.entries) bs) same order.2) in
    absurd (omega (arith, order.0, order.1, later, first))
one_first at (x ∷ xs) ys [] ws b c order is first =
    let same : x ≡ c = cc is in
    let later = begins_later (at + length x.entries) xs ys b order.2 in
    absurd (omega (arith, order.0, order.1, later, first, ap (λ (y : Batch). y.first) same))
one_first at (x ∷ xs) ys (z ∷ zs) ws b c order is first =
    let head : x ≡ z = cc is in
    let tail : xs ++ b ∷ ys ≡ zs ++ c ∷ ws = cc is in
    let rest = one_first (at + length x.entries) xs ys zs ws b c order.2 tail first in
    (ap (λ (y : Batch). y ∷ xs) head ∙ ap (λ (t : List Batch). z ∷ t) rest.0, rest.1)

-- two batches that were cut, and begin at one place, are the same
pub one_cut : (begun : ServerState) (acts : List Act) (xs zs : List Batch) (b c : Batch) → IsPrefix (Began begun ∷ []) acts → IsLegal acts → IsPrefix (xs ++ b ∷ []) (cuts_in acts) → IsPrefix (zs ++ c ∷ []) (cuts_in acts)
    → b.first ≡ c.first → (xs ≡ zs) × (b ≡ c)
one_cut begun acts xs zs b c begins legal p q first =
    let order = (legal_sound begun acts begins legal).ordered in
    let here : xs ++ b ∷ p.0 ≡ cuts_in acts = sym (append_assoc xs (b ∷ []) p.0) ∙ p.1 in
    let there : zs ++ c ∷ q.0 ≡ cuts_in acts = sym (append_assoc zs (c ∷ []) q.0) ∙ q.1 in
    one_first begun.place xs p.0 zs q.0 b c (subst (λ (bs : List Batch). AreInOrder begun.place bs) (sym here) order) (here ∙ sym there) first

-- so has each batch that was cut
pub cut_few : (begun : ServerState) (acts : List Act) (xs ys : List Batch) → IsPrefix (Began begun ∷ []) acts → IsLegal acts → IsPrefix (xs ++ ys) (cuts_in acts) → length xs ≤ length (entries_in xs)
cut_few begun acts xs ys begins legal p =
    let order = (legal_sound begun acts begins legal).ordered in
    order_few begun.place xs (ys ++ p.0) (subst (λ (bs : List Batch). AreInOrder begun.place bs) (sym p.1 ∙ append_assoc xs ys p.0) order)

pub cut_later : (xs ys : List Act) (count : ℕ) (batch : Batch) → IsPrefix xs ys → WasCut xs count batch → WasCut ys count batch
cut_later xs ys count batch p (before, size, cut) = (before, size, prefix_trans (before ++ batch ∷ []) (cuts_in xs) (cuts_in ys) cut (cuts_rise xs ys p))

-- ---- what may come next

-- a cut, where as many were cut as were stored before
pub cut_may : (v log : List Act) (count : ℕ) (batch : Batch) → CutsAfter v count batch → IsPrefix v log → IsLegal log → length (cuts_in log) ≡ count → MayBeAppended log (Cut batch)
cut_may v log count batch next pre legal here =
    let begins = prefix_trans (Began next.begun ∷ []) v log next.begins pre in
    let stored : IsPrefix next.before (batches_of (stores_in log)) = prefix_trans next.before (batches_of (stores_in v)) (batches_of (stores_in log)) next.stored (stored_rise v log pre) in
    let cut : IsPrefix (batches_of (stores_in log)) (cuts_in log) = stored_cut next.begun log begins legal in
    let few = prefix_length next.before (batches_of (stores_in log)) stored in
    let more = prefix_length (batches_of (stores_in log)) (cuts_in log) cut in
    let all : batches_of (stores_in log) ≡ next.before = prefix_whole next.before (batches_of (stores_in log)) stored (omega (arith, few, more, here, next.counted)) in
    let both : cuts_in log ≡ batches_of (stores_in log) = prefix_whole (batches_of (stores_in log)) (cuts_in log) cut (omega (arith, few, more, here, next.counted)) in
    let first : batch.first ≡ place_after next.begun (cuts_in log) = next.first ∙ ap (λ (bs : List Batch). place_after next.begun bs) (sym (both ∙ all)) in
    may_from next.begun log (Cut batch) begins (
      both,
      first,
      next.some,
      subst (λ (bs : List Batch). AreOfCalls next.begun log (entries_in bs) batch.entries) (sym (both ∙ all)) (entries_called_later next.begun v log (entries_in next.before) batch.entries pre next.called),
    )

-- a store of the batch that was cut next
pub store_may : (v log : List Act) (count moment : ℕ) (batch : Batch) → WasCut v count batch → IsPrefix v log → IsLegal log → length (stores_in log) ≡ count → MayBeAppended log (Stored batch moment)
store_may v (Began begun ∷ log) count moment batch (before, size, cut) pre legal here =
    let there = prefix_trans (before ++ batch ∷ []) (cuts_in v) (cuts_in log) cut (cuts_rise v (Began begun ∷ log) pre) in
    let stored : List Batch = batches_of (stores_in log) in
    let as_many : length stored ≡ count = length-map (stores_in log) (λ (s : Batch × ℕ). s.0) ∙ here in
    elim (legal_sound begun (Began begun ∷ log) (log, refl) legal).balanced [
      | inl all ↦
          let most = prefix_length (before ++ batch ∷ []) (cuts_in log) there in
          absurd (omega (arith, most, length-append before (batch ∷ []), ap length all, as_many, size))
      | inr (b, all) ↦
          let one : length (cuts_in log) ≡ length stored + 1 = ap length all ∙ length-append stored (b ∷ []) in
          let whole = prefix_whole (before ++ batch ∷ []) (cuts_in log) there (omega (arith, one, length-append before (batch ∷ []), as_many, size)) in
          whole ∙ ap (λ (bs : List Batch). bs ++ batch ∷ []) (sym (fronts_same stored before b batch (sym all ∙ whole)).0)
    ]
store_may v _ count moment batch was pre legal here = absurd legal

-- with as many stores a beginning has all of them
pub stores_same : (xs ys : List Act) → IsPrefix xs ys → length (stores_in ys) ≡ length (stores_in xs) → stores_in ys ≡ stores_in xs
stores_same xs ys p same = prefix_whole (stores_in xs) (stores_in ys) (stores_rise xs ys p) same

-- what was appended comes after what was there
pub appended_rise : (old new : List Act) (act : Act) → WasAppended old act new → IsPrefix old new
appended_rise old new act a = prefix_trans old a.earlier new a.seen (act ∷ [], sym a.is)

-- a batch that is stored next is noted
pub note_adds : (old new : List Act) (batch : Batch) (moment stored : ℕ) → stored ≡ length (stores_in old) → (c : WasAppended old (Stored batch moment) new) → length (stores_in c.earlier) ≡ stored
    → stores_in new ≡ stores_in old ++ (batch, moment) ∷ []
note_adds old new batch moment stored count c same =
    ap stores_in c.is ∙ stores_append c.earlier (Stored batch moment ∷ []) ∙ ap (λ (s : List (Batch × ℕ)). s ++ (batch, moment) ∷ []) (stores_same old c.earlier c.seen (same ∙ count))

-- with another number of stores the whole has more than the beginning
pub stores_more : (xs ys : List Act) → IsPrefix xs ys → (length (stores_in ys) ≡ length (stores_in xs) → ⊥) → HasMore (stores_in xs) (stores_in ys)
stores_more xs ys p other = by (stores_in p.0) (sym (stores_append xs p.0) ∙ ap stores_in p.1)
  where
    by : (rest : List (Batch × ℕ)) → stores_in xs ++ rest ≡ stores_in ys → HasMore (stores_in xs) (stores_in ys)
    by [] is = absurd (other (ap length (sym is ∙ append-nil (stores_in xs))))
    by (s ∷ rest) is = (s, rest, sym is)

-- ---- answers that were issued

pub each_later : (rs : List Receipt) (xs ys : List Act) → IsPrefix xs ys → EachIssued rs xs → EachIssued rs ys
each_later rs xs ys p = all_weaker (λ r. StandsIn xs (Issued r)) (λ r. StandsIn ys (Issued r)) (λ r. stands_later xs ys (Issued r) p) rs

pub are_later : (n : ℕ) (ms : List Mail) (xs ys : List Act) → IsPrefix xs ys → AreIssued n ms xs → AreIssued n ms ys
are_later n ms xs ys p =
    all_weaker (λ m. WasIssued n m xs) (λ m. WasIssued n m ys) (λ m issued. IfSome_then (receipt_of n m) issued (λ (r : Receipt). stands_later xs ys (Issued r) p)) ms

-- what was issued to a connection, and then to the same
pub issued_both : (n k : ℕ) (ms ns : List Mail) (xs ys : List Act) → k ≡ n → IsPrefix xs ys → AreIssued n ms xs → AreIssued k ns ys → AreIssued n (ms ++ ns) ys
issued_both n k ms ns xs ys same p one two = all_append (λ m. WasIssued n m ys) ms ns (are_later n ms xs ys p one) (subst (λ (j : ℕ). AreIssued j ns ys) same two)

each_option : (o : Option Receipt) (rs : List Receipt) (acts : List Act) → IfSome o (λ r. StandsIn acts (Issued r)) → EachIssued rs acts → EachIssued (cons_option o rs) acts
each_option None rs acts one all = all
each_option (Some r) rs acts one all = (one, all)

-- the receipts of mails
pub each_of : (n : ℕ) (ms : List Mail) (acts : List Act) → AreIssued n ms acts → EachIssued (filter_map (receipt_of n) ms) acts
each_of n [] acts issued = tt
each_of n (m ∷ ms) acts issued = each_option (receipt_of n m) (filter_map (receipt_of n) ms) acts issued.0 (each_of n ms acts issued.1)

each_first : (n : ℕ) (rs : List Receipt) (acts : List Act) → EachIssued rs acts → EachIssued (take n rs) acts
each_first zero rs acts issued = tt
each_first (suc n) [] acts issued = tt
each_first (suc n) (r ∷ rs) acts issued = (issued.0, each_first n rs acts issued.1)

pub receipts_issued : (n : ℕ) (kept : List Receipt) (ms : List Mail) (acts : List Act) → kept ≡ take 1024 (filter_map (receipt_of n) ms) → AreIssued n ms acts → EachIssued kept acts
receipts_issued n kept ms acts is issued = subst (λ (rs : List Receipt). EachIssued rs acts) (sym is) (each_first 1024 (filter_map (receipt_of n) ms) acts (each_of n ms acts issued))

-- the receipts of another side, added to those of one
pub gathered_issued : {A E : Type 0} (added : Result A E) (old new : ReceiptList) (others slice : List Receipt) (xs ys zs : List Act) → slice ≡ others → OnOk added (new ≡ record old { items = old.items ++ slice })
    → OnErr added (new ≡ record old { whole = false }) → IsPrefix xs zs → IsPrefix ys zs → EachIssued old.items xs → EachIssued others ys → EachIssued new.items zs
gathered_issued (Ok a) old new others slice xs ys zs same ok err p q one two =
    subst (λ (rs : List Receipt). EachIssued rs zs) (ap (λ (rs : List Receipt). old.items ++ rs) (sym same) ∙ sym (ap (λ (l : ReceiptList). l.items) ok))
    (all_append (λ r. StandsIn zs (Issued r)) old.items others (each_later old.items xs zs p one) (each_later others ys zs q two))
gathered_issued (Err e) old new others slice xs ys zs same ok err p q one two =
    subst (λ (rs : List Receipt). EachIssued rs zs) (sym (ap (λ (l : ReceiptList). l.items) err)) (each_later old.items xs zs p one)

-- ---- the call of an answer

-- a batch among those that were cut was cut by an act
cut_act : (acts : List Act) (front back : List Batch) (b : Batch) → cuts_in acts ≡ front ++ b ∷ back → (earlier later : List Act) × (acts ≡ earlier ++ Cut b ∷ later)
cut_act [] front back b is = absurd (omega (arith, ap length is, length-append front (b ∷ back)))
cut_act (Cut c ∷ acts) [] back b is =
    let head : c ≡ b = cc is in
    ([], acts, ap (λ (x : Batch). Cut x ∷ acts) head)
cut_act (Cut c ∷ acts) (x ∷ front) back b is =
    let tail : cuts_in acts ≡ front ++ b ∷ back = cc is in
    let r = cut_act acts front back b tail in (Cut c ∷ r.0, r.1, ap (λ (zs : List Act). Cut c ∷ zs) r.2)
cut_act (a ∷ acts) front back b is = let r = cut_act acts front back b is in (a ∷ r.0, r.1, ap (λ (zs : List Act). a ∷ zs) r.2)

-- an entry of two lists is in the first, or in the second
split_at : (xs ys before behind : List Entry) (e : Entry) → xs ++ ys ≡ before ++ e ∷ behind
    → (slice_get xs (length before) ≡ Some e) ⊎ ((rest : List Entry) × (before ≡ xs ++ rest) × (ys ≡ rest ++ e ∷ behind))
split_at [] ys before behind e is = inr (before, refl, is)
split_at (x ∷ xs) ys [] behind e is = let head : x ≡ e = cc is in inl (ap (λ (y : Entry). Some y) head)
split_at (x ∷ xs) ys (w ∷ before) behind e is = by (split_at xs ys before behind e tail)
  where
    head : x ≡ w
    head = cc is

    tail : xs ++ ys ≡ before ++ e ∷ behind
    tail = cc is

    by : (slice_get xs (length before) ≡ Some e) ⊎ ((rest : List Entry) × (before ≡ xs ++ rest) × (ys ≡ rest ++ e ∷ behind))
        → (slice_get (x ∷ xs) (length (w ∷ before)) ≡ Some e) ⊎ ((rest : List Entry) × (w ∷ before ≡ (x ∷ xs) ++ rest) × (ys ≡ rest ++ e ∷ behind))
    by (inl here) = inl here
    by (inr (rest, front, back)) = inr (rest, ap (λ (es : List Entry). w ∷ es) front ∙ ap (λ (y : Entry). y ∷ (xs ++ rest)) (sym head), back)

-- an entry of batches that are in order is in one of them, at its place
record IsInBatch (at : ℕ) (bs : List Batch) (before : List Entry) (e : Entry) : Type 0 where
  pub front : List Batch
  pub back : List Batch
  pub batch : Batch
  pub k : ℕ
  pub batches : bs ≡ front ++ batch ∷ back
  pub there : slice_get batch.entries k ≡ Some e
  pub place : at + length before ≡ batch.first + k

in_batch : (at : ℕ) (bs rest : List Batch) (before behind : List Entry) (e : Entry) → AreInOrder at (bs ++ rest) → entries_in bs ≡ before ++ e ∷ behind → IsInBatch at bs before e
in_batch at [] rest before behind e order is = absurd (omega (arith, ap length is, length-append before (e ∷ behind)))
in_batch at (b ∷ bs) rest before behind e order is =
    by (λ more tail. in_batch (at + length b.entries) bs rest more behind e order.2 tail) (split_at b.entries (entries_in bs) before behind e is)
  where
    by : ((more : List Entry) → entries_in bs ≡ more ++ e ∷ behind → IsInBatch (at + length b.entries) bs more e)
        → (slice_get b.entries (length before) ≡ Some e) ⊎ ((more : List Entry) × (before ≡ b.entries ++ more) × (entries_in bs ≡ more ++ e ∷ behind)) → IsInBatch at (b ∷ bs) before e
    by rec (inl here) = record { front = []; back = bs; batch = b; k = length before; batches = refl; there = here; place = omega (arith, order.0) }
    by rec (inr (more, size, tail)) =
        let r = rec more tail in
        record {
          front = b ∷ r.front;
          back = r.back;
          batch = r.batch;
          k = r.k;
          batches = ap (λ (xs : List Batch). b ∷ xs) r.batches;
          there = r.there;
          place = omega (arith, r.place, ap length size, length-append b.entries more);
        }

all_at : (begun : ServerState) (acts : List Act) (front es : List Entry) (k : ℕ) (e : Entry) → AreOfCalls begun acts front es → slice_get es k ≡ Some e → FinishesOnly (WasCalledSince begun acts (front ++ take k es)) e
all_at begun acts front [] k e all is = absurd cc
all_at begun acts front (x ∷ es) zero e all is =
    let same : x ≡ e = cc is in
    subst (λ (xs : List Entry). FinishesOnly (WasCalledSince begun acts xs) e) (sym (append-nil front)) (subst (λ (y : Entry). FinishesOnly (WasCalledSince begun acts front) y) same all.0)
all_at begun acts front (x ∷ es) (suc k) e all is =
    subst (λ (xs : List Entry). FinishesOnly (WasCalledSince begun acts xs) e) (append_assoc front (x ∷ []) (take k es)) (all_at begun acts (front ++ x ∷ []) es k e all.1 is)

-- an answer that was issued is that of a request that was called: since the beginning if it was kept then, or before its batch was cut
pub issued_of_call : (begun : ServerState) (acts earlier later : List Act) (r : Receipt) → IsLegal acts → IsPrefix (Began begun ∷ []) acts → acts ≡ earlier ++ Issued r ∷ later → (request : Request) × IsAnswerOf begun earlier r request
issued_of_call begun acts earlier later r whole began is =
    let (may, legal, begins) = may_at begun acts earlier later (Issued r) whole began is (λ e. cc e) in
    let sound = legal_sound begun earlier begins legal in
    let (rest, all_cut) = stored_first earlier sound.balanced in
    elim may.0 [
      | inl k ↦ (k.0.request, IsAnswerOf.Before k.0.kept k.1)
      | inr f ↦
          let ordered = subst (λ (bs : List Batch). AreInOrder begun.place bs) (sym all_cut) sound.ordered in
          let b = in_batch begun.place (batches_of (stores_in earlier)) rest f.before f.behind (Finished r.session r.number f.request r.answer) ordered f.entries in
          let cuts = sym all_cut ∙ ap (λ (bs : List Batch). bs ++ rest) b.batches ∙ append_assoc b.front (b.batch ∷ b.back) rest in
          let act = cut_act earlier b.front (b.back ++ rest) b.batch cuts in
          let all = (may_at begun earlier act.0 act.1 (Cut b.batch) legal begins act.2 (λ e. cc e)).0.3 in
          (f.request, IsAnswerOf.Since act.0 act.1 b.batch b.k act.2 (all_at begun act.0 (entries_in (cuts_in act.0)) b.batch.entries b.k _ all b.there) b.there (f.at ∙ b.place))
    ]

-- ---- real time

place_grows : (begun : ServerState) (xs ys : List Batch) → IsPrefix xs ys → place_after begun xs ≤ place_after begun ys
place_grows begun xs ys p = omega (arith, ap length (ap entries_in p.1), ap length (entries_append xs p.0), length-append (entries_in xs) (entries_in p.0))

-- What was issued before a batch was cut has a place before all of that batch. So an answer that was issued before a request was called for
-- the first time has a place before that request's.
pub issued_before_cut : (begun : ServerState) (acts earlier between later : List Act) (r : Receipt) (b : Batch) → IsLegal acts → IsPrefix (Began begun ∷ []) acts
    → acts ≡ (earlier ++ Issued r ∷ between) ++ Cut b ∷ later → r.place < b.first
issued_before_cut begun acts earlier between later r b whole began is =
    let front : List Act = earlier ++ Issued r ∷ between in
    let (cut, legal, begins) = may_at begun acts front later (Cut b) whole began is (λ e. cc e) in
    let stored : List Batch = batches_of (stores_in earlier) in
    let rises : IsPrefix stored (cuts_in front) = subst (λ (bs : List Batch). IsPrefix stored bs) (sym cut.0) (stored_rise earlier front (Issued r ∷ between, refl)) in
    let grows = place_grows begun stored (cuts_in front) rises in
    let below : r.place < place_after begun stored =
    elim (may_at begun front earlier between (Issued r) legal begins refl (λ e. cc e)).0.0 [
      | inl k ↦ let first = k.0.earlier in omega (arith, first)
      | inr f ↦ omega (arith, f.at, ap length f.entries, length-append f.before (Finished r.session r.number f.request r.answer ∷ f.behind))
    ] in
    omega (arith, below, grows, cut.1)
