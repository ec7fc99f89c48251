-- Where nothing is to be written, writing all of it changes nothing; and the steps that make no mail keep it so.
use Rattle.std.proofs.Common.{◌≡◌, ℕ, Bool, true, false, List, [], ◌∷◌, ◌++◌, Option, Some, None, refl, sym, ap, ◌∙◌, subst, append-nil, Result, Ok, Err, OnOk, if◌then◌else◌}
use Rattle.std.specs.Prelude.{nat_eq, is_some, is_err, map, OnErr, MatchBool}
use Rattle.fe_memory.specs.declared.OutOfMemory.{OutOfMemory}
use Rattle.fe_mail.specs.Connections.{mails_on}
use Rattle.fe_front.specs.Front.{FrontState, is_connected}
use Rattle.fe_desk.specs.declared.desk_inner.DeskInner.{DeskInner}
use Rattle.fe_desk.specs.declared.step.Step.{Step}
use Rattle.fe_desk.specs.declared.step.Step.TheVariants as step
use Rattle.fe_desk.specs.DeskRunState.{emptied_box, Client, DeskRunState, all_emptied, all_written_out, emptied, discharged}
use Rattle.fe_wire.specs.Stream.{Decoding}
use Rattle.fe_wire.specs.declared.client_message.ClientMessage.{ClientMessage}
use Rattle.fe_desk.specs.Steps.{find, on_client, Acts, Connects, clients_with, new_client, gone, with_left, with_decoder, after_frame, TakesPiece, TakesFrom, TakesBytes, HasNoMail, AreWritten}
use Rattle.fe_desk.specs.Room.{unmade}
use Rattle.fe_desk.specs.within.Desk.{client_of, run_state_of, KeepsFront}
use Rattle.fe_desk.proofs.Emptying.{quiet_all_emptied, quiet_all_written_out, AreQuiet}
use Rattle.fe_desk.proofs.Outputs.{stored_clients, posted_clients, unmade_clients}
use Rattle.fe_desk.proofs.Reading.{takes_all-keeps}
use Rattle.fe_desk.specs.within.Goes.{Empties}
use Rattle.fe_desk.specs.Ends.{WritesFirst}
use Rattle.fe_desk.proofs.StepParts.{all_written, none_boxed, discharged_at}
use Rattle.fe_desk.proofs.Writing.{writes_some}

-- ---- there is nothing to write

pub are_quiet : (f : FrontState) (cs : List Client) → ((conn : ℕ) → mails_on f.connections conn ≡ []) → AreWritten cs → AreQuiet f cs
are_quiet f [] boxes replies = tt
are_quiet f (c ∷ cs) boxes replies = (record { reply = replies.0; box = boxes c.conn }, are_quiet f cs boxes replies.1)

same_parts : (s : DeskRunState) (f : FrontState) (cs : List Client) → s.front ≡ f → s.clients ≡ cs → s.owes ≡ false → s ≡ record s { front = f; clients = cs; owes = false }
same_parts s f cs front clients owes =
    ap (λ (g : FrontState). record s { front = g }) front ∙ ap (λ (ds : List Client). record s { front = f; clients = ds }) clients
    ∙ ap (λ (b : Bool). record s { front = f; clients = cs; owes = b }) owes

-- emptying the boxes changes nothing
pub quiet_emptied : (s : DeskRunState) → HasNoMail s → s ≡ emptied s
quiet_emptied s quiet =
    let are = are_quiet s.front s.clients quiet.boxes quiet.replies in
    let nil : s.clients ++ [] ≡ s.clients = append-nil s.clients in
    let front : all_emptied s.front s.clients ≡ s.front = ap (λ (cs : List Client). all_emptied s.front cs) (sym nil) ∙ quiet_all_emptied s.front s.clients [] are in
    let clients : all_written_out s.front s.clients ≡ s.clients = ap (λ (cs : List Client). all_written_out s.front cs) (sym nil) ∙ quiet_all_written_out s.front s.clients [] are ∙ nil in
    same_parts s (all_emptied s.front s.clients) (all_written_out s.front s.clients) (sym front) (sym clients) quiet.owes

-- no reply waits once all is written out
pub none_waits : (f : FrontState) (cs : List Client) → AreWritten (all_written_out f cs)
none_waits f [] = tt
none_waits f (c ∷ cs) = (refl, none_waits (emptied_box f c.conn) cs)

-- nothing is left where the boxes were emptied
pub all_quiet : {D : Type 0} (p q : DeskInner D) (r : Result (Unit {0}) OutOfMemory) → OnOk r ((conn : ℕ) → mails_on q.front.connections conn ≡ [])
    → OnOk r (map client_of q.trace.ports.items ≡ all_written_out p.front (map client_of p.trace.ports.items)) → q.owes ≡ is_err r → OnOk r (HasNoMail (run_state_of q))
all_quiet p q (Ok x) boxes written_out owes = record {
  boxes = boxes;
  replies = subst AreWritten (sym written_out) (none_waits p.front (map client_of p.trace.ports.items));
  owes = owes;
}
all_quiet p q (Err e) boxes written_out owes = tt

-- how the boxes were emptied
pub empties : {D : Type 0} (p q : DeskInner D) (r : Result (Unit {0}) OutOfMemory) → ((conn : ℕ) → is_connected p.front conn ≡ true → is_some (find conn (map client_of p.trace.ports.items)) ≡ true) → KeepsFront p.front q.front
    → OnOk r (map client_of q.trace.ports.items ≡ all_written_out p.front (map client_of p.trace.ports.items)) → OnOk r (q.front ≡ all_emptied p.front (map client_of p.trace.ports.items))
    → OnErr r (WritesFirst p.front (map client_of p.trace.ports.items) q.front (map client_of q.trace.ports.items))
    → q.owes ≡ is_err r → q.handed ≡ p.handed → q.making ≡ p.making → q.trace.groups ≡ p.trace.groups → Empties r (run_state_of p) (run_state_of q)
empties p q (Ok x) known kept written_out emptied writes owes handed making groups = record {
  after = all_written p q (Ok x) written_out emptied owes handed making groups;
  quiet = all_quiet p q (Ok x) (none_boxed p q (Ok x) known kept emptied) written_out owes;
}
empties p q (Err e) known kept written_out emptied writes owes handed making groups = writes_some p q (Err e) writes owes handed making groups

-- ---- steps leave the replies that wait

-- a change of a client that leaves its reply
on_client_replies : (conn : ℕ) (change : Client → Client) (cs : List Client) → ((c : Client) → (change c).reply ≡ c.reply) → AreWritten cs → AreWritten (on_client conn change cs)
on_client_replies conn change [] keeps all = tt
on_client_replies conn change (c ∷ cs) keeps all = by (nat_eq c.conn conn) (on_client_replies conn change cs keeps all.1)
  where
    by : (b : Bool) → AreWritten (on_client conn change cs) → AreWritten (if b then change c ∷ cs else c ∷ on_client conn change cs)
    by true rest = (keeps c ∙ all.0, all.1)
    by false rest = (all.0, rest)

one_more : (cs : List Client) (c : Client) → AreWritten cs → c.reply ≡ None → AreWritten (cs ++ c ∷ [])
one_more [] c all none = (none, tt)
one_more (d ∷ ds) c all none = (all.0, one_more ds c all.1 none)

came_written : (cs : List Client) (conn : ℕ) (d : Decoding) → AreWritten cs → AreWritten (clients_with cs conn d)
came_written cs conn d all = by (is_some (find conn cs))
  where
    by : (b : Bool) → AreWritten (if b then on_client conn (λ c. record c { decoder = d; left = [] }) cs else cs ++ new_client conn d ∷ [])
    by true = on_client_replies conn (λ c. record c { decoder = d; left = [] }) cs (λ c. refl) all
    by false = one_more cs (new_client conn d) all refl

-- the clients are those of another standing
as_written : (cs ds : List Client) → ds ≡ cs → AreWritten cs → AreWritten ds
as_written cs ds same all = subst AreWritten (sym same) all

left_written : (s : DeskRunState) (conn : ℕ) (left : List ClientMessage) → AreWritten s.clients → AreWritten (with_left s conn left).clients
left_written s conn left all = on_client_replies conn (λ c. record c { left = left }) s.clients (λ c. refl) all

gone_written : (s : DeskRunState) (conn : ℕ) → AreWritten s.clients → AreWritten (gone s conn).clients
gone_written s conn all = left_written (unmade s conn) conn [] (as_written s.clients (unmade s conn).clients (unmade_clients s conn) all)

frame_written : (bad : Bool) (s : DeskRunState) (conn : ℕ) → AreWritten s.clients → AreWritten (after_frame bad s conn).clients
frame_written true s conn all = gone_written s conn all
frame_written false s conn all = all

piece_written : (s : DeskRunState) (conn : ℕ) (before : Decoding) (piece : List ℕ) (t : DeskRunState) → TakesPiece s conn before piece t → AreWritten s.clients → AreWritten t.clients
piece_written s conn before piece t p all =
    let read = with_decoder s conn p.decoder in
    as_written (after_frame p.decoder.is_bad p.last conn).clients t.clients (ap (λ (u : DeskRunState). u.clients) p.after)
    (frame_written p.decoder.is_bad p.last conn
    (as_written read.clients p.last.clients (takes_all-keeps read conn p.more p.last p.takes)
    (on_client_replies conn (λ c. record c { decoder = p.decoder }) s.clients (λ c. refl) all)))

from_written : (s : DeskRunState) (conn : ℕ) (left : List ClientMessage) (before : Decoding) (piece : List ℕ) (t : DeskRunState) → TakesFrom s conn left before piece t → AreWritten s.clients → AreWritten t.clients
from_written s conn left before piece t p all =
    by (is_connected p.mid.front conn) p.reading
    (as_written (with_left s conn []).clients p.mid.clients (takes_all-keeps (with_left s conn []) conn left p.mid p.leftovers) (left_written s conn [] all))
  where
    by : (b : Bool) → MatchBool b (TakesPiece p.mid conn before piece t) (t ≡ p.mid) → AreWritten p.mid.clients → AreWritten t.clients
    by true r rest = piece_written p.mid conn before piece t r rest
    by false r rest = as_written p.mid.clients t.clients (ap (λ (u : DeskRunState). u.clients) r) rest

bytes_written : (s : DeskRunState) (o : Option Client) (piece : List ℕ) (t : DeskRunState) → TakesBytes s o piece t → AreWritten s.clients → AreWritten t.clients
bytes_written s None piece t e all = as_written s.clients t.clients (ap (λ (u : DeskRunState). u.clients) e) all
bytes_written s (Some c) piece t e all = from_written s c.conn c.left c.decoder piece t e all

pub acts_written : (s : DeskRunState) (x : Step) (t : DeskRunState) → Acts s x t → AreWritten s.clients → AreWritten t.clients
acts_written s (step.Connect conn) t e all = by (is_connected s.front conn) e
  where
    by : (b : Bool) → MatchBool b (t ≡ s) (Connects s conn t) → AreWritten t.clients
    by true r = as_written s.clients t.clients (ap (λ (u : DeskRunState). u.clients) r) all
    by false r = as_written (clients_with s.clients conn r.decoder) t.clients (ap (λ (u : DeskRunState). u.clients) r.after) (came_written s.clients conn r.decoder all)
acts_written s (step.Bytes conn piece) t e all = bytes_written s (find conn s.clients) piece.items t e all
acts_written s (step.Gone conn) t e all = as_written (gone s conn).clients t.clients (ap (λ (u : DeskRunState). u.clients) e) (gone_written s conn all)
acts_written s step.Cut t e all = as_written s.clients t.clients (ap (λ (u : DeskRunState). u.clients) e) all
acts_written s step.Append t e all = as_written s.clients t.clients (ap (λ (u : DeskRunState). u.clients) e ∙ stored_clients s.handed s) all
acts_written s step.Post t e all = as_written s.clients t.clients (ap (λ (u : DeskRunState). u.clients) e ∙ posted_clients s.handed s) all
acts_written s step.CheckBegin t e all = as_written s.clients t.clients (ap (λ (u : DeskRunState). u.clients) e) all
acts_written s step.CheckStep t e all = as_written s.clients t.clients (ap (λ (u : DeskRunState). u.clients) e) all
acts_written s step.CheckFinish t e all = as_written s.clients t.clients (ap (λ (u : DeskRunState). u.clients) e) all

-- where no mail was there, none is there after a step that leaves all boxes empty
pub quiet_after : (s mid t : DeskRunState) (x : Step) → mid ≡ discharged s → HasNoMail s → Acts mid x t → t.owes ≡ mid.owes → ((conn : ℕ) → mails_on t.front.connections conn ≡ []) → HasNoMail t
quiet_after s mid t x is quiet acts owes boxes =
    let same : mid ≡ s = is ∙ discharged_at s quiet.owes in
    record {
      boxes = boxes;
      replies = acts_written mid x t acts (as_written s.clients mid.clients (ap (λ (u : DeskRunState). u.clients) same) quiet.replies);
      owes = owes ∙ ap (λ (u : DeskRunState). u.owes) same ∙ quiet.owes;
    }
