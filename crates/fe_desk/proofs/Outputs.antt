-- What was written to connections goes on with more.
use Rattle.std.proofs.Common.{◌≡◌, ℕ, Bool, true, false, List, [], ◌∷◌, ◌++◌, map, Option, Some, None, refl, sym, ap, subst, ◌∙◌, append_assoc, append-nil, if◌then◌else◌}
use Rattle.std.specs.Prelude.{MatchBool, is_some}
use Rattle.fe_wire.specs.Stream.{Decoding}
use Rattle.fe_wire.specs.declared.client_message.ClientMessage.{ClientMessage}
use Rattle.fe_front.specs.Front.{FrontState, is_connected}
use Rattle.fe_desk.specs.declared.handed.Handed.{Handed}
use Rattle.fe_desk.specs.declared.handed.Handed.TheVariants.{Nothing, Cut, Stored}
use Rattle.fe_desk.specs.declared.step.Step.{Step}
use Rattle.fe_desk.specs.declared.step.Step.TheVariants as step
use Rattle.fe_desk.specs.DeskRunState.{emptied_box, Extends, Client, DeskRunState, unwritten, all_written_out, stored, stored_from, posted, posted_from}
use Rattle.fe_desk.specs.Room.{is_making, unmade}
use Rattle.fe_desk.specs.Messages.{outputs}
use Rattle.fe_desk.specs.Steps.{find, on_client, with_left, with_decoder, new_client, clients_with, Connects, gone, TakesPiece, TakesFrom, TakesBytes, after_frame, Acts}
use Rattle.fe_desk.proofs.Reading.{each-on_client, takes_all-keeps}

-- a client's connection number, and what was written to it
abbrev pub output_of : Client → ℕ × List ℕ
output_of c = (c.conn, c.written)

pub extends_itself : (xs : List (ℕ × List ℕ)) → Extends xs xs
extends_itself [] = tt
extends_itself (x ∷ xs) = (refl, ([], sym (append-nil x.1)), extends_itself xs)

pub extends_both : (xs ys zs : List (ℕ × List ℕ)) → Extends xs ys → Extends ys zs → Extends xs zs
extends_both [] ys zs e f = tt
extends_both (x ∷ xs) [] zs e f = absurd e
extends_both (x ∷ xs) (y ∷ ys) [] e f = absurd f
extends_both (x ∷ xs) (y ∷ ys) (z ∷ zs) e f =
    let one = e.1 in
    let two = f.1 in
    (f.0 ∙ e.0, (one.0 ++ two.0, two.1 ∙ ap (λ (t : List ℕ). t ++ two.0) one.1 ∙ append_assoc x.1 one.0 two.0), extends_both xs ys zs e.2 f.2)

pub extends_as : (xs ys : List (ℕ × List ℕ)) → ys ≡ xs → Extends xs ys
extends_as xs ys same = subst (λ (zs : List (ℕ × List ℕ)). Extends xs zs) (sym same) (extends_itself xs)

-- a client comes
extends_behind : (cs : List Client) (d : Client) → Extends (map output_of cs) (map output_of (cs ++ d ∷ []))
extends_behind [] d = tt
extends_behind (c ∷ cs) d = (refl, ([], sym (append-nil c.written)), extends_behind cs d)

-- each is written its mails
pub all_written_out-extends : (f : FrontState) (cs : List Client) → Extends (map output_of cs) (map output_of (all_written_out f cs))
all_written_out-extends f [] = tt
all_written_out-extends f (c ∷ cs) = (refl, (unwritten f c, refl), all_written_out-extends (emptied_box f c.conn) cs)

-- ---- the clients over what a step does

came : (cs : List Client) (conn : ℕ) (d : Decoding) → Extends (map output_of cs) (map output_of (clients_with cs conn d))
came cs conn d = by (is_some (find conn cs))
  where
    by : (b : Bool) → Extends (map output_of cs) (map output_of (if b then on_client conn (λ c. record c { decoder = d; left = [] }) cs else cs ++ new_client conn d ∷ []))
    by true = extends_as (map output_of cs) (map output_of (on_client conn (λ c. record c { decoder = d; left = [] }) cs)) (each-on_client output_of conn (λ c. record c { decoder = d; left = [] }) cs (λ c. refl))
    by false = extends_behind cs (new_client conn d)

-- the parts of a step that leave the clients
pub stored_clients : (h : Handed) (s : DeskRunState) → (stored_from h s).clients ≡ s.clients
stored_clients Nothing s = refl
stored_clients (Cut batch) s = refl
stored_clients (Stored batch) s = refl

pub posted_clients : (h : Handed) (s : DeskRunState) → (posted_from h s).clients ≡ s.clients
posted_clients Nothing s = refl
posted_clients (Cut batch) s = refl
posted_clients (Stored batch) s = refl

pub unmade_clients : (s : DeskRunState) (conn : ℕ) → (unmade s conn).clients ≡ s.clients
unmade_clients s conn = by (is_making s conn)
  where
    by : (b : Bool) → (if b then record s { making = None } else s).clients ≡ s.clients
    by true = refl
    by false = refl

-- ---- output over what a step does

-- the clients of one standing are those of another
pub same_outputs : (s t : DeskRunState) → t.clients ≡ s.clients → outputs t ≡ outputs s
same_outputs s t clients = ap (λ (cs : List Client). map output_of cs) clients

left_output : (s : DeskRunState) (conn : ℕ) (left : List ClientMessage) → outputs (with_left s conn left) ≡ outputs s
left_output s conn left = each-on_client output_of conn (λ c. record c { left = left }) s.clients (λ c. refl)

pub gone_output : (s : DeskRunState) (conn : ℕ) → outputs (gone s conn) ≡ outputs s
gone_output s conn = left_output (unmade s conn) conn [] ∙ same_outputs s (unmade s conn) (unmade_clients s conn)

frame_output : (bad : Bool) (s : DeskRunState) (conn : ℕ) → outputs (after_frame bad s conn) ≡ outputs s
frame_output true s conn = gone_output s conn
frame_output false s conn = refl

piece_output : (s : DeskRunState) (conn : ℕ) (before : Decoding) (piece : List ℕ) (t : DeskRunState) → TakesPiece s conn before piece t → outputs t ≡ outputs s
piece_output s conn before piece t p =
    let read = with_decoder s conn p.decoder in
    ap outputs p.after
    ∙ frame_output p.decoder.is_bad p.last conn
    ∙ same_outputs read p.last (takes_all-keeps read conn p.more p.last p.takes)
    ∙ each-on_client output_of conn (λ c. record c { decoder = p.decoder }) s.clients (λ c. refl)

from_output : (s : DeskRunState) (conn : ℕ) (left : List ClientMessage) (before : Decoding) (piece : List ℕ) (t : DeskRunState) → TakesFrom s conn left before piece t → outputs t ≡ outputs s
from_output s conn left before piece t p =
    by (is_connected p.mid.front conn) p.reading
    ∙ same_outputs (with_left s conn []) p.mid (takes_all-keeps (with_left s conn []) conn left p.mid p.leftovers)
    ∙ left_output s conn []
  where
    by : (b : Bool) → MatchBool b (TakesPiece p.mid conn before piece t) (t ≡ p.mid) → outputs t ≡ outputs p.mid
    by true r = piece_output p.mid conn before piece t r
    by false r = ap outputs r

pub bytes_output : (s : DeskRunState) (o : Option Client) (piece : List ℕ) (t : DeskRunState) → TakesBytes s o piece t → outputs t ≡ outputs s
bytes_output s None piece t e = ap outputs e
bytes_output s (Some c) piece t e = from_output s c.conn c.left c.decoder piece t e

-- a step writes nothing before its end
pub acts_extends : (s : DeskRunState) (x : Step) (t : DeskRunState) → Acts s x t → Extends (outputs s) (outputs t)
acts_extends s (step.Connect conn) t e = by (is_connected s.front conn) e
  where
    by : (b : Bool) → MatchBool b (t ≡ s) (Connects s conn t) → Extends (outputs s) (outputs t)
    by true r = extends_as (outputs s) (outputs t) (ap outputs r)
    by false r = subst (λ (u : DeskRunState). Extends (outputs s) (outputs u)) (sym r.after) (came s.clients conn r.decoder)
acts_extends s (step.Bytes conn piece) t e = extends_as (outputs s) (outputs t) (bytes_output s (find conn s.clients) piece.items t e)
acts_extends s (step.Gone conn) t e = extends_as (outputs s) (outputs t) (ap outputs e ∙ gone_output s conn)
acts_extends s step.Cut t e = extends_as (outputs s) (outputs t) (ap outputs e)
acts_extends s step.Append t e = extends_as (outputs s) (outputs t) (ap outputs e ∙ same_outputs s (stored s) (stored_clients s.handed s))
acts_extends s step.Post t e = extends_as (outputs s) (outputs t) (ap outputs e ∙ same_outputs s (posted s) (posted_clients s.handed s))
acts_extends s step.CheckBegin t e = extends_as (outputs s) (outputs t) (ap outputs e)
acts_extends s step.CheckStep t e = extends_as (outputs s) (outputs t) (ap outputs e)
acts_extends s step.CheckFinish t e = extends_as (outputs s) (outputs t) (ap outputs e)
