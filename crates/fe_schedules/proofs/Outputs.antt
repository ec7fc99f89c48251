-- The replies in a desk's output.
use Rattle.std.proofs.Common.{◌≡◌, ℕ, zero, suc, ◌<◌, ◌≤◌, List, [], ◌∷◌, ◌++◌, ◌+◌, ◌-◌, length, map, take, drop, refl, sym, ap, ◌∙◌, subst, arith}
use Rattle.std.specs.List.{flat_map, AllByRecursion}
use Rattle.std.specs.Prelude.{slice_index_or}
use Rattle.std.proofs.lemmas.List.{take-append-drop, drop-drop}
use Rattle.fe_wire.specs.Spelling.{reply_spelling, ReplyFits}
use Rattle.fe_wire.specs.declared.server_message.ServerMessage.{ServerMessage}
use Rattle.fe_desk.specs.Messages.{AreReplies}
use Rattle.fe_desk.specs.Runs.{AreSilent}
use Rattle.fe_desk.specs.declared.port.Port.{Port}
use Rattle.fe_schedules.specs.Schedule.{ArePrintedReplies, AreRepliesIn, printed_to}
use Rattle.fe_schedules.specs.declared.printed_reply.PrintedReply.{PrintedReply}

-- what a port was written are replies
pub port_replies : (w all : List ℕ) → w ≡ all → AreReplies w → (replies : List ServerMessage) × AllByRecursion ReplyFits replies × (w ≡ flat_map reply_spelling replies) × AreRepliesIn all replies
port_replies w all e whole = (whole.replies, whole.fits, whole.spelled, record { fits = whole.fits; spelled = sym e ∙ whole.spelled })

abbrev pub outs : List Port → List (ℕ × List ℕ)
outs ports = map {B = ℕ × List ℕ} (λ (p : Port). (p.conn, p.written)) ports

-- the replies of one port more
pub one_port_more : (ports : List Port) (i : ℕ) (p : Port) (replies : List ServerMessage) (left : List PrintedReply) → i < length ports → p ≡ slice_index_or ports i p → AreRepliesIn p.written replies
    → ArePrintedReplies (drop (suc i) (outs ports)) left → ArePrintedReplies (drop i (outs ports)) (map (printed_to p.conn) replies ++ left)
one_port_more [] i p replies left lt e printed_replies more = absurd (omega (arith, lt))
one_port_more (q ∷ ports) zero p replies left lt e printed_replies more =
    subst (λ (x : Port). ArePrintedReplies (outs (q ∷ ports)) (map (printed_to x.conn) replies ++ left)) (sym e) (replies, left, subst (λ (x : Port). AreRepliesIn x.written replies) e printed_replies, more, refl)
one_port_more (q ∷ ports) (suc i) p replies left lt e printed_replies more = one_port_more ports i p replies left (omega (arith, lt)) e printed_replies more

-- where nothing was written there are no replies
pub silent_replies : (os : List (ℕ × List ℕ)) → AreSilent os → ArePrintedReplies os []
silent_replies [] none = refl
silent_replies (o ∷ os) none = ([], [], record { fits = tt; spelled = none.0 }, silent_replies os none.1, refl)

more_before : (silent os : List (ℕ × List ℕ)) (printed_replies : List PrintedReply) → AreSilent silent → ArePrintedReplies os printed_replies → ArePrintedReplies (silent ++ os) printed_replies
more_before [] os printed_replies none a = a
more_before (o ∷ silent) os printed_replies none a = ([], printed_replies, record { fits = tt; spelled = none.0 }, more_before silent os printed_replies none.1 a, refl)

-- those to which nothing was written are passed over
pub passed_over : (os : List (ℕ × List ℕ)) (from at : ℕ) (printed_replies : List PrintedReply) → from ≤ at → AreSilent (take (at - from) (drop from os)) → ArePrintedReplies (drop at os) printed_replies → ArePrintedReplies (drop from os) printed_replies
passed_over os from at printed_replies le none a =
    let sum : from + (at - from) ≡ at = omega (arith, le) in
    let split : take (at - from) (drop from os) ++ drop at os ≡ drop from os =
    ap (λ (xs : List (ℕ × List ℕ)). take (at - from) (drop from os) ++ xs) (ap (λ (n : ℕ). drop n os) (sym sum) ∙ sym (drop-drop (at - from) from os)) ∙ take-append-drop (at - from) (drop from os) in
    subst (λ (xs : List (ℕ × List ℕ)). ArePrintedReplies xs printed_replies) split (more_before (take (at - from) (drop from os)) (drop at os) printed_replies none a)
