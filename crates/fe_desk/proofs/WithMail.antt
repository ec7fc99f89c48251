-- Which connections may have a mail.
use Rattle.std.proofs.Common.{◌≡◌, ◌≢◌, ℕ, zero, suc, ◌+◌, ◌<◌, Bool, true, false, true≢false, List, [], ◌∷◌, length, Option, Some, nat_lt, ◌⊎◌, inl, inr, ⊎_elim, refl, sym, ap, ◌∙◌, subst, arith, rules}
use Rattle.std.specs.Prelude.{IsTrue}
use Rattle.std.specs.Option.{option_map_or}
use Rattle.std.specs.FinMap.{remove}
use Rattle.std.proofs.lemmas.Bool.Decides.{nat_tests}
use Rattle.fe_state.proofs.Maps.{same_or_other, get_left}
use Rattle.fe_mail.specs.Connections.{mails_on, mails_in}
use Rattle.fe_mail.specs.declared.connection.Connection.{Connection}
use Rattle.fe_mail.specs.declared.mail.Mail.{Mail}
use Rattle.fe_mail.proofs.MailCounts.{mails_in-remove}
use Rattle.fe_front.specs.Posting.{may_have, HasItsBox}
use Rattle.fe_front.specs.Front.{FrontState}
use Rattle.fe_front.specs.declared.connection_set.ConnectionSet.{ConnectionSet}
use Rattle.fe_desk.specs.declared.step.Step.{Step}
use Rattle.fe_desk.specs.declared.step.Step.TheVariants as step
use Rattle.fe_desk.specs.DeskRunState.{Client, emptied_box}
use Rattle.fe_desk.specs.Steps.{AreWritten}
use Rattle.fe_desk.specs.declared.port_set.PortSet.{PortSet}
use Rattle.fe_desk.specs.within.Desk.{HasAllWithMail, IsFirstAt, IsMailedFrom, KeepsFront, client_number_at, port_bit}
use Rattle.fe_desk.proofs.Emptying.{box_emptied, emptied_box-keeps}
use Rattle.fe_desk.proofs.Places.{behind}
use Rattle.std.proofs.lemmas.Option.{same_Some}

-- those whose boxes a post changed, where no box had a mail
pub changed_since : (f g : FrontState) (set : ConnectionSet) → ((conn : ℕ) → mails_on f.connections conn ≡ []) → ((conn : ℕ) → IsTrue (may_have set conn) ⊎ HasItsBox f g conn) → HasAllWithMail g set
changed_since f g set empty changed conn = ⊎_elim (λ is. inl is) (λ same. inr (same.mails ∙ empty conn)) (changed conn)

-- where more boxes are empty
pub still_all : (f g : FrontState) (set : ConnectionSet) → KeepsFront f g → HasAllWithMail f set → HasAllWithMail g set
still_all f g set keeps all conn = ⊎_elim (λ is. inl is) (λ none. inr (keeps.empty conn none)) (all conn)

-- another step than a post
abbrev pub is_post : Step → Bool
is_post step.Post = true
is_post other = false

pub posts_not : (x : Step) → is_post x ≡ false → x ≡ step.Post → ⊥
posts_not x none is = true≢false (sym (ap is_post is) ∙ none)

-- ---- where one mail waits in all boxes

none_of : (ms : List Mail) → length ms ≡ 0 → ms ≡ []
none_of [] is = refl
none_of (m ∷ ms) is = absurd (omega (arith, is))

-- if it is that of a connection, the other boxes are empty
pub lone : (f : FrontState) (conn : ℕ) → mails_in f.connections ≡ 1 → nat_lt 0 (length (mails_on f.connections conn)) ≡ true → (other : ℕ) → other ≢ conn → mails_on f.connections other ≡ []
lone f conn one some other ne =
    let m = f.connections in
    let least : 0 < length (mails_on m conn) = search (rules, nat_tests, some) in
    let without = mails_in-remove m conn in
    let next = mails_in-remove (remove m conn) other in
    let none : mails_on (remove m conn) other ≡ [] = none_of (mails_on (remove m conn) other) (omega (arith, one, least, without, next)) in
    sym (ap (λ (o : Option Connection). option_map_or (λ (c : Connection). c.mails) o []) (get_left m conn other ne)) ∙ none

-- nothing is to be written where each box is empty and no reply waits
none_mailed : (at : ℕ) (f : FrontState) (cs : List Client) (set : PortSet) → AreWritten cs → ((q : ℕ) → mails_on f.connections q ≡ []) → IsMailedFrom at f cs set
none_mailed at f [] set replies boxes = tt
none_mailed at f (c ∷ cs) set replies boxes = (
  inr (record { reply = replies.0; box = boxes c.conn }),
  none_mailed (suc at) (emptied_box f c.conn) cs set replies.1 (λ q. (emptied_box-keeps f c.conn).empty q (boxes q)),
)

-- nor to another than the connection's client
pub lone_mailed : (k : ℕ) (f : FrontState) (cs : List Client) (set : PortSet) (conn at : ℕ) → AreWritten cs → ((other : ℕ) → other ≢ conn → mails_on f.connections other ≡ []) → IsFirstAt cs conn at
    → port_bit set (at + k) ≡ 1 → IsMailedFrom k f cs set
lone_mailed k f [] set conn at replies boxes p bit = let within = p.within in absurd (omega (arith, within))
lone_mailed k f (c ∷ cs) set conn zero replies boxes p bit =
    let same : c.conn ≡ conn = same_Some _ _ p.here in
    let g : FrontState = emptied_box f c.conn in
    let empty : (q : ℕ) → mails_on g.connections q ≡ [] = λ q. elim (same_or_other q conn) [
      | inl e ↦ ap (λ (n : ℕ). mails_on g.connections n) (e ∙ sym same) ∙ box_emptied f c.conn
      | inr ne ↦ (emptied_box-keeps f c.conn).empty q (boxes q ne)
    ] in
    (inl (subst (λ (n : ℕ). port_bit set n ≡ 1) (omega arith) bit), none_mailed (suc k) g cs set replies.1 empty)
lone_mailed k f (c ∷ cs) set conn (suc at) replies boxes p bit = (
  inr (record { reply = replies.0; box = boxes c.conn (λ e. p.first 0 (omega arith) (ap (λ (n : ℕ). Some n) e)) }),
  lone_mailed (suc k) (emptied_box f c.conn) cs set conn at replies.1 (λ q ne. (emptied_box-keeps f c.conn).empty q (boxes q ne)) (behind c cs conn at p)
      (subst (λ (n : ℕ). port_bit set n ≡ 1) (omega arith) bit),
)

-- a set with all ports says nothing
pub all_mailed : (at : ℕ) (f : FrontState) (cs : List Client) (set : PortSet) → ((i : ℕ) → port_bit set i ≡ 1) → IsMailedFrom at f cs set
all_mailed at f [] set all = tt
all_mailed at f (c ∷ cs) set all = (inl (all at), all_mailed (suc at) (emptied_box f c.conn) cs set all)

-- one with the ports of all connections that may have a mail
pub some_mailed : (k : ℕ) (f : FrontState) (cs : List Client) (set : PortSet) (mailed : ConnectionSet) → AreWritten cs → HasAllWithMail f mailed
    → ((at conn : ℕ) → client_number_at cs at ≡ Some conn → IsTrue (may_have mailed conn) → port_bit set (at + k) ≡ 1) → IsMailedFrom k f cs set
some_mailed k f [] set mailed replies all added = tt
some_mailed k f (c ∷ cs) set mailed replies all added = (
  ⊎_elim (λ is. inl (subst (λ (n : ℕ). port_bit set n ≡ 1) (omega arith) (added 0 c.conn refl is))) (λ none. inr (record { reply = replies.0; box = none })) (all c.conn),
  some_mailed (suc k) (emptied_box f c.conn) cs set mailed replies.1 (still_all f (emptied_box f c.conn) mailed (emptied_box-keeps f c.conn) all)
      (λ at conn is has. subst (λ (n : ℕ). port_bit set n ≡ 1) (omega arith) (added (suc at) conn is has)),
)
