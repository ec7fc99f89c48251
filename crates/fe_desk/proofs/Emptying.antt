-- Mails go out of their boxes and are written as replies; and what is empty stays empty.
use Rattle.std.proofs.Common.{◌≡◌, ℕ, zero, suc, ◌+◌, ◌<◌, Bool, true, false, true≢false, List, [], ◌∷◌, ◌++◌, Option, Some, None, IsSome, length, refl, sym, ap, ◌∙◌, subst, arith, rules, append_assoc, append-nil, nat_lt, nat_eq, take, drop, map, get_or, slice_set, inl, inr, Result, Ok, Err, OnErr, if◌then◌else◌}
use Rattle.std.specs.Prelude.{slice_get, is_some}
use Rattle.std.specs.Option.{option_map_or}
use Rattle.std.specs.Ordering.{nat_cmp}
use Rattle.std.specs.FinMap.{FinMap, get}
use Rattle.std.proofs.lemmas.Option.{same_Some}
use Rattle.std.proofs.lemmas.Bool.Decides.{nat_tests}
use Rattle.std.proofs.lemmas.List.{map-append, take-append-drop, drop_more, drop-set-lt, take_more_set}
use Rattle.fe_state.proofs.Maps.{same_or_other}
use Rattle.fe_wire.specs.Spelling.{reply_spelling}
use Rattle.fe_wire.specs.declared.server_message.ServerMessage.{ServerMessage}
use Rattle.fe_mail.specs.Books.{mail_taken}
use Rattle.fe_mail.specs.Connections.{mails_on, mails_in, with_mails}
use Rattle.fe_mail.specs.declared.connection.Connection.{Connection}
use Rattle.fe_mail.specs.declared.mail.Mail.{Mail}
use Rattle.fe_mail.proofs.MailCounts.{mails_in-remove}
use Rattle.fe_mail.proofs.Lookups.{mails_on-with_mails, mails_on-with_mails-beside, is_some-with_mails}
use Rattle.fe_front.specs.Front.{FrontState, is_connected}
use Rattle.fe_front.specs.Steps.{taken}
use Rattle.fe_desk.specs.declared.port.Port.{Port}
use Rattle.fe_desk.specs.within.Desk.{IsQuiet, KeepsFront}
use Rattle.fe_messages.specs.Mails.{spelled}
use Rattle.fe_desk.specs.DeskRunState.{taken_times, emptied_box, Client, unwritten, written_out, all_written_out, all_emptied}
use Rattle.fe_desk.specs.Steps.{find}

-- ---- what stays, over calls one after another

pub itself : (f : FrontState) → KeepsFront f f
itself f = record { state = refl; pending = refl; out = refl; durable = refl; none_comes = λ conn there. there; empty = λ conn box. box }

pub both : (f g h : FrontState) → KeepsFront f g → KeepsFront g h → KeepsFront f h
both f g h a b = record {
  state = b.state ∙ a.state;
  pending = b.pending ∙ a.pending;
  out = b.out ∙ a.out;
  durable = b.durable ∙ a.durable;
  none_comes = λ conn there. a.none_comes conn (b.none_comes conn there);
  empty = λ conn box. b.empty conn (a.empty conn box);
}

-- ---- one mail is taken

-- a box with a mail is that of a connection that is there
there_of : (m : FinMap nat_cmp Connection) (conn : ℕ) (x : Mail) (xs : List Mail) → mails_on m conn ≡ x ∷ xs → IsSome (get m conn)
there_of m conn x xs is = by (get m conn) is
  where
    by : (o : Option Connection) → option_map_or (λ (c : Connection). c.mails) o [] ≡ x ∷ xs → IsSome o
    by None e = absurd (omega (arith, ap length e))
    by (Some c) e = refl

-- a connection that is not there has an empty box
pub no_box : (f : FrontState) (conn : ℕ) → is_connected f conn ≡ false → mails_on f.connections conn ≡ []
no_box f conn is = by (get f.connections conn) is
  where
    by : (o : Option Connection) → is_some o ≡ false → option_map_or (λ (c : Connection). c.mails) o [] ≡ []
    by None e = refl
    by (Some c) e = absurd (true≢false e)

some_lt : (n : ℕ) → nat_lt 0 (suc n) ≡ true
some_lt n = search (rules, nat_tests)

-- the front where the first mail of a box leaves it
abbrev shorter : FrontState → ℕ → FrontState
shorter f conn = record f { connections = with_mails f.connections conn (drop 1 (mails_on f.connections conn)); books = mail_taken f.books }

taken_is : (f : FrontState) (conn : ℕ) (m : Mail) (ms : List Mail) → mails_on f.connections conn ≡ m ∷ ms → taken f conn ≡ shorter f conn
taken_is f conn m ms box =
    ap (λ (b : Bool). if b then shorter f conn else f) (ap (λ (xs : List Mail). nat_lt 0 (length xs)) box ∙ some_lt (length ms))

-- taking from an empty box changes nothing
pub nothing_taken : (f : FrontState) (conn : ℕ) → mails_on f.connections conn ≡ [] → taken f conn ≡ f
nothing_taken f conn box = ap (λ (xs : List Mail). if nat_lt 0 (length xs) then shorter f conn else f) box

-- where no mail is in all boxes, each is empty
pub each_empty : (f : FrontState) → mails_in f.connections ≡ 0 → (conn : ℕ) → mails_on f.connections conn ≡ []
each_empty f none conn = none_of (mails_on f.connections conn) (omega (arith, mails_in-remove f.connections conn, none))
  where
    none_of : (xs : List Mail) → length xs ≡ 0 → xs ≡ []
    none_of [] is = refl
    none_of (x ∷ xs) is = absurd (omega (arith, is))

-- the mails after the first are left
pub left_in : (f : FrontState) (conn : ℕ) (m : Mail) (ms : List Mail) → mails_on f.connections conn ≡ m ∷ ms → mails_on (taken f conn).connections conn ≡ ms
left_in f conn m ms box =
    ap (λ (g : FrontState). mails_on g.connections conn) (taken_is f conn m ms box)
    ∙ mails_on-with_mails f.connections conn (drop 1 (mails_on f.connections conn)) (there_of f.connections conn m ms box)
    ∙ ap (λ (xs : List Mail). drop 1 xs) box

pub taken-keeps : (f : FrontState) (conn : ℕ) → KeepsFront f (taken f conn)
taken-keeps f conn = by (mails_on f.connections conn) refl
  where
    by : (xs : List Mail) → mails_on f.connections conn ≡ xs → KeepsFront f (taken f conn)
    by [] box = subst (λ (g : FrontState). KeepsFront f g) (sym (nothing_taken f conn box)) (itself f)
    by (m ∷ ms) box =
        let left : List Mail = drop 1 (mails_on f.connections conn) in
        subst (λ (g : FrontState). KeepsFront f g) (sym (taken_is f conn m ms box))
        (record {
          state = refl;
          pending = refl;
          out = refl;
          durable = refl;
          none_comes = λ q there. sym (is_some-with_mails f.connections conn left q) ∙ there;
          empty = λ q none. elim (same_or_other q conn) [
            | inl e ↦ absurd (omega (arith, ap length (sym box ∙ ap (λ (n : ℕ). mails_on f.connections n) (sym e) ∙ none)))
            | inr ne ↦ mails_on-with_mails-beside f.connections conn left q ne ∙ none
          ];
        })

-- ---- all mails of a connection are taken

pub times-keep : (n : ℕ) (f : FrontState) (conn : ℕ) → KeepsFront f (taken_times n f conn)
times-keep zero f conn = itself f
times-keep (suc n) f conn = both f (taken f conn) (taken_times n (taken f conn) conn) (taken-keeps f conn) (times-keep n (taken f conn) conn)

pub emptied_box-keeps : (f : FrontState) (conn : ℕ) → KeepsFront f (emptied_box f conn)
emptied_box-keeps f conn = times-keep (length (mails_on f.connections conn)) f conn

-- the mails after these are left
pub left_behind : (xs ys : List Mail) (f : FrontState) (conn : ℕ) → mails_on f.connections conn ≡ xs ++ ys → mails_on (taken_times (length xs) f conn).connections conn ≡ ys
left_behind [] ys f conn is = is
left_behind (x ∷ xs) ys f conn is = left_behind xs ys (taken f conn) conn (left_in f conn x (xs ++ ys) is)

pub box_emptied : (f : FrontState) (conn : ℕ) → mails_on (emptied_box f conn).connections conn ≡ []
box_emptied f conn = left_behind (mails_on f.connections conn) [] f conn (sym (append-nil (mails_on f.connections conn)))

-- a box is emptied also where its first mails were taken before
pub emptied_behind : (xs ys : List Mail) (f : FrontState) (conn : ℕ) → mails_on f.connections conn ≡ xs ++ ys → emptied_box (taken_times (length xs) f conn) conn ≡ emptied_box f conn
emptied_behind [] ys f conn is = refl
emptied_behind (x ∷ xs) ys f conn is =
    let left : mails_on (taken f conn).connections conn ≡ xs ++ ys = left_in f conn x (xs ++ ys) is in
    emptied_behind xs ys (taken f conn) conn left ∙ ap (λ (ms : List Mail). taken_times (length ms) (taken f conn) conn) left
    ∙ sym (ap (λ (ms : List Mail). taken_times (length ms) f conn) is)

-- an empty box is emptied by taking nothing
pub nothing_emptied : (f : FrontState) (conn : ℕ) → mails_on f.connections conn ≡ [] → emptied_box f conn ≡ f
nothing_emptied f conn box = ap (λ (xs : List Mail). taken_times (length xs) f conn) box

-- ---- all boxes are emptied

pub all_emptied-keeps : (f : FrontState) (cs : List Client) → KeepsFront f (all_emptied f cs)
all_emptied-keeps f [] = itself f
all_emptied-keeps f (c ∷ cs) = both f (emptied_box f c.conn) (all_emptied (emptied_box f c.conn) cs) (emptied_box-keeps f c.conn) (all_emptied-keeps (emptied_box f c.conn) cs)

pub same_number : (a b : ℕ) → nat_eq a b ≡ true → a ≡ b
same_number a b is = search (rules, nat_tests)

-- the box of a connection that has a client is empty then
pub boxes_empty : (f : FrontState) (cs : List Client) (conn : ℕ) → is_some (find conn cs) ≡ true → mails_on (all_emptied f cs).connections conn ≡ []
boxes_empty f [] conn is = absurd (true≢false (sym is))
boxes_empty f (c ∷ cs) conn is = by (nat_eq c.conn conn) refl is (boxes_empty (emptied_box f c.conn) cs conn)
  where
    by : (b : Bool) → nat_eq c.conn conn ≡ b → is_some (if b then Some c else find conn cs) ≡ true → (is_some (find conn cs) ≡ true → mails_on (all_emptied (emptied_box f c.conn) cs).connections conn ≡ [])
        → mails_on (all_emptied (emptied_box f c.conn) cs).connections conn ≡ []
    by true same there rest =
        (all_emptied-keeps (emptied_box f c.conn) cs).empty conn (subst (λ (n : ℕ). mails_on (emptied_box f c.conn).connections n ≡ []) (same_number c.conn conn same) (box_emptied f c.conn))
    by false same there rest = rest there

-- ---- a client is written its mails

pub quiet_written_out : (f : FrontState) (c : Client) → IsQuiet f c → written_out f c ≡ c
quiet_written_out f c quiet =
    let nothing : unwritten f c ≡ [] =
    ap (λ (o : Option ServerMessage). option_map_or reply_spelling o [] ++ spelled (mails_on f.connections c.conn)) quiet.reply ∙ ap spelled quiet.box in
    ap (λ (t : List ℕ). record c { reply = None; written = c.written ++ t }) nothing
    ∙ ap (λ (t : List ℕ). record c { reply = None; written = t }) (append-nil c.written)
    ∙ ap (λ (o : Option ServerMessage). record c { reply = o }) (sym quiet.reply)

pub box_of : (ms : List Mail) (m : Mail) → Some m ≡ slice_get ms 0 → ms ≡ m ∷ drop 1 ms
box_of [] m first = absurd (true≢false (ap (λ (o : Option Mail). is_some o) first))
box_of (x ∷ ms) m first = ap (λ (y : Mail). y ∷ ms) (sym (same_Some _ _ first))

pub fewer_left : (f : FrontState) (conn : ℕ) (m : Mail) → Some m ≡ slice_get (mails_on f.connections conn) 0 → length (mails_on (taken f conn).connections conn) < length (mails_on f.connections conn)
fewer_left f conn m first =
    let box : mails_on f.connections conn ≡ m ∷ drop 1 (mails_on f.connections conn) = box_of (mails_on f.connections conn) m first in
    omega (arith, ap length (left_in f conn m (drop 1 (mails_on f.connections conn)) box), ap length box)

-- where the next mail is taken, a mail less is left
pub fewer_after : (h g : FrontState) (conn next : ℕ) (m : Mail) → Some m ≡ slice_get (mails_on h.connections conn) 0 → g ≡ taken h conn → next ≡ conn → length (mails_on g.connections next) < length (mails_on h.connections conn)
fewer_after h g conn next m first front same =
    subst (λ (n : ℕ). length (mails_on g.connections n) < length (mails_on h.connections conn)) (sym same)
    (subst (λ (x : FrontState). length (mails_on x.connections conn) < length (mails_on h.connections conn)) (sym front) (fewer_left h conn m first))

-- what holds in any case holds where a result is `Err`
pub on_any_err : {A E P : Type 0} (r : Result A E) → P → OnErr r P
on_any_err (Ok x) p = tt
on_any_err (Err e) p = p

-- ---- client by client

-- nothing is to be written to any of these
abbrev pub AreQuiet : FrontState → List Client → Type 0
AreQuiet f [] = Unit {0}
AreQuiet f (c ∷ cs) = IsQuiet f c × AreQuiet f cs

pub still_quiet : (f g : FrontState) (cs : List Client) → KeepsFront f g → AreQuiet f cs → AreQuiet g cs
still_quiet f g [] keeps quiet = tt
still_quiet f g (c ∷ cs) keeps quiet = (record { reply = quiet.0.reply; box = keeps.empty c.conn quiet.0.box }, still_quiet f g cs keeps quiet.1)

-- those are passed over
pub quiet_all_emptied : (f : FrontState) (cs ds : List Client) → AreQuiet f cs → all_emptied f (cs ++ ds) ≡ all_emptied f ds
quiet_all_emptied f [] ds quiet = refl
quiet_all_emptied f (c ∷ cs) ds quiet = ap (λ (g : FrontState). all_emptied g (cs ++ ds)) (nothing_emptied f c.conn quiet.0.box) ∙ quiet_all_emptied f cs ds quiet.1

pub quiet_all_written_out : (f : FrontState) (cs ds : List Client) → AreQuiet f cs → all_written_out f (cs ++ ds) ≡ cs ++ all_written_out f ds
quiet_all_written_out f [] ds quiet = refl
quiet_all_written_out f (c ∷ cs) ds quiet =
    ap (λ (d : Client). d ∷ all_written_out (emptied_box f c.conn) (cs ++ ds)) (quiet_written_out f c quiet.0)
    ∙ ap (λ (g : FrontState). c ∷ all_written_out g (cs ++ ds)) (nothing_emptied f c.conn quiet.0.box)
    ∙ ap (λ (es : List Client). c ∷ es) (quiet_all_written_out f cs ds quiet.1)

-- ---- port by port

-- a port in the place of another
pub replaced : {B : Type 0} (f : Port → B) (ports : List Port) (at : ℕ) (q : Port) → at < length ports → map f (slice_set ports at q) ≡ map f (take at ports) ++ f q ∷ map f (drop (at + 1) ports)
replaced f ports at q lt =
    let behind : drop (at + 1) (slice_set ports at q) ≡ drop (at + 1) ports = drop-set-lt (at + 1) ports at q (omega arith) in
    let before : take (at + 1) (slice_set ports at q) ≡ take at ports ++ q ∷ [] = take_more_set ports at q lt in
    let whole : slice_set ports at q ≡ take at ports ++ q ∷ drop (at + 1) ports =
    sym (take-append-drop (at + 1) (slice_set ports at q)) ∙ ap (λ (ps : List Port). ps ++ drop (at + 1) (slice_set ports at q)) before
    ∙ ap (λ (ps : List Port). (take at ports ++ q ∷ []) ++ ps) behind ∙ append_assoc (take at ports) (q ∷ []) (drop (at + 1) ports) in
    ap (λ (ps : List Port). map f ps) whole ∙ map-append f (take at ports) (q ∷ drop (at + 1) ports)

-- the port at the place is the first of those from there on
pub from_here : {B : Type 0} (f : Port → B) (ports : List Port) (at : ℕ) (p : Port) → at < length ports → p ≡ get_or ports at p → map f (drop at ports) ≡ f p ∷ map f (drop (at + 1) ports)
from_here f ports at p lt is = ap (λ (ps : List Port). map f ps) (drop_more ports at p lt ∙ ap (λ (x : Port). x ∷ drop (at + 1) ports) (sym is))

-- there is a port at each index
pub port_there : (ports : List Port) (at : ℕ) → at < length ports → (p : Port) × (p ≡ get_or ports at p)
port_there [] at lt = absurd (omega (arith, lt))
port_there (p ∷ ports) zero lt = (p, refl)
port_there (p ∷ ports) (suc at) lt = port_there ports at (omega (arith, lt))

-- a port in its own place
pub same_set : (ports : List Port) (at : ℕ) (p : Port) → at < length ports → p ≡ get_or ports at p → slice_set ports at p ≡ ports
same_set [] at p lt is = absurd (omega (arith, lt))
same_set (q ∷ ports) zero p lt is = ap (λ (x : Port). x ∷ ports) is
same_set (q ∷ ports) (suc at) p lt is = ap (λ (ps : List Port). q ∷ ps) (same_set ports at p (omega (arith, lt)) is)

-- what a port and the one in its place have alike, all ports have as before
pub all_alike : {B : Type 0} (f : Port → B) (ports : List Port) (at : ℕ) (p q : Port) → at < length ports → p ≡ get_or ports at p → f q ≡ f p → map f (slice_set ports at q) ≡ map f ports
all_alike {B} f ports at p q lt is same =
    replaced f ports at q lt
    ∙ ap (λ (x : B). map f (take at ports) ++ x ∷ map f (drop (at + 1) ports)) same
    ∙ ap (λ (xs : List B). map f (take at ports) ++ xs) (sym (from_here f ports at p lt is))
    ∙ sym (map-append f (take at ports) (drop at ports))
    ∙ ap (λ (ps : List Port). map f ps) (take-append-drop at ports)
