-- A step that found no memory, given again, is the step: from where it stopped (`FindsNoMemory`) the rest comes to what it would have come
-- to at once. Nothing else rests on this file.
use Rattle.std.proofs.Common.{◌≡◌, inl, inr, ℕ, ◌<◌, Bool, true, false, true≢false, List, [], ◌∷◌, ◌++◌, length, Option, Some, None, Vec, Global, refl, sym, ap, ◌∙◌, subst, append_assoc, append-nil, if◌then◌else◌, MatchBool, arith}
use Rattle.std.specs.Prelude.{is_some, nat_eq, nat_le}
use Rattle.std.specs.Option.{option_map, option_map_or}
use Rattle.std.proofs.lemmas.Bool.Decides.{nat_tests}
use Rattle.std.proofs.lemmas.Option.{same_Some}
use Rattle.fe_state.specs.declared.batch.Batch.{Batch}
use Rattle.fe_state.specs.declared.entry.Entry.{Entry}
use Rattle.fe_wire.specs.Stream.{Decoding, HasReadFrom}
use Rattle.fe_wire.specs.declared.client_message.ClientMessage.{ClientMessage}
use Rattle.fe_front.specs.Front.{FrontState, is_connected, has_room}
use Rattle.fe_front.specs.Steps.{unboxed, departed, dropped}
use Rattle.fe_front.specs.Steps as front
use Rattle.fe_messages.specs.Taking.{Takes}
use Rattle.fe_desk.specs.declared.handed.Handed.{Handed}
use Rattle.fe_desk.specs.declared.handed.Handed.TheVariants.{Nothing, Cut, Stored}
use Rattle.fe_desk.specs.declared.step.Step.{Step}
use Rattle.fe_desk.specs.declared.step.Step.TheVariants as step
use Rattle.fe_desk.specs.DeskRunState.{Client, DeskRunState, cut, cleared, discharged}
use Rattle.fe_desk.specs.Room.{made, with_room, is_making, begun_room, roomy, unmade, room_begun, MayBegin, StopsMaking}
use Rattle.fe_desk.specs.Steps.{TakesOne, TakesAll, find, on_client, with_left, with_decoder, gone, after_frame, Reads, TakesPiece, TakesFrom, TakesBytes, Acts, DeskStep}
use Rattle.fe_desk.specs.Messages.{left_of, read_by}
use Rattle.fe_desk.specs.Crash.{DeskState}
use Rattle.fe_desk.specs.Ends.{HasCut, TakesFirst, StopsBefore, StopsUnfed, StopsBehind, StopsShort, Lacks, FindsNoMemory, discharged_desk}
use Rattle.fe_desk.specs.GivenAgain.{IsAgain, IsTakenAtLast, GivenAgain}
use Rattle.fe_desk.specs.within.Goes.{TakesStream}
use Rattle.fe_desk.proofs.Making.{begun_by, cleared_pending, room_by}
use Rattle.fe_desk.proofs.Reading.{on_client-twice, none_left, left_among, left_emptied, relieved, with_clients, found-on_client, roomy-clients, takes_all-keeps, takes_all-append, committed}
use Rattle.fe_desk.proofs.Stops.{made_alike, begun_pending, first_kept, first_clients, first_left}
use Rattle.fe_desk.proofs.Places.{found_number}
use Rattle.fe_desk.proofs.Pieces.{IsHere, all_taken, bytes_from, from_bytes, here_changed}
use Rattle.fe_desk.proofs.StepParts.{discharged_at, discharged_owing, owes_discharged, stepped}
use Rattle.fe_desk.proofs.Writing.{owed_later}

-- ---- room that was begun is made by what is left of it

same_number : (n : ℕ) → nat_eq n n ≡ true
same_number n = grind (arith, nat_tests)

begun_made : (s : DeskRunState) (conn : ℕ) → begun_room (room_begun s conn) conn ≡ made (committed (cleared s))
begun_made s conn = begun_by (room_begun s conn) conn true (same_number conn) ∙ made_alike (cut (cleared s)) (Some conn)

begun_twice : (s : DeskRunState) (conn : ℕ) → begun_room (begun_room s conn) conn ≡ begun_room s conn
begun_twice s conn = by (is_making s conn) refl
  where
    by : (b : Bool) → is_making s conn ≡ b → begun_room (begun_room s conn) conn ≡ begun_room s conn
    by true is = let done = begun_by s conn true is in ap (λ (t : DeskRunState). begun_room t conn) done ∙ sym done
    by false is = ap (λ (t : DeskRunState). begun_room t conn) (begun_by s conn false is)

none_handed : (s : DeskRunState) → (cleared s).handed ≡ Nothing
none_handed s = by s.handed
  where
    by : (h : Handed) → (cleared (record s { handed = h })).handed ≡ Nothing
    by Nothing = refl
    by (Cut batch) = refl
    by (Stored batch) = refl

abbrev is_cut : Handed → Bool
is_cut Nothing = false
is_cut (Cut batch) = true
is_cut (Stored batch) = false

-- a cut that handed out a batch left nothing pending
none_pending : (s : DeskRunState) (batch : Batch) → s.handed ≡ Nothing → (cut s).handed ≡ Cut batch → length (cut s).front.service.pending ≡ 0
none_pending s batch none is = by (front.has_no_cut s.front) is
  where
    by : (b : Bool) → option_map_or Cut (if b then None else Some (record { first = s.front.durable; entries = s.front.service.pending })) s.handed ≡ Cut batch
        → length (if b then s.front else record s.front { service = record s.front.service { pending = [] }; out = Some (record { first = s.front.durable; length = length s.front.service.pending }) }).service.pending ≡ 0
    by true same = absurd (true≢false (ap is_cut (sym same ∙ none)))
    by false same = refl

-- where the making of room stopped, since the batch at hand was not stored, it comes to the same later
roomy_stops : (s t : DeskRunState) (conn : ℕ) → HasCut t → StopsMaking s conn t → roomy t conn ≡ roomy s conn
roomy_stops s t conn at_hand (inl still) = ap (λ (u : DeskRunState). roomy u conn) still.1
roomy_stops s t conn at_hand (inr begins) = by begins.1
  where
    by : MayBegin (begun_room s conn) conn t → roomy t conn ≡ roomy s conn
    by (inl is) = ap (λ (u : DeskRunState). roomy u conn) is ∙ ap with_room (begun_twice s conn)
    by (inr is) =
        let mid : DeskRunState = begun_room s conn in
        let last : DeskRunState = made (committed (cleared mid)) in
        let full : has_room mid.front ≡ false = ap (λ (es : List Entry). nat_le (length es) 2048) (begun_pending s conn) ∙ begins.0 in
        let none : length (cut (cleared mid)).front.service.pending ≡ 0 =
        none_pending (cleared mid) at_hand.batch (none_handed mid) (ap (λ (u : DeskRunState). u.handed) (sym is) ∙ at_hand.handed) in
        let room : has_room last.front ≡ true =
        ap (λ (n : ℕ). nat_le n 2048) (ap (λ (es : List Entry). length es) (cleared_pending (cut (cleared mid))) ∙ none) in
        ap with_room (ap (λ (u : DeskRunState). begun_room u conn) is ∙ begun_made mid conn) ∙ room_by last true room ∙ sym (room_by mid false full)

-- ---- messages that are left

-- what room comes to is all that a message's taking looks at
takes_one_of : (s u : DeskRunState) (conn : ℕ) (m : ClientMessage) (t : DeskRunState) → roomy u conn ≡ roomy s conn → TakesOne s conn m t → TakesOne u conn m t
takes_one_of s u conn m t same h =
    record {
      entries = h.entries;
      front = h.front;
      takes = subst (λ (r : DeskRunState). Takes r.front conn m h.entries h.front) (sym same) h.takes;
      after = h.after ∙ ap (λ (r : DeskRunState). record r { front = h.front }) (sym same);
    }

-- where the first messages were taken up to one that found no room, the others are taken later
first_later : {conn : ℕ} {s t : DeskRunState} {ms : List ClientMessage} (first : TakesFirst s conn ms t) → is_some (find conn s.clients) ≡ true → left_of s conn ≡ []
    → (v : DeskRunState) → TakesAll (with_left t conn []) conn (left_of t conn) v → TakesAll s conn ms v
first_later {conn} {s} {t} {ms} first here none v h =
    let left : List ClientMessage = first.next ∷ first.behind in
    let back : with_left t conn [] ≡ first.last =
    ap (λ (u : DeskRunState). with_left u conn []) first.after
    ∙ ap (λ (cs : List Client). with_clients first.last cs) (on_client-twice conn (relieved left) (relieved []) first.last.clients (λ c. refl))
    ∙ none_left first.last conn (ap (λ (cs : List Client). left_among (find conn cs)) (first_kept first) ∙ none) in
    let rest : TakesAll first.last conn left v =
    subst (λ (u : DeskRunState). TakesAll u conn left v) back
    (subst (λ (xs : List ClientMessage). TakesAll (with_left t conn []) conn xs v) (first_left first here) h) in
    subst (λ (xs : List ClientMessage). TakesAll s conn xs v) (sym first.all)
    (takes_all-append s conn first.taken left first.before v first.takes
    (rest.0, takes_one_of first.last first.before conn first.next rest.0 (sym (roomy_stops first.before first.last conn first.at_hand first.stops)) rest.1, rest.2))

-- the client of a number with messages that are left, or whose stream was read
client_of_left : (s : DeskRunState) (conn : ℕ) → 0 < length (left_of s conn) → (c : Client) × IsHere s conn c
client_of_left s conn some = by (find conn s.clients) refl some
  where
    by : (o : Option Client) → find conn s.clients ≡ o → 0 < length (left_among o) → (c : Client) × IsHere s conn c
    by None is some = absurd (omega (arith, some))
    by (Some c) is some = (c, record { found = is; number = found_number conn s.clients c is })

client_of_read : (s : DeskRunState) (conn : ℕ) (d : Decoding) → read_by s conn ≡ Some d → (c : Client) × IsHere s conn c
client_of_read s conn d was = by (find conn s.clients) refl was
  where
    by : (o : Option Client) → find conn s.clients ≡ o → option_map (λ (c : Client). c.decoder) o ≡ Some d → (c : Client) × IsHere s conn c
    by None is was = absurd (true≢false (sym (ap (λ (x : Option Decoding). is_some x) was)))
    by (Some c) is was = (c, record { found = is; number = found_number conn s.clients c is })

-- ---- the piece was not read

-- where the messages that were left go on later, the piece is taken after them
first_again : (s u : DeskRunState) (conn : ℕ) (ms ns : List ClientMessage) (d : Decoding) (piece : List ℕ) (t : DeskRunState)
    → ((v : DeskRunState) → TakesAll (with_left u conn []) conn ns v → TakesAll (with_left s conn []) conn ms v) → TakesFrom u conn ns d piece t → TakesFrom s conn ms d piece t
first_again s u conn ms ns d piece t again h = record { mid = h.mid; leftovers = again h.mid h.leftovers; reading = h.reading }

-- where they were taken and the piece is not read, it is read later
piece_again : (s mid : DeskRunState) (conn : ℕ) (ms : List ClientMessage) (d : Decoding) (piece : List ℕ) (t : DeskRunState)
    → TakesAll (with_left s conn []) conn ms mid → left_of mid conn ≡ [] → TakesFrom mid conn [] d piece t → TakesFrom s conn ms d piece t
piece_again s mid conn ms d piece t taken none h =
    let same : h.mid ≡ mid = h.leftovers ∙ none_left mid conn none in
    record {
      mid = mid;
      leftovers = taken;
      reading = subst (λ (v : DeskRunState). MatchBool (is_connected v.front conn) (TakesPiece v conn d piece t) (t ≡ v)) same h.reading;
    }

before_again : (s u : DeskRunState) (conn : ℕ) (piece : List ℕ) (t : DeskRunState) → StopsBefore s conn u → TakesStream u conn piece t → TakesStream s conn piece t
before_again s u conn piece t stops h =
    let there = client_of_left s conn (some stops.taken stops.all) in
    let c : Client = there.0 in
    let left : List ClientMessage = stops.next ∷ stops.behind in
    let now : IsHere u conn (relieved left c) =
    here_changed s u conn c (relieved left) (λ d. refl) (first_clients stops ∙ on_client-twice conn (relieved []) (relieved left) s.clients (λ d. refl)) there.1 in
    let here : is_some (find conn (with_left s conn []).clients) ≡ true =
    found-on_client conn (relieved []) s.clients conn (λ d. refl) ∙ ap (λ (o : Option Client). is_some o) there.1.found in
    bytes_from s conn c piece t there.1
    (first_again s u conn (left_of s conn) (left_of u conn) c.decoder piece t (first_later stops here (left_emptied conn s.clients)) (from_bytes u conn (relieved left c) piece t now h))
  where
    some : (taken : List ClientMessage) → left_of s conn ≡ taken ++ stops.next ∷ stops.behind → 0 < length (left_of s conn)
    some taken is = subst (λ (ms : List ClientMessage). 0 < length ms) (sym is) (by taken)
      where
        by : (ms : List ClientMessage) → 0 < length (ms ++ stops.next ∷ stops.behind)
        by [] = omega arith
        by (m ∷ ms) = omega arith

unfed_again : (s u : DeskRunState) (conn : ℕ) (piece : List ℕ) (t : DeskRunState) → StopsUnfed s conn piece u → TakesStream u conn piece t → TakesStream s conn piece t
unfed_again s u conn piece t stops h =
    let there = client_of_read s conn stops.before stops.was in
    let c : Client = there.0 in
    let taken = stops.unread.leftovers in
    let none : left_of u conn ≡ [] = all_taken conn s u taken in
    let now : IsHere u conn (relieved [] c) =
    here_changed s u conn c (relieved []) (λ d. refl) (takes_all-keeps (with_left s conn []) conn (left_of s conn) u taken) there.1 in
    bytes_from s conn c piece t there.1
    (piece_again s u conn (left_of s conn) c.decoder piece t taken none
    (subst (λ (ms : List ClientMessage). TakesFrom u conn ms c.decoder piece t) none (from_bytes u conn (relieved [] c) piece t now h)))

-- ---- the piece was read

-- where room was made for a connection's message, none is being made for it
roomy_is_made : (s : DeskRunState) (conn : ℕ) → is_making (roomy s conn) conn ≡ false
roomy_is_made s conn = behind (has_room (begun_room s conn).front)
  where
    begun : (b : Bool) → is_making s conn ≡ b → is_making (if b then made (cleared s) else s) conn ≡ false
    begun true e = refl
    begun false e = e

    behind : (b : Bool) → is_making (if b then begun_room s conn else made (committed (cleared (begun_room s conn)))) conn ≡ false
    behind true = begun (is_making s conn) refl
    behind false = refl

-- room is not being made for a connection of which messages were taken
still_made : (s : DeskRunState) (conn : ℕ) (ms : List ClientMessage) (t : DeskRunState) → is_making s conn ≡ false → TakesAll s conn ms t → is_making t conn ≡ false
still_made s conn [] t is h = ap (λ (u : DeskRunState). is_making u conn) h ∙ is
still_made s conn (m ∷ ms) t is h =
    still_made h.0 conn ms t (ap (λ (u : DeskRunState). is_making u conn) h.1.after ∙ roomy_is_made s conn) h.2

made_after : (s : DeskRunState) (conn : ℕ) (ms : List ClientMessage) (t : DeskRunState) → 0 < length ms → TakesAll s conn ms t → is_making t conn ≡ false
made_after s conn [] t some h = absurd (omega arith)
made_after s conn (m ∷ ms) t some h =
    still_made h.0 conn ms t (ap (λ (u : DeskRunState). is_making u conn) h.1.after ∙ roomy_is_made s conn) h.2

-- a connection that is not there is gone already
gone_already : (s : DeskRunState) (conn : ℕ) → is_connected s.front conn ≡ false → is_making s conn ≡ false → left_of s conn ≡ [] → gone s conn ≡ s
gone_already s conn off unmaking none =
    let no_room : unmade s conn ≡ s = ap (λ (b : Bool). if b then record s { making = None } else s) unmaking in
    let front : dropped s.front conn ≡ s.front = ap (λ (b : Bool). if b then unboxed (departed s.front conn) conn else s.front) off in
    ap (λ (u : DeskRunState). record (with_left u conn []) { front = dropped s.front conn }) no_room
    ∙ ap (λ (u : DeskRunState). record u { front = dropped s.front conn }) (none_left s conn none)
    ∙ ap (λ (f : FrontState). record s { front = f }) front

-- messages are taken whatever stands among the clients
takes_one-clients : (s : DeskRunState) (conn : ℕ) (m : ClientMessage) (t : DeskRunState) (cs : List Client) → TakesOne s conn m t → TakesOne (with_clients s cs) conn m (with_clients t cs)
takes_one-clients s conn m t cs h =
    record {
      entries = h.entries;
      front = h.front;
      takes = subst (λ (r : DeskRunState). Takes r.front conn m h.entries h.front) (sym (roomy-clients s conn cs)) h.takes;
      after = ap (λ (u : DeskRunState). with_clients u cs) h.after ∙ ap (λ (r : DeskRunState). record r { front = h.front }) (sym (roomy-clients s conn cs));
    }

takes_all-clients : (s : DeskRunState) (conn : ℕ) (ms : List ClientMessage) (t : DeskRunState) (cs : List Client) → TakesAll s conn ms t → TakesAll (with_clients s cs) conn ms (with_clients t cs)
takes_all-clients s conn [] t cs h = ap (λ (u : DeskRunState). with_clients u cs) h
takes_all-clients s conn (m ∷ ms) t cs h = (with_clients h.0 cs, takes_one-clients s conn m h.0 cs h.1, takes_all-clients h.0 conn ms t cs h.2)

-- a piece after another
reads_both : (a b c : Decoding) (piece : List ℕ) (more others : List ClientMessage) → Reads a b piece more → Reads b c [] others → Reads a c piece (more ++ others)
reads_both a b c piece more others one two =
    record {
      version = two.version ∙ one.version;
      reads = λ start before earlier h. joined start before earlier (two.reads start (before ++ piece) (earlier ++ more) (one.reads start before earlier h));
    }
  where
    joined : (start : ℕ) (before : List ℕ) (earlier : List ClientMessage) → HasReadFrom start c ((before ++ piece) ++ []) ((earlier ++ more) ++ others) → HasReadFrom start c (before ++ piece) (earlier ++ (more ++ others))
    joined start before earlier h =
        subst (λ (ms : List ClientMessage). HasReadFrom start c (before ++ piece) ms) (append_assoc earlier more others)
        (subst (λ (bytes : List ℕ). HasReadFrom start c bytes ((earlier ++ more) ++ others)) (append-nil (before ++ piece)) h)

-- where the piece is read and not all of its messages are taken, those that are left are taken later
record IsRead (mid : DeskRunState) (conn : ℕ) (before : Decoding) (piece : List ℕ) (u : DeskRunState) (left : List ClientMessage) (now : Decoding) : Type 0 where
  more : List ClientMessage
  reads : Reads before now piece more
  some : 0 < length left
  again : (v : DeskRunState) → TakesAll (with_left u conn []) conn left v → TakesAll (with_decoder mid conn now) conn more v

-- the decoder of a client goes on while its messages are taken
takes_with : (mid : DeskRunState) (conn : ℕ) (a b : Decoding) (ms : List ClientMessage) (v : DeskRunState) → TakesAll (with_decoder mid conn a) conn ms v → TakesAll (with_decoder mid conn b) conn ms (with_decoder v conn b)
takes_with mid conn a b ms v h =
    let f : Client → Client = λ c. record c { decoder = a } in
    let g : Client → Client = λ c. record c { decoder = b } in
    let clients : on_client conn g v.clients ≡ on_client conn g mid.clients =
    ap (on_client conn g) (takes_all-keeps (with_decoder mid conn a) conn ms v h) ∙ on_client-twice conn f g mid.clients (λ c. refl) in
    subst (λ (cs : List Client). TakesAll (with_clients mid cs) conn ms (with_decoder v conn b)) clients
    (takes_all-clients (with_decoder mid conn a) conn ms v (on_client conn g v.clients) h)

rest_again : (mid u : DeskRunState) (conn : ℕ) (ns : List ClientMessage) (d e : Decoding) (piece : List ℕ) (t : DeskRunState)
    → IsRead mid conn d piece u ns e → TakesFrom u conn ns e [] t → TakesPiece mid conn d piece t
rest_again mid u conn ns d e piece t is h = by (is_connected h.mid.front conn) refl h.reading
  where
    taken : TakesAll (with_decoder mid conn e) conn is.more h.mid
    taken = is.again h.mid h.leftovers

    none : left_of h.mid conn ≡ []
    none = ap (λ (cs : List Client). left_among (find conn cs)) (takes_all-keeps (with_left u conn []) conn ns h.mid h.leftovers) ∙ left_emptied conn u.clients

    stays : (b : Bool) → is_connected h.mid.front conn ≡ false → h.mid ≡ after_frame b h.mid conn
    stays true off = sym (gone_already h.mid conn off (made_after (with_left u conn []) conn ns h.mid is.some h.leftovers) none)
    stays false off = refl

    by : (b : Bool) → is_connected h.mid.front conn ≡ b → MatchBool b (TakesPiece h.mid conn e [] t) (t ≡ h.mid) → TakesPiece mid conn d piece t
    by true on p =
        record {
          decoder = p.decoder;
          more = is.more ++ p.more;
          last = p.last;
          reads = reads_both d e p.decoder piece is.more p.more is.reads p.reads;
          takes = takes_all-append (with_decoder mid conn p.decoder) conn is.more p.more (with_decoder h.mid conn p.decoder) p.last (takes_with mid conn e p.decoder is.more h.mid taken) p.takes;
          after = p.after;
        }
    by false off p = record { decoder = e; more = is.more; last = h.mid; reads = is.reads; takes = taken; after = p ∙ stays e.is_bad off }

later_again : (s mid u : DeskRunState) (conn : ℕ) (ms ns : List ClientMessage) (d e : Decoding) (piece : List ℕ) (t : DeskRunState)
    → TakesAll (with_left s conn []) conn ms mid → is_connected mid.front conn ≡ true → IsRead mid conn d piece u ns e → TakesFrom u conn ns e [] t → TakesFrom s conn ms d piece t
later_again s mid u conn ms ns d e piece t taken on is h =
    record {
      mid = mid;
      leftovers = taken;
      reading = subst (λ (b : Bool). MatchBool b (TakesPiece mid conn d piece t) (t ≡ mid)) (sym on) (rest_again mid u conn ns d e piece t is h);
    }

behind_again : (s u : DeskRunState) (conn : ℕ) (piece : List ℕ) (t : DeskRunState) → StopsBehind s conn piece u → TakesStream u conn [] t → TakesStream s conn piece t
behind_again s u conn piece t stops h =
    let there = client_of_read s conn stops.before stops.was in
    let c : Client = there.0 in
    let mid : DeskRunState = stops.mid in
    let first = stops.first in
    let left : List ClientMessage = first.next ∷ first.behind in
    let taken = stops.unread.leftovers in
    let known : c.decoder ≡ stops.before = same_Some _ _ (sym (ap (option_map (λ (d : Client). d.decoder)) there.1.found) ∙ stops.was) in
    let emptied_mid : IsHere mid conn (relieved [] c) =
    here_changed s mid conn c (relieved []) (λ d. refl) (takes_all-keeps (with_left s conn []) conn (left_of s conn) mid taken) there.1 in
    let fed : IsHere (with_decoder mid conn stops.decoder) conn (record (relieved [] c) { decoder = stops.decoder }) =
    here_changed mid (with_decoder mid conn stops.decoder) conn (relieved [] c) (λ d. record d { decoder = stops.decoder }) (λ d. refl) refl emptied_mid in
    let now : IsHere u conn (relieved left (record (relieved [] c) { decoder = stops.decoder })) =
    here_changed (with_decoder mid conn stops.decoder) u conn (record (relieved [] c) { decoder = stops.decoder }) (relieved left) (λ d. refl) (first_clients first) fed in
    let here : is_some (find conn (with_decoder mid conn stops.decoder).clients) ≡ true = ap (λ (o : Option Client). is_some o) fed.found in
    let still : left_of u conn ≡ left = first_left first here in
    bytes_from s conn c piece t there.1
    (later_again s mid u conn (left_of s conn) (left_of u conn) c.decoder stops.decoder piece t taken stops.unread.there
    (record {
      more = stops.more;
      reads = subst (λ (d : Decoding). Reads d stops.decoder piece stops.more) (sym known) stops.reads;
      some = subst (λ (ms : List ClientMessage). 0 < length ms) (sym still) (omega arith);
      again = first_later first here (ap left_among fed.found);
    })
    (from_bytes u conn (relieved left (record (relieved [] c) { decoder = stops.decoder })) [] t now h))

-- ---- steps

given_empty : (s : DeskRunState) (conn : ℕ) (piece : Vec ℕ Global) (next : Step) (u : DeskRunState) → IsAgain true (step.Bytes conn piece) next → Acts s next u → TakesStream s conn [] u
given_empty s conn piece (step.Bytes c p) u again h =
    subst (λ (xs : List ℕ). TakesStream s conn xs u) again.1 (subst (λ (n : ℕ). TakesBytes s (find n s.clients) p.items u) again.0 h)
given_empty s conn piece other u again h = absurd again

-- nothing was done
still_again : {D : Type 0} (x next : Step) (d e : DeskState D) (t : DeskRunState) → e ≡ d → next ≡ x → Acts e.run_state next t → Acts d.run_state x t
still_again {D} x next d e t same again h = subst (λ (c : DeskState D). Acts c.run_state x t) same (subst (λ (y : Step). Acts e.run_state y t) again h)

acts_again : {D : Type 0} (fed : Bool) (x next : Step) (d e : DeskState D) (t : DeskRunState) → Lacks fed x d e → IsAgain fed x next → Acts e.run_state next t → Acts d.run_state x t
acts_again false (step.Connect conn) next d e t lacks again h = still_again (step.Connect conn) next d e t lacks.1 again h
acts_again false (step.Bytes conn piece) next d e t lacks again h = by lacks.0 (subst (λ (y : Step). Acts e.run_state y t) again h)
  where
    by : StopsShort false d.run_state conn piece.items e.run_state → TakesStream e.run_state conn piece.items t → TakesStream d.run_state conn piece.items t
    by (inl stops) h = before_again d.run_state e.run_state conn piece.items t stops h
    by (inr stops) h = unfed_again d.run_state e.run_state conn piece.items t stops h
acts_again true (step.Bytes conn piece) next d e t lacks again h = behind_again d.run_state e.run_state conn piece.items t lacks.0 (given_empty e.run_state conn piece next t again h)
acts_again false step.Append next d e t lacks again h = still_again step.Append next d e t lacks.1 again h
acts_again false step.CheckBegin next d e t lacks again h = still_again step.CheckBegin next d e t lacks.1 again h
acts_again fed other next d e t lacks again h = absurd lacks

-- ---- mails that are owed

cleared_owes : (s : DeskRunState) → (cleared s).owes ≡ s.owes
cleared_owes s = by s.handed
  where
    by : (h : Handed) → (cleared (record s { handed = h })).owes ≡ s.owes
    by Nothing = refl
    by (Cut batch) = refl
    by (Stored batch) = refl

begun_owes : (s : DeskRunState) (conn : ℕ) → (begun_room s conn).owes ≡ s.owes
begun_owes s conn = by (is_making s conn)
  where
    by : (b : Bool) → (if b then made (cleared s) else s).owes ≡ s.owes
    by true = cleared_owes s
    by false = refl

roomy_owes : (s : DeskRunState) (conn : ℕ) → (roomy s conn).owes ≡ s.owes
roomy_owes s conn = by (has_room (begun_room s conn).front) ∙ begun_owes s conn
  where
    by : (b : Bool) → (if b then begun_room s conn else made (committed (cleared (begun_room s conn)))).owes ≡ (begun_room s conn).owes
    by true = refl
    by false = cleared_owes (cut (cleared (begun_room s conn))) ∙ cleared_owes (begun_room s conn)

takes_all_owes : (s : DeskRunState) (conn : ℕ) (ms : List ClientMessage) (t : DeskRunState) → TakesAll s conn ms t → t.owes ≡ s.owes
takes_all_owes s conn [] t h = ap (λ (u : DeskRunState). u.owes) h
takes_all_owes s conn (m ∷ ms) t h = takes_all_owes h.0 conn ms t h.2 ∙ ap (λ (u : DeskRunState). u.owes) h.1.after ∙ roomy_owes s conn

making_owes : (s t : DeskRunState) (conn : ℕ) → StopsMaking s conn t → t.owes ≡ s.owes
making_owes s t conn (inl still) = ap (λ (u : DeskRunState). u.owes) still.1
making_owes s t conn (inr begins) = by begins.1 ∙ begun_owes s conn
  where
    by : MayBegin (begun_room s conn) conn t → t.owes ≡ (begun_room s conn).owes
    by (inl is) = ap (λ (u : DeskRunState). u.owes) is
    by (inr is) = ap (λ (u : DeskRunState). u.owes) is ∙ cleared_owes (begun_room s conn)

first_owes : {conn : ℕ} {s t : DeskRunState} {ms : List ClientMessage} → TakesFirst s conn ms t → t.owes ≡ s.owes
first_owes {conn} {s} {t} {ms} first =
    ap (λ (u : DeskRunState). u.owes) first.after ∙ making_owes first.before first.last conn first.stops ∙ takes_all_owes s conn first.taken first.before first.takes

lacks_owes : {D : Type 0} (fed : Bool) (x : Step) (d e : DeskState D) → Lacks fed x d e → e.run_state.owes ≡ d.run_state.owes
lacks_owes {D} false (step.Connect conn) d e lacks = ap (λ (c : DeskState D). c.run_state.owes) lacks.1
lacks_owes {D} false (step.Bytes conn piece) d e lacks = by lacks.0
  where
    by : StopsShort false d.run_state conn piece.items e.run_state → e.run_state.owes ≡ d.run_state.owes
    by (inl stops) = first_owes stops
    by (inr stops) = takes_all_owes (with_left d.run_state conn []) conn (left_of d.run_state conn) e.run_state stops.unread.leftovers
lacks_owes {D} true (step.Bytes conn piece) d e lacks =
    first_owes lacks.0.first ∙ takes_all_owes (with_left d.run_state conn []) conn (left_of d.run_state conn) lacks.0.mid lacks.0.unread.leftovers
lacks_owes {D} false step.Append d e lacks = ap (λ (c : DeskState D). c.run_state.owes) lacks.1
lacks_owes {D} false step.CheckBegin d e lacks = ap (λ (c : DeskState D). c.run_state.owes) lacks.1
lacks_owes {D} fed other d e lacks = absurd lacks

-- ---- steps given until they are taken

-- whatever the step comes to from where it stopped, it comes to as one step
left_for_again : {D : Type 0} (fed : Bool) (x next : Step) (d e : DeskState D) (t : DeskRunState) → FindsNoMemory fed x d e → IsAgain fed x next → DeskStep e.run_state next t → DeskStep d.run_state x t
left_for_again fed x next d e t (inl owing) again h =
    let s : DeskRunState = d.run_state in
    let u : DeskRunState = e.run_state in
    let still = owing.1 in
    let same : discharged u ≡ discharged s =
    discharged_owing u (ap (λ (r : DeskRunState). r.owes) still.writes.after) ∙ owed_later s u still.writes ∙ sym (discharged_owing s still.owed) in
    let it : next ≡ x = subst (λ (b : Bool). IsAgain b x next) owing.0 again in
    stepped s (discharged u) h.last t x same (subst (λ (y : Step). Acts (discharged u) y h.last) it h.acts) h.after
left_for_again fed x next d e t (inr lacks) again h =
    let u : DeskRunState = e.run_state in
    let none : u.owes ≡ false = lacks_owes fed x (discharged_desk d) e lacks ∙ owes_discharged d.run_state in
    let acts : Acts u next h.last = subst (λ (r : DeskRunState). Acts r next h.last) (discharged_at u none) h.acts in
    stepped d.run_state (discharged d.run_state) h.last t x refl (acts_again fed x next (discharged_desk d) e h.last lacks again acts) h.after

-- a step from a standing is one from where that is discharged
step_discharged : (s : DeskRunState) (x : Step) (t : DeskRunState) → DeskStep s x t → DeskStep (discharged s) x t
step_discharged s x t h = record { last = h.last; acts = subst (λ (r : DeskRunState). Acts r x h.last) (sym (discharged_at (discharged s) (owes_discharged s))) h.acts; after = h.after }

-- after a step nothing is owed
step_leaves : (s : DeskRunState) (x : Step) (t : DeskRunState) → DeskStep s x t → DeskStep s x (discharged t)
step_leaves s x t h = subst (λ (r : DeskRunState). DeskStep s x r) (sym (discharged_at t (ap (λ (r : DeskRunState). r.owes) h.after))) h

taken_at_last : {D : Type 0} (d : DeskState D) (x : Step) (tries : List Bool) (e : DeskState D) → IsTakenAtLast d x tries e → DeskStep d.run_state x (discharged e.run_state)
taken_at_last d x [] e (inl h) = step_leaves d.run_state x e.run_state h
taken_at_last d x [] e (inr h) = h
taken_at_last d x (fed ∷ more) e (mid, next, finds, again, rest) = left_for_again fed x next d mid (discharged e.run_state) finds again (taken_at_last mid next more e rest)

pub given_again : {D : Type 0} → GivenAgain D
given_again {D} d e [] all = ap (λ (c : DeskState D). discharged c.run_state) all
given_again {D} d e (g ∷ more) (mid, taken, rest) =
    (discharged mid.run_state, step_discharged d.run_state g.0 (discharged mid.run_state) (taken_at_last d g.0 g.1 mid taken), given_again mid e more rest)
