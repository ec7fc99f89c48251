-- What a step that fails has read of the streams, and that it wrote nothing.
use Rattle.std.proofs.Common.{◌≡◌, ◌≢◌, ◌⊎◌, inl, inr, ℕ, ◌<◌, Bool, true, false, true≢false, List, [], ◌∷◌, ◌++◌, length, map, Option, Some, None, refl, sym, ap, subst, ◌∙◌, if◌then◌else◌, arith}
use Rattle.std.specs.Prelude.{is_some, nat_eq}
use Rattle.std.specs.Option.{option_map}
use Rattle.std.proofs.lemmas.Bool.Decides.{nat_tests}
use Rattle.fe_wire.specs.Stream.{Decoding}
use Rattle.fe_wire.specs.declared.client_message.ClientMessage.{ClientMessage}
use Rattle.fe_front.specs.Front.{FrontState}
use Rattle.fe_desk.specs.declared.step.Step.{Step}
use Rattle.fe_desk.specs.declared.step.Step.TheVariants as step
use Rattle.fe_desk.specs.DeskRunState.{emptied_box, Client, DeskRunState, emptied, discharged, all_written_out}
use Rattle.fe_desk.proofs.Outputs.{output_of}
use Rattle.fe_desk.specs.Steps.{Reads, TakesAll, find, on_client, with_decoder, with_left}
use Rattle.fe_desk.specs.Messages.{left_of, outputs, read_by, ReadsNone, ReadsPiece, TellsFed}
use Rattle.fe_desk.specs.Crash.{DeskState}
use Rattle.fe_desk.specs.Ends.{FindsNoMemory, Lacks, StopsBefore, StopsBehind, StopsShort, TearsStep, discharged_desk}
use Rattle.fe_desk.proofs.Reading.{each-on_client, find-on_client, on_client-twice, relieved, takes_all-keeps}
use Rattle.fe_desk.proofs.StepParts.{discharged_owing}
use Rattle.fe_desk.proofs.Stops.{first_clients, first_left}
use Rattle.fe_desk.proofs.Writing.{owed_later}

abbrev pub read_among : ℕ → List Client → Option Decoding
read_among k cs = option_map (λ (c : Client). c.decoder) (find k cs)

-- a client's number, and what is read of its stream
abbrev stream : Client → ℕ × Decoding
stream c = (c.conn, c.decoder)

-- clients of the same numbers and streams
read_as : (k : ℕ) (cs ds : List Client) → map stream ds ≡ map stream cs → read_among k ds ≡ read_among k cs
read_as k [] [] same = refl
read_as k [] (d ∷ ds) same = cc
read_as k (c ∷ cs) [] same = cc
read_as k (c ∷ cs) (d ∷ ds) same =
    let head : stream d ≡ stream c = cc in
    let rest : map stream ds ≡ map stream cs = cc in
    let number : d.conn ≡ c.conn = ap (λ (p : ℕ × Decoding). p.0) head in
    let decoder : d.decoder ≡ c.decoder = ap (λ (p : ℕ × Decoding). p.1) head in
    ap (λ (n : ℕ). option_map (λ (x : Client). x.decoder) (if nat_eq n k then Some d else find k ds)) number ∙ by (nat_eq c.conn k) decoder (read_as k cs ds rest)
  where
    by : (b : Bool) → d.decoder ≡ c.decoder → read_among k ds ≡ read_among k cs
        → option_map (λ (x : Client). x.decoder) (if b then Some d else find k ds) ≡ option_map (λ (x : Client). x.decoder) (if b then Some c else find k cs)
    by true same e = ap (λ (x : Decoding). Some x) same
    by false same e = e

-- a change that keeps numbers and streams
pub read_kept : (k conn : ℕ) (change : Client → Client) (cs : List Client) → ((c : Client) → (change c).conn ≡ c.conn) → ((c : Client) → (change c).decoder ≡ c.decoder)
    → read_among k (on_client conn change cs) ≡ read_among k cs
read_kept k conn change cs keeps stays =
    read_as k cs (on_client conn change cs) (each-on_client stream conn change cs (λ c. let n = keeps c in let d = stays c in cc))

unlike : (n k conn : ℕ) → k ≢ conn → nat_eq n conn ≡ true → nat_eq n k ≡ false
unlike n k conn other is = grind (arith, nat_tests)

-- a client of another number
pub find_other : (k conn : ℕ) (change : Client → Client) (cs : List Client) → k ≢ conn → ((c : Client) → (change c).conn ≡ c.conn) → find k (on_client conn change cs) ≡ find k cs
find_other k conn change [] other keeps = refl
find_other k conn change (c ∷ cs) other keeps = by (nat_eq c.conn conn) refl (find_other k conn change cs other keeps)
  where
    by : (b : Bool) → nat_eq c.conn conn ≡ b → find k (on_client conn change cs) ≡ find k cs → find k (if b then change c ∷ cs else c ∷ on_client conn change cs) ≡ (if nat_eq c.conn k then Some c else find k cs)
    by true is rest =
        let there : nat_eq c.conn k ≡ false = unlike c.conn k conn other is in
        ap (λ (n : ℕ). if nat_eq n k then Some (change c) else find k cs) (keeps c) ∙ ap (λ (b : Bool). if b then Some (change c) else find k cs) there
        ∙ sym (ap (λ (b : Bool). if b then Some c else find k cs) there)
    by false is rest = ap (λ (o : Option Client). if nat_eq c.conn k then Some c else o) rest

-- ---- mails are written

written_out_streams : (f : FrontState) (cs : List Client) → map stream (all_written_out f cs) ≡ map stream cs
written_out_streams f [] = refl
written_out_streams f (c ∷ cs) = ap (λ (ps : List (ℕ × Decoding)). stream c ∷ ps) (written_out_streams (emptied_box f c.conn) cs)

emptied_reads : (s : DeskRunState) → ReadsNone s (emptied s)
emptied_reads s k = read_as k s.clients (all_written_out s.front s.clients) (written_out_streams s.front s.clients)

-- nothing is read where mails that were owed are written
pub discharged_reads : (s : DeskRunState) → ReadsNone s (discharged s)
discharged_reads s k = by s.owes
  where
    by : (b : Bool) → read_by (if b then emptied s else s) k ≡ read_by s k
    by true = emptied_reads s k
    by false = refl

-- ---- what a step did with its bytes

pub same_reads : (s t : DeskRunState) → t ≡ s → ReadsNone s t
same_reads s t same k = ap (λ (u : DeskRunState). read_by u k) same

-- mails that are still owed
pub settling_reads : (s u : DeskRunState) → discharged u ≡ discharged s → ReadsNone s u
settling_reads s u same k = sym (discharged_reads u k) ∙ same_reads (discharged s) (discharged u) same k ∙ discharged_reads s k

-- the same from before the mails were written
pub fed_discharged : (fed : Bool) (s mid : DeskRunState) (step : Step) (t : DeskRunState) → mid ≡ discharged s → TellsFed fed mid step t → TellsFed fed s step t
fed_discharged false s mid step t is none = λ k. none k ∙ same_reads (discharged s) mid is k ∙ discharged_reads s k
fed_discharged true s mid (step.Bytes conn piece) t is read = record {
  before = read.before;
  after = read.after;
  taken = read.taken;
  was = sym (same_reads (discharged s) mid is conn ∙ discharged_reads s conn) ∙ read.was;
  is = read.is;
  reads = read.reads;
  some = read.some;
  others = λ k other. read.others k other ∙ same_reads (discharged s) mid is k ∙ discharged_reads s k;
}
fed_discharged true s mid other t is read = absurd read

-- ---- where a step stops

-- nothing is read where only messages are taken
left_reads_none : (s t : DeskRunState) (conn : ℕ) (left : List ClientMessage) → t.clients ≡ on_client conn (relieved left) s.clients → ReadsNone s t
left_reads_none s t conn left clients k = ap (λ (cs : List Client). read_among k cs) clients ∙ read_kept k conn (relieved left) s.clients (λ c. refl) (λ c. refl)

taken_reads_none : (s t : DeskRunState) (conn : ℕ) → TakesAll (with_left s conn []) conn (left_of s conn) t → ReadsNone s t
taken_reads_none s t conn taken = left_reads_none s t conn [] (takes_all-keeps (with_left s conn []) conn (left_of s conn) t taken)

short_reads_none : (s : DeskRunState) (conn : ℕ) (piece : List ℕ) (t : DeskRunState) → StopsShort false s conn piece t → ReadsNone s t
short_reads_none s conn piece t (inl stops) = left_reads_none s t conn (stops.next ∷ stops.behind) (first_clients stops ∙ on_client-twice conn (relieved []) (relieved (stops.next ∷ stops.behind)) s.clients (λ c. refl))
short_reads_none s conn piece t (inr stops) = taken_reads_none s t conn stops.unread.leftovers

-- the piece is, where its messages are taken up to one that finds no room
behind_reads : (s : DeskRunState) (conn : ℕ) (piece : List ℕ) (t : DeskRunState) → StopsBehind s conn piece t → ReadsPiece s conn piece t
behind_reads s conn piece t stops =
    let change : Client → Client = λ c. record c { decoder = stops.decoder } in
    let mid : DeskRunState = stops.mid in
    let fed : DeskRunState = with_decoder mid conn stops.decoder in
    let first = stops.first in
    let earlier : ReadsNone s mid = taken_reads_none s mid conn stops.unread.leftovers in
    let later : ReadsNone fed t = left_reads_none fed t conn (first.next ∷ first.behind) (first_clients first) in
    let changed : find conn fed.clients ≡ option_map change (find conn mid.clients) = find-on_client conn change mid.clients (λ c. refl) in
    let there : is_some (find conn mid.clients) ≡ true = some (find conn mid.clients) (earlier conn ∙ stops.was) in
    let left : left_of t conn ≡ first.next ∷ first.behind = first_left first (ap (λ (o : Option Client). is_some o) changed ∙ still (find conn mid.clients) there) in
    record {
      before = stops.before;
      after = stops.decoder;
      taken = first.taken;
      was = stops.was;
      is = later conn ∙ ap (option_map (λ (c : Client). c.decoder)) changed ∙ decoded (find conn mid.clients) there;
      reads = subst (λ (ms : List ClientMessage). Reads stops.before stops.decoder piece ms) (first.all ∙ ap (λ (ms : List ClientMessage). first.taken ++ ms) (sym left)) stops.reads;
      some = subst (λ (ms : List ClientMessage). 0 < length ms) (sym left) (omega arith);
      others = λ k other. later k ∙ ap (option_map (λ (c : Client). c.decoder)) (find_other k conn change mid.clients other (λ c. refl)) ∙ earlier k;
    }
  where
    some : (o : Option Client) → option_map (λ (c : Client). c.decoder) o ≡ Some stops.before → is_some o ≡ true
    some None is = absurd (true≢false (sym (ap (λ (x : Option Decoding). is_some x) is)))
    some (Some c) is = refl

    still : (o : Option Client) → is_some o ≡ true → is_some (option_map {T = Client} (λ c. record c { decoder = stops.decoder }) o) ≡ true
    still None is = is
    still (Some c) is = refl

    decoded : (o : Option Client) → is_some o ≡ true → option_map (λ (c : Client). c.decoder) (option_map {T = Client} (λ c. record c { decoder = stops.decoder }) o) ≡ Some stops.decoder
    decoded None is = absurd (true≢false (sym is))
    decoded (Some c) is = refl

-- ---- what was written

outputs_changed : (s t : DeskRunState) (conn : ℕ) (change : Client → Client) → ((c : Client) → output_of (change c) ≡ output_of c) → t.clients ≡ on_client conn change s.clients → outputs t ≡ outputs s
outputs_changed s t conn change keeps clients = ap (map output_of) clients ∙ each-on_client output_of conn change s.clients keeps

taken_outputs : (s t : DeskRunState) (conn : ℕ) → TakesAll (with_left s conn []) conn (left_of s conn) t → outputs t ≡ outputs s
taken_outputs s t conn taken = outputs_changed s t conn (relieved []) (λ c. refl) (takes_all-keeps (with_left s conn []) conn (left_of s conn) t taken)

before_outputs : (s : DeskRunState) (conn : ℕ) (t : DeskRunState) → StopsBefore s conn t → outputs t ≡ outputs s
before_outputs s conn t stops =
    outputs_changed (with_left s conn []) t conn (relieved (stops.next ∷ stops.behind)) (λ c. refl) (first_clients stops) ∙ outputs_changed s (with_left s conn []) conn (relieved []) (λ c. refl) refl

behind_outputs : (s : DeskRunState) (conn : ℕ) (piece : List ℕ) (t : DeskRunState) → StopsBehind s conn piece t → outputs t ≡ outputs s
behind_outputs s conn piece t stops =
    let change : Client → Client = λ c. record c { decoder = stops.decoder } in
    outputs_changed (with_decoder stops.mid conn stops.decoder) t conn (relieved (stops.first.next ∷ stops.first.behind)) (λ c. refl) (first_clients stops.first)
    ∙ outputs_changed stops.mid (with_decoder stops.mid conn stops.decoder) conn change (λ c. refl) refl ∙ taken_outputs s stops.mid conn stops.unread.leftovers

pub lacks_silent : {D : Type 0} (fed : Bool) (x : Step) (d e : DeskState D) → Lacks fed x d e → outputs e.run_state ≡ outputs d.run_state
lacks_silent {D} false (step.Connect conn) d e lacks = ap (λ (c : DeskState D). outputs c.run_state) lacks.1
lacks_silent {D} false (step.Bytes conn piece) d e lacks = by lacks.0
  where
    by : StopsShort false d.run_state conn piece.items e.run_state → outputs e.run_state ≡ outputs d.run_state
    by (inl stops) = before_outputs d.run_state conn e.run_state stops
    by (inr stops) = taken_outputs d.run_state e.run_state conn stops.unread.leftovers
lacks_silent {D} true (step.Bytes conn piece) d e lacks = behind_outputs d.run_state conn piece.items e.run_state lacks.0
lacks_silent {D} false step.Append d e lacks = ap (λ (c : DeskState D). outputs c.run_state) lacks.1
lacks_silent {D} false step.CheckBegin d e lacks = ap (λ (c : DeskState D). outputs c.run_state) lacks.1
lacks_silent {D} fed other d e lacks = absurd lacks

pub tears_silent : {D : Type 0} (x : Step) (d e : DeskState D) → TearsStep x d e → outputs e.run_state ≡ outputs d.run_state
tears_silent {D} (step.Bytes conn piece) d e tears = ap outputs tears.tears.run_state ∙ by tears.stops
  where
    by : StopsBefore d.run_state conn tears.last ⊎ StopsBehind d.run_state conn piece.items tears.last → outputs tears.last ≡ outputs d.run_state
    by (inl stops) = before_outputs d.run_state conn tears.last stops
    by (inr stops) = behind_outputs d.run_state conn piece.items tears.last stops
tears_silent {D} step.Append d e tears = ap outputs tears.run_state
tears_silent {D} step.CheckBegin d e tears = ap outputs tears.run_state
tears_silent {D} step.CheckStep d e tears = ap outputs tears.run_state
tears_silent {D} step.CheckFinish d e tears = ap outputs tears.run_state
tears_silent {D} other d e tears = absurd tears

-- ---- a step that found no memory

lacks_tells : {D : Type 0} (fed : Bool) (x : Step) (d e : DeskState D) → Lacks fed x d e → TellsFed fed d.run_state x e.run_state
lacks_tells {D} false (step.Connect conn) d e lacks = same_reads d.run_state e.run_state (ap (λ (c : DeskState D). c.run_state) lacks.1)
lacks_tells {D} false (step.Bytes conn piece) d e lacks = short_reads_none d.run_state conn piece.items e.run_state lacks.0
lacks_tells {D} true (step.Bytes conn piece) d e lacks = behind_reads d.run_state conn piece.items e.run_state lacks.0
lacks_tells {D} false step.Append d e lacks = same_reads d.run_state e.run_state (ap (λ (c : DeskState D). c.run_state) lacks.1)
lacks_tells {D} false step.CheckBegin d e lacks = same_reads d.run_state e.run_state (ap (λ (c : DeskState D). c.run_state) lacks.1)
lacks_tells {D} fed other d e lacks = absurd lacks

pub finds_tells : {D : Type 0} (fed : Bool) (x : Step) (d e : DeskState D) → FindsNoMemory fed x d e → TellsFed fed d.run_state x e.run_state
finds_tells fed x d e (inl owing) =
    let still = owing.1 in
    subst (λ (b : Bool). TellsFed b d.run_state x e.run_state) (sym owing.0)
    (settling_reads d.run_state e.run_state
    (discharged_owing e.run_state (ap (λ (r : DeskRunState). r.owes) still.writes.after) ∙ owed_later d.run_state e.run_state still.writes ∙ sym (discharged_owing d.run_state still.owed)))
finds_tells fed x d e (inr lacks) =
    fed_discharged fed d.run_state (discharged d.run_state) x e.run_state refl (lacks_tells fed x (discharged_desk d) e lacks)
