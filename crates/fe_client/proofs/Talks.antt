-- The parts of an exchange.
use Rattle.std.proofs.Common.{◌≡◌, ◌⊎◌, inl, inr, ℕ, ◌+◌, ◌≤◌, List, [], ◌∷◌, ◌++◌, Some, None, Result, Ok, Err, length, take, take_all, refl, sym, ap, ◌∙◌, arith}
use Rattle.std.specs.Prelude.{OnErr}
use Rattle.std.proofs.lemmas.Option.{none-some}
use Rattle.fe_memory.specs.Memory.{out_of_memory}
use Rattle.fe_wire.specs.Spelling.{spelling, reply_spelling, ReplyFits}
use Rattle.fe_wire.specs.declared.client_message.ClientMessage.{ClientMessage}
use Rattle.fe_wire.specs.declared.server_message.ServerMessage.{ServerMessage}
use Rattle.fe_client.specs.Ends.{Cause, of_stream, IsFrontOf, Unprinted, Unsent, Unanswered, ExchangeEnds, LineEnds}
use Rattle.fe_text.specs.Line.{message_in, plain_in, words_at}
use Rattle.fe_text.specs.declared.fault.StreamFault.{StreamFault}
use Rattle.fe_text.specs.declared.fault.StreamFault.TheVariants as stream
use Rattle.fe_client.specs.declared.fault.CallFault.{CallFault}
use Rattle.fe_client.specs.Conversation.{asked, Does, Exchanged, DoesLine, DoesPart}
use Rattle.fe_client.specs.Events.{Event, sent, received, written, exchange, reply_text}
use Rattle.fe_client.proofs.Leads.{Joins, then_nothing, exchange_received}

-- ---- an exchange

-- the message is not sent, or a front of it
pub sending_ends : {S : Type 0} (leads : S → List Event → S → Type 0) (end : CallFault) (because : Cause → Type 0) (earlier : ℕ) (m : ClientMessage) (s t : S) (front : List ℕ) → IsFrontOf front (spelling m) → leads s (sent front) t → Unsent end because
    → DoesPart leads s t (ExchangeEnds end because earlier m)
sending_ends leads end because earlier m s t front is happened why = record {
  part = sent front;
  ends = ExchangeEnds.Sending (record { why = why; front = front; is_front = is; part_is = refl });
  happened = happened;
}

-- it is sent, and no reply comes
pub receiving_ends : {S : Type 0} (leads : S → List Event → S → Type 0) → Joins leads → (end : CallFault) (because : Cause → Type 0) (earlier : ℕ) (m : ClientMessage) (s t u : S) (bytes : List ℕ) → leads s (sent (spelling m)) t → leads t (received bytes) u → Unanswered end because earlier bytes
    → DoesPart leads s u (ExchangeEnds end because earlier m)
receiving_ends leads joins end because earlier m s t u bytes asks came why = record {
  part = sent (spelling m) ++ received bytes;
  ends = ExchangeEnds.Receiving (record { bytes = bytes; why = why; part_is = refl });
  happened = joins s t u (sent (spelling m)) (received bytes) asks came;
}

-- the reply comes, and is not printed, or a front of it
pub printing_ends : {S : Type 0} (leads : S → List Event → S → Type 0) → Joins leads → (end : CallFault) (because : Cause → Type 0) (earlier : ℕ) (m : ClientMessage) (reply : ServerMessage) (s t u v : S) (front : List ℕ) → leads s (sent (spelling m)) t → ReplyFits reply → leads t (received (reply_spelling reply)) u
    → IsFrontOf front (reply_text reply) → leads u (written front) v → Unprinted end because → DoesPart leads s v (ExchangeEnds end because earlier m)
printing_ends leads joins end because earlier m reply s t u v front asks fits came is seen why = record {
  part = sent (spelling m) ++ (received (reply_spelling reply) ++ written front);
  ends = ExchangeEnds.Printing (record { why = why; reply = reply; fits = fits; front = front; is_front = is; part_is = refl });
  happened = joins s t v (sent (spelling m)) (received (reply_spelling reply) ++ written front) asks (joins t u v (received (reply_spelling reply)) (written front) came seen);
}

-- why the text is not printed, by the fault of the stream
pub unprinted : (end : CallFault) (because : Cause → Type 0) (why : StreamFault) → end ≡ of_stream why → (why ≡ stream.Memory out_of_memory) ⊎ because (Cause.Unwritable why) → Unprinted end because
unprinted end because why is (inl short) = inl (is ∙ ap of_stream short)
unprinted end because why is (inr failed) = inr (why, failed, is)

on_err_then : {A E : Type 0} (r : Result A E) {P Q : Type 0} → (P → Q) → OnErr r P → OnErr r Q
on_err_then (Ok x) f p = tt
on_err_then (Err e) f p = f p

-- all of its text is written, and can't be seen
pub unflushed : {S : Type 0} (leads : S → List Event → S → Type 0) → Joins leads → (r : Result Unit StreamFault) (s t u : S) (text all : List ℕ) → text ≡ all → leads s (written text) t → OnErr r (leads t [] u)
    → OnErr r ((front : List ℕ) × IsFrontOf front all × leads s (written front) u)
unflushed leads joins r s t u text all is seen =
    on_err_then r (λ nothing. (text, (length text, sym (take_all (length text) text (omega arith)) ∙ ap (take (length text)) is), then_nothing leads joins s t u (written text) seen nothing))

-- all of it is done
pub exchanged : {S : Type 0} (leads : S → List Event → S → Type 0) → Joins leads → (m : ClientMessage) (reply : ServerMessage) (reads mid now : ℕ) (s t u v : S) → leads s (sent (spelling m)) t → ReplyFits reply → leads t (received (reply_spelling reply)) u
    → leads u (written (reply_text reply) ++ Event.Flushed ∷ []) v → mid ≤ reads + length (reply_spelling reply) → now ≡ mid → Exchanged leads m reads now s v
exchanged leads joins m reply reads mid now s t u v asks fits came seen few same =
    let text : List Event = written (reply_text reply) ++ Event.Flushed ∷ [] in
    record {
      reply = reply;
      fits = fits;
      happened = joins s t v (sent (spelling m)) (received (reply_spelling reply) ++ text) asks (joins t u v (received (reply_spelling reply)) text came seen);
      few = omega (arith, few, same);
    }

-- ---- a line

empty_asks_nothing : asked [] ≡ None
unfolding asked message_in words_at plain_in
empty_asks_nothing = refl

does_one : (line : List ℕ) (m : ClientMessage) (reply : ServerMessage) → asked line ≡ Some m → ReplyFits reply → Does line (exchange m reply)
does_one [] m reply says fits = absurd (none-some _ (sym empty_asks_nothing ∙ says))
does_one (byte ∷ bytes) m reply says fits = (m, reply, says, fits, refl)

-- the exchange of a line is done
pub line_done : {S : Type 0} (leads : S → List Event → S → Type 0) (line : List ℕ) (m : ClientMessage) (reads now : ℕ) (s t : S) → asked line ≡ Some m → Exchanged leads m reads now s t → DoesLine leads line reads now s t
line_done leads line m reads now s t says e =
    let few = e.few in
    let size = ap (length {A = ℕ}) (exchange_received m e.reply) in
    record { done = exchange m e.reply; does = does_one line m e.reply says e.fits; happened = e.happened; few = omega (arith, few, size) }

pub line_ends : {S : Type 0} (leads : S → List Event → S → Type 0) (end : CallFault) (because : Cause → Type 0) (number earlier : ℕ) (line : List ℕ) (m : ClientMessage) (s t : S) → asked line ≡ Some m → DoesPart leads s t (ExchangeEnds end because earlier m)
    → DoesPart leads s t (LineEnds end because number earlier line)
line_ends leads end because number earlier line m s t says d = record { part = d.part; ends = LineEnds.Within m says d.ends; happened = d.happened }
