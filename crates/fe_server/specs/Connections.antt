-- What the transcripts of connections that have ended say of them, and of a server's books and history
-- (`docs/proved.md`, "Server").
use Rattle.std.specs.Prelude.{◌≡◌, ℕ, List, filter_map, sum_by, All, Contains}
use Rattle.fe_mail.specs.Books.{Books}
use Rattle.fe_history.specs.Receipts.{receipt_of}
use Rattle.fe_history.specs.declared.act.Act.{Act}
use Rattle.fe_history.specs.declared.act.Act.TheVariants.{Issued}
use Rattle.fe_server.specs.Transcripts.{IsTranscript}
use Rattle.fe_server.specs.declared.transcript.Transcript.{Transcript}

-- The first messages of what the connection's socket received were handled, and it was sent the frames of the
-- mails that were taken, and nothing else: all of them, unless a write failed or memory was short.
abbrev pub IsOfConnection : Transcript → Type 0
IsOfConnection t =
    IsTranscript t.received t.sent t.conn t.calls.value t.list t.read_end t.mails.value t.receipts t.write_end

-- each answer among the mails that were taken for the connection was issued to it
abbrev pub AnswersIssued : List Act → Transcript → Type 0
AnswersIssued history t =
    All (λ r. Contains history (Issued r)) (filter_map (receipt_of t.conn) t.mails.value.taken)

-- how many calls these connections made, and how many mails were taken for them
abbrev pub calls_of : List Transcript → ℕ
calls_of transcripts = sum_by (λ t. t.calls.value.calls) transcripts

abbrev pub mails_of : List Transcript → ℕ
mails_of transcripts = sum_by (λ t. t.mails.value.mails) transcripts

-- the books count the calls and the mails of these connections, and no others
abbrev pub AreCounted : List Transcript → Books → Type 0
AreCounted transcripts books = (books.calls ≡ calls_of transcripts) × (books.taken ≡ mails_of transcripts)
