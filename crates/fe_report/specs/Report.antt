-- The report: a text that says what waits, line by line (`docs/model.md`, "The report").
use Rattle.std.specs.Prelude.{ℕ, ◌==◌, ◌&&◌, nat_lt, if◌then◌else◌, Bool, List, [], ◌++◌, map, codes}
use Rattle.std.specs.List.{flat_map}
use Rattle.std.specs.Ordering.{nat_cmp, ordering_then}
use Rattle.std.specs.declared.cmp.Ordering.{Ordering}
use Rattle.std.specs.Fmt.{decimal}
use Rattle.std.specs.FinMap.{FinMap, len, entries, from_entries, retain_keys}
use Rattle.fe_words.specs.Table.{name_of}
use Rattle.fe_words.specs.declared.op.Op.{Op}
use Rattle.fe_waits.specs.Waiting.{pair_cmp, WaitingAccess}
use Rattle.fe_service.specs.AttachmentsState.{count_of}
use Rattle.fe_service.specs.declared.attachment.Attachment.{Attachment}
use Rattle.fe_service.specs.Service.{WaitingAccesses}
use Rattle.fe_front.specs.Front.{FrontState, is_attached}

-- where a request waits: the array and the index of its word, then its session and its number
abbrev pub Spot : Type 0
Spot = (ℕ × ℕ) × (ℕ × ℕ)

-- the order of the lines: by array, index, session and number
abbrev pub spot_cmp : Spot → Spot → Ordering
spot_cmp a b = ordering_then (pair_cmp a.0 b.0) (pair_cmp a.1 b.1)

-- the row of a waiting request, given its session and number: where it waits, and its operation
abbrev pub spot_of : (ℕ × ℕ) × WaitingAccess → Spot × Op
spot_of e = (((e.1.array, e.1.index), e.0), e.1.op)

-- the operation of each request that waits, in the order of the lines
abbrev pub by_word : WaitingAccesses → FinMap spot_cmp Op
by_word waiting = from_entries (map spot_of (entries waiting))

-- how many requests of each session wait, for the sessions that have any
abbrev pub by_session : WaitingAccesses → FinMap nat_cmp ℕ
by_session waiting = from_entries (map (λ e. (e.0.0, count_of waiting e.0.0)) (entries waiting))

-- the attached sessions that have no waiting request
abbrev pub idle : WaitingAccesses → FinMap nat_cmp Attachment → FinMap nat_cmp Attachment
idle waiting attached = retain_keys attached (λ session. count_of waiting session == 0)

-- whether a session is attached, and each attached session has a waiting request
abbrev pub do_all_wait : WaitingAccesses → FinMap nat_cmp Attachment → Bool
do_all_wait waiting attached = nat_lt 0 (len attached) && (len (idle waiting attached) == 0)

-- ---- the lines

-- how many requests wait
abbrev pub count_line : ℕ → List ℕ
count_line count = codes "waiting " ++ (decimal count ++ codes "\n")

-- where a request waits, and its operation without the operand
abbrev pub word_line : Spot × Op → List ℕ
word_line e =
    codes "word " ++ (decimal e.0.0.0 ++ (codes " " ++ (decimal e.0.0.1
    ++ (codes " session " ++ (decimal e.0.1.0 ++ (codes " number " ++ (decimal e.0.1.1
    ++ (codes " " ++ (name_of e.1 ++ codes "\n")))))))))

-- how many requests of a session wait
abbrev pub session_line : ℕ × ℕ → List ℕ
session_line e = codes "session " ++ (decimal e.0 ++ (codes " waits " ++ (decimal e.1 ++ codes "\n")))

-- whether a session is attached and all that are attached wait
abbrev pub all_wait_line : Bool → List ℕ
all_wait_line all = if all then codes "all-wait yes\n" else codes "all-wait no\n"

-- ---- the text

-- the lines after the first one
abbrev pub lines_of : WaitingAccesses → FinMap nat_cmp Attachment → List ℕ
lines_of waiting attached =
    flat_map word_line (entries (by_word waiting))
    ++ (flat_map session_line (entries (by_session waiting))
    ++ all_wait_line (do_all_wait waiting attached))

-- The report, given what waits and the attachments of the attached sessions: how many requests wait and, if
-- any do, a line for each of them by word, a line for each session that has any, and whether a session is
-- attached and each attached one has a waiting request.
abbrev pub report_text : WaitingAccesses → FinMap nat_cmp Attachment → List ℕ
report_text waiting attached =
    count_line (len waiting) ++ (if len waiting == 0 then [] else lines_of waiting attached)

-- the attachments of the sessions that a connection has and that are not closing
abbrev pub held_attachments : FrontState → FinMap nat_cmp Attachment
held_attachments f = retain_keys f.service.attachments (λ session. is_attached f session)
