-- What a contract sees of the attachments: the sessions that have one, and the requests that wait, by session
-- and number. An attachment says which connection has the session, and whether the session is closing
-- (`docs/model.md`, "Waiting requests").
use Rattle.std.specs.Prelude.{◌≡◌, ◌==◌, ℕ, ◌≤◌, List, Bool, true, false, not, Option, Some, None, IsSome}
use Rattle.std.specs.Prelude.{refl, slice_index_or}
use Rattle.std.specs.Option.{option_map, option_map_or, option_and_then}
use Rattle.std.specs.Ordering.{nat_cmp}
use Rattle.std.specs.Coded.{Coded, code_by, coded×, coded_ℕ, coded_list, coded_option}
use Rattle.std.specs.FinMap.{FinMap, code, get, insert, len, retain_keys}
use Rattle.fe_waits.specs.Waiting.{pair_cmp, WaitingAccess, waiting_access_code, IsWord, IsOn}
use Rattle.fe_service.specs.declared.attachment.Attachment.{Attachment}
use Rattle.fe_service.specs.contracts.attachment.Attachment.{the_row as attachment_row}
use Rattle.fe_service.specs.declared.waiting_request.WaitingRequest.{WaitingRequest}
use Rattle.fe_service.specs.contracts.waiting_request.WaitingRequest.{the_row as waiting_request_row}
use Rattle.fe_state.specs.Limits.{most_sessions, most_arrays, window_length, most_waiting}

-- the length of each added array; the attachments, by session; the requests that wait, by session and number;
-- and for each node the request that it represents, if any
pub record AttachmentsState : Type 0 where
  pub arrays : FinMap nat_cmp ℕ
  pub attachments : FinMap nat_cmp Attachment
  pub waiting : FinMap pair_cmp WaitingAccess
  pub requests_by_node : List (Option WaitingRequest)

-- for proofs, it is coded as the tuple of its fields
abbrev pub attachments_code : Coded AttachmentsState
attachments_code =
    code_by
    (FinMap nat_cmp ℕ × (FinMap nat_cmp Attachment
    × (FinMap pair_cmp WaitingAccess × List (Option WaitingRequest))))
    (coded×
    (code coded_ℕ coded_ℕ)
    (coded×
    (code coded_ℕ attachment_row.coded)
    (coded× (code (coded× coded_ℕ coded_ℕ) waiting_access_code)
    (coded_list (coded_option waiting_request_row.coded)))))
    (λ w. (w.arrays, (w.attachments, (w.waiting, w.requests_by_node))))
    (λ t. record { arrays = t.0; attachments = t.1.0; waiting = t.1.1.0; requests_by_node = t.1.1.1 })
    (λ _. refl)

-- ---- attachments

-- the attachment of a session that no connection has and that is not closing
abbrev pub free_attachment : Attachment
free_attachment = record { holder = None; closing = false }

-- the connection that has a session, if one has it
abbrev pub holder_of : FinMap nat_cmp Attachment → ℕ → Option ℕ
holder_of attachments session = option_and_then (λ attachment. attachment.holder) (get attachments session)

-- the session has an attachment, and is closing
abbrev pub is_closing : FinMap nat_cmp Attachment → ℕ → Bool
is_closing attachments session =
    option_map_or (λ attachment. attachment.closing) (get attachments session) false

-- the attachments with another holder for a session; if it has no attachment, it gets one
abbrev pub with_holder : FinMap nat_cmp Attachment → ℕ → Option ℕ → FinMap nat_cmp Attachment
with_holder attachments session holder =
    insert attachments session (record { holder = holder; closing = is_closing attachments session })

-- the attachments with a session marked as closing; if it has no attachment, it gets one
abbrev pub with_closing : FinMap nat_cmp Attachment → ℕ → FinMap nat_cmp Attachment
with_closing attachments session =
    insert attachments session (record { holder = holder_of attachments session; closing = true })

-- ---- requests that wait

-- the session and the number of a request
abbrev pub key_of : WaitingRequest → ℕ × ℕ
key_of waiting_request = (waiting_request.session, waiting_request.number)

-- the word and the operation of a request
abbrev pub waiting_access_of : WaitingRequest → WaitingAccess
waiting_access_of waiting_request =
    record { array = waiting_request.array; index = waiting_request.index; op = waiting_request.op }

-- the request that a node represents
abbrev pub request_of_node : AttachmentsState → ℕ → Option WaitingRequest
request_of_node w node = slice_index_or w.requests_by_node node None

-- the request of a session and a number, if it waits
abbrev pub waiting_request_at : FinMap pair_cmp WaitingAccess → ℕ → ℕ → Option WaitingRequest
waiting_request_at waiting session number =
    option_map
    (λ waiter. record {
      session = session;
      number = number;
      array = waiter.array;
      index = waiter.index;
      op = waiter.op;
    })
    (get waiting (session, number))

-- the node represents the request, which waits on the word
pub record IsRequestOn (w : AttachmentsState) (array index node : ℕ) (request : WaitingRequest) : Type 0 where
  pub of_node : request_of_node w node ≡ Some request
  pub on_word : IsOn (waiting_access_of request) array index
  pub waits : get w.waiting (key_of request) ≡ Some (waiting_access_of request)

-- no request of the session waits
abbrev pub NoneOfSession : FinMap pair_cmp WaitingAccess → ℕ → Type 0
NoneOfSession waiting session = (number : ℕ) → get waiting (session, number) ≡ None

-- the requests of a session
abbrev pub of_session : FinMap pair_cmp WaitingAccess → ℕ → FinMap pair_cmp WaitingAccess
of_session waiting session = retain_keys waiting (λ key. key.0 == session)

-- how many requests of a session wait
abbrev pub count_of : FinMap pair_cmp WaitingAccess → ℕ → ℕ
count_of waiting session = len (of_session waiting session)

-- the requests of the other sessions
abbrev pub without_session : FinMap pair_cmp WaitingAccess → ℕ → FinMap pair_cmp WaitingAccess
without_session waiting session = retain_keys waiting (λ key. not (key.0 == session))

-- the invariant: attachments, requests and arrays stay within their limits; each request is of a session that
-- has an attachment, and on a word of an added array; a session has at most as many requests as its window
-- has numbers; and a request that a node represents waits
pub record IsWithinLimits (w : AttachmentsState) : Type 0 where
  pub attachments : len w.attachments ≤ most_sessions
  pub has_attachment : (key : ℕ × ℕ) (waiter : WaitingAccess) → get w.waiting key ≡ Some waiter
      → IsSome (get w.attachments key.0)
  pub words : (key : ℕ × ℕ) (waiter : WaitingAccess) → get w.waiting key ≡ Some waiter
      → IsWord w.arrays waiter.array waiter.index
  pub few : (session : ℕ) → count_of w.waiting session ≤ window_length
  pub all : len w.waiting ≤ most_waiting
  pub arrays : len w.arrays ≤ most_arrays
  pub requests_by_node : (node : ℕ) (waiting_request : WaitingRequest)
      → request_of_node w node ≡ Some waiting_request
      → get w.waiting (key_of waiting_request) ≡ Some (waiting_access_of waiting_request)
