-- How the parts of a service change while it serves. No public clause cites this module (`docs/model.md`,
-- "The service").
use Rattle.std.specs.Prelude.{◌≡◌, ℕ, ◌+◌, ◌≤◌, ◌⊎◌, List, [], ◌∷◌, ◌++◌, length, Some, None}
use Rattle.std.specs.FinMap.{get, len}
use Rattle.fe_words.specs.Table.{row}
use Rattle.fe_words.specs.declared.word.Tag.{Tag}
use Rattle.fe_waits.specs.Waiting.{WaitingAccess, IsOn, NoneOnWord}
use Rattle.fe_state.specs.State.{ServerState, reply, after, after_all}
use Rattle.fe_state.specs.declared.entry.Entry.{Entry}
use Rattle.fe_state.specs.Limits.{greatest_place, most_batch_entries}
use Rattle.fe_service.specs.Service.{WaitingAccesses, AreUsable, request_of, IsTurn, AreTurns, without_turn}
use Rattle.fe_service.specs.Service.{without_turns}
use Rattle.fe_service.specs.declared.service_inner.ServiceInner.{ServiceInner}

-- no request that waits on the word may be served
abbrev pub IsQuietAt : ServerState → WaitingAccesses → ℕ → ℕ → Type 0
IsQuietAt s waiting array index = (key : ℕ × ℕ) (w : WaitingAccess) → get waiting key ≡ Some w
    → IsOn w array index → reply s (request_of w) ≡ None

-- all requests that wait on the word would have to wait if this were its tag
abbrev pub WaitAtTag : WaitingAccesses → ℕ → ℕ → Tag → Type 0
WaitAtTag waiting array index tag =
    (key : ℕ × ℕ) (w : WaitingAccess) → get waiting key ≡ Some w → IsOn w array index → row w.op tag 0 ≡ None

-- some request that waits on the word may not be served
pub record HasIdle (s : ServerState) (waiting : WaitingAccesses) (array index : ℕ) : Type 0 where
  pub key : ℕ × ℕ
  pub waiter : WaitingAccess
  pub waits : get waiting key ≡ Some waiter
  pub on_word : IsOn waiter array index
  pub idle : reply s (request_of waiter) ≡ None

-- no request waits on the word, or some that does may not be served
abbrev pub IsAtRest : ServerState → WaitingAccesses → ℕ → ℕ → Type 0
IsAtRest s waiting array index = NoneOnWord waiting array index ⊎ HasIdle s waiting array index

-- each request that waits is usable, and there are a place and room for the entry that serving it makes
pub record MayServe (p : ServiceInner) : Type 0 where
  pub usable : AreUsable p.state p.attachments.waiting
  pub places : p.state.place + len p.attachments.waiting ≤ greatest_place
  pub room : length p.pending + len p.attachments.waiting ≤ most_batch_entries

-- one entry more, which serves a request that waited on the word; the attachments and the arrays stay
pub record TakesTurn (old new : ServiceInner) (array index : ℕ) (e : Entry) : Type 0 where
  pub turn : IsTurn old.state old.attachments.waiting e
  pub on_word : IsOn turn.waiter array index
  pub state : new.state ≡ after old.state e
  pub waiting : new.attachments.waiting ≡ without_turn old.attachments.waiting e
  pub attachments : new.attachments.attachments ≡ old.attachments.attachments
  pub arrays : new.attachments.arrays ≡ old.attachments.arrays
  pub pending : new.pending ≡ old.pending ++ e ∷ []

-- more entries, which serve requests that waited, one after the other; the attachments and the arrays stay
pub record TakesTurns (old new : ServiceInner) (es : List Entry) : Type 0 where
  pub turns : AreTurns old.state old.attachments.waiting es
  pub state : new.state ≡ after_all old.state es
  pub waiting : new.attachments.waiting ≡ without_turns old.attachments.waiting es
  pub attachments : new.attachments.attachments ≡ old.attachments.attachments
  pub arrays : new.attachments.arrays ≡ old.attachments.arrays
  pub pending : new.pending ≡ old.pending ++ es
