-- What a stop leaves in the steps of `commit` and of `shut`.
use Rattle.std.proofs.Common.{◌≡◌, ℕ, ◌+◌, ◌≤◌, List, length, get_or, inl, add-zero, sym, ◌∙◌, ap, subst, arith}
use Rattle.fe_disk.specs.Disk.{IsTorn, Follows, LeavesJust, MakesJust, bytes_at}
use Rattle.fe_disk.specs.declared.calls.Calls.{Calls}
use Rattle.fe_disk.proofs.Outcomes.{just_joined}
use Rattle.fe_disk.proofs.Images.{IsTorn-same, torn_left, torn_again, torn_wider, get_or-bytes_at}
use Rattle.fe_journal.specs.Layout.{header_of, gate_of, IsGateShut}
use Rattle.fe_journal.specs.Journal.{IsLeftInCommit, IsLeftInShutting, IsHeaderTorn, Shuts}

module _ (before : List ℕ → Type 0) (seen : List ℕ) (at : ℕ) (bytes : List ℕ) (gate : ℕ) where
  pub not_begun : (image : List ℕ) → before image → IsLeftInCommit before seen at bytes gate image
  not_begun image may = inl (image, may, IsTorn-same at (length bytes) image)

  pub bytes_torn : (new : List ℕ → Type 0) → Follows (IsTorn at (length bytes)) before new → (image : List ℕ) → new image → IsLeftInCommit before seen at bytes gate image
  bytes_torn new follows image may = inl (follows image may)

-- a gate that is left alone
pub shut_still : (seen : List ℕ) (gate : ℕ) (image : List ℕ) → image ≡ seen → IsLeftInShutting seen gate image
shut_still seen gate image same =
    record {
      torn = subst (λ (l : List ℕ). IsTorn gate 1 seen l) (sym same) (IsTorn-same gate 1 seen);
      opens_none = λ is_open. ap (λ (l : List ℕ). get_or l gate 0) (sym same) ∙ is_open;
    }

-- a gate that was open, closed
pub shut_torn : (seen : List ℕ) (gate : ℕ) → get_or seen gate 0 ≡ 1 → (old new : List ℕ → Type 0) → LeavesJust seen old → Follows (IsTorn gate 1) old new → (image : List ℕ) → new image → IsLeftInShutting seen gate image
shut_torn seen gate was_open old new just follows image may =
    record { torn = torn_left seen gate 1 old new just follows image may; opens_none = λ _. was_open }

-- the byte that a read of one byte gave
pub byte_read : (seen : List ℕ) (gate : ℕ) (buffer : List ℕ) → buffer ≡ bytes_at seen gate 1 → get_or seen gate 0 ≡ get_or buffer 0 0
byte_read seen gate buffer read =
    subst (λ (k : ℕ). get_or seen k 0 ≡ get_or buffer 0 0) (add-zero gate)
    (sym (ap (λ (l : List ℕ). get_or l 0 0) read ∙ get_or-bytes_at seen gate 1 0 (omega arith)))

-- the header's fields torn after a closed gate
pub header_torn : (seen mid image : List ℕ) (slot n : ℕ) → n ≤ 4095 → IsTorn (gate_of slot) 1 seen mid → IsGateShut mid (gate_of slot) → IsTorn (header_of slot) n mid image → IsHeaderTorn seen slot image
header_torn seen mid image slot n short torn shut fields =
    record {
      torn = torn_again (header_of slot) 4096 seen mid image (torn_wider (header_of slot) 4096 (gate_of slot) 1 seen mid (omega arith) (omega arith) torn) (torn_wider (header_of slot) 4096 (header_of slot) n mid image (omega arith) (omega arith) fields);
      shut = λ is_open. shut (sym (fields.above (gate_of slot) (omega arith)) ∙ is_open);
    }

pub header_left : (seen mid : List ℕ) (slot : ℕ) (fields : List ℕ) (old new : List ℕ → Type 0) → length fields ≡ 20 → IsTorn (gate_of slot) 1 seen mid → IsGateShut mid (gate_of slot) → LeavesJust mid old → Follows (IsTorn (header_of slot) (length fields)) old new
    → (image : List ℕ) → new image → IsHeaderTorn seen slot image
header_left seen mid slot fields old new twenty torn shut just follows image may =
    header_torn seen mid image slot (length fields) (omega arith) torn shut (torn_left mid (header_of slot) (length fields) old new just follows image may)

-- a write after a gate was closed
pub shuts_then : (seen : List ℕ) (gate n : ℕ) (old mid new : Calls) → Shuts seen gate n old mid → MakesJust 0 1 0 mid new → Shuts seen gate (n + 1) old new
shuts_then seen gate n old mid new shut wrote =
    record { opened = λ is_open. just_joined 1 (n + 1) 1 0 1 0 old mid new (shut.opened is_open) wrote; closed = λ is_shut. just_joined 1 n 0 0 1 0 old mid new (shut.closed is_shut) wrote }
