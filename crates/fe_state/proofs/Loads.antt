-- What an image holds, put into a state, keeps it within the limits.
use Rattle.std.proofs.Common.{◌≡◌, ℕ, ◌-◌, ◌^◌, ◌<◌, ◌≤◌, Some, None, ap, arith}
use Rattle.std.specs.Prelude.{is_some}
use Rattle.std.specs.Cmp.{nat_cmp_total}
use Rattle.std.specs.FinMap.{get, insert, empty, len, len-insert}
use Rattle.fe_state.proofs.Empty.{not_there}
use Rattle.fe_state.proofs.LegalLimits.{insert_each, keeping_within}
use Rattle.fe_state.specs.Directory.{Directory, IsDirectory}
use Rattle.fe_state.specs.Sessions.{Session, IsInWindow, keeping}
use Rattle.fe_state.specs.State.{ServerState, IsWithinLimits, IsSession, with_sessions}
use Rattle.fe_state.specs.declared.kept.Kept.{Kept}

-- other arrays, with the same next id
pub directory_within : (s : ServerState) (d : Directory) → IsWithinLimits s → IsDirectory d → d.next_id ≡ s.next_id → IsWithinLimits (record { arrays = d.arrays; sessions = s.sessions; next_id = d.next_id; place = s.place })
directory_within s d h directory same = record {
  place = h.place;
  directory = directory;
  next_id = rw same h.next_id;
  few_sessions = h.few_sessions;
  each = h.each;
}

-- a session that is new, while there is room
pub session_within : (s : ServerState) (session : ℕ) (x : Session) → IsWithinLimits s → get s.sessions session ≡ None → len s.sessions < 64 → IsSession s.place x → IsWithinLimits (with_sessions s (insert s.sessions session x))
session_within s session x h none few new = record {
  place = h.place;
  directory = h.directory;
  next_id = h.next_id;
  few_sessions = rw (len-insert nat_cmp_total, ap is_some none) (omega arith);
  each = insert_each (IsSession s.place) s.sessions session x h.each new;
}

-- an answer that a session keeps
pub kept_within : (s : ServerState) (session number : ℕ) (x : Session) (k : Kept) → IsWithinLimits s → get s.sessions session ≡ Some x → IsInWindow x.floor number → k.place < s.place → IsWithinLimits (with_sessions s (insert s.sessions session (keeping x number k)))
kept_within s session number x k h is window earlier = record {
  place = h.place;
  directory = h.directory;
  next_id = h.next_id;
  few_sessions = rw (len-insert nat_cmp_total, ap is_some is) h.few_sessions;
  each = insert_each (IsSession s.place) s.sessions session (keeping x number k) h.each (keeping_within s.place x number k (h.each session x is) window earlier);
}

-- a session that keeps nothing
pub nothing_kept : (place : ℕ) (x : Session) → 1 ≤ x.floor → x.floor ≤ 2 ^ 63 - 32 → x.kept ≡ empty → IsSession place x
nothing_kept place x least most none = record {
  floor = least;
  most = most;
  kept = λ number k e. absurd (not_there number k (rw none at e));
}
