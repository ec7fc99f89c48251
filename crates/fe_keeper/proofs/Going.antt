-- The groups of a slot, gone through one after the other.
use Rattle.std.proofs.Common.{◌≡◌, ℕ, ◌+◌, ◌<◌, ◌≤◌, inl, inr, true, false, List, [], ◌∷◌, length, length-append, ◌∙◌, ap, subst, refl, arith}
use Rattle.std.specs.List.{AllByRecursion}
use Rattle.fe_state.specs.State.{ServerState, after_all}
use Rattle.fe_state.specs.History.{IsHistory, after_groups}
use Rattle.fe_state.specs.declared.entry.Entry.{Entry}
use Rattle.fe_codec.specs.Record.{IsGroupSize, group_spelling}
use Rattle.fe_format.specs.Layout.{IsPayloadLength}
use Rattle.fe_format.specs.declared.format.Format.{Format}
use Rattle.fe_format.specs.declared.format.Format.TheVariants.{One, Two}
use Rattle.fe_journal.specs.Contents.{StandFrom, Contents, Holds, Cursor, Lists}
use Rattle.fe_journal.specs.Layout.{area_bytes}
use Rattle.fe_replica.specs.Replaying.{Replays, IsFirstBad}
use Rattle.fe_replica.proofs.Replayed.{replays_once, replayed_group, group_replays, bad_is_refused}
use Rattle.fe_keeper.specs.Stands.{AreGroups, Stands}
use Rattle.fe_keeper.specs.Opened.{IsListing, ReplaysAll, IsRecovered}
use Rattle.fe_keeper.specs.within.Replaying.{CanGoOn, IsNext}
use Rattle.fe_keeper.specs.Damage.{IsBadFrom}

-- ---- in the midst of the groups

-- what is left of the payloads, and what it leads to; the gate of the first of all is at `first`
pub record IsGoingOn (format : Format) (payloads : List (List ℕ)) (first : ℕ) (groups : Cursor) (old now : ServerState) : Type 0 where
  pub left : List (List ℕ)
  pub lists : Lists groups left
  pub leads : (s : ServerState) → ReplaysAll format left now s → ReplaysAll format payloads old s
  pub goes : CanGoOn format payloads old → CanGoOn format left now
  pub bad : (offset : ℕ) → IsBadFrom format left now (groups.start + groups.at) offset → IsBadFrom format payloads old first offset

pub going_begins : (format : Format) (payloads : List (List ℕ)) (groups : Cursor) (s : ServerState) → Lists groups payloads → IsGoingOn format payloads (groups.start + groups.at) groups s s
going_begins format payloads groups s lists = record { left = payloads; lists = lists; leads = λ t h. h; goes = λ h. h; bad = λ offset h. h }

-- a history that can go on goes on after its first group
pub on_behind : (format : Format) (payload : List ℕ) (rest : List (List ℕ)) (now new : ServerState) → Replays format payload now new → CanGoOn format (payload ∷ rest) now → CanGoOn format rest new
on_behind format payload rest now new replays h = by h.groups h.groups_are h.legal
  where
    by : (groups : List (List Entry)) → AreGroups format groups (payload ∷ rest) → IsHistory now groups → CanGoOn format rest new
    by [] are legal = absurd are
    by (group ∷ groups) are legal =
        let same : after_all now group ≡ new = replays_once format payload now (after_all now group) new (group_replays format payload now group are.0 legal.1) replays in
        record { groups = groups; groups_are = are.1; legal = subst (λ (z : ServerState). IsHistory z groups) same legal.2 }

-- a cursor goes on after the first group
abbrev pub GoesBehind : Cursor → Cursor → Type 0
GoesBehind groups groups' =
    (payload : List ℕ) (rest : List (List ℕ)) → Lists groups (payload ∷ rest) → groups' ≡ record { bytes = groups.bytes; start = groups.start; at = groups.at + (5 + length payload) }

-- what is bad after the first group
bad_behind : (format : Format) (rest : List (List ℕ)) (new : ServerState) (groups groups' : Cursor) (n offset : ℕ) → groups' ≡ record { bytes = groups.bytes; start = groups.start; at = groups.at + n }
    → IsBadFrom format rest new (groups'.start + groups'.at) offset → IsBadFrom format rest new (groups.start + groups.at + n) offset
bad_behind format rest new groups groups' n offset is bad =
    let start : groups'.start ≡ groups.start = ap (λ (g : Cursor). g.start) is in
    let at : groups'.at ≡ groups.at + n = ap (λ (g : Cursor). g.at) is in
    let there : groups'.start + groups'.at ≡ groups.start + groups.at + n = omega (arith, start, at) in
    subst (λ (k : ℕ). IsBadFrom format rest new k offset) there bad

pub going_on : (format : Format) (payloads : List (List ℕ)) (first : ℕ) (groups groups' : Cursor) (old now new : ServerState) → IsGoingOn format payloads first groups old now → GoesBehind groups groups'
    → ((left : List (List ℕ)) → Lists groups left → IsNext format left groups' now new true) → IsGoingOn format payloads first groups' old new
going_on format payloads first groups groups' old now new h behind next = by h.left h.lists h.leads h.goes h.bad (next h.left h.lists)
  where
    by : (left : List (List ℕ)) → Lists groups left → ((s : ServerState) → ReplaysAll format left now s → ReplaysAll format payloads old s) → (CanGoOn format payloads old → CanGoOn format left now)
        → ((offset : ℕ) → IsBadFrom format left now (groups.start + groups.at) offset → IsBadFrom format payloads old first offset) → IsNext format left groups' now new true → IsGoingOn format payloads first groups' old new
    by [] lists leads goes bad is = absurd (let e = is.0 in cc)
    by (payload ∷ rest) lists leads goes bad is = record {
      left = rest;
      lists = is.2;
      leads = λ s more. leads s (new, is.1, more);
      goes = λ can. on_behind format payload rest now new is.1 (goes can);
      bad = λ offset more. bad offset (inr (new, is.1, bad_behind format rest new groups groups' (5 + length payload) offset (behind payload rest lists) more));
    }

pub going_ends : (format : Format) (payloads : List (List ℕ)) (first : ℕ) (groups groups' : Cursor) (old now new : ServerState) → IsGoingOn format payloads first groups old now
    → ((left : List (List ℕ)) → Lists groups left → IsNext format left groups' now new false) → ReplaysAll format payloads old new
going_ends format payloads first groups groups' old now new h next = by h.left h.leads (next h.left h.lists)
  where
    by : (left : List (List ℕ)) → ((s : ServerState) → ReplaysAll format left now s → ReplaysAll format payloads old s) → IsNext format left groups' now new false → ReplaysAll format payloads old new
    by [] leads is = leads new is.1
    by (payload ∷ rest) leads is = absurd (let e = is.0 in cc)

-- groups that are listed are listed after the first
pub listing_on : (format : Format) (groups groups' : Cursor) (now new : ServerState) → IsListing groups → GoesBehind groups groups' → ((left : List (List ℕ)) → Lists groups left → IsNext format left groups' now new true) → IsListing groups'
listing_on format groups groups' now new listing behind next =
    let on = going_on format listing.0 (groups.start + groups.at) groups groups' now now new (going_begins format listing.0 groups now listing.1) behind next in
    (on.left, on.lists)

-- ---- the next group

-- no group is left where none is read
pub no_next : (format : Format) (payloads : List (List ℕ)) (groups : Cursor) (s : ServerState) → ((payload : List ℕ) (rest : List (List ℕ)) → Lists groups (payload ∷ rest) → ⊥) → Lists groups payloads → IsNext format payloads groups s s false
no_next format [] groups s none lists = (refl, refl)
no_next format (payload ∷ rest) groups s none lists = absurd (none payload rest lists)

-- the payload that is read is the first of those that are listed
pub record IsRead (groups : Cursor) (read : List ℕ) : Type 0 where
  pub some : Lists groups [] → ⊥
  pub first : (payload : List ℕ) (rest : List (List ℕ)) → Lists groups (payload ∷ rest) → read ≡ payload

pub is_next : (format : Format) (payloads : List (List ℕ)) (groups groups' : Cursor) (read : List ℕ) (old new : ServerState) → IsRead groups read → ((payload : List ℕ) (rest : List (List ℕ)) → Lists groups (payload ∷ rest) → Lists groups' rest)
    → Replays format read old new → Lists groups payloads → IsNext format payloads groups' old new true
is_next format [] groups groups' read old new is behind replays lists = absurd (is.some lists)
is_next format (payload ∷ rest) groups groups' read old new is behind replays lists =
    (refl, subst (λ (p : List ℕ). Replays format p old new) (is.first payload rest lists) replays, behind payload rest lists)

-- the record that is bad in the payload that is read is the first that is bad
pub bad_here : (format : Format) (payloads : List (List ℕ)) (groups : Cursor) (read : List ℕ) (s : ServerState) (within offset : ℕ) → IsRead groups read → Lists groups payloads → IsFirstBad format read s within
    → offset ≡ groups.start + groups.at + 5 + within → IsBadFrom format payloads s (groups.start + groups.at) offset
bad_here format [] groups read s within offset is lists bad at = absurd (is.some lists)
bad_here format (payload ∷ rest) groups read s within offset is lists bad at =
    inl (within, subst (λ (p : List ℕ). IsFirstBad format p s within) (is.first payload rest lists) bad, at)

-- a payload that goes on has no bad record
goes_well : (format : Format) (payload : List ℕ) (rest : List (List ℕ)) (s : ServerState) (offset : ℕ) → CanGoOn format (payload ∷ rest) s → IsFirstBad format payload s offset → ⊥
goes_well format payload rest s offset can bad = by can.groups can.groups_are can.legal
  where
    by : (gs : List (List Entry)) → AreGroups format gs (payload ∷ rest) → IsHistory s gs → ⊥
    by [] are legal = absurd are
    by (group ∷ gs) are legal = bad_is_refused format payload s (after_all s group) offset bad (group_replays format payload s group are.0 legal.1)

pub not_bad : (format : Format) (payloads : List (List ℕ)) (groups : Cursor) (read : List ℕ) (s : ServerState) (offset : ℕ) → IsRead groups read → Lists groups payloads → CanGoOn format payloads s → IsFirstBad format read s offset → ⊥
not_bad format [] groups read s offset is lists can bad = is.some lists
not_bad format (payload ∷ rest) groups read s offset is lists can bad =
    goes_well format payload rest s offset can (subst (λ (p : List ℕ). IsFirstBad format p s offset) (is.first payload rest lists) bad)

-- nor has a history that goes on
pub none_bad : (format : Format) (payloads : List (List ℕ)) (s : ServerState) (at offset : ℕ) → CanGoOn format payloads s → IsBadFrom format payloads s at offset → ⊥
none_bad format [] s at offset can bad = bad
none_bad format (payload ∷ rest) s at offset can (inl (within, bad, is)) = goes_well format payload rest s within can bad
none_bad format (payload ∷ rest) s at offset can (inr (mid, replays, bad)) = none_bad format rest mid (at + (5 + length payload)) offset (on_behind format payload rest s mid replays can) bad

pub bad_within : (format : Format) (payload : List ℕ) (s : ServerState) (offset : ℕ) → IsFirstBad format payload s offset → offset ≤ length payload
bad_within format payload s offset bad = omega (arith, bad.offset_is, ap (λ (l : List ℕ). length l) bad.spelled, length-append (group_spelling format bad.front) bad.rest)

-- the groups go on after the payload
pub goes_up : (payloads : List (List ℕ)) (groups groups' : Cursor) (read : List ℕ) → IsRead groups read → Lists groups payloads
    → ((payload : List ℕ) (rest : List (List ℕ)) → Lists groups (payload ∷ rest) → groups' ≡ record { bytes = groups.bytes; start = groups.start; at = groups.at + (5 + length payload) })
    → groups.at + (5 + length read) ≤ area_bytes → (groups.at < groups'.at) × (groups'.at ≤ area_bytes)
goes_up [] groups groups' read is lists behind low = absurd (is.some lists)
goes_up (payload ∷ rest) groups groups' read is lists behind low =
    let at : groups'.at ≡ groups.at + (5 + length payload) = ap (λ (g : Cursor). g.at) (behind payload rest lists) in
    let same : length read ≡ length payload = ap (λ (l : List ℕ). length l) (is.first payload rest lists) in
    (omega (arith, at), omega (arith, at, same, low))

-- ---- all of them

allowed : (format : Format) (bytes : List ℕ) (area at : ℕ) (payloads : List (List ℕ)) → StandFrom format bytes area at payloads → AllByRecursion (λ payload. IsPayloadLength format (length payload)) payloads
allowed format bytes area at [] stand = tt
allowed format bytes area at (payload ∷ payloads) stand = (stand.0.fits.allowed, allowed format bytes area (at + (5 + length payload)) payloads stand.1)

group_size : (format : Format) (n : ℕ) → IsPayloadLength format n → IsGroupSize format n
group_size One n h = record { whole = h.whole; least = omega (arith, h.whole, h.some); most = omega (arith, h.within) }
group_size Two n h = record { whole = h.whole; least = omega (arith, h.whole, h.some); most = omega (arith, h.within) }

record IsSpelled (format : Format) (payloads : List (List ℕ)) (old new : ServerState) : Type 0 where
  groups : List (List Entry)
  are : AreGroups format groups payloads
  legal : IsHistory old groups
  state_is : new ≡ after_groups old groups

spelled : (format : Format) (payloads : List (List ℕ)) (old new : ServerState) → AllByRecursion (λ payload. IsPayloadLength format (length payload)) payloads → ReplaysAll format payloads old new → IsSpelled format payloads old new
spelled format [] old new fit h = record { groups = []; are = tt; legal = tt; state_is = h }
spelled format (payload ∷ payloads) old new fit h =
    let first = replayed_group format payload old h.0 h.1 (group_size format (length payload) fit.0) in
    let rest = spelled format payloads h.0 new fit.1 h.2 in
    record {
      groups = first.entries ∷ rest.groups;
      are = (first.group, rest.are);
      legal = (let l = first.group.least in omega arith, first.legal, subst (λ (z : ServerState). IsHistory z rest.groups) first.state_is rest.legal);
      state_is = rest.state_is ∙ ap (λ (z : ServerState). after_groups z rest.groups) first.state_is;
    }

-- what was recovered of contents is what they stand for
pub recovered_stands : (c : Contents) (image : List ℕ) (s : ServerState) → Holds c image → IsRecovered c.format c.generation c.image c.groups s → Stands c s
recovered_stands c image s holds h =
    let is = spelled c.format c.groups h.base s (allowed c.format image _ _ c.groups holds.groups_are.stand) h.replays in
    record {
      base = h.base;
      groups = is.groups;
      fits = h.is_base.fits;
      image_is = h.is_base.image_is;
      numbered = h.is_base.numbered;
      groups_are = is.are;
      legal = is.legal;
      state_is = is.state_is;
    }
