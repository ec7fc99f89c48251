-- What opening makes of a slot.
use Rattle.std.proofs.Common.{◌≡◌, inl, inr, ℕ, ◌+◌, ◌≤◌, List, [], ◌∷◌, length, ap, subst, refl, arith}
use Rattle.fe_state.specs.State.{ServerState}
use Rattle.fe_state.specs.declared.entry.Entry.{Entry}
use Rattle.fe_codec.specs.Record.{group_spelling}
use Rattle.fe_format.specs.declared.format.Format.{Format}
use Rattle.fe_format.specs.declared.format.Format.TheVariants.{One, Two}
use Rattle.fe_journal.specs.Contents.{end_of_groups, Cursor, Lists}
use Rattle.fe_journal.specs.Journal.{JournalState}
use Rattle.fe_replica.specs.Replaying.{Replays}
use Rattle.fe_replica.proofs.Following.{place_after}
use Rattle.fe_keeper.specs.Stands.{greatest_generation}
use Rattle.fe_keeper.specs.within.Upholds.{IsNumbered}
use Rattle.fe_keeper.specs.Opened.{ReplaysAll, IsRecovered}

-- ---- places

place_rises : (format : Format) (payload : List ℕ) (old new : ServerState) → Replays format payload old new → old.place ≤ new.place
place_rises format payload old new h = omega (arith, ap (λ (s : ServerState). s.place) h.state_is, place_after old h.entries)

some_entries : (format : Format) (payload : List ℕ) (entries : List Entry) → 1 ≤ length payload → payload ≡ group_spelling format entries → 1 ≤ length entries
some_entries format payload [] some is = absurd (omega (arith, some, ap (λ (l : List ℕ). length l) is))
some_entries format payload (e ∷ es) some is = omega arith

place_goes_up : (format : Format) (payload : List ℕ) (old new : ServerState) → 1 ≤ length payload → Replays format payload old new → old.place + 1 ≤ new.place
place_goes_up format payload old new some h =
    omega (arith, ap (λ (s : ServerState). s.place) h.state_is, place_after old h.entries, some_entries format payload h.entries some h.spelled)

places_rise : (format : Format) (payloads : List (List ℕ)) (old new : ServerState) → ReplaysAll format payloads old new → old.place ≤ new.place
places_rise format [] old new h = omega (arith, ap (λ (s : ServerState). s.place) h)
places_rise format (payload ∷ payloads) old new h = omega (arith, place_rises format payload old h.0 h.1, places_rise format payloads h.0 new h.2)

-- where there is a group, the place has risen since the image
places_go_up : (format : Format) (groups : Cursor) (payload : List ℕ) (payloads : List (List ℕ)) (old new : ServerState) → Lists groups (payload ∷ payloads) → ReplaysAll format (payload ∷ payloads) old new → old.place + 1 ≤ new.place
places_go_up format groups payload payloads old new lists h =
    omega (arith, place_goes_up format payload old h.0 (lists.1.stand.0.fits.allowed.some) h.1, places_rise format payloads h.0 new h.2)

-- ---- the generation

pub numbered : {D : Type 0} (j : JournalState D) (groups : Cursor) (image : List ℕ) (payloads : List (List ℕ)) (s : ServerState) → Lists groups payloads → j.used ≡ end_of_groups payloads → IsRecovered j.format j.generation image payloads s → IsNumbered s.place j
numbered j groups image payloads s lists used h = by j.format refl payloads lists used h.base h.is_base.numbered h.replays
  where
    by : (format : Format) → j.format ≡ format → (payloads : List (List ℕ)) → Lists groups payloads → j.used ≡ end_of_groups payloads → (base : ServerState) → j.generation ≤ greatest_generation j.format base.place → ReplaysAll j.format payloads base s → IsNumbered s.place j
    by One is payloads lists used base low replays =
        let most : j.generation ≤ base.place + 1 = subst (λ (f : Format). j.generation ≤ greatest_generation f base.place) is low in
        inl (omega (arith, most, places_rise j.format payloads base s replays))
    by Two is [] lists used base low replays =
        let most : j.generation ≤ base.place + 2 = subst (λ (f : Format). j.generation ≤ greatest_generation f base.place) is low in
        inr (omega (arith, most, places_rise j.format [] base s replays), used, is)
    by Two is (payload ∷ payloads) lists used base low replays =
        let most : j.generation ≤ base.place + 2 = subst (λ (f : Format). j.generation ≤ greatest_generation f base.place) is low in
        inl (omega (arith, most, places_go_up j.format groups payload payloads base s lists replays))
