-- Payloads that are gone through record by record.
use Rattle.std.proofs.Common.{◌≡◌, ℕ, ◌+◌, ◌*◌, ◌≤◌, List, [], ◌∷◌, ◌++◌, length, refl, sym, ap, subst, ◌∙◌, append_assoc, arith}
use Rattle.std.proofs.lemmas.Grind.{flat_map-append}
use Rattle.std.proofs.lemmas.List.{append-nil, length-append}
use Rattle.std.proofs.Math.Nat.{add-mul}
use Rattle.fe_state.specs.State.{ServerState, IsLegal, after, after_all}
use Rattle.fe_state.specs.History.{AreLegal}
use Rattle.fe_state.specs.declared.entry.Entry.{Entry}
use Rattle.fe_format.specs.Layout.{record_bytes, group_records}
use Rattle.fe_codec.specs.Record.{entry_spelling, group_spelling, FitsRecord, FitsGroup, IsGroupSize, IsGroupOf}
use Rattle.fe_format.specs.declared.format.Format.{Format}
use Rattle.fe_format.specs.declared.format.Format.TheVariants.{One, Two}
use Rattle.fe_codec.proofs.Elements.{all_push}
use Rattle.fe_codec.proofs.RecordLaws.{one_record_first, length-entry_spelling}
use Rattle.fe_codec.proofs.GroupLaws.{one_group}
use Rattle.fe_replica.specs.Replaying.{Replays, IsFirstBad, NoneFollows, Steps}
use Rattle.fe_replica.proofs.Following.{after_then, legal_then}

-- ---- in the midst of a payload

-- what has been gone through of a payload led to the state, and the rest is left
pub record IsReplaying (format : Format) (payload rest : List ℕ) (old new : ServerState) : Type 0 where
  pub front : List Entry
  pub fits : FitsGroup format front
  pub spelled : payload ≡ group_spelling format front ++ rest
  pub legal : AreLegal old front
  pub state_is : new ≡ after_all old front

-- one record more
pub replay_goes_on : (format : Format) (payload rest behind : List ℕ) (old mid new : ServerState) → IsReplaying format payload rest old mid → Steps format rest mid behind new → IsReplaying format payload behind old new
replay_goes_on format payload rest behind old mid new h step =
    let e : Entry = step.entry in
    let more : group_spelling format (h.front ++ e ∷ []) ≡ group_spelling format h.front ++ entry_spelling format e =
    flat_map-append (entry_spelling format) h.front (e ∷ []) ∙ ap (λ (t : List ℕ). group_spelling format h.front ++ t) (append-nil (entry_spelling format e)) in
    record {
      front = h.front ++ e ∷ [];
      fits = all_push (FitsRecord format) h.front e h.fits step.begins.fits;
      spelled = h.spelled ∙ ap (λ (t : List ℕ). group_spelling format h.front ++ t) step.begins.spelled ∙ sym (append_assoc (group_spelling format h.front) (entry_spelling format e) behind) ∙ ap (λ (t : List ℕ). t ++ behind) (sym more);
      legal = legal_then old h.front e h.legal (subst (λ (t : ServerState). IsLegal t e) h.state_is step.begins.legal);
      state_is = step.state_is ∙ ap (λ (t : ServerState). after t e) h.state_is ∙ sym (after_then old h.front e);
    }

-- ---- what a payload does

-- no entries that are legal are spelled beyond the first bad record
none_beyond : (format : Format) (xs ys : List Entry) (rest : List ℕ) (s : ServerState) → FitsGroup format xs → FitsGroup format ys → AreLegal s ys → group_spelling format ys ≡ group_spelling format xs ++ rest → 1 ≤ length rest
    → NoneFollows format rest (after_all s xs) → ⊥
none_beyond format [] [] rest s x_fits y_fits legal same some none = absurd (omega (arith, ap length same))
none_beyond format [] (y ∷ ys) rest s x_fits y_fits legal same some none = none y (group_spelling format ys) y_fits.0 (sym same) legal.0
none_beyond format (x ∷ xs) [] rest s x_fits y_fits legal same some none = absurd (omega (arith, ap length same, length-append (group_spelling format (x ∷ xs)) rest))
none_beyond format (x ∷ xs) (y ∷ ys) rest s x_fits y_fits legal same some none =
    let first = one_record_first format y x (group_spelling format ys) (group_spelling format xs ++ rest) y_fits.0 x_fits.0 (same ∙ append_assoc (entry_spelling format x) (group_spelling format xs) rest) in
    none_beyond format xs ys rest (after s x) x_fits.1 y_fits.1 (subst (λ (e : Entry). AreLegal (after s e) ys) first.0 legal.1) first.1 some none

-- a payload with a bad record leads to no state
pub bad_is_refused : (format : Format) (payload : List ℕ) (s t : ServerState) (offset : ℕ) → IsFirstBad format payload s offset → Replays format payload s t → ⊥
bad_is_refused format payload s t offset h r = none_beyond format h.front r.entries h.rest s h.fits r.fits r.legal (sym r.spelled ∙ h.spelled) h.some h.bad

-- a payload leads to one state
pub replays_once : (format : Format) (payload : List ℕ) (s t u : ServerState) → Replays format payload s t → Replays format payload s u → t ≡ u
replays_once format payload s t u r q =
    let same : r.entries ≡ q.entries = one_group format r.entries q.entries r.fits q.fits (sym r.spelled ∙ q.spelled) in
    r.state_is ∙ ap (after_all s) same ∙ sym q.state_is

length-group : (format : Format) (entries : List Entry) → FitsGroup format entries → length (group_spelling format entries) ≡ length entries * record_bytes format
length-group format [] fits = omega arith
length-group format (e ∷ es) fits =
    let more : (length es + 1) * record_bytes format ≡ length es * record_bytes format + record_bytes format = add-mul (length es) 1 (record_bytes format) ∙ omega arith in
    omega (arith, length-append (entry_spelling format e) (group_spelling format es), length-entry_spelling format e fits.0, length-group format es fits.1, more)

at_least : (format : Format) (count size : ℕ) → size ≡ count * record_bytes format → IsGroupSize format size → 1 ≤ count
at_least One count size is h = omega (arith, h.least)
at_least Two count size is h = omega (arith, h.least)

at_most : (format : Format) (count size : ℕ) → size ≡ count * record_bytes format → IsGroupSize format size → count ≤ group_records format
at_most One count size is h = omega (arith, h.most)
at_most Two count size is h = omega (arith, h.most)

-- legal entries whose group the payload is, and the state that they lead to
pub record IsLegalGroup (format : Format) (payload : List ℕ) (old new : ServerState) : Type 0 where
  pub entries : List Entry
  pub group : IsGroupOf format entries payload
  pub legal : AreLegal old entries
  pub state_is : new ≡ after_all old entries

-- a payload of a group's length that is gone through is a group of legal entries
pub replayed_group : (format : Format) (payload : List ℕ) (s t : ServerState) → Replays format payload s t → IsGroupSize format (length payload) → IsLegalGroup format payload s t
replayed_group format payload s t r size =
    let long : length payload ≡ length r.entries * record_bytes format = ap length r.spelled ∙ length-group format r.entries r.fits in
    record {
      entries = r.entries;
      group = record { least = at_least format (length r.entries) (length payload) long size; most = at_most format (length r.entries) (length payload) long size; fits = r.fits; spelled = r.spelled };
      legal = r.legal;
      state_is = r.state_is;
    }

-- and a group of legal entries is gone through
pub group_replays : (format : Format) (payload : List ℕ) (s : ServerState) (entries : List Entry) → IsGroupOf format entries payload → AreLegal s entries → Replays format payload s (after_all s entries)
group_replays format payload s entries is legal = record { entries = entries; fits = is.fits; spelled = is.spelled; legal = legal; state_is = refl }
