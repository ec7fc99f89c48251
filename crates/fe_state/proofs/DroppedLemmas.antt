-- What was dropped and is kept again is as it was.
use Rattle.std.proofs.Common.{◌≡◌, ℕ, zero, suc, ◌+◌, ◌-◌, ◌*◌, ◌≤◌, ◌<◌, inl, inr, List, [], ◌∷◌, ◌++◌, length, take, drop, reverse, slice_index_or, Option, Some, None, refl, sym, ap, ◌∙◌, arith}
use Rattle.std.specs.Prelude.{sum_by}
use Rattle.std.specs.Option.{option_map}
use Rattle.std.specs.Ordering.{nat_cmp}
use Rattle.std.specs.Cmp.{nat_cmp_total}
use Rattle.std.specs.FinMap.{FinMap, empty, get, insert, remove, same_map, nat_cmp-IsAntisymmetric}
use Rattle.std.proofs.Math.Nat.{min-le_left}
use Rattle.std.proofs.Math.Seq.{take-append_seam, drop-append_seam}
use Rattle.std.proofs.lemmas.Bool.{cases_lt}
use Rattle.std.proofs.lemmas.List.{reverse-append, reverse-reverse, append_assoc, length-append, length-reverse, length-drop, append-nil, drop_all, take-append-drop, get_or_append_left}
use Rattle.std.proofs.lemmas.List.Sums.{sum_by-cons}
use Rattle.fe_state.specs.declared.change.Change.{Change}
use Rattle.fe_state.specs.declared.dropped.Dropped.{Dropped}
use Rattle.fe_state.specs.declared.kept.Kept.{Kept}
use Rattle.fe_state.specs.declared.undo.Undo.{Undo}
use Rattle.fe_state.specs.declared.undo.SessionChange.{SessionChange}
use Rattle.fe_state.specs.declared.undo.SessionChange.TheVariants as change
use Rattle.fe_state.specs.DroppedAnswers.{answer_at, keeping_all, kept_again, WereDropped}
use Rattle.fe_state.specs.Sessions.{Session, IsInWindow, first_session, put_session}
use Rattle.fe_state.specs.UndoLog.{with_room, answers_of, log_of, put_back, shortened, without_latest, HasDropped, HasMemory, UndoLog}
use Rattle.fe_state.proofs.Maps.{get_inserted, get_beside, get_removed, get_left, same_or_other}
use Rattle.fe_state.proofs.Undone.{insert-remove, insert-insert}
use Rattle.fe_table.proofs.TableLemmas.{remove_absent}

-- nothing is dropped yet
pub none_dropped : (floor end : ℕ) (m : FinMap nat_cmp Kept) (old : List Dropped) → floor ≡ end → WereDropped floor end m m old old
none_dropped floor end m old is = record { answers = []; added = sym (append-nil old); few = omega arith; again = refl; in_window = λ k d lt. absurd (omega arith) }

in_window-cons : (floor : ℕ) (x : Dropped) (ds : List Dropped) → IsInWindow floor x.number → ((k : ℕ) (d : Dropped) → k < length ds → IsInWindow floor (slice_index_or ds k d).number)
    → (k : ℕ) (d : Dropped) → k < suc (length ds) → IsInWindow floor (slice_index_or (x ∷ ds) k d).number
in_window-cons floor x ds here rest zero d lt = here
in_window-cons floor x ds here rest (suc k) d lt = rest k d (omega arith)

-- one number more
pub one_dropped : (floor n : ℕ) (before after : FinMap nat_cmp Kept) (old mid new : List Dropped) → n < floor + 32 → floor ≤ n
    → new ≡ mid ++ answer_at n (get after n) → WereDropped floor n before after old mid → WereDropped floor (n + 1) before (remove after n) old new
one_dropped floor n before after old mid new near low is h = by (get after n) refl is
  where
    by : (here : Option Kept) → get after n ≡ here → new ≡ mid ++ answer_at n here → WereDropped floor (n + 1) before (remove after n) old new
    by None e is = record {
      answers = h.answers;
      added = is ∙ append-nil mid ∙ h.added;
      few = omega (arith, h.few);
      again = ap (λ (m : FinMap nat_cmp Kept). keeping_all m h.answers) (sym (remove_absent after n e)) ∙ h.again;
      in_window = h.in_window;
    }
    by (Some k) e is =
        let d : Dropped = record { number = n; kept = k } in
        record {
          answers = d ∷ h.answers;
          added = is ∙ ap (λ ds. ds ++ d ∷ []) h.added ∙ append_assoc old (reverse h.answers) (d ∷ []) ∙ ap (λ ds. old ++ ds) (sym (reverse-append (d ∷ []) h.answers));
          few = omega (arith, h.few);
          again = ap (λ (m : FinMap nat_cmp Kept). keeping_all m h.answers) (insert-remove after n k e) ∙ h.again;
          in_window = in_window-cons floor d h.answers (record { not_below = low; not_beyond = near }) h.in_window;
        }

-- an entry has room for 32 answers
pub paired_few : (us : List Undo) → sum_by with_room us ≤ length us * 32
paired_few [] = omega arith
paired_few (u ∷ us) = omega (arith, paired_few us, min-le_left 32 (answers_of u.session_change), sum_by-cons with_room u us)

-- so a log with room for an entry has room for its answers
pub answers_room : (l : UndoLog) (undos dropped : ℕ) → HasMemory l undos dropped → length l.undos < l.room → length l.dropped + 32 ≤ dropped
answers_room l undos dropped h more = omega (arith, h.paired, h.dropped_room, paired_few l.undos)

-- how many were dropped
pub dropped_length : (floor end : ℕ) (before after : FinMap nat_cmp Kept) (old new : List Dropped) (h : WereDropped floor end before after old new) → length new ≡ length old + length h.answers
dropped_length floor end before after old new h = ap length h.added ∙ length-append old (reverse h.answers) ∙ ap (λ n. length old + n) (length-reverse h.answers)

-- with the latest first, what was dropped is at the head
pub dropped_first : (floor end : ℕ) (before after : FinMap nat_cmp Kept) (old new : List Dropped) (h : WereDropped floor end before after old new) → reverse new ≡ h.answers ++ reverse old
dropped_first floor end before after old new h = ap reverse h.added ∙ reverse-append old (reverse h.answers) ∙ ap (λ ds. ds ++ reverse old) (reverse-reverse h.answers)

-- what a log has of an entry that drops answers
pub has_dropped : (session : ℕ) (made : ℕ → SessionChange) (change : Change) (room : ℕ) (undos undos_then : List Undo) (old new : List Dropped) (before after : Session) (end n : ℕ)
    → (h : WereDropped before.floor end before.kept after.kept old new) → n + length old ≡ length new
    → undos_then ≡ undos ++ (let u : Undo = record { session = session; session_change = made n; change = change } in u) ∷ []
    → HasDropped session made change (log_of room undos old) (log_of room undos_then new) before after
has_dropped session made change room undos undos_then old new before after end n h count is =
    let first = dropped_first before.floor end before.kept after.kept old new h in
    let many : n ≡ length h.answers = omega (arith, dropped_length before.floor end before.kept after.kept old new h) in
    record {
      answers = h.answers;
      undos = ap reverse is ∙ reverse-append undos _ ∙ ap (λ k. (let u : Undo = record { session = session; session_change = made k; change = change } in u) ∷ reverse undos) many;
      dropped = first;
      room = refl;
      again = h.again;
      in_window = record {
        there = omega (arith, ap length first, length-append h.answers (reverse old));
        in_window = λ k d lt. rw (first, get_or_append_left h.answers (reverse old) d k lt) (h.in_window k d lt);
      };
    }

-- without the latest of what was dropped
pub reverse-take : (ds : List Dropped) (n : ℕ) → reverse (take (length ds - n) ds) ≡ drop n (reverse ds)
reverse-take ds n = elim (cases_lt (length ds) n) [
  | inl beyond ↦ let none : length ds - n ≡ 0 = omega arith in rw none (sym (drop_all n (reverse ds) (omega (arith, length-reverse ds))))
  | inr within ↦ by (length ds - n) (omega arith)
]
  where
    by : (k : ℕ) → k + n ≡ length ds → reverse (take k ds) ≡ drop n (reverse ds)
    by k is =
        let halves : reverse ds ≡ reverse (drop k ds) ++ reverse (take k ds) = ap reverse (sym (take-append-drop k ds)) ∙ reverse-append (take k ds) (drop k ds) in
        let long : n ≡ length (reverse (drop k ds)) = omega (arith, length-reverse (drop k ds), length-drop k ds) in
        sym (ap (drop n) halves ∙ ap (λ j. drop j (reverse (drop k ds) ++ reverse (take k ds))) long ∙ drop-append_seam (reverse (drop k ds)) (reverse (take k ds)))

-- one more answer is kept
pub keeping_all-append : (m : FinMap nat_cmp Kept) (ds : List Dropped) (d : Dropped) → keeping_all m (ds ++ d ∷ []) ≡ insert (keeping_all m ds) d.number d.kept
keeping_all-append m [] d = refl
keeping_all-append m (e ∷ ds) d = keeping_all-append (insert m e.number e.kept) ds d

-- what was kept is kept again
kept_as_before : (x y : Session) (answers rest dropped : List Dropped) → dropped ≡ answers ++ rest → keeping_all y.kept answers ≡ x.kept → kept_again y x.floor (length answers) dropped ≡ x
kept_as_before x y answers rest dropped is again =
    let all : keeping_all y.kept (take (length answers) dropped) ≡ x.kept = rw (is, take-append_seam answers rest) again in
    λ i. record { floor = x.floor; kept = all i }

-- a session that was settled is as it was
pub put_back-settled : (m : FinMap nat_cmp Session) (s : ℕ) (x y : Session) (answers rest dropped : List Dropped) → get m s ≡ Some x → dropped ≡ answers ++ rest → keeping_all y.kept answers ≡ x.kept
    → put_back (change.Settled x.floor (length answers)) dropped (insert m s y) s ≡ m
put_back-settled m s x y answers rest dropped there is again =
    ap (λ here. put_session (insert m s y) s (option_map (λ z. kept_again z x.floor (length answers) dropped) here)) (get_inserted m s y)
    ∙ ap (insert (insert m s y) s) (kept_as_before x y answers rest dropped is again)
    ∙ insert-insert m s x y there

-- a session that was closed is there as it was
pub put_back-closed : (m : FinMap nat_cmp Session) (s : ℕ) (x y : Session) (answers rest dropped : List Dropped) → get m s ≡ Some x → dropped ≡ answers ++ rest → y.kept ≡ empty → keeping_all y.kept answers ≡ x.kept
    → put_back (change.Closed x.floor (length answers)) dropped (remove m s) s ≡ m
put_back-closed m s x y answers rest dropped there is none again =
    ap (insert (remove m s) s) (kept_as_before x first_session answers rest dropped is (ap (λ (k : FinMap nat_cmp Kept). keeping_all k answers) (sym none) ∙ again))
    ∙ insert-remove m s x there

-- what was changed before it was removed is gone all the same
pub remove-changed : {X : Type 0} (m : FinMap nat_cmp X) (k : ℕ) (v : X) → remove (insert m k v) k ≡ remove m k
remove-changed m k v = same_map nat_cmp_total nat_cmp-IsAntisymmetric _ _ (λ q.
    elim (same_or_other q k) [
      | inl e ↦ rw (e, get_removed (insert m k v) k) (sym (get_removed m k))
      | inr ne ↦ get_left (insert m k v) k q ne ∙ get_beside m k v q ne ∙ sym (get_left m k q ne)
    ])

-- what is left of a log once its latest entry is taken out
pub log_shortened : (l : UndoLog) (room : ℕ) (undos undos_left : List Undo) (ds ds_left : List Dropped) (u : Undo) (n : ℕ) → log_of room undos ds ≡ l → undos ≡ undos_left ++ u ∷ []
    → n ≡ length ds - answers_of u.session_change → ds_left ≡ take n ds → log_of room undos_left ds_left ≡ shortened l
log_shortened l room undos undos_left ds ds_left u n view last count cut =
    let few : ds_left ≡ take (length ds - answers_of u.session_change) ds = cut ∙ ap (λ (k : ℕ). take k ds) count in
    ap (λ (d : List Dropped). let k : UndoLog = record { room = room; undos = reverse undos_left; dropped = d } in k) (ap reverse few ∙ reverse-take ds (answers_of u.session_change))
    ∙ sym (ap (without_latest (log_of room undos ds)) (ap reverse last ∙ reverse-append undos_left (u ∷ [])))
    ∙ ap shortened view
