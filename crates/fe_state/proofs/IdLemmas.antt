-- No entry gives an id that was given before.
use Rattle.std.proofs.Common.{◌≡◌, ℕ, zero, suc, ◌+◌, ◌<◌, ◌≤◌, Bool, true, false, not, cond, Option, Some, None, List, [], ◌∷◌, refl, sym, subst, arith}
use Rattle.std.specs.Prelude.{All, MatchOption, slice_index, ◌&&◌, nat_le, nat_lt, is_some}
use Rattle.std.specs.List.{cons_option}
use Rattle.std.specs.List.Sorted.{IsStrictlyIncreasing}
use Rattle.std.proofs.lemmas.List.Elements.{All-cons}
use Rattle.std.specs.FinMap.{len}
use Rattle.fe_words.specs.declared.word.Tag.{Tag}
use Rattle.fe_state.specs.Name.{is_plain}
use Rattle.fe_state.specs.Directory.{Directory, named, word_count, creation}
use Rattle.fe_state.specs.Effect.{created, performed}
use Rattle.fe_state.specs.History.{AreLegal, AreNew, id_made, ids_made}
use Rattle.fe_state.specs.State.{ServerState, IsLegal, after, after_all, directory_of}
use Rattle.fe_state.specs.declared.answer.Answer.{Answer}
use Rattle.fe_state.specs.declared.answer.Answer.TheVariants as answer
use Rattle.fe_state.specs.declared.request.Request.{Request}
use Rattle.fe_state.specs.declared.request.Request.TheVariants.{Create, Find, Remove, Access}
use Rattle.fe_state.specs.declared.entry.Entry.{Entry}
use Rattle.fe_state.specs.declared.entry.Entry.TheVariants.{Attached, Closed, Settled, Finished}

-- an entry that makes an array gives it the next id, and takes that id; no entry lowers the next id
abbrev Takes : ℕ → Option ℕ → ℕ → Type 0
Takes next made next' = MatchOption made (next ≤ next') (λ id. (id ≡ next) × (next' ≡ next + 1))

creation_takes : (d : Directory) (name : List ℕ) (size : ℕ) (tag : Tag) (id words : ℕ) → Some (creation d name size) ≡ Some (answer.Array id words)
    → (id ≡ d.next_id) × ((created d name size tag (creation d name size)).next_id ≡ d.next_id + 1)
creation_takes d name size tag id words e =
    by (is_plain name) (nat_le 1 size && nat_le size 65536) (is_some (named d.arrays name)) (nat_le 64 (len d.arrays)) (nat_lt 65536 (word_count d.arrays + size)) e
  where
    by : (plain sized taken full large : Bool)
        → let a = cond (not plain) answer.BadName (cond (not sized) answer.BadLength (cond taken answer.NameTaken (cond full answer.ArrayLimit (cond large answer.WordLimit (answer.Array d.next_id size))))) in
        Some a ≡ Some (answer.Array id words) → (id ≡ d.next_id) × ((created d name size tag a).next_id ≡ d.next_id + 1)
    by false sized taken full large e = cc
    by true false taken full large e = cc
    by true true true full large e = cc
    by true true false true large e = cc
    by true true false false true e = cc
    by true true false false false e = let same : id ≡ d.next_id = cc in (same, refl)

created_no_lower : (d : Directory) (name : List ℕ) (size : ℕ) (tag : Tag) (a : Answer) → d.next_id ≤ (created d name size tag a).next_id
created_no_lower d name size tag (answer.Array id words) = omega arith
created_no_lower d name size tag _ = omega arith

performed_no_lower : (d : Directory) (request : Request) → d.next_id ≤ (performed d request).next_id
performed_no_lower d (Create name size tag) = created_no_lower d name size tag (creation d name size)
performed_no_lower d (Find name) = omega arith
performed_no_lower d (Remove id) = omega arith
performed_no_lower d (Access id index op no_wait) = omega arith

entry_takes : (s : ServerState) (e : Entry) → IsLegal s e → Takes s.next_id (id_made e) (after s e).next_id
entry_takes s (Attached session floor) legal = omega arith
entry_takes s (Closed session) legal = omega arith
entry_takes s (Settled session floor) legal = omega arith
entry_takes s (Finished session number (Create name size tag) (answer.Array id words)) legal = creation_takes (directory_of s) name size tag id words legal.answered
entry_takes s (Finished session number request a) legal = performed_no_lower (directory_of s) request

rise_with : (x : ℕ) (xs : List ℕ) → All (λ y. x < y) xs → IsStrictlyIncreasing xs → IsStrictlyIncreasing (x ∷ xs)
rise_with x xs above rise zero below = above 0 0 (omega arith)
rise_with x xs above rise (suc k) below = let next : suc k + 1 ≡ suc (k + 1) = omega arith in subst (λ n. slice_index xs k < slice_index (x ∷ xs) n) (sym next) (rise k (omega arith))

new_with : (a b c : ServerState) (made : Option ℕ) (ids : List ℕ) → Takes a.next_id made b.next_id → AreNew b ids c → AreNew a (cons_option made ids) c
new_with a b c None ids takes new = record {
  rise = new.rise;
  not_before = λ k d below. omega (arith, new.not_before k d below);
  not_after = new.not_after;
  no_lower = omega (arith, new.no_lower);
}
new_with a b c (Some id) ids takes new = record {
  rise = rise_with id ids (λ k d below. omega (arith, new.not_before k d below)) new.rise;
  not_before = All-cons (λ i. a.next_id ≤ i) id ids (omega arith) (λ k d below. omega (arith, new.not_before k d below));
  not_after = All-cons (λ i. i < c.next_id) id ids (omega (arith, new.no_lower)) new.not_after;
  no_lower = omega (arith, new.no_lower);
}

pub ids_new : (s : ServerState) (es : List Entry) → AreLegal s es → AreNew s (ids_made es) (after_all s es)
ids_new s [] legal = record {
  rise = λ k below. absurd (omega arith);
  not_before = λ k d below. absurd (omega arith);
  not_after = λ k d below. absurd (omega arith);
  no_lower = omega arith;
}
ids_new s (e ∷ es) legal = new_with s (after s e) (after_all (after s e) es) (id_made e) (ids_made es) (entry_takes s e legal.0) (ids_new (after s e) es legal.1)
