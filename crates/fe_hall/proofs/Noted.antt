-- The history notes the groups that a committing side stored.
use Rattle.std.proofs.Common.{◌≡◌, inl, inr, ℕ, List, [], ◌∷◌, ◌++◌, map, Option, Some, None, refl, sym, ap, subst, ◌∙◌, append_assoc}
use Rattle.std.proofs.lemmas.List.{append-nil, map-append}
use mathlib.Core.List.{IsPrefix}
use Rattle.fe_state.specs.declared.batch.Batch.{Batch}
use Rattle.fe_history.specs.declared.act.Act.{Act}
use Rattle.fe_hall.specs.declared.commit_end.CommitEnd.{CommitEnd}
use Rattle.fe_hall.specs.declared.commit_end.CommitEnd.TheVariants.{Strange}
use Rattle.fe_history.specs.Acts.{stores_in}
use Rattle.fe_hall.specs.Commits.{Append, AppendsAreNoted, AreNotesOf, note_of}
use Rattle.fe_history.proofs.Acts.{prefix_self, prefix_trans}
use Rattle.fe_disk.specs.declared.disk.Disk.{Ghosts}

module _ {D : Type 0} (model : Ghosts D) where
  -- nothing was stored
  pub none_noted : (appends : List (Append D)) (end : Option CommitEnd) (acts : List Act) → appends ≡ [] → AppendsAreNoted model appends end acts acts
  none_noted appends end acts none = (prefix_self acts, [], sym (append-nil (stores_in acts)), inl (ap (λ (s : List (Append D)). map (note_of model) s) (sym none)))

  -- a group was stored and noted
  pub one_noted : (append : Append D) (end : Option CommitEnd) (a b : List Act) → IsPrefix a b → stores_in b ≡ stores_in a ++ note_of model append ∷ [] → AppendsAreNoted model (append ∷ []) end a b
  one_noted append end a b p is = (p, note_of model append ∷ [], is, inl refl)

  -- a group was stored and not noted, which is strange
  pub one_unnoted : (append : Append D) (a b : List Act) → b ≡ a → AppendsAreNoted model (append ∷ []) (Some Strange) a b
  one_unnoted append a b same =
      (subst (λ (h : List Act). IsPrefix a h) (sym same) (prefix_self a), [], ap stores_in same ∙ sym (append-nil (stores_in a)), inr (refl, note_of model append, refl))

  -- notes after notes
  both_notes : (first second : List (Append D)) (end : Option CommitEnd) (n m : List (Batch × ℕ)) → AreNotesOf model first None n → AreNotesOf model second end m → AreNotesOf model (first ++ second) end (n ++ m)
  both_notes first second end n m (inr strange) two = absurd (cc (strange.0))
  both_notes first second end n m (inl one) (inl two) =
      inl (ap (λ (s : List (Batch × ℕ)). s ++ m) one ∙ ap (λ (s : List (Batch × ℕ)). map (note_of model) first ++ s) two ∙ sym (map-append (note_of model) first second))
  both_notes first second end n m (inl one) (inr (strange, last, two)) =
      inr (
        strange,
        last,
        append_assoc n m (last ∷ []) ∙ ap (λ (s : List (Batch × ℕ)). s ++ (m ++ last ∷ [])) one ∙ ap (λ (s : List (Batch × ℕ)). map (note_of model) first ++ s) two
            ∙ sym (map-append (note_of model) first second),
      )

  -- one after the other
  pub both_noted : (first second : List (Append D)) (end : Option CommitEnd) (a b c : List Act) → AppendsAreNoted model first None a b → AppendsAreNoted model second end b c → AppendsAreNoted model (first ++ second) end a c
  both_noted first second end a b c (p, n, one, are) (q, m, two, also) = (
    prefix_trans a b c p q,
    n ++ m,
    two ∙ ap (λ (s : List (Batch × ℕ)). s ++ m) one ∙ append_assoc (stores_in a) n m,
    both_notes first second end n m are also,
  )
