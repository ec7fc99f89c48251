-- Accesses leave the lengths of all arrays.
use Rattle.std.proofs.Common.{◌≡◌, ℕ, inl, inr, Option, Some, None, List, [], ◌∷◌, refl, sym, ap, subst, ◌∙◌, length-set}
use Rattle.std.specs.Ordering.{nat_cmp}
use Rattle.std.specs.FinMap.{FinMap, get, insert}
use Rattle.fe_words.specs.declared.word.Word.{Word}
use Rattle.fe_words.specs.declared.word.Reply.{Reply}
use Rattle.fe_state.proofs.Maps.{get_inserted, get_beside, same_or_other}
use Rattle.fe_state.specs.Directory.{words_in}
use Rattle.fe_state.specs.Effect.{operated, put_word, with_word}
use Rattle.fe_state.specs.State.{ServerState, after, after_all}
use Rattle.fe_state.specs.declared.array.Array.{Array}
use Rattle.fe_state.specs.declared.entry.Entry.{Entry}
use Rattle.fe_service.specs.Service.{WaitingAccesses, IsTurn, AreTurns, without_turn}

put_lengths : (m : FinMap nat_cmp Array) (id index : ℕ) (w : Word) (here : Option Array) → get m id ≡ here → (a : ℕ) → words_in (get (put_word m id index w here) a) ≡ words_in (get m a)
put_lengths m id index w None is a = refl
put_lengths m id index w (Some x) is a =
    elim (same_or_other a id) as (λ _. words_in (get (insert m id (with_word x index w)) a) ≡ words_in (get m a)) [
      | inl same ↦
          ap (λ k. words_in (get (insert m id (with_word x index w)) k)) same
          ∙ ap words_in (get_inserted m id (with_word x index w))
          ∙ ap Some (length-set x.words index w)
          ∙ sym (ap words_in is)
          ∙ ap (λ k. words_in (get m k)) (sym same)
      | inr other ↦ ap words_in (get_beside m id (with_word x index w) a other)
    ]

-- an operation, whatever the table says of it
pub operated_lengths : (m : FinMap nat_cmp Array) (id index : ℕ) (after : Option (Word × Reply)) (a : ℕ) → words_in (get (operated m id index after) a) ≡ words_in (get m a)
operated_lengths m id index None a = refl
operated_lengths m id index (Some after) a = put_lengths m id index after.0 (get m id) refl a

pub turn_lengths : (s : ServerState) (waiting : WaitingAccesses) (e : Entry) → IsTurn s waiting e → (a : ℕ) → words_in (get (after s e).arrays a) ≡ words_in (get s.arrays a)
turn_lengths s waiting e t a =
    subst (λ (e : Entry). words_in (get (after s e).arrays a) ≡ words_in (get s.arrays a)) (sym t.entry) (operated_lengths s.arrays t.waiter.array t.waiter.index _ a)

pub turns_lengths : (s : ServerState) (waiting : WaitingAccesses) (es : List Entry) → AreTurns s waiting es → (a : ℕ) → words_in (get (after_all s es).arrays a) ≡ words_in (get s.arrays a)
turns_lengths s waiting [] turns a = refl
turns_lengths s waiting (e ∷ es) turns a = turns_lengths (after s e) (without_turn waiting e) es turns.1 a ∙ turn_lengths s waiting e turns.0 a
