-- An entry with no effect leaves the directory as it is.
use Rattle.std.proofs.Common.{◌≡◌, ℕ, List, Option, Some, None, refl, sym, ap}
use Rattle.std.specs.FinMap.{get}
use Rattle.fe_words.specs.declared.word.Word.{Word}
use Rattle.fe_words.specs.declared.word.Reply.{Reply}
use Rattle.fe_words.specs.declared.word.Tag.{Tag}
use Rattle.fe_state.specs.Directory.{Directory, creation}
use Rattle.fe_state.specs.Effect.{created, creating, effect_of, operated, performed, removing, writing}
use Rattle.fe_state.specs.State.{directory_after, effect_in}
use Rattle.fe_state.specs.declared.answer.Answer.{Answer}
use Rattle.fe_state.specs.declared.answer.Answer.TheVariants as answer
use Rattle.fe_state.specs.declared.array.Array.{Array}
use Rattle.fe_state.specs.declared.effect.Effect.TheVariants.{Nothing}
use Rattle.fe_state.specs.declared.entry.Entry.{Entry}
use Rattle.fe_state.specs.declared.entry.Entry.TheVariants.{Attached, Closed, Settled, Finished}
use Rattle.fe_state.specs.declared.request.Request.{Request}
use Rattle.fe_state.specs.declared.request.Request.TheVariants.{Create, Find, Remove, Access}
use Rattle.fe_table.proofs.TableLemmas.{remove_absent}

refused : (d : Directory) (name : List ℕ) (size : ℕ) (tag : Tag) (a : Answer) → creating a ≡ Nothing → created d name size tag a ≡ d
refused d name size tag (answer.Array i n) is = absurd cc
refused d name size tag _ is = refl

absent : (d : Directory) (id : ℕ) (here : Option Array) → get d.arrays id ≡ here → removing id here ≡ Nothing → performed d (Remove id) ≡ d
absent d id None e is = ap (λ m. record { arrays = m; next_id = d.next_id }) (sym (remove_absent d.arrays id e))
absent d id (Some a) e is = absurd cc

unwritten : (d : Directory) (id index : ℕ) (after : Option (Word × Reply)) → writing id index after ≡ Nothing → operated d.arrays id index after ≡ d.arrays
unwritten d id index None is = refl
unwritten d id index (Some x) is = absurd cc

same_after : (d : Directory) (request : Request) → effect_of d request ≡ Nothing → performed d request ≡ d
same_after d (Create name size tag) is = refused d name size tag (creation d name size) is
same_after d (Find name) is = refl
same_after d (Remove id) is = absent d id (get d.arrays id) refl is
same_after d (Access id index op no_wait) is = ap (λ m. record { arrays = m; next_id = d.next_id }) (unwritten d id index _ is)

pub nothing_changes : (d : Directory) (e : Entry) → effect_in d e ≡ Nothing → directory_after d e ≡ d
nothing_changes d (Attached session floor) is = refl
nothing_changes d (Closed session) is = refl
nothing_changes d (Settled session floor) is = refl
nothing_changes d (Finished session number request a) is = same_after d request is
