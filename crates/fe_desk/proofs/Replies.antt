-- What is written stays frames of replies with one more.
use Rattle.std.proofs.Common.{◌≡◌, ℕ, List, [], ◌∷◌, ◌++◌, Result, Ok, Err, sym, ap, subst, ◌∙◌}
use Rattle.std.specs.Prelude.{OnOk, OnErr}
use Rattle.std.specs.List.{flat_map, AllByRecursion}
use Rattle.std.proofs.lemmas.Grind.{flat_map-append}
use Rattle.std.proofs.lemmas.List.{append-nil}
use Rattle.fe_wire.specs.Spelling.{reply_spelling, ReplyFits}
use Rattle.fe_wire.specs.declared.server_message.ServerMessage.{ServerMessage}
use Rattle.fe_desk.specs.Messages.{AreReplies}

all_append : (xs ys : List ServerMessage) → AllByRecursion ReplyFits xs → AllByRecursion ReplyFits ys → AllByRecursion ReplyFits (xs ++ ys)
all_append [] ys f g = g
all_append (x ∷ xs) ys f g = (f.0, all_append xs ys f.1 g)

replies_more : (bytes more : List ℕ) (r : ServerMessage) → AreReplies bytes → ReplyFits r → more ≡ bytes ++ reply_spelling r → AreReplies more
replies_more bytes more r a fits is = record {
  replies = a.replies ++ r ∷ [];
  fits = all_append a.replies (r ∷ []) a.fits (fits, tt);
  spelled = is ∙ ap (λ (t : List ℕ). t ++ reply_spelling r) a.spelled ∙ ap (λ (t : List ℕ). flat_map reply_spelling a.replies ++ t) (sym (append-nil (reply_spelling r))) ∙ sym (flat_map-append reply_spelling a.replies (r ∷ []));
}

-- whether the reply was put or not
pub replies_put : {A E : Type 0} (result : Result A E) (bytes more : List ℕ) (r : ServerMessage) → AreReplies bytes → ReplyFits r
    → OnOk result (more ≡ bytes ++ reply_spelling r) → OnErr result (more ≡ bytes) → AreReplies more
replies_put (Ok x) bytes more r a fits ok err = replies_more bytes more r a fits ok
replies_put (Err e) bytes more r a fits ok err = subst AreReplies (sym err) a
