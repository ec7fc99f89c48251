-- Entries that are answered as the operation table says.
use Rattle.std.proofs.Common.{◌≡◌, inr, ℕ, ◌+◌, Bool, true, List, [], ◌∷◌, ◌++◌, length, refl, sym, subst, ◌∙◌, arith, append_assoc}
use Rattle.std.specs.List.{flat_map}
use Rattle.std.specs.Prelude.{Contains}
use Rattle.std.proofs.lemmas.List.{length-append}
use Rattle.std.proofs.lemmas.List.Elements.{Contains-append_right}
use Rattle.fe_state.specs.State.{ServerState, IsAnswered, directory_of, after}
use Rattle.fe_state.specs.declared.entry.Entry.{Entry}
use Rattle.fe_state.specs.declared.entry.Entry.TheVariants.{Attached, Closed, Settled, Finished}
use Rattle.fe_service.specs.Service.{WaitingAccesses, AreTurns, without_turn}
use Rattle.fe_mail.specs.Connections.{session_of, mail_of}
use Rattle.fe_messages.specs.Answers.{AreAnswered}
use Rattle.fe_messages.proofs.Answers.{finished_at}
use Rattle.fe_messages.proofs.Boxes.{AllPosted}
use Rattle.fe_desk.specs.Acknowledged.{StandsOn}

-- those that serve what waits are
pub turns_answered : (s : ServerState) (waiting : WaitingAccesses) (es : List Entry) → AreTurns s waiting es → AreAnswered s es
turns_answered s waiting [] turns = tt
turns_answered s waiting (e ∷ es) turns =
    (subst (λ (x : Entry). IsAnswered (directory_of s) x) (sym turns.0.entry) turns.0.answered, turns_answered (after s e) (without_turn waiting e) es turns.1)

-- an entry between others
among : (all front behind : List Entry) (e : Entry) → all ≡ front ++ e ∷ behind → Contains all e
among all front behind e is = subst (λ (es : List Entry). Contains es e) (sym is) (Contains-append_right front (e ∷ behind) e (0, omega arith, refl))

-- the mails of entries of the groups, which are in them after others
pub posts_stand : (begun : ServerState) (asked : ℕ → ℕ → Bool) (groups : List (List Entry)) (front es rest : List Entry) (place : ℕ) → AreAnswered begun (flat_map (λ (g : List Entry). g) groups)
    → flat_map (λ (g : List Entry). g) groups ≡ front ++ (es ++ rest) → place ≡ begun.place + length front → AllPosted (λ conn session. asked conn session ≡ true) (λ conn. StandsOn begun groups (asked conn)) es place
posts_stand begun asked groups front [] rest place all is at = tt
posts_stand begun asked groups front (e ∷ es) rest place all is at = (
  λ conn may. of (asked conn) e may is,
  posts_stand begun asked groups (front ++ e ∷ []) es rest (place + 1) all (is ∙ sym (append_assoc front (e ∷ []) (es ++ rest))) (let many = length-append front (e ∷ []) in omega (arith, at, many)),
)
  where
    of : (mine : ℕ → Bool) (e : Entry) → mine (session_of e) ≡ true → flat_map (λ (g : List Entry). g) groups ≡ front ++ (e ∷ (es ++ rest)) → StandsOn begun groups mine (mail_of e place)
    of mine (Attached session floor) may is = (may, among (flat_map (λ (g : List Entry). g) groups) front (es ++ rest) (Attached session floor) is)
    of mine (Closed session) may is = (may, among (flat_map (λ (g : List Entry). g) groups) front (es ++ rest) (Closed session) is)
    of mine (Settled session floor) may is = (session, may, among (flat_map (λ (g : List Entry). g) groups) front (es ++ rest) (Settled session floor) is)
    of mine (Finished session number request answer) may is =
        (may, inr (finished_at begun (flat_map (λ (g : List Entry). g) groups) front (es ++ rest) session number request answer place all is at))
