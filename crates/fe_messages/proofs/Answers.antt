-- Entries that are answered as the operation table says, and the answers that are kept after them.
use Rattle.std.proofs.Common.{◌≡◌, inl, inr, ℕ, ◌+◌, ◌<◌, List, [], ◌∷◌, ◌++◌, length, Option, Some, None, refl, ap, subst, ◌∙◌, arith, append_assoc}
use Rattle.fe_state.specs.History.{AreLegal}
use Rattle.std.specs.FinMap.{get}
use Rattle.fe_state.specs.Sessions.{Session, kept_in}
use Rattle.fe_state.specs.State.{ServerState, IsWithinLimits, after, after_all}
use Rattle.fe_state.specs.declared.answer.Answer.{Answer}
use Rattle.fe_state.specs.declared.entry.Entry.{Entry}
use Rattle.fe_state.specs.declared.entry.Entry.TheVariants.{Finished}
use Rattle.fe_state.specs.declared.kept.Kept.{Kept}
use Rattle.fe_state.specs.declared.request.Request.{Request}
use Rattle.fe_messages.specs.Answers.{IsFinishedAt, IsAnswerIn, AreAnswered}
use Rattle.fe_messages.proofs.Recorded.{kept_of, kept_after, cut_within}

pub answered-append : (s : ServerState) (xs ys : List Entry) → AreAnswered s xs → AreAnswered (after_all s xs) ys → AreAnswered s (xs ++ ys)
answered-append s [] ys all more = more
answered-append s (x ∷ xs) ys all more = (all.0, answered-append (after s x) xs ys all.1 more)

pub answered-split : (s : ServerState) (xs ys : List Entry) → AreAnswered s (xs ++ ys) → AreAnswered s xs × AreAnswered (after_all s xs) ys
answered-split s [] ys all = (tt, all)
answered-split s (x ∷ xs) ys all = let rest = answered-split (after s x) xs ys all.1 in ((all.0, rest.0), rest.1)

-- legal entries are
pub legal_answered : (s : ServerState) (es : List Entry) → AreLegal s es → AreAnswered s es
legal_answered s [] legal = tt
legal_answered s (e ∷ es) legal = (legal.0.answered, legal_answered (after s e) es legal.1)

-- an entry among them is at its place
pub finished_at : (begun : ServerState) (es before behind : List Entry) (session number : ℕ) (request : Request) (answer : Answer) (place : ℕ) → AreAnswered begun es
    → es ≡ before ++ Finished session number request answer ∷ behind → place ≡ begun.place + length before → IsFinishedAt begun es session number answer place
finished_at begun es before behind session number request answer place all is at = record {
  before = before;
  request = request;
  behind = behind;
  entries = is;
  at = at;
  replied = (answered-split begun before (Finished session number request answer ∷ behind) (subst (λ (xs : List Entry). AreAnswered begun xs) is all)).1.0;
}

-- it still is where more entries come after
pub finished_more : (begun : ServerState) (xs ys : List Entry) (session number : ℕ) (answer : Answer) (place : ℕ) → IsFinishedAt begun xs session number answer place
    → IsFinishedAt begun (xs ++ ys) session number answer place
finished_more begun xs ys session number answer place is = record {
  before = is.before;
  request = is.request;
  behind = is.behind ++ ys;
  entries = ap (λ (zs : List Entry). zs ++ ys) is.entries ∙ append_assoc is.before (Finished session number is.request answer ∷ is.behind) ys;
  at = is.at;
  replied = is.replied;
}

-- what a state within its limits keeps has places before its own
abbrev pub KeepsBelow : ServerState → Type 0
KeepsBelow begun = (session number : ℕ) (k : Kept) → kept_of begun session number ≡ Some k → k.place < begun.place

pub keeps_below : (begun : ServerState) → IsWithinLimits begun → KeepsBelow begun
keeps_below begun limits session number k = by (get begun.sessions session) refl
  where
    by : (o : Option Session) → get begun.sessions session ≡ o → kept_in o number ≡ Some k → k.place < begun.place
    by None is kept = cc
    by (Some x) is kept = ((limits.each session x is).kept number k kept).1

-- An answer that is kept after the entries, at a place before the end of the first of them, is that of one of those, or was kept.
pub kept_stands : (begun : ServerState) (front rest : List Entry) (session number : ℕ) (k : Kept) → AreAnswered begun (front ++ rest)
    → ((k : Kept) → kept_of begun session number ≡ Some k → k.place < begun.place) → kept_of (after_all begun (front ++ rest)) session number ≡ Some k → k.place < begun.place + length front
    → IsAnswerIn begun front session number k.answer k.place
kept_stands begun front rest session number k all limits kept below = elim (kept_after begun (front ++ rest) session number k kept) [
  | inl was ↦ inl (record { request = k.request; kept = was; earlier = limits k was })
  | inr r ↦
      let (behind, is) = cut_within front rest r.before r.behind (Finished session number k.request k.answer) r.entries (omega (arith, r.at, below)) in
      inr (finished_at begun front r.before behind session number k.request k.answer k.place (answered-split begun front rest all).0 is r.at)
]
