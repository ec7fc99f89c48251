-- The books as text: a line for the calls and one for the mails (`docs/model.md`, "Mails, connections and
-- books").
use Rattle.std.specs.Prelude.{ℕ, List, ◌++◌, codes}
use Rattle.std.specs.Fmt.{decimal}
use Rattle.fe_mail.specs.Books.{Books}

-- how many calls there were, how many completed, and how many wait
abbrev pub made_text : Books → List ℕ
made_text b = codes "calls " ++ (decimal b.calls
    ++ (codes " completed " ++ (decimal b.completed ++ (codes " waiting " ++ decimal b.waiting))))

-- how many calls ended with no answer of their own
abbrev pub unmade_text : Books → List ℕ
unmade_text b =
    codes " withdrawn " ++ (decimal b.withdrawn
    ++ (codes " repeated " ++ (decimal b.repeated
    ++ (codes " refused " ++ (decimal b.refused ++ codes "\n")))))

-- what became of the calls
abbrev pub calls_line : Books → List ℕ
calls_line b = made_text b ++ unmade_text b

-- what became of the mails
abbrev pub mails_line : Books → List ℕ
mails_line b =
    codes "mails " ++ (decimal b.mails ++ (codes " taken "
    ++ (decimal b.taken ++ (codes " dropped "
    ++ (decimal b.dropped ++ (codes " left " ++ (decimal b.left ++ codes "\n")))))))

-- both lines
abbrev pub books_text : Books → List ℕ
books_text b = calls_line b ++ mails_line b
