-- The books: how many calls and mails there were, and what became of each. A call is a client's request, a
-- mail a message from the server to a connection, which waits in the connection's box until it is taken. See
-- `docs/model.md`, "Mails, connections and books".
use Rattle.std.specs.Prelude.{◌≡◌, ℕ, ◌+◌, ◌-◌, ◌≤◌, Bool, true, false, refl, min, nat_lt, if◌then◌else◌}
use Rattle.std.specs.Coded.{Coded, code_by, coded×, coded_ℕ, coded_bool}
use Rattle.fe_mail.specs.Limits.{most_booked}

-- The calls and how many completed, wait, were withdrawn, repeated and refused; the mails and how many were
-- taken, dropped and are left. Spent books never change.
pub record Books : Type 0 where
  pub calls : ℕ
  pub completed : ℕ
  pub waiting : ℕ
  pub withdrawn : ℕ
  pub repeated : ℕ
  pub refused : ℕ
  pub mails : ℕ
  pub taken : ℕ
  pub dropped : ℕ
  pub left : ℕ
  pub spent : Bool

-- for proofs, books are coded as the tuple of their columns
abbrev pub books_code : Coded Books
books_code =
    code_by (ℕ × (ℕ × (ℕ × (ℕ × (ℕ × (ℕ × (ℕ × (ℕ × (ℕ × (ℕ × Bool))))))))))
    (coded× coded_ℕ (coded× coded_ℕ (coded× coded_ℕ
    (coded× coded_ℕ (coded× coded_ℕ (coded× coded_ℕ
    (coded× coded_ℕ (coded× coded_ℕ (coded× coded_ℕ (coded× coded_ℕ coded_bool))))))))))
    (λ b. (
      b.calls,
      (
        b.completed,
        (
          b.waiting,
          (b.withdrawn, (b.repeated, (b.refused, (b.mails, (b.taken, (b.dropped, (b.left, b.spent))))))),
        ),
      ),
    ))
    (λ p. record {
      calls = p.0;
      completed = p.1.0;
      waiting = p.1.1.0;
      withdrawn = p.1.1.1.0;
      repeated = p.1.1.1.1.0;
      refused = p.1.1.1.1.1.0;
      mails = p.1.1.1.1.1.1.0;
      taken = p.1.1.1.1.1.1.1.0;
      dropped = p.1.1.1.1.1.1.1.1.0;
      left =
          p.1.1.1.1.1.1.1.1.1.0;
      spent = p.1.1.1.1.1.1.1.1.1.1;
    }) (λ _. refl)

-- the invariant of books, spent or not: each call is in exactly one column, and so is each mail
pub record AddUp (b : Books) : Type 0 where
  pub calls : b.calls ≡ b.completed + b.waiting + b.withdrawn + b.repeated + b.refused
  pub mails : b.mails ≡ b.taken + b.dropped + b.left
  pub few_calls : b.calls ≤ most_booked
  pub few_mails : b.mails ≤ most_booked

-- the books balance: they are spent, or say that this many calls wait and this many mails are in boxes; and
-- their columns add up
pub record Balances (b : Books) (waiting left : ℕ) : Type 0 where
  pub columns : AddUp b
  pub waiting_is : b.spent ≡ false → b.waiting ≡ waiting
  pub left_is : b.spent ≡ false → b.left ≡ left

-- books with no calls and no mails
abbrev pub first_books : Books
first_books =
    record {
      calls = 0;
      completed = 0;
      waiting = 0;
      withdrawn = 0;
      repeated = 0;
      refused = 0;
      mails = 0;
      taken = 0;
      dropped = 0;
      left = 0;
      spent = false;
    }

-- the books after a call or a mail: `counted` if `count`, the number of its kind so far, is below
-- `most_booked`, and spent otherwise; spent books never change
abbrev pub counting : Books → ℕ → Books → Books
counting b count counted =
    if b.spent then b else if nat_lt count most_booked then counted else record b { spent = true }

-- the books after calls or mails moved from one column to another; spent books never change
abbrev pub moving : Books → Books → Books
moving b moved = if b.spent then b else moved

-- the books changed in this way, and as many calls wait and as many mails are in boxes as before
pub record IsCounted (change : Books → Books) (old new : Books) : Type 0 where
  pub books : new ≡ change old
  pub balance : (waiting left : ℕ) → Balances old waiting left → Balances new waiting left

-- a call that completed is counted
abbrev pub call_completed : Books → Books
call_completed b = counting b b.calls (record b { calls = b.calls + 1; completed = b.completed + 1 })

-- a call that waits is counted
abbrev pub call_waits : Books → Books
call_waits b = counting b b.calls (record b { calls = b.calls + 1; waiting = b.waiting + 1 })

-- a call that repeats an earlier one is counted
abbrev pub call_repeated : Books → Books
call_repeated b = counting b b.calls (record b { calls = b.calls + 1; repeated = b.repeated + 1 })

-- a call that was refused is counted
abbrev pub call_refused : Books → Books
call_refused b = counting b b.calls (record b { calls = b.calls + 1; refused = b.refused + 1 })

-- a waiting call, if there is one, moves to the completed ones
abbrev pub waiter_completed : Books → Books
waiter_completed b =
    let k = min 1 b.waiting in moving b (record b { waiting = b.waiting - k; completed = b.completed + k })

-- this many waiting calls, or all if there are fewer, move to the withdrawn ones
abbrev pub waiters_withdrawn : ℕ → Books → Books
waiters_withdrawn n b =
    let k = min n b.waiting in moving b (record b { waiting = b.waiting - k; withdrawn = b.withdrawn + k })

-- a mail that is in a box is counted
abbrev pub mail_boxed : Books → Books
mail_boxed b = counting b b.mails (record b { mails = b.mails + 1; left = b.left + 1 })

-- a mail that was dropped because its box was full is counted
abbrev pub mail_refused_by_box : Books → Books
mail_refused_by_box b = counting b b.mails (record b { mails = b.mails + 1; dropped = b.dropped + 1 })

-- a mail that is in a box, if there is one, moves to the taken ones
abbrev pub mail_taken : Books → Books
mail_taken b =
    let k = min 1 b.left in moving b (record b { left = b.left - k; taken = b.taken + k })

-- this many mails that are in boxes, or all if there are fewer, move to the dropped ones
abbrev pub box_dropped : ℕ → Books → Books
box_dropped n b =
    let k = min n b.left in moving b (record b { left = b.left - k; dropped = b.dropped + k })
