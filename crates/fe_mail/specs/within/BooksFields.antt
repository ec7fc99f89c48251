-- The fields of `Books` as callers see them (`docs/model.md`, "Mails, connections and books").
use Rattle.fe_mail.specs.Books.{Books}
use Rattle.fe_mail.specs.declared.books.Books.TheInside.{Inside}

abbrev pub books_of : Inside → Books
books_of b =
    record {
      calls = b.calls;
      completed = b.completed;
      waiting = b.waiting;
      withdrawn = b.withdrawn;
      repeated = b.repeated;
      refused =
          b.refused;
      mails = b.mails;
      taken = b.taken;
      dropped = b.dropped;
      left = b.left;
      spent = b.spent;
    }
