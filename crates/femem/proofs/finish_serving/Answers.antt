use Rattle.std.proofs.Common.{◌≡◌, ◌⊎◌, ℕ, List, take, Option, Result, Ok, refl}
use Rattle.std.specs.Io.KnownBytes.{Appends}
use Rattle.fe_memory.specs.Memory.{out_of_memory}
use Rattle.fe_mail.specs.Books.{Books}
use Rattle.fe_server.specs.BooksText.{books_text}
use Rattle.fe_server.specs.declared.failed.Failed.{Failed}
use Rattle.fe_server.specs.declared.served.Served.{Served}
use Rattle.fe_text.specs.declared.fault.StreamFault.{StreamFault}
use Rattle.fe_text.specs.declared.fault.StreamFault.TheVariants as stream
use Rattle.femem.specs.declared.fault.Fault.{Fault}
use Rattle.femem.specs.within.Faults.{ServeResult, WritesBooksOf, IsFaultOf, of_stream}
use Rattle.femem.proofs.finish_serving.Goals as goal

-- the books that were written are those of the server
writes : {D : Type 0} (ended : ServeResult D) (inner : Result (Served D) (Failed D)) (served : Served D) (books : Books) (before after : Option (List ℕ))
    → ended ≡ Ok inner → inner ≡ Ok served → books ≡ served.audit.books → Appends before after (books_text books) → WritesBooksOf ended before after
writes ended inner served books before after outer there same written =
    record { served = served; is_served = rw outer (rw there refl); written = rw same at written }

-- the books that were not written to their end are those of the server
breaks_off : {D : Type 0} (has_failed : StreamFault → Type 0) (before after : Option (List ℕ)) (ended : ServeResult D) (inner : Result (Served D) (Failed D))
    (served : Served D) (books : Books) (why : StreamFault) (end : Fault)
    → ended ≡ Ok inner → inner ≡ Ok served → books ≡ served.audit.books → (why ≡ stream.Memory out_of_memory) ⊎ has_failed why → end ≡ of_stream why
    → (count : ℕ) × Appends before after (take count (books_text books)) → IsFaultOf has_failed before after ended end
breaks_off has_failed before after ended inner served books why end outer there same is_why is_end front =
    rw outer (rw there (record { why = why; is_why = is_why; is_end = is_end; count = front.0; front = rw same at front.1 }))

pub returns-in-Ok-clause-books : goal.returns-in-Ok-clause-books
returns-in-Ok-clause-books g c =
    writes _ _ _ c.books-books.result _ _ c.in-Ok-Ok.is c.in-Ok-Ok.field-0-is c.books-books.ensures.books c.in-Ok.ensures.ok

pub returns-in-Err-show_books-clause-fault : goal.returns-in-Err-show_books-clause-fault
returns-in-Err-show_books-clause-fault g c =
    breaks_off _ _ _ _ _ _ c.books-books.result c.in-Err-show_books.fault _ c.in-Ok-Ok.is c.in-Ok-Ok.field-0-is c.books-books.ensures.books
    c.in-Err-show_books.ensures.fails c.from.ensures c.show_books.ensures.front
