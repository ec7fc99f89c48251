use Rattle.std.proofs.Common.{◌≡◌, ◌++◌, append_assoc, string_bytes, ℕ, List, Option, codes, refl}
use Rattle.std.specs.Fmt.{decimal}
use Rattle.fe_text.specs.Printed.{name_text, printed}
use Rattle.fe_wire.specs.declared.server_message.ServerMessage.{ServerMessage}
use Rattle.fe_wire.specs.declared.server_message.ServerMessage.TheVariants as server
use Rattle.fe_text.proofs.printing.print_reply.Goals as goal

withdrawn : (conn : Option ℕ) (r : ServerMessage) (n : ℕ) (old named new : List ℕ) → r ≡ server.Withdrawn n → named ≡ old ++ name_text conn → new ≡ named ++ (decimal n ++ codes " withdrawn\n") → new ≡ old ++ printed conn r
unfolding printed
withdrawn conn r n old named new is a e = rw (is, e, a, append_assoc) refl

pub returns-in_ok-write-in-Withdrawn : goal.returns-in_ok-write-in-Withdrawn
returns-in_ok-write-in-Withdrawn c =
    withdrawn c.args.conn c.args.reply.now c.in-Withdrawn.number (string_bytes c.args.text.now) (string_bytes c.print_name-in-Withdrawn.new.text) (string_bytes c.write-in-Withdrawn.new.self) c.in-Withdrawn.is c.in_ok-print_name-in-Withdrawn.ensures
    c.in_ok-write-in-Withdrawn.ensures.bytes
