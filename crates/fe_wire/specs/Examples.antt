-- Worked frames, byte by byte: those of `docs/formats.md`, "Frames", and one of each other kind. Computed by
-- the checker.
use Rattle.std.specs.Prelude.{◌≡◌, [], ◌∷◌, ◌++◌, true, false, codes}
use Rattle.fe_words.specs.declared.word.Tag.TheVariants.{Full, Empty}
use Rattle.fe_words.specs.declared.op.Op.TheVariants.{ReadFe, ReadXx, WriteEf}
use Rattle.fe_state.specs.declared.answer.Answer.TheVariants as answer
use Rattle.fe_state.specs.declared.request.Request.TheVariants.{Create, Find, Remove, Access}
use Rattle.fe_wire.specs.declared.client_message.ClientMessage.TheVariants.{Attach, Call, Cancel, Settle, Bye}
use Rattle.fe_wire.specs.declared.client_message.ClientMessage.TheVariants.{Report}
use Rattle.fe_wire.specs.declared.server_message.ServerMessage.TheVariants as server
use Rattle.fe_wire.specs.Spelling.{spelling, reply_spelling}

-- a client's frame of each kind
pub record ExampleMessages : Type 0 where
  pub attach : spelling (Attach 7) ≡
      0 ∷ 0 ∷ 0 ∷ 9 ∷ 1 ∷ 0 ∷ 0 ∷ 0 ∷ 0 ∷ 0 ∷ 0 ∷ 0 ∷ 7 ∷ []
  pub create : spelling (Call 1 (Create (codes "cells") 2 Empty)) ≡
      0 ∷ 0 ∷ 0 ∷ 31 ∷ 2 ∷ 0 ∷ 0 ∷ 0 ∷ 0 ∷ 0 ∷ 0 ∷ 0 ∷ 1 ∷ 5 ∷ 99 ∷ 101 ∷ 108 ∷ 108 ∷ 115 ∷ 0 ∷ 0 ∷ 0 ∷ 0 ∷
      0 ∷ 0 ∷ 0 ∷ 0 ∷ 0 ∷ 0 ∷ 0 ∷ 0 ∷ 0 ∷ 0 ∷ 2 ∷ 0 ∷ []
  pub writeef : spelling (Call 2 (Access 1 0 (WriteEf 42) false)) ≡
      0 ∷ 0 ∷ 0 ∷ 30 ∷ 5 ∷ 0 ∷ 0 ∷ 0 ∷ 0 ∷ 0 ∷ 0 ∷ 0 ∷ 2 ∷ 19 ∷ 0 ∷ 0 ∷ 0 ∷ 0 ∷ 0 ∷ 0 ∷ 0 ∷ 1 ∷ 0 ∷ 0 ∷ 0 ∷
      0 ∷ 0 ∷ 0 ∷ 0 ∷ 0 ∷ 0 ∷ 0 ∷ 0 ∷ 42 ∷ []
  pub readfe : spelling (Call 3 (Access 1 0 ReadFe false)) ≡
      0 ∷ 0 ∷ 0 ∷ 30 ∷ 5 ∷ 0 ∷ 0 ∷ 0 ∷ 0 ∷ 0 ∷ 0 ∷ 0 ∷ 3 ∷ 16 ∷ 0 ∷ 0 ∷ 0 ∷ 0 ∷ 0 ∷ 0 ∷ 0 ∷ 1 ∷ 0 ∷ 0 ∷ 0 ∷
      0 ∷ 0 ∷ 0 ∷ 0 ∷ 0 ∷ 0 ∷ 0 ∷ 0 ∷ 0 ∷ []
  pub readxx : spelling (Call 4 (Access 1 0 ReadXx false)) ≡
      0 ∷ 0 ∷ 0 ∷ 30 ∷ 5 ∷ 0 ∷ 0 ∷ 0 ∷ 0 ∷ 0 ∷ 0 ∷ 0 ∷ 4 ∷ 18 ∷ 0 ∷ 0 ∷ 0 ∷ 0 ∷ 0 ∷ 0 ∷ 0 ∷ 1 ∷ 0 ∷ 0 ∷ 0 ∷
      0 ∷ 0 ∷ 0 ∷ 0 ∷ 0 ∷ 0 ∷ 0 ∷ 0 ∷ 0 ∷ []
  pub find : spelling (Call 6 (Find (codes "cells"))) ≡
      0 ∷ 0 ∷ 0 ∷ 26 ∷ 3 ∷ 0 ∷ 0 ∷ 0 ∷ 0 ∷ 0 ∷ 0 ∷ 0 ∷ 6 ∷ 5 ∷ 99 ∷ 101 ∷ 108 ∷ 108 ∷ 115 ∷ 0 ∷ 0 ∷ 0 ∷ 0 ∷
      0 ∷ 0 ∷ 0 ∷ 0 ∷ 0 ∷ 0 ∷ 0 ∷ []
  pub remove : spelling (Call 8 (Remove 1)) ≡
      0 ∷ 0 ∷ 0 ∷ 17 ∷ 4 ∷ 0 ∷ 0 ∷ 0 ∷ 0 ∷ 0 ∷ 0 ∷ 0 ∷ 8 ∷ 0 ∷ 0 ∷ 0 ∷ 0 ∷ 0 ∷ 0 ∷ 0 ∷ 1 ∷ []
  pub cancel : spelling (Cancel 7) ≡
      0 ∷ 0 ∷ 0 ∷ 9 ∷ 6 ∷ 0 ∷ 0 ∷ 0 ∷ 0 ∷ 0 ∷ 0 ∷ 0 ∷ 7 ∷ []
  pub settle : spelling (Settle 5) ≡
      0 ∷ 0 ∷ 0 ∷ 9 ∷ 7 ∷ 0 ∷ 0 ∷ 0 ∷ 0 ∷ 0 ∷ 0 ∷ 0 ∷ 5 ∷ []
  pub bye : spelling (Bye) ≡
      0 ∷ 0 ∷ 0 ∷ 1 ∷ 8 ∷ []
  pub report : spelling (Report) ≡
      0 ∷ 0 ∷ 0 ∷ 1 ∷ 9 ∷ []
  pub no_wait : spelling (Call 5 (Access 1 0 ReadFe true)) ≡
      0 ∷ 0 ∷ 0 ∷ 30 ∷ 11 ∷ 0 ∷ 0 ∷ 0 ∷ 0 ∷ 0 ∷ 0 ∷ 0 ∷ 5 ∷ 16 ∷ 0 ∷ 0 ∷ 0 ∷ 0 ∷ 0 ∷ 0 ∷ 0 ∷ 1 ∷ 0 ∷ 0 ∷ 0 ∷
      0 ∷ 0 ∷ 0 ∷ 0 ∷ 0 ∷ 0 ∷ 0 ∷ 0 ∷ 0 ∷ []
  pub long_create : spelling (Call 9 (Create (codes "seventeen_letters") 1 Full)) ≡
      0 ∷ 0 ∷ 0 ∷ 47 ∷ 12 ∷ 0 ∷ 0 ∷ 0 ∷ 0 ∷ 0 ∷ 0 ∷ 0 ∷ 9 ∷ 17 ∷ 115 ∷ 101 ∷ 118 ∷ 101 ∷ 110 ∷ 116 ∷ 101 ∷
      101 ∷ 110 ∷ 95 ∷ 108 ∷ 101 ∷ 116 ∷ 116 ∷ 101 ∷ 114 ∷ 115 ∷ 0 ∷ 0 ∷ 0 ∷ 0 ∷ 0 ∷ 0 ∷ 0 ∷ 0 ∷ 0 ∷ 0 ∷ 0 ∷
      0 ∷ 0 ∷ 0 ∷ 0 ∷ 0 ∷ 0 ∷ 0 ∷ 1 ∷ 1 ∷ []
  pub long_find : spelling (Call 10 (Find (codes "seventeen_letters"))) ≡
      0 ∷ 0 ∷ 0 ∷ 42 ∷ 13 ∷ 0 ∷ 0 ∷ 0 ∷ 0 ∷ 0 ∷ 0 ∷ 0 ∷ 10 ∷ 17 ∷ 115 ∷ 101 ∷ 118 ∷ 101 ∷ 110 ∷ 116 ∷ 101 ∷
      101 ∷ 110 ∷ 95 ∷ 108 ∷ 101 ∷ 116 ∷ 116 ∷ 101 ∷ 114 ∷ 115 ∷ 0 ∷ 0 ∷ 0 ∷ 0 ∷ 0 ∷ 0 ∷ 0 ∷ 0 ∷ 0 ∷ 0 ∷ 0 ∷
      0 ∷ 0 ∷ 0 ∷ 0 ∷ []

-- a server's frame of each kind, with answers that carry a value, an array and nothing
pub record ExampleReplies : Type 0 where
  pub welcome : reply_spelling (server.Welcome 7 1) ≡
      0 ∷ 0 ∷ 0 ∷ 17 ∷ 65 ∷ 0 ∷ 0 ∷ 0 ∷ 0 ∷ 0 ∷ 0 ∷ 0 ∷ 7 ∷ 0 ∷ 0 ∷ 0 ∷ 0 ∷ 0 ∷ 0 ∷ 0 ∷ 1 ∷ []
  pub array : reply_spelling (server.Answer 1 (answer.Array 1 2)) ≡
      0 ∷ 0 ∷ 0 ∷ 22 ∷ 66 ∷ 0 ∷ 0 ∷ 0 ∷ 0 ∷ 0 ∷ 0 ∷ 0 ∷ 1 ∷ 3 ∷ 0 ∷ 0 ∷ 0 ∷ 0 ∷ 0 ∷ 0 ∷ 0 ∷ 1 ∷ 0 ∷ 0 ∷ 0 ∷
      2 ∷ []
  pub done : reply_spelling (server.Answer 2 answer.Done) ≡
      0 ∷ 0 ∷ 0 ∷ 22 ∷ 66 ∷ 0 ∷ 0 ∷ 0 ∷ 0 ∷ 0 ∷ 0 ∷ 0 ∷ 2 ∷ 2 ∷ 0 ∷ 0 ∷ 0 ∷ 0 ∷ 0 ∷ 0 ∷ 0 ∷ 0 ∷ 0 ∷ 0 ∷ 0 ∷
      0 ∷ []
  pub value : reply_spelling (server.Answer 3 (answer.Value 42)) ≡
      0 ∷ 0 ∷ 0 ∷ 22 ∷ 66 ∷ 0 ∷ 0 ∷ 0 ∷ 0 ∷ 0 ∷ 0 ∷ 0 ∷ 3 ∷ 1 ∷ 0 ∷ 0 ∷ 0 ∷ 0 ∷ 0 ∷ 0 ∷ 0 ∷ 42 ∷ 0 ∷ 0 ∷ 0 ∷
      0 ∷ []
  pub value_again : reply_spelling (server.Answer 4 (answer.Value 42)) ≡
      0 ∷ 0 ∷ 0 ∷ 22 ∷ 66 ∷ 0 ∷ 0 ∷ 0 ∷ 0 ∷ 0 ∷ 0 ∷ 0 ∷ 4 ∷ 1 ∷ 0 ∷ 0 ∷ 0 ∷ 0 ∷ 0 ∷ 0 ∷ 0 ∷ 42 ∷ 0 ∷ 0 ∷ 0 ∷
      0 ∷ []
  pub not_now : reply_spelling (server.Answer 5 answer.NotNow) ≡
      0 ∷ 0 ∷ 0 ∷ 22 ∷ 66 ∷ 0 ∷ 0 ∷ 0 ∷ 0 ∷ 0 ∷ 0 ∷ 0 ∷ 5 ∷ 11 ∷ 0 ∷ 0 ∷ 0 ∷ 0 ∷ 0 ∷ 0 ∷ 0 ∷ 0 ∷ 0 ∷ 0 ∷ 0 ∷
      0 ∷ []
  pub withdrawn : reply_spelling (server.Withdrawn 7) ≡
      0 ∷ 0 ∷ 0 ∷ 9 ∷ 67 ∷ 0 ∷ 0 ∷ 0 ∷ 0 ∷ 0 ∷ 0 ∷ 0 ∷ 7 ∷ []
  pub refused : reply_spelling (server.Refused 5 10) ≡
      0 ∷ 0 ∷ 0 ∷ 10 ∷ 70 ∷ 0 ∷ 0 ∷ 0 ∷ 0 ∷ 0 ∷ 0 ∷ 0 ∷ 5 ∷ 10 ∷ []
  pub settled : reply_spelling (server.Settled 5) ≡
      0 ∷ 0 ∷ 0 ∷ 9 ∷ 68 ∷ 0 ∷ 0 ∷ 0 ∷ 0 ∷ 0 ∷ 0 ∷ 0 ∷ 5 ∷ []
  pub goodbye : reply_spelling (server.Goodbye 7) ≡
      0 ∷ 0 ∷ 0 ∷ 9 ∷ 69 ∷ 0 ∷ 0 ∷ 0 ∷ 0 ∷ 0 ∷ 0 ∷ 0 ∷ 7 ∷ []
  pub report : reply_spelling (server.Report (codes "waiting 0" ++ 10 ∷ [])) ≡
      0 ∷ 0 ∷ 0 ∷ 11 ∷ 71 ∷ 119 ∷ 97 ∷ 105 ∷ 116 ∷ 105 ∷ 110 ∷ 103 ∷ 32 ∷ 48 ∷ 10 ∷ []
