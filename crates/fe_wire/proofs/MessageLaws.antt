-- The two laws of bodies: what is read has this spelling, and each spelling is read.
use Rattle.std.proofs.Common.{◌≡◌, ℕ, ◌+◌, ◌^◌, ◌<◌, ◌≤◌, Bool, true, false, List, [], ◌∷◌, ◌++◌, length, Option, Some, None, refl, sym, ap, subst, ◌∙◌, append_assoc, arith, lit≤, inl, inr}
use Rattle.std.specs.Prelude.{IfSome}
use Rattle.std.specs.Int.{w32, w64, to_be_bytes}
use Rattle.std.proofs.lemmas.Bool.{cases_lt, lt-ltb, le-ltb}
use Rattle.std.proofs.lemmas.Option.{none-some}
use Rattle.std.proofs.lemmas.List.{length-append, append-nil}
use Rattle.fe_words.specs.declared.word.Tag.{Tag}
use Rattle.fe_words.specs.declared.op.Op.{Op}
use Rattle.fe_state.specs.declared.request.Request.TheVariants.{Create, Find, Remove, Access}
use Rattle.fe_wire.specs.declared.version.Version.{Version}
use Rattle.fe_wire.specs.declared.version.Version.TheVariants.{One, Two}
use Rattle.fe_wire.specs.declared.client_message.ClientMessage.{ClientMessage}
use Rattle.fe_wire.specs.declared.client_message.ClientMessage.TheVariants.{Attach, Call, Cancel, Settle, Bye, Report}
use Rattle.fe_codes.specs.Codes.{tag_code, op_code, operand_of}
use Rattle.fe_codes.specs.Reading.{tag_of, op_of, ◌>>=◌, IsBytes}
use Rattle.fe_wire.specs.Spelling.{frame, is_long, name_room, name_field, create_kind, find_kind, access_kind, spelling, Fits, IsIn}
use Rattle.fe_wire.specs.Stream.{first_lengths, length_of_kind, kind_field}
use Rattle.fe_wire.specs.Reading.{next_number, next_byte, next_name, ended, number_of, two_numbers_of, made_of, made_of_two, create_of, find_of, access_of, plain_of, message_of}
use Rattle.fe_codes.proofs.BindingLaws.{bind_some, bind_at}
use Rattle.fe_wire.proofs.FieldLaws.{ended_takes, wide32, wide64, number_takes, number_again, byte_takes, cells_of, length-cells_of, room_le, next_name_takes, next_name_again, number_of_takes, number_of_again, two_numbers, two_numbers_of_takes, two_numbers_of_again}
use Rattle.fe_codes.proofs.CodeLaws.{tag_takes, tag_again, op_takes, op_again, row, some_at}

abbrev pub IsMessageOf : ℕ → List ℕ → ClientMessage → Type 0
IsMessageOf kind body m = Fits m × (spelling m ≡ frame kind body)

-- ---- create

abbrev tagged : ℕ → List ℕ → ℕ → List ℕ → Tag → Option ClientMessage
tagged number name size rest tag = ended rest (Call number (Create name size tag))

abbrev coded : ℕ → List ℕ → ℕ → ℕ × List ℕ → Option ClientMessage
coded number name size code = tag_of code.0 >>= tagged number name size code.1

abbrev sized : ℕ → List ℕ → ℕ × List ℕ → Option ClientMessage
sized number name size = next_byte size.1 >>= coded number name size.0

abbrev named : ℕ → List ℕ × List ℕ → Option ClientMessage
named number name = next_number w32 name.1 >>= sized number name.0

abbrev numbered : Bool → ℕ × List ℕ → Option ClientMessage
numbered long number = next_name long number.1 >>= named number.0

abbrev create_body : ℕ → List ℕ → ℕ → Tag → List ℕ
create_body number name size tag = to_be_bytes w64 number ++ (name_field name ++ (to_be_bytes w32 size ++ tag_code tag ∷ []))

regroup : (a b c d : List ℕ) → a ++ b ++ c ++ d ≡ a ++ (b ++ (c ++ d))
regroup a b c d = simp append_assoc

create_spelling : (number : ℕ) (name : List ℕ) (size : ℕ) (tag : Tag) → spelling (Call number (Create name size tag)) ≡ frame (create_kind (is_long name)) (create_body number name size tag)
create_spelling number name size tag = ap (frame (create_kind (is_long name))) (regroup (to_be_bytes w64 number) (name_field name) (to_be_bytes w32 size) (tag_code tag ∷ []))

create_takes : (long : Bool) (body : List ℕ) (m : ClientMessage) → IsBytes body → create_of long body ≡ Some m → IsMessageOf (create_kind long) body m
unfolding create_of
create_takes long body m fits e =
    let a = bind_some (next_number w64 body) (numbered long) m e in
    let b = bind_some (next_name long a.0.1) (named a.0.0) m a.2 in
    let f = bind_some (next_number w32 b.0.1) (sized a.0.0 b.0.0) m b.2 in
    let g = bind_some (next_byte f.0.1) (coded a.0.0 b.0.0 f.0.0) m f.2 in
    let h = bind_some (tag_of g.0.0) (tagged a.0.0 b.0.0 f.0.0 g.0.1) m g.2 in
    let k = ended_takes g.0.1 (Call a.0.0 (Create b.0.0 f.0.0 h.0)) m h.2 in
    let t0 = number_takes w64 (2 ^ 64) wide64 body a.0.0 a.0.1 fits a.1 in
    let t1 = next_name_takes long a.0.1 b.0.0 b.0.1 t0.0.rest_fits b.1 in
    let t2 = number_takes w32 (2 ^ 32) wide32 b.0.1 f.0.0 f.0.1 t1.0.rest_fits f.1 in
    let t3 = byte_takes f.0.1 g.0.0 g.0.1 t2.0.rest_fits g.1 in
    let t4 = tag_takes g.0.0 h.0 h.1 in
    let last : f.0.1 ≡ tag_code h.0 ∷ [] = t3.parts ∙ ap (λ (r : List ℕ). g.0.0 ∷ r) k.0 ∙ ap (λ (n : ℕ). n ∷ []) (sym t4) in
    let end : b.0.1 ≡ to_be_bytes w32 f.0.0 ++ tag_code h.0 ∷ [] = t2.0.parts ∙ ap (λ (r : List ℕ). to_be_bytes w32 f.0.0 ++ r) last in
    let field : a.0.1 ≡ name_field b.0.0 ++ (to_be_bytes w32 f.0.0 ++ tag_code h.0 ∷ []) = t1.0.parts ∙ ap (λ (r : List ℕ). name_field b.0.0 ++ r) end in
    let whole : body ≡ create_body a.0.0 b.0.0 f.0.0 h.0 = t0.0.parts ∙ ap (λ (r : List ℕ). to_be_bytes w64 a.0.0 ++ r) field in
    let spelled : spelling (Call a.0.0 (Create b.0.0 f.0.0 h.0)) ≡ frame (create_kind long) body = create_spelling a.0.0 b.0.0 f.0.0 h.0 ∙ ap (λ (l : Bool). frame (create_kind l) (create_body a.0.0 b.0.0 f.0.0 h.0)) t1.1 ∙ ap (frame (create_kind long)) (sym whole) in
    subst (IsMessageOf (create_kind long) body) k.1 ((t0.1, t1.2, t2.1), spelled)

create_again : (number : ℕ) (name : List ℕ) (size : ℕ) (tag : Tag) → Fits (Call number (Create name size tag)) → create_of (is_long name) (create_body number name size tag) ≡ Some (Call number (Create name size tag))
unfolding create_of
create_again number name size tag fits =
    let last : List ℕ = tag_code tag ∷ [] in
    let end : List ℕ = to_be_bytes w32 size ++ last in
    bind_at (next_number w64 (to_be_bytes w64 number ++ (name_field name ++ end))) (numbered (is_long name)) (number, name_field name ++ end) (number_again w64 (2 ^ 64) wide64 number (name_field name ++ end) fits.0)
    ∙ bind_at (next_name (is_long name) (name_field name ++ end)) (named number) (name, end) (next_name_again name end fits.1)
    ∙ bind_at (next_number w32 end) (sized number name) (size, last) (number_again w32 (2 ^ 32) wide32 size last fits.2)
    ∙ bind_at (tag_of (tag_code tag)) (tagged number name size []) tag (tag_again tag)

-- ---- find

abbrev found_name : ℕ → List ℕ × List ℕ → Option ClientMessage
found_name number name = ended name.1 (Call number (Find name.0))

abbrev finding : Bool → ℕ × List ℕ → Option ClientMessage
finding long number = next_name long number.1 >>= found_name number.0

abbrev find_body : ℕ → List ℕ → List ℕ
find_body number name = to_be_bytes w64 number ++ name_field name

find_takes : (long : Bool) (body : List ℕ) (m : ClientMessage) → IsBytes body → find_of long body ≡ Some m → IsMessageOf (find_kind long) body m
unfolding find_of
find_takes long body m fits e =
    let a = bind_some (next_number w64 body) (finding long) m e in
    let b = bind_some (next_name long a.0.1) (found_name a.0.0) m a.2 in
    let k = ended_takes b.0.1 (Call a.0.0 (Find b.0.0)) m b.2 in
    let t0 = number_takes w64 (2 ^ 64) wide64 body a.0.0 a.0.1 fits a.1 in
    let t1 = next_name_takes long a.0.1 b.0.0 b.0.1 t0.0.rest_fits b.1 in
    let field : a.0.1 ≡ name_field b.0.0 = t1.0.parts ∙ ap (λ (r : List ℕ). name_field b.0.0 ++ r) k.0 ∙ append-nil (name_field b.0.0) in
    let whole : body ≡ find_body a.0.0 b.0.0 = t0.0.parts ∙ ap (λ (r : List ℕ). to_be_bytes w64 a.0.0 ++ r) field in
    let spelled : spelling (Call a.0.0 (Find b.0.0)) ≡ frame (find_kind long) body = ap (λ (l : Bool). frame (find_kind l) (find_body a.0.0 b.0.0)) t1.1 ∙ ap (frame (find_kind long)) (sym whole) in
    subst (IsMessageOf (find_kind long) body) k.1 ((t0.1, t1.2), spelled)

find_again : (number : ℕ) (name : List ℕ) → Fits (Call number (Find name)) → find_of (is_long name) (find_body number name) ≡ Some (Call number (Find name))
unfolding find_of
find_again number name fits =
    bind_at (next_number w64 (find_body number name)) (finding (is_long name)) (number, name_field name) (number_again w64 (2 ^ 64) wide64 number (name_field name) fits.0)
    ∙ ap (λ (t : List ℕ). next_name (is_long name) t >>= found_name number) (sym (append-nil (name_field name)))
    ∙ bind_at (next_name (is_long name) (name_field name ++ [])) (found_name number) (name, []) (next_name_again name [] fits.1)

-- ---- access

abbrev operated : Bool → ℕ → ℕ → ℕ → List ℕ → Op → Option ClientMessage
operated no_wait number array index rest op = ended rest (Call number (Access array index op no_wait))

abbrev with_operand : Bool → ℕ → ℕ → ℕ → ℕ → ℕ × List ℕ → Option ClientMessage
with_operand no_wait number code array index operand = op_of code operand.0 >>= operated no_wait number array index operand.1

abbrev indexed : Bool → ℕ → ℕ → ℕ → ℕ × List ℕ → Option ClientMessage
indexed no_wait number code array index = next_number w64 index.1 >>= with_operand no_wait number code array index.0

abbrev placed : Bool → ℕ → ℕ → ℕ × List ℕ → Option ClientMessage
placed no_wait number code array = next_number w32 array.1 >>= indexed no_wait number code array.0

abbrev asked : Bool → ℕ → ℕ × List ℕ → Option ClientMessage
asked no_wait number code = next_number w64 code.1 >>= placed no_wait number code.0

abbrev called : Bool → ℕ × List ℕ → Option ClientMessage
called no_wait number = next_byte number.1 >>= asked no_wait number.0

abbrev access_body : ℕ → ℕ → ℕ → Op → List ℕ
access_body number array index op = to_be_bytes w64 number ++ op_code op ∷ (to_be_bytes w64 array ++ (to_be_bytes w32 index ++ to_be_bytes w64 (operand_of op)))

access_takes : (no_wait : Bool) (body : List ℕ) (m : ClientMessage) → IsBytes body → access_of no_wait body ≡ Some m → IsMessageOf (access_kind no_wait) body m
unfolding access_of
access_takes no_wait body m fits e =
    let a = bind_some (next_number w64 body) (called no_wait) m e in
    let b = bind_some (next_byte a.0.1) (asked no_wait a.0.0) m a.2 in
    let c = bind_some (next_number w64 b.0.1) (placed no_wait a.0.0 b.0.0) m b.2 in
    let d = bind_some (next_number w32 c.0.1) (indexed no_wait a.0.0 b.0.0 c.0.0) m c.2 in
    let f = bind_some (next_number w64 d.0.1) (with_operand no_wait a.0.0 b.0.0 c.0.0 d.0.0) m d.2 in
    let g = bind_some (op_of b.0.0 f.0.0) (operated no_wait a.0.0 c.0.0 d.0.0 f.0.1) m f.2 in
    let k = ended_takes f.0.1 (Call a.0.0 (Access c.0.0 d.0.0 g.0 no_wait)) m g.2 in
    let t0 = number_takes w64 (2 ^ 64) wide64 body a.0.0 a.0.1 fits a.1 in
    let t1 = byte_takes a.0.1 b.0.0 b.0.1 t0.0.rest_fits b.1 in
    let t2 = number_takes w64 (2 ^ 64) wide64 b.0.1 c.0.0 c.0.1 t1.rest_fits c.1 in
    let t3 = number_takes w32 (2 ^ 32) wide32 c.0.1 d.0.0 d.0.1 t2.0.rest_fits d.1 in
    let t4 = number_takes w64 (2 ^ 64) wide64 d.0.1 f.0.0 f.0.1 t3.0.rest_fits f.1 in
    let t5 = op_takes b.0.0 f.0.0 g.0 g.1 in
    let last : d.0.1 ≡ to_be_bytes w64 (operand_of g.0) = t4.0.parts ∙ ap (λ (r : List ℕ). to_be_bytes w64 f.0.0 ++ r) k.0 ∙ ap (to_be_bytes w64) (sym t5.1) in
    let end : c.0.1 ≡ to_be_bytes w32 d.0.0 ++ to_be_bytes w64 (operand_of g.0) = t3.0.parts ∙ ap (λ (r : List ℕ). to_be_bytes w32 d.0.0 ++ r) last in
    let middle : b.0.1 ≡ to_be_bytes w64 c.0.0 ++ (to_be_bytes w32 d.0.0 ++ to_be_bytes w64 (operand_of g.0)) = t2.0.parts ∙ ap (λ (r : List ℕ). to_be_bytes w64 c.0.0 ++ r) end in
    let field : a.0.1 ≡ op_code g.0 ∷ (to_be_bytes w64 c.0.0 ++ (to_be_bytes w32 d.0.0 ++ to_be_bytes w64 (operand_of g.0))) = t1.parts ∙ ap (λ (r : List ℕ). b.0.0 ∷ r) middle ∙ ap (λ (n : ℕ). n ∷ (to_be_bytes w64 c.0.0 ++ (to_be_bytes w32 d.0.0 ++ to_be_bytes w64 (operand_of g.0)))) (sym t5.0) in
    let whole : body ≡ access_body a.0.0 c.0.0 d.0.0 g.0 = t0.0.parts ∙ ap (λ (r : List ℕ). to_be_bytes w64 a.0.0 ++ r) field in
    let operand : operand_of g.0 < 2 ^ 64 = omega (arith, t5.1, t4.1) in
    subst (IsMessageOf (access_kind no_wait) body) k.1 ((t0.1, t2.1, t3.1, operand), ap (frame (access_kind no_wait)) (sym whole))

access_again : (number array index : ℕ) (op : Op) (no_wait : Bool) → Fits (Call number (Access array index op no_wait)) → access_of no_wait (access_body number array index op) ≡ Some (Call number (Access array index op no_wait))
unfolding access_of
access_again number array index op no_wait fits =
    let last : List ℕ = to_be_bytes w64 (operand_of op) in
    let end : List ℕ = to_be_bytes w32 index ++ last in
    let middle : List ℕ = to_be_bytes w64 array ++ end in
    bind_at (next_number w64 (to_be_bytes w64 number ++ op_code op ∷ middle)) (called no_wait) (number, op_code op ∷ middle) (number_again w64 (2 ^ 64) wide64 number (op_code op ∷ middle) fits.0)
    ∙ bind_at (next_number w64 middle) (placed no_wait number (op_code op)) (array, end) (number_again w64 (2 ^ 64) wide64 array end fits.1)
    ∙ bind_at (next_number w32 end) (indexed no_wait number (op_code op) array) (index, last) (number_again w32 (2 ^ 32) wide32 index last fits.2)
    ∙ bind_at (next_number w64 last) (with_operand no_wait number (op_code op) array index) (operand_of op, []) (number_again w64 (2 ^ 64) wide64 (operand_of op) [] fits.3)
    ∙ bind_at (op_of (op_code op) (operand_of op)) (operated no_wait number array index []) op (op_again op)

-- ---- bodies of numbers

made_takes : (kind : ℕ) (make : ℕ → ClientMessage) → ((n : ℕ) → n < 2 ^ 64 → Fits (make n)) → ((n : ℕ) → spelling (make n) ≡ frame kind (to_be_bytes w64 n)) → (body : List ℕ) (m : ClientMessage) → IsBytes body → made_of make body ≡ Some m → IsMessageOf kind body m
made_takes kind make fitting spelled body m fits e =
    let a = bind_some (number_of body) (λ n. Some (make n)) m e in
    let t = number_of_takes body a.0 fits a.1 in
    let same : make a.0 ≡ m = cc (a.2) in
    subst (IsMessageOf kind body) same (fitting a.0 t.1, spelled a.0 ∙ ap (frame kind) (sym t.0))

remove_takes : (body : List ℕ) (m : ClientMessage) → IsBytes body → made_of_two (λ number array. Call number (Remove array)) body ≡ Some m → IsMessageOf 4 body m
remove_takes body m fits e =
    let a = bind_some (two_numbers_of body) (λ n. Some (Call n.0 (Remove n.1))) m e in
    let t = two_numbers_of_takes body a.0.0 a.0.1 fits a.1 in
    let same : Call a.0.0 (Remove a.0.1) ≡ m = cc (a.2) in
    subst (IsMessageOf 4 body) same ((t.1, t.2), ap (frame 4) (sym t.0))

bare_takes : (kind : ℕ) (x m : ClientMessage) (body : List ℕ) → Fits x → spelling x ≡ frame kind [] → ended body x ≡ Some m → IsMessageOf kind body m
bare_takes kind x m body fits spelled e =
    let k = ended_takes body x m e in
    subst (IsMessageOf kind body) k.1 (fits, spelled ∙ ap (frame kind) (sym k.0))

-- ---- any kind

if_each : (P : ClientMessage → Type 0) (o : Option ClientMessage) → ((x : ClientMessage) → o ≡ Some x → P x) → IfSome o P
if_each P (Some x) h = h x refl
if_each P None h = tt

-- a row of the table of kinds
given : (kind k : ℕ) (body : List ℕ) (o : Option ClientMessage) → ((x : ClientMessage) → o ≡ Some x → IsMessageOf k body x) → kind ≡ k → IfSome o (IsMessageOf kind body)
given kind k body o h same = if_each (IsMessageOf kind body) o (λ x is. subst (λ (n : ℕ). IsMessageOf n body x) (sym same) (h x is))

plain_row : (kind : ℕ) (body : List ℕ) → IsBytes body → IfSome (plain_of kind body) (IsMessageOf kind body)
unfolding plain_of
plain_row kind body fits =
    let P : ClientMessage → Type 0 = IsMessageOf kind body in
    row P kind 1 _ _ (given kind 1 body (made_of (λ session. Attach session) body) (λ x is. made_takes 1 (λ session. Attach session) (λ n lt. lt) (λ n. refl) body x fits is))
    (row P kind 4 _ _ (given kind 4 body (made_of_two (λ number array. Call number (Remove array)) body) (λ x is. remove_takes body x fits is))
    (row P kind 6 _ _ (given kind 6 body (made_of (λ number. Cancel number) body) (λ x is. made_takes 6 (λ number. Cancel number) (λ n lt. lt) (λ n. refl) body x fits is))
    (row P kind 7 _ _ (given kind 7 body (made_of (λ floor. Settle floor) body) (λ x is. made_takes 7 (λ floor. Settle floor) (λ n lt. lt) (λ n. refl) body x fits is))
    (row P kind 8 _ _ (given kind 8 body (ended body Bye) (λ x is. bare_takes 8 Bye x body tt refl is))
    (row P kind 9 _ _ (given kind 9 body (ended body Report) (λ x is. bare_takes 9 Report x body tt refl is)) tt)))))

message_row : (kind : ℕ) (body : List ℕ) → IsBytes body → IfSome (message_of kind body) (IsMessageOf kind body)
unfolding message_of
message_row kind body fits =
    let P : ClientMessage → Type 0 = IsMessageOf kind body in
    row P kind 2 _ _ (given kind 2 body (create_of false body) (λ x is. create_takes false body x fits is))
    (row P kind 3 _ _ (given kind 3 body (find_of false body) (λ x is. find_takes false body x fits is))
    (row P kind 5 _ _ (given kind 5 body (access_of false body) (λ x is. access_takes false body x fits is))
    (row P kind 11 _ _ (given kind 11 body (access_of true body) (λ x is. access_takes true body x fits is))
    (row P kind 12 _ _ (given kind 12 body (create_of true body) (λ x is. create_takes true body x fits is))
    (row P kind 13 _ _ (given kind 13 body (find_of true body) (λ x is. find_takes true body x fits is))
    (plain_row kind body fits))))))

pub message_takes : (kind : ℕ) (body : List ℕ) (m : ClientMessage) → IsBytes body → message_of kind body ≡ Some m → IsMessageOf kind body m
message_takes kind body m fits e = some_at (IsMessageOf kind body) (message_of kind body) m e (message_row kind body fits)

-- a message that fits is read again, from a frame whose length is its kind's in each version that has the message
pub record IsRead (m : ClientMessage) : Type 0 where
  pub kind : ℕ
  pub body : List ℕ
  pub spelled : spelling m ≡ frame kind body
  pub read : message_of kind body ≡ Some m
  pub high : length body ≤ 46
  pub long : (v : Version) → IsIn v m → length_of_kind v kind ≡ Some (length body + 1)

short_kind : (name : List ℕ) (f : Bool → Option ℕ) (n : ℕ) → f true ≡ None → f (is_long name) ≡ Some n → length name ≤ 16
short_kind name f n none e =
    elim (cases_lt 16 (length name)) [
      | inl lt ↦ absurd (none-some n (sym none ∙ ap f (sym (lt-ltb 16 (length name) lt)) ∙ e))
      | inr short ↦ short
    ]

-- a frame of a version's kind spells a message of the version
pub has_kind : (v : Version) (m : ClientMessage) (n : ℕ) → length_of_kind v (kind_field (spelling m)) ≡ Some n → IsIn v m
has_kind Two m n e = tt
has_kind One (Attach session) n e = tt
has_kind One (Call number (Create name size tag)) n e = short_kind name (λ l. first_lengths (create_kind l)) n refl e
has_kind One (Call number (Find name)) n e = short_kind name (λ l. first_lengths (find_kind l)) n refl e
has_kind One (Call number (Remove array)) n e = tt
has_kind One (Call number (Access array index op true)) n e = absurd cc
has_kind One (Call number (Access array index op false)) n e = refl
has_kind One (Cancel number) n e = tt
has_kind One (Settle floor) n e = tt
has_kind One Bye n e = tt
has_kind One Report n e = tt

-- ---- lengths

length-create_body : (number : ℕ) (name : List ℕ) (size : ℕ) (tag : Tag) → length name ≤ 32 → length (create_body number name size tag) ≡ name_room (is_long name) + 14
length-create_body number name size tag short =
    let end : List ℕ = to_be_bytes w32 size ++ tag_code tag ∷ [] in
    omega (arith, length-append (cells_of name) end, length-cells_of name short)

length-find_body : (number : ℕ) (name : List ℕ) → length name ≤ 32 → length (find_body number name) ≡ name_room (is_long name) + 9
length-find_body number name short = omega (arith, length-cells_of name short)

-- the frames as they are written, field by field
pub create_built : (number : ℕ) (name : List ℕ) (size : ℕ) (tag : Tag) → length name ≤ 32
    → (to_be_bytes w32 (name_room (is_long name) + 15) ++ create_kind (is_long name) ∷ []) ++ to_be_bytes w64 number ++ name_field name ++ to_be_bytes w32 size ++ tag_code tag ∷ [] ≡ spelling (Call number (Create name size tag))
create_built number name size tag short =
    let body : List ℕ = to_be_bytes w64 number ++ name_field name ++ to_be_bytes w32 size ++ tag_code tag ∷ [] in
    let same : length body ≡ name_room (is_long name) + 14 = ap length (regroup (to_be_bytes w64 number) (name_field name) (to_be_bytes w32 size) (tag_code tag ∷ [])) ∙ length-create_body number name size tag short in
    let long : name_room (is_long name) + 15 ≡ length body + 1 = omega arith in
    ap (λ (n : ℕ). to_be_bytes w32 n ++ create_kind (is_long name) ∷ body) long

pub find_built : (number : ℕ) (name : List ℕ) → length name ≤ 32
    → (to_be_bytes w32 (name_room (is_long name) + 10) ++ find_kind (is_long name) ∷ []) ++ to_be_bytes w64 number ++ name_field name ≡ spelling (Call number (Find name))
find_built number name short =
    let same = length-find_body number name short in
    let long : name_room (is_long name) + 10 ≡ length (find_body number name) + 1 = omega arith in
    ap (λ (n : ℕ). to_be_bytes w32 n ++ find_kind (is_long name) ∷ find_body number name) long

each_version : (v : Version) (kind n : ℕ) → first_lengths kind ≡ Some n → length_of_kind Two kind ≡ Some n → length_of_kind v kind ≡ Some n
each_version One kind n first second = first
each_version Two kind n first second = second

create_lengths : (long : Bool) → length_of_kind Two (create_kind long) ≡ Some (name_room long + 15)
create_lengths true = refl
create_lengths false = refl

create_long : (v : Version) (number : ℕ) (name : List ℕ) (size : ℕ) (tag : Tag) → IsIn v (Call number (Create name size tag)) → length_of_kind v (create_kind (is_long name)) ≡ Some (name_room (is_long name) + 15)
create_long One number name size tag short = rw (le-ltb 16 (length name) short) refl
create_long Two number name size tag known = create_lengths (is_long name)

find_lengths : (long : Bool) → length_of_kind Two (find_kind long) ≡ Some (name_room long + 10)
find_lengths true = refl
find_lengths false = refl

find_long : (v : Version) (number : ℕ) (name : List ℕ) → IsIn v (Call number (Find name)) → length_of_kind v (find_kind (is_long name)) ≡ Some (name_room (is_long name) + 10)
find_long One number name short = rw (le-ltb 16 (length name) short) refl
find_long Two number name known = find_lengths (is_long name)

access_long : (v : Version) (number array index : ℕ) (op : Op) (no_wait : Bool) → IsIn v (Call number (Access array index op no_wait)) → length_of_kind v (access_kind no_wait) ≡ Some 30
access_long One number array index op true known = absurd cc
access_long One number array index op false known = refl
access_long Two number array index op true known = refl
access_long Two number array index op false known = refl

-- ---- a message that fits is read again

create_read : (long : Bool) (body : List ℕ) → message_of (create_kind long) body ≡ create_of long body
unfolding message_of
create_read true body = refl
create_read false body = refl

find_read : (long : Bool) (body : List ℕ) → message_of (find_kind long) body ≡ find_of long body
unfolding message_of
find_read true body = refl
find_read false body = refl

access_read : (no_wait : Bool) (body : List ℕ) → message_of (access_kind no_wait) body ≡ access_of no_wait body
unfolding message_of
access_read true body = refl
access_read false body = refl

made_again : (make : ℕ → ClientMessage) (n : ℕ) → n < 2 ^ 64 → made_of make (to_be_bytes w64 n) ≡ Some (make n)
made_again make n lt = bind_at (number_of (to_be_bytes w64 n)) (λ k. Some (make k)) n (number_of_again n lt)

remove_again : (number array : ℕ) → number < 2 ^ 64 → array < 2 ^ 64 → made_of_two (λ n k. Call n (Remove k)) (two_numbers number array) ≡ Some (Call number (Remove array))
remove_again number array n_fits a_fits = bind_at (two_numbers_of (two_numbers number array)) (λ p. Some (Call p.0 (Remove p.1))) (number, array) (two_numbers_of_again number array n_fits a_fits)

pub message_again : (m : ClientMessage) → Fits m → IsRead m
unfolding message_of plain_of
message_again (Attach session) fits = record {
  kind = 1;
  body = to_be_bytes w64 session;
  spelled = refl;
  read = made_again (λ n. Attach n) session fits;
  high = lit≤ tt;
  long = λ v known. each_version v 1 9 refl refl;
}
message_again (Call number (Create name size tag)) fits =
    let same = length-create_body number name size tag fits.1 in
    let room = room_le (is_long name) in
    let long : name_room (is_long name) + 15 ≡ length (create_body number name size tag) + 1 = omega arith in
    record {
      kind = create_kind (is_long name);
      body = create_body number name size tag;
      spelled = create_spelling number name size tag;
      read = create_read (is_long name) (create_body number name size tag) ∙ create_again number name size tag fits;
      high = omega arith;
      long = λ v known. create_long v number name size tag known ∙ ap (λ (k : ℕ). Some k) long;
    }
message_again (Call number (Find name)) fits =
    let same = length-find_body number name fits.1 in
    let room = room_le (is_long name) in
    let long : name_room (is_long name) + 10 ≡ length (find_body number name) + 1 = omega arith in
    record {
      kind = find_kind (is_long name);
      body = find_body number name;
      spelled = refl;
      read = find_read (is_long name) (find_body number name) ∙ find_again number name fits;
      high = omega arith;
      long = λ v known. find_long v number name known ∙ ap (λ (k : ℕ). Some k) long;
    }
message_again (Call number (Remove array)) fits = record {
  kind = 4;
  body = two_numbers number array;
  spelled = refl;
  read = remove_again number array fits.0 fits.1;
  high = lit≤ tt;
  long = λ v known. each_version v 4 17 refl refl;
}
message_again (Call number (Access array index op no_wait)) fits = record {
  kind = access_kind no_wait;
  body = access_body number array index op;
  spelled = refl;
  read = access_read no_wait (access_body number array index op) ∙ access_again number array index op no_wait fits;
  high = lit≤ tt;
  long = λ v known. access_long v number array index op no_wait known;
}
message_again (Cancel number) fits = record {
  kind = 6;
  body = to_be_bytes w64 number;
  spelled = refl;
  read = made_again (λ n. Cancel n) number fits;
  high = lit≤ tt;
  long = λ v known. each_version v 6 9 refl refl;
}
message_again (Settle floor) fits = record {
  kind = 7;
  body = to_be_bytes w64 floor;
  spelled = refl;
  read = made_again (λ n. Settle n) floor fits;
  high = lit≤ tt;
  long = λ v known. each_version v 7 9 refl refl;
}
message_again Bye fits = record { kind = 8; body = []; spelled = refl; read = refl; high = lit≤ tt; long = λ v known. each_version v 8 1 refl refl }
message_again Report fits = record { kind = 9; body = []; spelled = refl; read = refl; high = lit≤ tt; long = λ v known. each_version v 9 1 refl refl }
