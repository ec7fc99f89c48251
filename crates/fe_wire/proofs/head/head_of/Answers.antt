use Rattle.std.proofs.Common.{◌≡◌, ℕ, ◌+◌, ◌≤◌, Bool, true, false, not, eqb, Option, Some, None, arith, inr, sym, ap, ◌∙◌, refl}
use Rattle.std.specs.Option.{option_eq}
use Rattle.std.proofs.lemmas.Bool.{eqb-true}
use Rattle.fe_wire.specs.Stream.{length_field, kind_field, length_of_kind, IsWhole}
use Rattle.fe_wire.specs.Reading.{message_of}
use Rattle.fe_wire.proofs.FrameLaws.{body_field, reads_frame, reads_none}
use Rattle.fe_wire.proofs.head.head_of.Goals as goal

is_true : (b : Bool) → false ≡ not b → b ≡ true
is_true true e = refl
is_true false e = absurd cc

-- the length equals the kind's if it does not differ from it
known : (o : Option ℕ) (n : ℕ) → false ≡ not (option_eq eqb o (Some n)) → o ≡ Some n
known None n e = absurd cc
known (Some m) n e = ap (λ (k : ℕ). Some k) (eqb-true m n (is_true (eqb m n) e))

pub returns-in-Some : goal.returns-in-Some
returns-in-Some c =
    let bytes = c.args.bytes.now in
    let whole : IsWhole bytes = omega (arith, c.u32_at-length.ensures, c.if-bytes-end.false) in
    let low : 1 ≤ length_field bytes = omega (arith, c.u32_at-length.ensures, c.if-length-lt-SHORTEST.false) in
    let read : message_of (kind_field bytes) (body_field bytes) ≡ Some c.in-Some.message = cc in
    let kind : length_of_kind c.args.version (kind_field bytes) ≡ Some (length_field bytes) = sym c.length_of_kind.ensures ∙ known c.length_of_kind.result c.u32_at-length.result c.if-ne.ensures ∙ ap (λ (n : ℕ). Some n) c.u32_at-length.ensures in
    let r = reads_frame c.args.version bytes c.in-Some.message (λ i. omega (arith, c.type_inv.bytes i)) whole low kind read in
    (r.0, r.1, whole, ap (λ (n : ℕ). 4 + n) c.u32_at-length.ensures)

pub returns-in-None : goal.returns-in-None
returns-in-None c =
    let bytes = c.args.bytes.now in
    let whole : IsWhole bytes = omega (arith, c.u32_at-length.ensures, c.if-bytes-end.false) in
    let low : 1 ≤ length_field bytes = omega (arith, c.u32_at-length.ensures, c.if-length-lt-SHORTEST.false) in
    let read : message_of (kind_field bytes) (body_field bytes) ≡ None = cc in
    inr (inr (reads_none c.args.version bytes (λ i. omega (arith, c.type_inv.bytes i)) whole low read))
