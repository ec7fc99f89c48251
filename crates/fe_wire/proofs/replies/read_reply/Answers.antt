use Rattle.std.proofs.Common.{◌≡◌, ℕ, List, Option, Some, None, sym, ap, ◌∙◌, arith}
use Rattle.std.specs.Prelude.{Result, Ok, Err, IfOk, OnErr, IfSome}
use Rattle.fe_wire.specs.declared.server_message.ServerMessage.{ServerMessage}
use Rattle.fe_wire.specs.Spelling.{reply_spelling, ReplyFits}
use Rattle.fe_codes.specs.Reading.{◌>>=◌, IsBytes}
use Rattle.fe_wire.specs.within.Replies.{report_of, parts_of}
use Rattle.fe_codes.proofs.BindingLaws.{bind_at}
use Rattle.fe_wire.proofs.ReplyLaws.{any_kind, reply_at, reply_at_takes, reply_at_again, report_at, report_kind, other_kind}
use Rattle.fe_wire.proofs.replies.read_reply.Goals as goal

found : (bytes : List ℕ) (reply : Option ServerMessage) → IsBytes bytes → reply ≡ reply_at bytes → IfSome reply (λ m. ReplyFits m × (bytes ≡ reply_spelling m))
found bytes (Some m) fits e = reply_at_takes bytes m fits (sym e)
found bytes None fits e = tt

if_ok : {A E : Type 0} (P Q : A → Type 0) (r : Result A E) → ((x : A) → P x → Q x) → IfOk r P → IfOk r Q
if_ok P Q (Ok x) f p = f x p
if_ok P Q (Err e) f p = tt

on_err : {A E P Q : Type 0} (r : Result A E) → (P → Q) → OnErr r P → OnErr r Q
on_err (Ok x) f p = tt
on_err (Err e) f p = f p

pub returns-in_default-clause-only : goal.returns-in_default-clause-only
returns-in_default-clause-only c = λ m fits same.
    let none : parts_of c.args.frame.now ≡ None = c.in_default.ensures in
    sym (ap (λ (o : Option (ℕ × List ℕ)). o >>= any_kind) none) ∙ reply_at_again c.args.frame.now m fits same

pub returns-then-kind-eq-REPORT-clause-found : goal.returns-then-kind-eq-REPORT-clause-found
returns-then-kind-eq-REPORT-clause-found c =
    let bytes : List ℕ = c.args.frame.now in
    let body : List ℕ = c.in-Some.body.now in
    let is : reply_at bytes ≡ report_of body = bind_at (parts_of bytes) any_kind (c.in-Some.kind, body) c.in-Some.ensures ∙ report_kind c.in-Some.kind body c.if-kind-eq-REPORT.true in
    if_ok (λ reply. reply ≡ report_of body) (λ reply. IfSome reply (λ m. ReplyFits m × (bytes ≡ reply_spelling m))) c.report_of.result (λ reply same. found bytes reply (λ i. omega (arith, c.type_inv.frame i)) (same ∙ sym is)) c.report_of.ensures.value

pub returns-then-kind-eq-REPORT-clause-only : goal.returns-then-kind-eq-REPORT-clause-only
returns-then-kind-eq-REPORT-clause-only c = λ m fits spelled.
    let bytes : List ℕ = c.args.frame.now in
    let body : List ℕ = c.in-Some.body.now in
    let is : reply_at bytes ≡ report_of body = bind_at (parts_of bytes) any_kind (c.in-Some.kind, body) c.in-Some.ensures ∙ report_kind c.in-Some.kind body c.if-kind-eq-REPORT.true in
    if_ok (λ reply. reply ≡ report_of body) (λ reply. reply ≡ Some m) c.report_of.result (λ reply same. same ∙ sym is ∙ reply_at_again bytes m fits spelled) c.report_of.ensures.value

pub returns-then-kind-eq-REPORT-clause-memory : goal.returns-then-kind-eq-REPORT-clause-memory
returns-then-kind-eq-REPORT-clause-memory c =
    on_err c.report_of.result (λ fits. report_at c.args.frame.now c.in-Some.kind c.in-Some.body.now (λ i. omega (arith, c.type_inv.frame i)) c.in-Some.ensures c.if-kind-eq-REPORT.true fits) c.report_of.ensures.memory

pub returns-clause-found : goal.returns-clause-found
returns-clause-found c =
    let bytes : List ℕ = c.args.frame.now in
    let is = bind_at (parts_of bytes) any_kind (c.in-Some.kind, c.in-Some.body.now) c.in-Some.ensures ∙ other_kind c.in-Some.kind c.in-Some.body.now c.if-kind-eq-REPORT.false in
    found bytes c.reply_of_kind.result (λ i. omega (arith, c.type_inv.frame i)) (c.reply_of_kind.ensures ∙ sym is)

pub returns-clause-only : goal.returns-clause-only
returns-clause-only c = λ m fits same.
    let bytes : List ℕ = c.args.frame.now in
    let is = bind_at (parts_of bytes) any_kind (c.in-Some.kind, c.in-Some.body.now) c.in-Some.ensures ∙ other_kind c.in-Some.kind c.in-Some.body.now c.if-kind-eq-REPORT.false in
    c.reply_of_kind.ensures ∙ sym is ∙ reply_at_again bytes m fits same
