-- A front as it begins.
use Rattle.std.proofs.Common.{◌≡◌, ℕ, List, [], length, Option, Some, None, refl, sym, ap, subst, ◌∙◌, arith}
use Rattle.std.specs.Prelude.{option_and_then}
use Rattle.std.specs.Option.{option_map}
use Rattle.std.specs.Ordering.{nat_cmp}
use Rattle.std.specs.FinMap.{FinMap, empty, get, len, get-empty, len-empty}
use Rattle.fe_waits.specs.Waiting.{pair_cmp, WaitingAccess}
use Rattle.fe_waits.proofs.MemberLemmas.{none_some}
use Rattle.fe_state.specs.Sessions.{Session}
use Rattle.fe_state.specs.State.{ServerState}
use Rattle.fe_state.specs.declared.entry.Entry.{Entry}
use Rattle.fe_service.specs.AttachmentsState.{holder_of, free_attachment}
use Rattle.fe_service.specs.declared.attachment.Attachment.{Attachment}
use Rattle.fe_service.specs.Events.{AreFreeAttachments}
use Rattle.fe_service.specs.Service.{ServiceState}
use Rattle.fe_mail.specs.Books.{Books, Balances}
use Rattle.fe_mail.specs.Connections.{session_on, mails_in}
use Rattle.fe_mail.specs.declared.connection.Connection.{Connection}
use Rattle.fe_mail.proofs.MailCounts.{mails_in-empty}
use Rattle.fe_front.specs.within.Inside.{IsSound}

-- nobody has a session
pub nobody : (sessions : FinMap nat_cmp Session) (attachments : FinMap nat_cmp Attachment) → AreFreeAttachments sessions attachments → (session : ℕ) → holder_of attachments session ≡ None
nobody sessions attachments has_attachment session = ap (option_and_then (λ (attachment : Attachment). attachment.holder)) (has_attachment session) ∙ by (get sessions session)
  where
    by : (o : Option Session) → option_and_then (λ (attachment : Attachment). attachment.holder) (option_map (λ _. free_attachment) o) ≡ None
    by None = refl
    by (Some x) = refl

pub no_session : (m : FinMap nat_cmp Connection) → m ≡ empty → (conn : ℕ) → session_on m conn ≡ None
no_session m is conn = ap (λ m. session_on m conn) is ∙ ap (option_and_then (λ (c : Connection). c.session)) (get-empty nat_cmp conn)

pub first_sound : (state : ServerState) (service : ServiceState) (connections : FinMap nat_cmp Connection) (books : Books) (durable : ℕ) (spare : List Entry)
    → service.state ≡ state → AreFreeAttachments state.sessions service.attachments → service.waiting ≡ empty → service.pending ≡ [] → connections ≡ empty → durable ≡ state.place
    → Balances books 0 0 → spare ≡ []
    → IsSound (record { service = service; connections = connections; books = books; durable = durable; out = None; spare = Some spare })
first_sound state service connections books durable spare same has_attachment waiting pending conns mark balance room = record {
  tied = record {
    agree = λ session conn.
        (λ e. none_some (sym (nobody state.sessions service.attachments has_attachment session) ∙ e), λ e. none_some (sym (no_session connections conns conn) ∙ e));
    place = let at = ap (λ s. s.place) same in let none = ap length pending in omega (arith, at, none, mark);
    few_out = omega arith;
    out_first = tt;
    balance =
        subst (λ n. Balances books n (mails_in connections)) (sym (ap len waiting ∙ len-empty pair_cmp WaitingAccess))
        (subst (λ n. Balances books 0 n) (sym (ap mails_in conns ∙ mails_in-empty)) balance);
  };
  spare = λ _. ap Some room;
}
