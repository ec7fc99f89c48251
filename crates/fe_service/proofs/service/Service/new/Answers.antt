use Rattle.std.proofs.Common.{◌≡◌, Option, Some, None, false, not, sym, ap, ◌∙◌}
use Rattle.std.specs.Prelude.{is_some}
use Rattle.std.specs.Option.{option_map, option_map_or}
use Rattle.std.specs.FinMap.{get}
use Rattle.fe_service.specs.AttachmentsState.{free_attachment}
use Rattle.fe_service.specs.declared.attachment.Attachment.{Attachment}
use Rattle.fe_state.specs.Sessions.{Session}
use Rattle.fe_service.proofs.Staying.{none_waiting}
use Rattle.fe_service.proofs.service.Service.new.Goals as goal

open_at_first : (here : Option Session) (attachment : Option Attachment) → attachment ≡ option_map (λ _. free_attachment) here → is_some here ≡ option_map_or (λ attachment. not attachment.closing) attachment false
open_at_first None attachment is = sym (ap (λ (o : Option Attachment). option_map_or (λ attachment. not attachment.closing) o false) is)
open_at_first (Some x) attachment is = sym (ap (λ (o : Option Attachment). option_map_or (λ attachment. not attachment.closing) o false) is)

pub invariant_of-result : goal.invariant_of-result
invariant_of-result c =
    let waiting = c.begin_sessions.ensures.waiting ∙ c.in_ok-attachments.ensures.waiting in
    record {
      service = record {
        usable = λ key w waits. none_waiting c.begin_sessions.new.attachments.waiting waiting key w waits;
        quiet = λ key w waits. none_waiting c.begin_sessions.new.attachments.waiting waiting key w waits;
        has_attachment = λ session. open_at_first (get c.args.state.sessions session) _ (c.begin_sessions.ensures.attachments session);
      };
      arrays = λ id. ap (λ m. get m id) (c.begin_sessions.ensures.arrays ∙ c.in_ok-attachments.ensures.arrays) ∙ c.in_ok-add_arrays.ensures.arrays id;
    }
