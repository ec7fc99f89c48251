use Rattle.std.proofs.Common.{sym, ap, subst, ◌∙◌}
use Rattle.fe_mail.specs.Connections.{session_on}
use Rattle.fe_service.specs.AttachmentsState.{holder_of}
use Rattle.fe_service.specs.Events.{HasRoom, IsAttachable}
use Rattle.fe_front.specs.Front.{is_connected}
use Rattle.fe_front.proofs.Attaching.{released-free, released-connected, released-attachable, freed-free, freed-connected, freed-holder, freed-attachable, released-room, freed-room, room_for, attaches}
use Rattle.fe_front.proofs.front.Front.attach.Goals as goal

pub join-requires-clause-free_connection : goal.join-requires-clause-free_connection
join-requires-clause-free_connection c =
    let mid = c.release.new.self in
    let free = ap (λ f. session_on f.connections c.args.conn) c.release.ensures.released ∙ released-free c.args.self.now c.args.conn in
    ap (λ f. session_on f.connections c.args.conn) c.free.ensures.freed ∙ freed-free mid c.args.session c.state-2.ensures.front.tied.agree c.args.conn free

pub join-requires-clause-connected : goal.join-requires-clause-connected
join-requires-clause-connected c =
    let found = attaches c.args.self.now c.args.conn c.args.session _ (sym c.attaching.ensures ∙ c.in_ok-attaching.was) in
    ap (λ f. is_connected f c.args.conn) c.free.ensures.freed
    ∙ freed-connected c.release.new.self c.args.session c.args.conn
    ∙ ap (λ f. is_connected f c.args.conn) c.release.ensures.released
    ∙ released-connected c.args.self.now c.args.conn c.args.conn
    ∙ found.connected

pub join-requires-clause-free_session : goal.join-requires-clause-free_session
join-requires-clause-free_session c = ap (λ f. holder_of f.service.attachments c.args.session) c.free.ensures.freed ∙ freed-holder c.release.new.self c.args.session

pub join-requires-clause-may : goal.join-requires-clause-may
join-requires-clause-may c =
    let old = c.args.self.now in
    let found = attaches old c.args.conn c.args.session _ (sym c.attaching.ensures ∙ c.in_ok-attaching.was) in
    let mid = subst (λ f. IsAttachable f.service c.args.session) (sym c.release.ensures.released) (released-attachable old c.args.conn c.args.session c.state.ensures.front.tied.agree found.attachable) in
    let room = subst (λ f. HasRoom f.service) (sym c.release.ensures.released) (released-room old c.args.conn (room_for old found.unspent c.requires.room)) in
    record {
      attachable = subst (λ f. IsAttachable f.service c.args.session) (sym c.free.ensures.freed) (freed-attachable c.release.new.self c.args.session c.args.session mid);
      room = subst (λ f. HasRoom f.service) (sym c.free.ensures.freed) (freed-room c.release.new.self c.args.session room);
    }
