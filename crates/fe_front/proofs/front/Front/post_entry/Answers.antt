use Rattle.std.proofs.Common.{rules, ◌≡◌, ℕ, refl, sym, ap, ◌∙◌}
use Rattle.fe_state.specs.declared.entry.Entry.{Entry}
use Rattle.fe_state.specs.declared.entry.Entry.TheVariants.{Attached, Closed, Settled, Finished}
use Rattle.fe_front.specs.Front.{FrontState}
use Rattle.fe_front.specs.Posting.{Notes, delivered, posted_entry}
use Rattle.fe_front.proofs.Agreement.{connection_there}
use Rattle.fe_front.proofs.Noting.{notes_not, notes_then, notes_mailed, notes_ended}
use Rattle.fe_service.specs.AttachmentsState.{holder_of}
use Rattle.fe_front.proofs.front.Front.post_entry.Goals.{in-Some, in_default}
use Rattle.fe_front.proofs.front.Front.post_entry.Goals as goal

pub put-requires : goal.put-requires
put-requires c =
    let old = c.args.self.now in
    record { connected = connection_there old.connections c.in-Some.conn c.session_of.result ((c.state.ensures.front.tied.agree c.session_of.result c.in-Some.conn).0 (ap (λ attachments. holder_of attachments c.session_of.result) (sym (c.attachments.ensures.attachments ∙ ap (λ (f : FrontState). f.service.attachments) c.self.view_is)) ∙ sym c.holder.ensures ∙ c.in-Some.is)) }

pub returns-in-Closed-clause-notes : goal.returns-in-Closed-clause-notes
returns-in-Closed-clause-notes c =
    let mailed : Notes c.args.self.now c.match-holder.self c.args.changed.now c.match-holder.changed = elim c.match-holder.branch [
      | in-Some w ↦ rw (w.self-is, w.changed-is) (notes_mailed _ _ _ _ _ _ w.put.ensures.mailed w.add.ensures.added w.add.ensures.still)
      | in_default w ↦ rw (w.self-is, w.changed-is) (notes_not _ _)
    ] in
    notes_then _ _ _ _ _ _ mailed (notes_ended _ _ _ _ c.end.ensures.ended)

posted_open : (f g : FrontState) (e : Entry) (place : ℕ) → ((session : ℕ) → e ≡ Closed session → ⊥) → g ≡ delivered f e place → g ≡ posted_entry f e place
posted_open f g (Closed session) place other is = absurd (other session refl)
posted_open f g (Attached session floor) place other is = is
posted_open f g (Settled session floor) place other is = is
posted_open f g (Finished session number request answer) place other is = is

pub returns-in_default-entry : goal.returns-in_default-entry
returns-in_default-entry c = record {
  posted = posted_open c.args.self.now c.match-holder.self c.args.entry.now c.args.place c.in_default-entry.not-Closed (elim c.match-holder.branch [
    | in-Some w ↦ search rules
    | in_default w ↦ search rules
  ]);
  notes = elim c.match-holder.branch [
    | in-Some w ↦ rw (w.self-is, w.changed-is) (notes_mailed _ _ _ _ _ _ w.put.ensures.mailed w.add.ensures.added w.add.ensures.still)
    | in_default w ↦ rw (w.self-is, w.changed-is) (notes_not _ _)
  ];
}
