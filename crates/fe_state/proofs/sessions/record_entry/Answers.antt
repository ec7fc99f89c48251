use Rattle.std.proofs.Common.{◌∙◌, length, refl}
use Rattle.std.proofs.Math.Seq.{drop-append_seam}
use Rattle.fe_state.specs.declared.undo.SessionChange.TheVariants as change
use Rattle.fe_state.specs.Sessions.{IsUsable, first_session}
use Rattle.fe_state.proofs.DroppedLemmas.{put_back-closed, put_back-settled, remove-changed}
use Rattle.fe_state.proofs.Maps.{get_inserted, get_removed}
use Rattle.fe_state.proofs.Undone.{at_some, len_removed, put_back-keeping, remove-insert}
use Rattle.fe_state.proofs.sessions.record_entry.Goals.{then-open, else-open}
use Rattle.fe_state.proofs.sessions.record_entry.Goals as goal

pub returns-after-open-clause-remembered : goal.returns-after-open-clause-remembered
returns-after-open-clause-remembered c = elim c.if-open.branch [
  | then-open w ↦
      let free = rw w.if-open.true at c.open.ensures.free in
      let added = rw w.if-open.true at c.open.ensures.added in
      rw (c.add.ensures, w.session_change-is, added) (record {
        session = c.in-Attached.session;
        session_change = change.Opened;
        undos = refl;
        dropped = refl;
        room = refl;
        undoable = tt;
        undone = remove-insert c.args.sessions.now c.in-Attached.session first_session free;
      })
  | else-open w ↦
      let there = rw w.if-open.false at c.open.ensures.there in
      rw (c.add.ensures, w.session_change-is, there) (record {
        session = c.in-Attached.session;
        session_change = change.Same;
        undos = refl;
        dropped = refl;
        room = refl;
        undoable = tt;
        undone = refl;
      })
]

pub returns-in-Closed-clause-after : goal.returns-in-Closed-clause-after
returns-in-Closed-clause-after c =
    rw c.in-Closed.is (c.drop_session.ensures ∙ remove-changed c.args.sessions.now c.in-Closed.session c.close.new.here)

pub returns-in-Closed-clause-remembered : goal.returns-in-Closed-clause-remembered
returns-in-Closed-clause-remembered c =
    let h = c.close.ensures.remembered in
    let there = c.get_mut.ensures.value in
    rw (c.drop_session.ensures, remove-changed c.args.sessions.now c.in-Closed.session c.close.new.here) (record {
      session = c.in-Closed.session;
      session_change = change.Closed c.get_mut.result.now.floor (length h.answers);
      undos = h.undos;
      dropped = rw h.dropped (drop-append_seam h.answers c.args.log.now.dropped);
      room = h.room;
      undoable = record {
        least = c.close.ensures.least;
        most = c.close.ensures.most;
        answers_there = h.in_window;
        free = get_removed c.args.sessions.now c.in-Closed.session;
        few = len_removed c.args.sessions.now c.in-Closed.session c.get_mut.result.now 64 there c.requires.few;
      };
      undone = put_back-closed c.args.sessions.now c.in-Closed.session c.get_mut.result.now c.close.new.here h.answers c.args.log.now.dropped _ there h.dropped c.close.ensures.emptied h.again;
    })

pub returns-in-Settled-clause-remembered : goal.returns-in-Settled-clause-remembered
returns-in-Settled-clause-remembered c =
    let h = c.settle.ensures.remembered in
    let there = c.get_mut-in-Settled.ensures.value in
    record {
      session = c.in-Settled.session;
      session_change = change.Settled c.get_mut-in-Settled.result.now.floor (length h.answers);
      undos = h.undos;
      dropped = rw h.dropped (drop-append_seam h.answers c.args.log.now.dropped);
      room = h.room;
      undoable = rw (get_inserted c.args.sessions.now c.in-Settled.session c.settle.new.here) (c.settle.ensures.lowered, h.in_window);
      undone = put_back-settled c.args.sessions.now c.in-Settled.session c.get_mut-in-Settled.result.now c.settle.new.here h.answers c.args.log.now.dropped _ there h.dropped h.again;
    }

pub returns-in-Finished-clause-remembered : goal.returns-in-Finished-clause-remembered
returns-in-Finished-clause-remembered c =
    let usable = rw c.in-Finished.is at c.requires.allowed in
    rw c.add-in-Finished.ensures (record {
      session = c.in-Finished.session;
      session_change = change.Kept c.in-Finished.number;
      undos = refl;
      dropped = refl;
      room = refl;
      undoable = rw (get_inserted c.args.sessions.now c.in-Finished.session c.keep.new.self) refl;
      undone = rw c.keep.ensures
          (put_back-keeping c.args.sessions.now c.args.log.now.dropped c.in-Finished.session c.in-Finished.number c.get_mut-in-Finished.result.now _ c.get_mut-in-Finished.ensures.value
          (at_some (λ x. IsUsable x c.in-Finished.number) _ _ usable c.get_mut-in-Finished.ensures.value).not_kept);
    })
