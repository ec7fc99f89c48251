use Rattle.std.proofs.Common.{length, length-append, sym, ap, subst, ◌∙◌, arith}
use Rattle.std.specs.FinMap.{get, len}
use Rattle.fe_state.specs.Directory.{words_in}
use Rattle.fe_state.specs.Effect.{effect_of}
use Rattle.fe_state.specs.State.{directory_of}
use Rattle.fe_service.specs.Service.{IsQuiet, ServiceState}
use Rattle.fe_service.specs.Events.{HasRoom}
use Rattle.fe_service.specs.within.ServiceInner.{WaitAtTag}
use Rattle.fe_service.proofs.Effects.{Writes, writes, writes_one, written_lengths}
use Rattle.fe_service.proofs.Quiet.{quiet_tag, word_below, quiet_there_and}
use Rattle.fe_service.proofs.Completing.{IsEntered, free_in, completes_in, entered_by, entered_usable, entered_service, entered_completes, entered_quiet_at, quiet_everywhere}
use Rattle.fe_service.proofs.Serving.{taken_len, taken_lengths}
use Rattle.fe_service.proofs.service.Service.finish_write.Goals.{After-enter, After-serve_word}
use Rattle.fe_service.proofs.service.Service.finish_write.Goals as goal

-- the word that it writes is there
written : (c : After-enter) → Writes (directory_of c.self.inside.inner.state) c.args.request c.args.array c.args.index
written c = writes (directory_of c.self.inside.inner.state) c.args.request c.args.array c.args.index c.args.word (ap (λ (s : ServiceState). effect_of (directory_of s.state) c.args.request) c.self.view_is ∙ c.requires.changes)

pub serve_word-requires-clause-word : goal.serve_word-requires-clause-word
serve_word-requires-clause-word c =
    let old = c.self.inside.inner in
    let w = written (goal.at.serve_word-requires-clause-word c).After-enter in
    let (n, length, below) = word_below (get old.state.arrays c.args.array) c.args.index w.before w.there in
    (n, ap (λ s. get s.arrays c.args.array) c.enter.ensures.attachments ∙ c.self.invariant.arrays c.args.array ∙ length, below)

pub serve_word-requires-clause-able : goal.serve_word-requires-clause-able
serve_word-requires-clause-able c =
    let entered : IsEntered c.self.inside.inner c.enter.new.self _ = entered_by c.self.inside.inner c.enter.new.self _ c.enter.ensures.state c.enter.ensures.attachments c.enter.ensures.pending in
    let room = subst HasRoom (sym c.self.view_is) c.requires.room in
    let places = ap (λ s. s.place) c.enter.ensures.state in
    let few = ap length c.enter.ensures.pending ∙ length-append c.self.inside.inner.pending _ in
    let same = ap (λ s. len s.waiting) c.enter.ensures.attachments in
    record {
      usable = entered_usable c.self.inside.inner c.enter.new.self c.args.session c.args.number c.args.request c.args.answer c.self.invariant.service.usable (free_in c.self.view_is c.requires.free) entered;
      places = omega (arith, places, same, room.places, c.limits.ensures.attachments.all);
      room = omega (arith, few, same, room.few, c.limits.ensures.attachments.all);
    }

pub overflow_add-result : goal.overflow_add-result
overflow_add-result c =
    let (es, t, counted) = c.serve_word.ensures.served in
    let fewer = taken_len c.enter.new.self c.serve_word.new.self es t in
    let same = ap (λ s. len s.waiting) c.enter.ensures.attachments in
    omega (arith, counted, fewer, same, c.limits.ensures.attachments.all)

-- nobody that waits may be served any more
all_quiet : (c : After-serve_word) → IsQuiet c.serve_word.new.self.state c.serve_word.new.self.attachments.waiting
all_quiet c =
    let old = c.self.inside.inner in
    let mid = c.enter.new.self in
    let new = c.serve_word.new.self in
    let entered : IsEntered old mid _ = entered_by old mid _ c.enter.ensures.state c.enter.ensures.attachments c.enter.ensures.pending in
    let w = written (goal.at.After-serve_word c).After-enter in
    let at : WaitAtTag mid.attachments.waiting c.args.array c.args.index w.before.tag =
    subst
    (λ m. WaitAtTag m c.args.array c.args.index w.before.tag)
    (sym entered.waiting)
    (quiet_tag old.state old.attachments.waiting c.args.array c.args.index w.before c.self.invariant.service.quiet w.there)
    in
    quiet_everywhere new.state new.attachments.waiting (λ b j.
    quiet_there_and new.state new.attachments.waiting c.args.array c.args.index b j (c.serve_word.ensures.here w.before.tag at)
    (λ differs. c.serve_word.ensures.beside b j differs
    (entered_quiet_at old mid c.args.session c.args.number c.args.request c.args.answer c.self.invariant.service.quiet entered b j
    (writes_one (directory_of old.state) c.args.request c.args.array c.args.index w b j differs))))

pub invariant_of-self : goal.invariant_of-self
invariant_of-self c =
    let old = c.self.inside.inner in
    let mid = c.enter.new.self in
    let new = c.serve_word.new.self in
    let entered : IsEntered old mid _ = entered_by old mid _ c.enter.ensures.state c.enter.ensures.attachments c.enter.ensures.pending in
    let w = written (goal.at.invariant_of-self c).After-enter in
    let (es, t, counted) = c.serve_word.ensures.served in
    record {
      service = entered_service old mid new c.args.session c.args.number c.args.request c.args.answer es c.self.invariant.service (free_in c.self.view_is c.requires.free) entered t (all_quiet (goal.at.invariant_of-self c).After-serve_word);
      arrays = λ id.
          ap (λ m. get m id) t.arrays
          ∙ ap (λ s. get s.arrays id) c.enter.ensures.attachments
          ∙ c.self.invariant.arrays id
          ∙ sym (written_lengths (directory_of old.state) c.args.request c.args.array c.args.index w id)
          ∙ sym (ap (λ s. words_in (get s.arrays id)) c.enter.ensures.state)
          ∙ sym (taken_lengths mid new es t id);
    }

pub returns : goal.returns
returns c =
    let old = c.self.inside.inner in
    let mid = c.enter.new.self in
    let entered : IsEntered old mid _ = entered_by old mid _ c.enter.ensures.state c.enter.ensures.attachments c.enter.ensures.pending in
    let (es, t, counted) = c.serve_word.ensures.served in
    record { completes = (es, completes_in c.self.view_is (entered_completes old mid c.serve_word.new.self _ es entered t (all_quiet (goal.at.returns c).After-serve_word)), omega (arith, counted)) }
