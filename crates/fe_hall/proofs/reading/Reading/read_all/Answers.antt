use Rattle.std.proofs.Common.{ℕ, ◌++◌, take, refl, ap, ◌∙◌}
use Rattle.std.proofs.lemmas.List.{append-nil}
use Rattle.fe_hall.specs.declared.ends.ReadEnd.TheVariants.{Closed, Device, Turns}
use Rattle.fe_hall.proofs.Streams.{ends_behind, ends_first}
use Rattle.fe_hall.proofs.reading.Reading.read_all.Goals as goal

pub returns-in-Err-clause-handled : goal.returns-in-Err-clause-handled
returns-in-Err-clause-handled g c = λ is_known. (
  is_known,
  λ none at.
      ends_first c.args.self.now.seat c.args.self.now.seat c.args.self.now.listed.items (g.H.ReadHalf.known c.args.half.now) c.args.self.now.decoder none at c.in-Err.error,
)

pub returns-in-Some-eq0-clause-handled : goal.returns-in-Some-eq0-clause-handled
returns-in-Some-eq0-clause-handled g c = λ is_known. (
  c.loop.invariant.is_known is_known,
  λ none at.
      ends_behind c.args.self.now.seat c.loop.self.seat c.loop.self.listed.items (g.H.ReadHalf.known c.loop.half) (g.H.ReadHalf.known c.loop.half) c.loop.self.decoder Turns refl (c.loop.invariant.at is_known none at)
      (λ messages rest waits. (refl, waits)),
)

pub returns-in-Err-read-clause-handled : goal.returns-in-Err-read-clause-handled
returns-in-Err-read-clause-handled g c = λ is_known.
    let known = c.loop.invariant.is_known is_known in (
      c.read.ensures.is_known known,
      λ none at.
          ends_behind c.args.self.now.seat c.loop.self.seat c.loop.self.listed.items (g.H.ReadHalf.known c.loop.half) (g.H.ReadHalf.known c.read.new.self) c.loop.self.decoder Device (c.in-Err-read.ensures.err known) (c.loop.invariant.at is_known none at)
          (λ messages rest waits. (refl, waits)),
    )

pub returns-in-Ok-eq0-clause-handled : goal.returns-in-Ok-eq0-clause-handled
returns-in-Ok-eq0-clause-handled g c = λ is_known.
    let known = c.loop.invariant.is_known is_known in
    let before = g.H.ReadHalf.known c.loop.half in (
      c.read.ensures.is_known known,
      λ none at.
          ends_behind c.args.self.now.seat c.loop.self.seat c.loop.self.listed.items before (g.H.ReadHalf.known c.read.new.self) c.loop.self.decoder Closed
          (c.in-Ok-eq0.ensures.known known ∙ ap (λ (n : ℕ). before ++ take n c.read.new.buffer) c.in-Ok-eq0.field-0-test ∙ append-nil before)
          (c.loop.invariant.at is_known none at) (λ messages rest waits. (refl, waits)),
    )
