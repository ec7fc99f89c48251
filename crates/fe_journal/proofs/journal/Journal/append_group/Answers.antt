use Rattle.std.proofs.Common.{◌≡◌, ℕ, ◌+◌, ◌≤◌, ◌∷◌, length, take, sym, ◌∙◌, subst, arith}
use Rattle.fe_journal.specs.Contents.{GroupFits, after_gate}
use Rattle.fe_journal.proofs.Buffers.{group_read}
use Rattle.fe_disk.proofs.Outcomes.{at_ok}
use Rattle.fe_journal.proofs.Journals.{append_run, append_kept}
use Rattle.fe_journal.proofs.journal.Journal.append_group.Goals as goal

pub returns-clause-any_moment : goal.returns-clause-any_moment
returns-clause-any_moment g c =
    let payload = c.args.payload.now in
    let buffer = c.put_group-count.new.buffer in
    let long : length buffer ≡ c.self.inside.buffer.len = omega (arith, c.put_group-count.ensures.put.same, c.deref_mut.ensures.len) in
    let size : 6 + length payload ≤ length buffer = omega (arith, long, c.self.invariant.buffer, c.requires.allowed.within, c.requires.fits) in
    let bytes_are = group_read c.deref.result.now buffer c.self.inside.buffer.items payload c.self.inside.buffer.len c.put_group-count.result c.deref.ensures.value long size (subst (λ (n : ℕ). take n buffer ≡ 1 ∷ after_gate payload) c.put_group-count.ensures.size c.put_group-count.ensures.put.bytes_are) c.put_group-count.ensures.size in
    let fits : GroupFits c.args.self.now.format c.args.self.now.used (length payload) = record { allowed = c.requires.allowed; within = omega (arith, c.requires.fits, c.requires.allowed.some) } in
    append_run g.D.Disk c.self.inside c.args.self.now payload _ c.area_of.result c.self.view_is (g.met.D.Disk.seen_may_stay c.self.inside.disk) c.area_of.ensures fits bytes_are c.commit-outcome.new.disk c.commit-outcome.ensures.any_moment

pub returns-then-is_err-clause-any_moment : goal.returns-then-is_err-clause-any_moment
returns-then-is_err-clause-any_moment g c =
    let payload = c.args.payload.now in
    let buffer = c.put_group-count.new.buffer in
    let long : length buffer ≡ c.self.inside.buffer.len = omega (arith, c.put_group-count.ensures.put.same, c.deref_mut.ensures.len) in
    let size : 6 + length payload ≤ length buffer = omega (arith, long, c.self.invariant.buffer, c.requires.allowed.within, c.requires.fits) in
    let bytes_are = group_read c.deref.result.now buffer c.self.inside.buffer.items payload c.self.inside.buffer.len c.put_group-count.result c.deref.ensures.value long size (subst (λ (n : ℕ). take n buffer ≡ 1 ∷ after_gate payload) c.put_group-count.ensures.size c.put_group-count.ensures.put.bytes_are) c.put_group-count.ensures.size in
    let fits : GroupFits c.args.self.now.format c.args.self.now.used (length payload) = record { allowed = c.requires.allowed; within = omega (arith, c.requires.fits, c.requires.allowed.some) } in
    append_run g.D.Disk c.self.inside c.args.self.now payload _ c.area_of.result c.self.view_is (g.met.D.Disk.seen_may_stay c.self.inside.disk) c.area_of.ensures fits bytes_are c.commit-outcome.new.disk c.commit-outcome.ensures.any_moment

pub returns-clause-appended : goal.returns-clause-appended
returns-clause-appended g c =
    let payload = c.args.payload.now in
    let buffer = c.put_group-count.new.buffer in
    let long : length buffer ≡ c.self.inside.buffer.len = omega (arith, c.put_group-count.ensures.put.same, c.deref_mut.ensures.len) in
    let size : 6 + length payload ≤ length buffer = omega (arith, long, c.self.invariant.buffer, c.requires.allowed.within, c.requires.fits) in
    let bytes_are = group_read c.deref.result.now buffer c.self.inside.buffer.items payload c.self.inside.buffer.len c.put_group-count.result c.deref.ensures.value long size (subst (λ (n : ℕ). take n buffer ≡ 1 ∷ after_gate payload) c.put_group-count.ensures.size c.put_group-count.ensures.put.bytes_are) c.put_group-count.ensures.size in
    let fits : GroupFits c.args.self.now.format c.args.self.now.used (length payload) = record { allowed = c.requires.allowed; within = omega (arith, c.requires.fits, c.requires.allowed.some) } in
    let works = sym c.is_err.ensures.value ∙ c.if-is_err.false in
    append_kept g.D.Disk c.self.inside c.args.self.now payload _ c.area_of.result c.self.view_is (g.met.D.Disk.seen_may_stay c.self.inside.disk) c.area_of.ensures fits bytes_are c.commit-outcome.new.disk (λ honest. at_ok c.commit-outcome.result works (c.commit-outcome.ensures.committed honest)) (λ honest. at_ok c.commit-outcome.result works (c.commit-outcome.ensures.durable honest))
