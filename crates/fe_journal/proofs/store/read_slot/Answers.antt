use Rattle.std.proofs.Common.{◌≡◌, ℕ, ◌+◌, length, ◌∙◌, ap}
use Rattle.std.proofs.lemmas.Result.{err_from_is_err_and}
use Rattle.fe_disk.specs.Disk.{bytes_at}
use Rattle.fe_journal.specs.Layout.{area_of}
use Rattle.fe_journal.specs.Store.{GroupFault}
use Rattle.fe_journal.specs.declared.fault.StoreFault.TheVariants.{Damaged}
use Rattle.fe_journal.proofs.Readings.{group_tells, sound_by, nothing_told}
use Rattle.fe_journal.proofs.store.read_slot.Goals as goal

pub returns-in-Err-clause-faults : goal.returns-in-Err-clause-faults
returns-in-Err-clause-faults g c = λ honest counts.
    let disk = c.args.disk.now in
    let seen = g.D.Disk.seen disk in
    let sized : length seen ≡ g.D.Disk.size disk = (g.met.D.Disk.seen_is_image disk honest).whole in
    let at : c.area_of.result ≡ area_of c.args.slot = c.area_of.ensures in
    let area : c.deref.result.now ≡ bytes_at seen (area_of c.args.slot) 1048576 = c.deref.ensures.value ∙ c.in_ok-area.ensures.bytes honest ∙ ap (λ (k : ℕ). bytes_at seen k 1048576) at in
    let offset = c.area_of-in-Err.result + c.in-Err.at in
    let odd : GroupFault c.args.slot c.args.header.now.format c.deref.result.now (Damaged offset) = (c.in-Err.at, c.in-Err.ensures.odd_within, c.in-Err.ensures.odd, ap (λ (k : ℕ). k + c.in-Err.at) c.area_of-in-Err.ensures) in
    group_tells seen c.args.slot c.args.header.now c.deref.result.now (Damaged offset) (sized ∙ c.requires.device) c.requires.is_slot area c.requires.numbered c.requires.length counts odd

pub returns-in_err-area-clause-faults : goal.returns-in_err-area-clause-faults
returns-in_err-area-clause-faults g c = λ honest counts.
    let disk = c.args.disk.now in
    let seen = g.D.Disk.seen disk in
    let sized : length seen ≡ g.D.Disk.size disk = (g.met.D.Disk.seen_is_image disk honest).whole in
    let told = nothing_told seen c.in_err-area.field-0.0 (sound_by seen c.args.slot c.args.header.now (sized ∙ c.requires.device) counts c.requires.numbered c.requires.length) c.in_err-area.ensures.refused in
    let p = err_from_is_err_and c.from_residual.result c.from_residual.ensures.1 in
    rw (p.1, p.2) told

pub returns-in_err-image-clause-faults : goal.returns-in_err-image-clause-faults
returns-in_err-image-clause-faults g c = λ honest counts.
    let disk = c.args.disk.now in
    let seen = g.D.Disk.seen disk in
    let sized : length seen ≡ g.D.Disk.size disk = (g.met.D.Disk.seen_is_image disk honest).whole in
    let told = nothing_told seen c.in_err-image.field-0.0 (sound_by seen c.args.slot c.args.header.now (sized ∙ c.requires.device) counts c.requires.numbered c.requires.length) c.in_err-image.ensures.refused in
    let p = err_from_is_err_and c.from_residual-in_err-image.result c.from_residual-in_err-image.ensures.1 in
    rw (p.1, p.2) told
