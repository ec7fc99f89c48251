use Rattle.std.proofs.Common.{◌≡◌, inr}
use Rattle.std.specs.Prelude.{slice_index}
use Rattle.fe_disk.specs.Memory.{MemoryState, IsBlank}
use Rattle.fe_journal.specs.Layout.{device_bytes, gate_of}
use Rattle.fe_journal.specs.Damage.{IsUnformatted}
use Rattle.fe_schedules.proofs.machine.Machine.new.Goals as goal

-- no gate is open in zeros
zeros_unformatted : (disk : MemoryState) → IsBlank device_bytes disk → IsUnformatted disk.image
zeros_unformatted disk blank = inr (λ slot format low valid.
    let open_gate : slice_index disk.image (gate_of slot) ≡ 1 = valid.is_open in
    let zero : slice_index disk.image (gate_of slot) ≡ 0 = blank.zeros (gate_of slot) in
    cc)

pub unreachable-requires : goal.unreachable-requires
unreachable-requires c = c.in-Ok.ensures.unformatted c.requires.honest (zeros_unformatted c.args.disk c.requires.zeros)
