use Rattle.std.proofs.Common.{refl}
use Rattle.fe_desk.specs.declared.desk_inner.DeskInner.{DeskInner}
use Rattle.fe_desk.proofs.Quiets.{empties}
use Rattle.fe_desk.proofs.StepParts.{emptied_desk, written_more}
use Rattle.fe_desk.proofs.desk_inner.DeskInner.empty.Goals as goal

pub returns : goal.returns
returns g c =
    let p = c.args.self.now in
    let boxes = c.empty_boxes-outcome in
    let e = boxes.ensures in
    let q : DeskInner g.row.D.Denot = record p { front = boxes.new.front; trace = record p.trace { ports = boxes.new.ports }; owes = c.is_err-self.result } in
    record {
      empties = empties p q boxes.result c.requires.desk.known e.front e.written_out e.emptied e.writes c.is_err-self.ensures.value refl refl refl;
      writes = record {
        desk = emptied_desk p q g.D.Disk c.requires.desk (record { keeper = refl; groups = refl; synced = refl }) refl e.front e.numbers;
        store = record { keeper = refl; groups = refl; synced = refl };
        extends = written_more p q boxes.result e.written_out e.writes;
      };
    }
