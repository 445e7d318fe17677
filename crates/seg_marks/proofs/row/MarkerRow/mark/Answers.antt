use Rattle.std.proofs.Common.{length, ◌<◌}
use Rattle.seg_marks.specs.Marks.{Row}
use Rattle.seg_marks.proofs.ByteLemmas.{row_mark}
use Rattle.seg_marks.proofs.row.MarkerRow.mark.Goals as goal

pub returns-clause-marks : goal.returns-clause-marks
returns-clause-marks c =
    let r : Row = record { version = c.self.inside.version; bytes = c.self.inside.bytes.items } in
    let within : c.args.g < length c.self.inside.bytes.items = rw (← c.self.view_is) at c.requires in
    rw (← c.self.view_is) (row_mark r c.args.g within)
