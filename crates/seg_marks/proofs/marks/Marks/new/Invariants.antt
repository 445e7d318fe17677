use Rattle.std.proofs.Common.{◌≡◌, replicate}
use Rattle.seg_marks.proofs.marks.Marks.new.Given as goal

abbrev pub invariant-segments : goal.invariant-segments
invariant-segments l = l.rows.items ≡ replicate l._i (record { version = 255; bytes = replicate l.fn.granules 0 })
