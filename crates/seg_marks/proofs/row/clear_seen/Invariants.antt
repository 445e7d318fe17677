use Rattle.std.proofs.Common.{◌≡◌, length}
use Rattle.seg_marks.specs.Marks.{CoversFrom}
use Rattle.seg_marks.proofs.row.clear_seen.Given as goal

abbrev pub invariant-numbers : goal.invariant-numbers
invariant-numbers l = (length l.bytes.items ≡ length l.initial.bytes.items)
    × CoversFrom l.i l.seen.items l.bytes.items
