use Rattle.std.proofs.Common.{arith}
use Rattle.seg_marks.proofs.ByteLemmas.{row_begin}
use Rattle.seg_marks.proofs.row.MarkerRow.begin.Goals as goal

pub returns-then-self-clause-marks : goal.returns-then-self-clause-marks
returns-then-self-clause-marks c = row_begin 1 c.clear.new.bytes.items (λ g. omega (arith, c.clear.ensures.zeros g))

pub returns-else-self-clause-marks : goal.returns-else-self-clause-marks
returns-else-self-clause-marks c = row_begin _ c.self.inside.bytes.items
    (λ g. omega (arith, c.self.invariant.0.below g))
