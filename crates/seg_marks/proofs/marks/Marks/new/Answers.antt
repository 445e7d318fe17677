use Rattle.std.proofs.Common.{rules}
use Rattle.seg_marks.proofs.ByteLemmas.{none_marked, none_held}
use Rattle.seg_marks.proofs.marks.Marks.new.Goals as goal

pub returns-clause-marks : goal.returns-clause-marks
returns-clause-marks c = none_marked c.segments.rows.items _ _ c.segments.invariant

pub returns-clause-holders : goal.returns-clause-holders
returns-clause-holders c = none_held _ c.args.granules (search rules)
