use Rattle.std.proofs.Common.{◌+◌, ◌*◌}
use Rattle.obj_class.proofs.telling.+telling.Given as goal

abbrev pub decreases-exception_text : goal.decreases-exception_text
decreases-exception_text g l = 16 * l.levels + 9

abbrev pub decreases-part_text : goal.decreases-part_text
decreases-part_text g l = 16 * l.levels + 8

abbrev pub decreases-tell : goal.decreases-tell
decreases-tell g l = 16 * l.levels + 7

abbrev pub decreases-alone : goal.decreases-alone
decreases-alone g l = 16 * l.levels + 6

abbrev pub decreases-alone_at : goal.decreases-alone_at
decreases-alone_at g l = 16 * l.levels + 5

abbrev pub decreases-alone_by : goal.decreases-alone_by
decreases-alone_by g l = 16 * l.levels + 4

abbrev pub decreases-instance_text : goal.decreases-instance_text
decreases-instance_text g l = 16 * l.levels + 3

abbrev pub decreases-if_exception : goal.decreases-if_exception
decreases-if_exception g l = 16 * l.levels + 2

abbrev pub decreases-leveled : goal.decreases-leveled
decreases-leveled g l = 16 * l.levels + 1
