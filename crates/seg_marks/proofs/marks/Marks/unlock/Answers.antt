use Rattle.std.proofs.Common.{length, ◌<◌}
use Rattle.seg_marks.proofs.ByteLemmas.{lock_set}
use Rattle.seg_marks.proofs.marks.Marks.unlock.Goals as goal

pub returns-clause-holders : goal.returns-clause-holders
returns-clause-holders c =
    let within : c.args.g < length c.self.inside.locks.items = rw (← c.self.view_is) at c.requires in
    rw (← c.self.view_is) (lock_set c.self.inside.locks.items c.args.g 0 within)
