use Rattle.std.proofs.Common.{◌≡◌, ◌+◌, suc, length, ◌<◌, ◌∙◌, ap, arith}
use Rattle.seg_marks.specs.Marks.{holder_by, holders_at}
use Rattle.seg_marks.specs.Runs.{put}
use Rattle.seg_marks.proofs.ByteLemmas.{lock_set}
use Rattle.seg_marks.proofs.marks.Marks.lock.Goals as goal

pub returns-clause-holders : goal.returns-clause-holders
returns-clause-holders c =
    let within : c.args.g < length c.self.inside.locks.items = rw (← c.self.view_is) at c.requires.granule in
    let e : c.args.k + 1 ≡ suc c.args.k = omega arith in
    rw (← c.self.view_is) (lock_set c.self.inside.locks.items c.args.g (c.args.k + 1) within
    ∙ ap (λ b. put c.args.g (holder_by b) (holders_at c.self.inside.locks.items)) e)
