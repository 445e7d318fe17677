use Rattle.std.proofs.Common.{◌≡◌, drop}
use Rattle.stm_core.specs.Passes.{met}
use Rattle.stm_core.proofs.commit.first_read.Given as goal

abbrev pub invariant-loop-i : goal.invariant-loop-i
invariant-loop-i g l = let m = g.S.SegStore.meaning l.store in met (drop l.i (m.part l.k).changed) (m.part l.j).looked
    ≡ met (m.part l.k).changed (m.part l.j).looked
