use Rattle.std.proofs.Common.{rules}
use Rattle.std.specs.Ordering.{nat_cmp}
use Rattle.std.specs.BTreeMap as tree
use Rattle.lock_run.specs.Space.{space_heap, space_base}
use Rattle.stm_pieces.proofs.Laying.{laid_nothing}
use Rattle.stm_pieces.proofs.lent.Lent.new.Goals as goal

pub returns-clause-heap : goal.returns-clause-heap
returns-clause-heap c = laid_nothing (space_heap c.new-3.result) (tree.get nat_cmp c.new.result) c.new-3.ensures.heap
    (search rules)

pub returns-clause-base : goal.returns-clause-base
returns-clause-base c = laid_nothing (space_base c.new-3.result) (tree.get nat_cmp c.new.result) c.new-3.ensures.base
    (search rules)
