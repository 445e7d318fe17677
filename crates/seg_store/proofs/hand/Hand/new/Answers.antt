use Rattle.std.proofs.Common.{refl}
use Rattle.seg_store.specs.inner.Space.{space_heap, space_base}
use Rattle.seg_store.proofs.HoldingLemmas.{held_none}
use Rattle.seg_store.proofs.hand.Hand.new.Goals as goal

pub invariant_of-result : goal.invariant_of-result
invariant_of-result c = record {
  sound = held_none (space_heap c.new.result) (space_base c.new.result) c.new-2.result
      c.new-3.result 0 c.new.ensures.heap c.new.ensures.base c.new-2.ensures c.new-3.ensures refl;
}
