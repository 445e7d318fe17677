use Rattle.std.proofs.Common.{refl}
use Rattle.seg_store.specs.inner.Space.{space_heap, space_base}
use Rattle.seg_store.proofs.HoldingLemmas.{held_none}
use Rattle.seg_store.proofs.hand.Hand.publish.Goals as goal

pub invariant_of-self : goal.invariant_of-self
invariant_of-self c = record {
  sound = held_none (space_heap c.give.new.self) (space_base c.give.new.self)
      c.truncate.new.self c.truncate-2.new.self 0 c.give.ensures.heap c.give.ensures.base c.truncate.ensures
      c.truncate-2.ensures refl;
}
