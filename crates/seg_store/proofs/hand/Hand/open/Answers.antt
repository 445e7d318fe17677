use Rattle.seg_store.specs.inner.Space.{space_heap, space_base}
use Rattle.seg_store.proofs.HoldingLemmas.{held_open}
use Rattle.seg_store.proofs.hand.Hand.open.Goals as goal

pub invariant_of-self : goal.invariant_of-self
invariant_of-self c = record {
  sound = held_open _ _ _ _ _ c.args.self.now.sound (space_heap c.open.new.self)
      (space_base c.open.new.self) c.len-self.result c.open.ensures.heap c.open.ensures.base c.len-self.ensures;
}
