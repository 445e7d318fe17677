use Rattle.seg_store.specs.inner.Space.{space_heap, space_base}
use Rattle.seg_store.proofs.HoldingLemmas.{held_undo}
use Rattle.seg_store.proofs.hand.Hand.undo.Goals as goal

pub invariant_of-self : goal.invariant_of-self
invariant_of-self c = record {
  sound = held_undo _ _ _ _ _ c.args.self.now.sound (space_heap c.undo.new.self)
      (space_base c.undo.new.self) c.truncate.new.self c.undo.ensures.heap c.undo.ensures.base c.truncate.ensures;
}
