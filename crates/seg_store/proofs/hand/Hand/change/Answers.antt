use Rattle.seg_store.specs.inner.Space.{space_heap, space_base}
use Rattle.seg_store.proofs.HoldingLemmas.{held_try}
use Rattle.seg_store.proofs.hand.Hand.change.Goals as goal

pub invariant_of-self : goal.invariant_of-self
invariant_of-self c = record {
  sound = held_try _ _ _ _ _ c.args.self.now.sound c.replace.result
      (space_heap c.replace.new.self) (space_base c.replace.new.self) c.args.a.0 c.args.c c.requires
      c.replace.ensures.heap c.replace.ensures.err c.replace.ensures.base;
}
