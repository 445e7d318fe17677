use Rattle.std.proofs.Common.{rules}
use Rattle.seg_store.specs.inner.Space.{space_heap, space_base}
use Rattle.seg_store.proofs.HoldingLemmas.{held_lock}
use Rattle.seg_store.proofs.hand.Hand.lock.Goals as goal

pub invariant_of-self-in-Ok : goal.invariant_of-self-in-Ok
invariant_of-self-in-Ok c = record {
  sound = held_lock _ _ _ _ _ c.args.self.now.sound (space_heap c.hold.new.self) (space_base c.hold.new.self)
      c.push.new.self c.args.a c.args.now c.requires.good (search rules) (search rules) (search rules);
}
