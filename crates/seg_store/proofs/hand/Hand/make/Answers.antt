use Rattle.std.proofs.Common.{rules}
use Rattle.seg_store.specs.inner.Space.{space_heap, space_base}
use Rattle.seg_store.proofs.HoldingLemmas.{held_make}
use Rattle.seg_store.proofs.hand.Hand.make.Goals as goal

pub invariant_of-self-in-Ok : goal.invariant_of-self-in-Ok
invariant_of-self-in-Ok c = record {
  sound = held_make _ _ _ _ _ c.args.self.now.sound (space_heap c.add.new.self) (space_base c.add.new.self)
      c.push.new.self c.args.n c.args.r c.requires.good (search rules) (search rules) (search rules);
}
