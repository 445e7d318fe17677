use Rattle.std.proofs.Common.{rules}
use Rattle.seg_store.proofs.Stores.{either, same_leaves, make_leaves}
use Rattle.seg_store.proofs.plain.PlainStore.place.Goals as goal

pub invariant_of-self : goal.invariant_of-self
invariant_of-self c = record {
  sound = either _ c.make.result c.make.ensures.ok c.make.ensures.err
      (λ e. (make_leaves _ _ _ c.args.self.now.sound c.requires.segment c.index_mut.result.now c.make.new.self
      c.index_mut.ensures.value c.args.n.0 c.args.r c.requires.within c.requires.blank c.requires.free e).sound)
      (λ e. (same_leaves _ _ _ c.args.self.now.sound c.requires.segment c.index_mut.result.now c.make.new.self
      c.index_mut.ensures.value e).sound);
}

pub returns-clause-ok : goal.returns-clause-ok
returns-clause-ok c = (make_leaves _ _ _ c.args.self.now.sound c.requires.segment c.index_mut.result.now
    c.make.new.self c.index_mut.ensures.value c.args.n.0 c.args.r c.requires.within c.requires.blank c.requires.free
    (search rules)).means
