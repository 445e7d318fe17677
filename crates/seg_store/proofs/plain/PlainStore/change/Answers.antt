use Rattle.std.proofs.Common.{rules}
use Rattle.seg_store.proofs.Stores.{either, same_leaves, change_leaves}
use Rattle.seg_store.proofs.plain.PlainStore.change.Goals as goal

pub invariant_of-self : goal.invariant_of-self
invariant_of-self c = record {
  sound = either _ c.change.result c.change.ensures.ok c.change.ensures.err
      (λ e. (change_leaves _ _ _ c.args.self.now.sound c.requires.segment c.index_mut.result.now c.change.new.self
      c.index_mut.ensures.value c.args.a.0 c.args.c e).sound)
      (λ e. (same_leaves _ _ _ c.args.self.now.sound c.requires.segment c.index_mut.result.now c.change.new.self
      c.index_mut.ensures.value e).sound);
}

pub returns-clause-ok : goal.returns-clause-ok
returns-clause-ok c = (change_leaves _ _ _ c.args.self.now.sound c.requires.segment c.index_mut.result.now
    c.change.new.self c.index_mut.ensures.value c.args.a.0 c.args.c (search rules)).means
