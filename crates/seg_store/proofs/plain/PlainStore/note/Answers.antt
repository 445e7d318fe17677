use Rattle.std.proofs.Common.{rules}
use Rattle.seg_store.proofs.Stores.{either, same_leaves, mark_leaves}
use Rattle.seg_store.proofs.plain.PlainStore.note.Goals as goal

pub invariant_of-self : goal.invariant_of-self
invariant_of-self c = record {
  sound = either _ c.mark.result c.mark.ensures.ok c.mark.ensures.err
      (λ e. (mark_leaves _ _ _ c.args.self.now.sound c.requires c.index_mut.result.now c.mark.new.self
      c.index_mut.ensures.value c.args.a.0 e).sound)
      (λ e. (same_leaves _ _ _ c.args.self.now.sound c.requires c.index_mut.result.now c.mark.new.self
      c.index_mut.ensures.value e).sound);
}

pub returns-clause-ok : goal.returns-clause-ok
returns-clause-ok c = (mark_leaves _ _ _ c.args.self.now.sound c.requires c.index_mut.result.now c.mark.new.self
    c.index_mut.ensures.value c.args.a.0 (search rules)).means
