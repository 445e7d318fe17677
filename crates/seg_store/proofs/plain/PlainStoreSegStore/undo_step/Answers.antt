use Rattle.seg_store.proofs.Stores.{undo_leaves}
use Rattle.seg_store.proofs.plain.PlainStoreSegStore.undo_step.Goals as goal

pub invariant_of-self : goal.invariant_of-self
invariant_of-self c = record {
  sound = (undo_leaves _ _ _ c.args.self.now.sound c.requires c.index_mut.result.now
      c.undo.new.self c.index_mut.ensures.value c.undo.ensures).sound;
}

pub returns-clause-meaning : goal.returns-clause-meaning
returns-clause-meaning c = (undo_leaves _ _ _ c.args.self.now.sound c.requires c.index_mut.result.now c.undo.new.self
    c.index_mut.ensures.value c.undo.ensures).means
