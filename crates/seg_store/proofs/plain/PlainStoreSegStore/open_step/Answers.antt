use Rattle.seg_store.proofs.Stores.{open_leaves}
use Rattle.seg_store.proofs.plain.PlainStoreSegStore.open_step.Goals as goal

pub invariant_of-self : goal.invariant_of-self
invariant_of-self c = record {
  sound = (open_leaves _ _ _ c.args.self.now.sound c.requires c.index_mut.result.now
      c.open.new.self c.index_mut.ensures.value c.open.ensures).sound;
}

pub returns-clause-meaning : goal.returns-clause-meaning
returns-clause-meaning c = (open_leaves _ _ _ c.args.self.now.sound c.requires c.index_mut.result.now c.open.new.self
    c.index_mut.ensures.value c.open.ensures).means
