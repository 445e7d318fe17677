use Rattle.seg_store.proofs.Stores.{drop_leaves}
use Rattle.seg_store.proofs.plain.PlainStoreSegStore.drop_changes.Goals as goal

pub invariant_of-self : goal.invariant_of-self
invariant_of-self c = record {
  sound = (drop_leaves _ _ _ c.args.self.now.sound c.requires c.index_mut.result.now
      c.let_go.new.self c.index_mut.ensures.value c.let_go.ensures).sound;
}

pub returns-clause-meaning : goal.returns-clause-meaning
returns-clause-meaning c = (drop_leaves _ _ _ c.args.self.now.sound c.requires c.index_mut.result.now c.let_go.new.self
    c.index_mut.ensures.value c.let_go.ensures).means
