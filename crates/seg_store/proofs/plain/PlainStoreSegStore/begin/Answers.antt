use Rattle.seg_store.proofs.Stores.{begin_leaves}
use Rattle.seg_store.proofs.plain.PlainStoreSegStore.begin.Goals as goal

pub invariant_of-self : goal.invariant_of-self
invariant_of-self c = record {
  sound = (begin_leaves _ _ _ c.args.self.now.sound c.requires.segment
      c.index_mut.result.now c.forget.new.self c.index_mut.ensures.value c.forget.ensures).sound;
}

pub returns-clause-meaning : goal.returns-clause-meaning
returns-clause-meaning c = (begin_leaves _ _ _ c.args.self.now.sound c.requires.segment c.index_mut.result.now
    c.forget.new.self c.index_mut.ensures.value c.forget.ensures).means
