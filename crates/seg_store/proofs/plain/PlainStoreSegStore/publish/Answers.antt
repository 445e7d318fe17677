use Rattle.seg_store.proofs.Stores.{publish_reaches, publish_leaves}
use Rattle.seg_store.proofs.plain.PlainStoreSegStore.publish.Goals as goal

pub publish-requires : goal.publish-requires
publish-requires c = publish_reaches _ _ _ c.args.self.now.sound c.requires c.index_mut.result.now
    c.index_mut.result.now c.index_mut.ensures.value

pub invariant_of-self : goal.invariant_of-self
invariant_of-self c = record {
  sound = (publish_leaves _ _ _ c.args.self.now.sound c.requires c.index_mut.result.now
      c.publish.new.self c.index_mut.ensures.value c.publish.new.image.items c.publish.ensures.part
      c.publish.ensures.image c.publish.ensures.length).sound;
}

pub returns-clause-meaning : goal.returns-clause-meaning
returns-clause-meaning c = (publish_leaves _ _ _ c.args.self.now.sound c.requires c.index_mut.result.now
    c.publish.new.self c.index_mut.ensures.value c.publish.new.image.items c.publish.ensures.part
    c.publish.ensures.image c.publish.ensures.length).means
