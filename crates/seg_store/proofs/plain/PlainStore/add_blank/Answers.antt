use Rattle.std.proofs.Common.{None, refl}
use Rattle.std.specs.Result.{is_ok}
use Rattle.seg_store.proofs.Stores.{blank_leaves}
use Rattle.seg_store.proofs.plain.PlainStore.add_blank.Goals as goal

pub invariant_of-self : goal.invariant_of-self
invariant_of-self c = record {
  sound = (blank_leaves c.args.self.now.image.items c.push.new.self.items
      c.args.self.now.hands.items None (is_ok c.push.result) c.args.self.now.sound refl c.push.ensures.items).sound;
}

pub returns-clause-same : goal.returns-clause-same
returns-clause-same c = (blank_leaves c.args.self.now.image.items c.push.new.self.items c.args.self.now.hands.items
    None (is_ok c.push.result) c.args.self.now.sound refl c.push.ensures.items).means
