use Rattle.std.proofs.Common.{arith}
use Rattle.paged_store.proofs.StoreCalls.{segment_in, open_stands}
use Rattle.paged_store.proofs.store.PagedStore.begin_step.Goals as goal

pub index_mut-requires : goal.index_mut-requires
index_mut-requires c = let l = segment_in c.args.self.now c.args.k c.requires in
    omega (arith, l, c.args.self.now.drafts.ok.0)

pub invariant_of-self : goal.invariant_of-self
invariant_of-self c = record {
  sound = (open_stands c.args.self.now c.args.k c.requires c.index_mut.result.now
      c.open.new.self c.index_mut.ensures.value c.open.ensures).sound;
}

pub returns-clause-meaning : goal.returns-clause-meaning
returns-clause-meaning c = (open_stands c.args.self.now c.args.k c.requires c.index_mut.result.now c.open.new.self
    c.index_mut.ensures.value c.open.ensures).means
