use Rattle.paged_store.proofs.StoreCalls.{segment_marks, begin_stands}
use Rattle.paged_store.proofs.store.PagedStore.forget_looks.Goals as goal

pub begin-requires : goal.begin-requires
begin-requires c = segment_marks c.args.self.now c.args.k c.requires

pub invariant_of-self : goal.invariant_of-self
invariant_of-self c = record {
  sound = (begin_stands c.args.self.now c.args.k c.begin.new.self c.begin.ensures.sizes c.begin.ensures.holders
      c.begin.ensures.marks).sound;
}

pub returns-clause-meaning : goal.returns-clause-meaning
returns-clause-meaning c = (begin_stands c.args.self.now c.args.k c.begin.new.self c.begin.ensures.sizes
    c.begin.ensures.holders c.begin.ensures.marks).means
