use Rattle.paged_store.proofs.StoreCalls.{segment_marks, seen_granule, mark_stands}
use Rattle.paged_store.proofs.store.PagedStore.note_look.Goals as goal

pub mark-requires-clause-segment : goal.mark-requires-clause-segment
mark-requires-clause-segment c = segment_marks c.args.self.now c.args.k c.requires.segment

pub mark-requires-clause-granule : goal.mark-requires-clause-granule
mark-requires-clause-granule c = seen_granule c.args.self.now c.args.k c.args.a.0 c.requires.there

pub invariant_of-self : goal.invariant_of-self
invariant_of-self c = record {
  sound = (mark_stands c.args.self.now c.args.k c.mark.new.self c.mark.ensures.sizes c.mark.ensures.holders c.args.a.0
      c.mark.ensures.marks).sound;
}

pub returns-clause-ok : goal.returns-clause-ok
returns-clause-ok c = (mark_stands c.args.self.now c.args.k c.mark.new.self c.mark.ensures.sizes
    c.mark.ensures.holders c.args.a.0 c.mark.ensures.marks).means
