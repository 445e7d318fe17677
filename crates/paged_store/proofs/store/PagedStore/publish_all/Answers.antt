use Rattle.std.proofs.Common.{ap, arith}
use Rattle.page_table.specs.Pages.{Table}
use Rattle.paged_store.proofs.StoreCalls.{segment_in}
use Rattle.paged_store.proofs.StoreEnds.{table_segment, draft_fits, publish_stands}
use Rattle.paged_store.proofs.store.PagedStore.publish_all.Goals as goal

pub index_mut-draft-requires : goal.index_mut-draft-requires
index_mut-draft-requires c = let l = segment_in c.args.self.now c.args.k c.requires in
    omega (arith, l, c.args.self.now.drafts.ok.0)

pub publish-requires-clause-segment : goal.publish-requires-clause-segment
publish-requires-clause-segment c = table_segment c.args.self.now c.args.k c.requires

pub publish-requires-clause-fits : goal.publish-requires-clause-fits
publish-requires-clause-fits c = draft_fits c.args.self.now c.args.k c.requires c.index_mut-draft.result.now
    c.index_mut-draft.ensures.value

pub publish-requires-clause-granules : goal.publish-requires-clause-granules
publish-requires-clause-granules c = c.args.self.now.sound.addresses

pub invariant_of-self : goal.invariant_of-self
invariant_of-self c = record {
  sound = (publish_stands c.args.self.now c.args.k c.requires c.index_mut-draft.result.now
      c.index_mut-draft.ensures.value c.publish.new.self c.publish.new.pages c.publish.new.present.items
      c.publish.new.marks c.publish.ensures.draft c.publish.ensures.table c.publish.ensures.present
      c.publish.ensures.holders).sound;
}

pub returns-clause-meaning : goal.returns-clause-meaning
returns-clause-meaning c = (publish_stands c.args.self.now c.args.k c.requires c.index_mut-draft.result.now
    c.index_mut-draft.ensures.value c.publish.new.self c.publish.new.pages c.publish.new.present.items
    c.publish.new.marks c.publish.ensures.draft c.publish.ensures.table c.publish.ensures.present
    c.publish.ensures.holders).means

pub returns-clause-reserved : goal.returns-clause-reserved
returns-clause-reserved c = ap (λ (t : Table). t.reserved) c.publish.ensures.table

pub returns-clause-peaks : goal.returns-clause-peaks
returns-clause-peaks c = λ i n. ((c.publish.ensures.table i).shelf n).total
