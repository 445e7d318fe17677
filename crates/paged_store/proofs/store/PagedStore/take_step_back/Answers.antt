use Rattle.std.proofs.Common.{ap, arith}
use Rattle.page_table.specs.Pages.{Table}
use Rattle.paged_store.proofs.StoreCalls.{segment_in}
use Rattle.paged_store.proofs.StoreEnds.{table_segment, draft_fits_marks, room_for_step, undo_stands}
use Rattle.paged_store.proofs.store.PagedStore.take_step_back.Goals as goal

pub index_mut-draft-requires : goal.index_mut-draft-requires
index_mut-draft-requires c = let l = segment_in c.args.self.now c.args.k c.requires in
    omega (arith, l, c.args.self.now.drafts.ok.0)

pub take_back-requires-clause-segment : goal.take_back-requires-clause-segment
take_back-requires-clause-segment c = table_segment c.args.self.now c.args.k c.requires

pub take_back-requires-clause-fits : goal.take_back-requires-clause-fits
take_back-requires-clause-fits c = draft_fits_marks c.args.self.now c.args.k c.requires c.index_mut-draft.result.now
    c.index_mut-draft.ensures.value

pub take_back-requires-clause-room : goal.take_back-requires-clause-room
take_back-requires-clause-room c = room_for_step c.args.self.now c.args.k c.requires c.index_mut-draft.result.now
    c.index_mut-draft.ensures.value

pub invariant_of-self : goal.invariant_of-self
invariant_of-self c = record {
  sound = (undo_stands c.args.self.now c.args.k c.requires c.index_mut-draft.result.now
      c.index_mut-draft.ensures.value c.take_back.new.self c.take_back.new.pages c.take_back.new.marks
      c.take_back.ensures.draft c.take_back.ensures.table c.take_back.ensures.holders).sound;
}

pub returns-clause-meaning : goal.returns-clause-meaning
returns-clause-meaning c = (undo_stands c.args.self.now c.args.k c.requires c.index_mut-draft.result.now
    c.index_mut-draft.ensures.value c.take_back.new.self c.take_back.new.pages c.take_back.new.marks
    c.take_back.ensures.draft c.take_back.ensures.table c.take_back.ensures.holders).means

pub returns-clause-reserved : goal.returns-clause-reserved
returns-clause-reserved c = ap (λ (t : Table). t.reserved) c.take_back.ensures.table.others
