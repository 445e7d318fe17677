use Rattle.std.proofs.Common.{ap, arith}
use Rattle.page_table.specs.Pages.{Table}
use Rattle.paged_store.proofs.StoreCalls.{segment_in}
use Rattle.paged_store.proofs.StoreEnds.{table_segment, draft_fits_marks, room_for_all, drop_stands}
use Rattle.paged_store.proofs.store.PagedStore.drop_all.Goals as goal

pub index_mut-draft-requires : goal.index_mut-draft-requires
index_mut-draft-requires c = let l = segment_in c.args.self.now c.args.k c.requires in
    omega (arith, l, c.args.self.now.drafts.ok.0)

pub let_go-requires-clause-segment : goal.let_go-requires-clause-segment
let_go-requires-clause-segment c = table_segment c.args.self.now c.args.k c.requires

pub let_go-requires-clause-fits : goal.let_go-requires-clause-fits
let_go-requires-clause-fits c = draft_fits_marks c.args.self.now c.args.k c.requires c.index_mut-draft.result.now
    c.index_mut-draft.ensures.value

pub let_go-requires-clause-room : goal.let_go-requires-clause-room
let_go-requires-clause-room c = room_for_all c.args.self.now c.args.k c.requires c.index_mut-draft.result.now
    c.index_mut-draft.ensures.value

pub invariant_of-self : goal.invariant_of-self
invariant_of-self c = record {
  sound = (drop_stands c.args.self.now c.args.k c.requires c.index_mut-draft.result.now
      c.index_mut-draft.ensures.value c.let_go.new.self c.let_go.new.pages c.let_go.new.marks
      c.let_go.ensures.draft c.let_go.ensures.table c.let_go.ensures.holders).sound;
}

pub returns-clause-meaning : goal.returns-clause-meaning
returns-clause-meaning c = (drop_stands c.args.self.now c.args.k c.requires c.index_mut-draft.result.now
    c.index_mut-draft.ensures.value c.let_go.new.self c.let_go.new.pages c.let_go.new.marks
    c.let_go.ensures.draft c.let_go.ensures.table c.let_go.ensures.holders).means

pub returns-clause-reserved : goal.returns-clause-reserved
returns-clause-reserved c = ap (λ (t : Table). t.reserved) c.let_go.ensures.table.others
