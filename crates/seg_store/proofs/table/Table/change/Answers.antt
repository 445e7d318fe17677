use Rattle.seg_store.specs.inner.Table.{table_heap}
use Rattle.std.proofs.Common.{slice_get}
use Rattle.seg_store.proofs.Placing.{slot_changed, slot_same}
use Rattle.seg_store.proofs.table.Table.change.Goals as goal

pub returns-clause-ok : goal.returns-clause-ok
unfolding table_heap
returns-clause-ok c = slot_changed (slice_get c.args.self.now.places.items) c.args.self.now.list.items c.found-p.result
    c.args.a c.args.c c.index_mut.result.now c.change_in.new.slot c.args.self.now.placed c.found-p.ensures
    c.index_mut.ensures.value c.requires c.change_in.ensures.address c.change_in.result c.change_in.ensures.ok

pub returns-clause-err : goal.returns-clause-err
unfolding table_heap
returns-clause-err c = slot_same (slice_get c.args.self.now.places.items) c.args.self.now.list.items c.found-p.result
    c.args.a c.args.c c.index_mut.result.now c.change_in.new.slot c.args.self.now.placed c.found-p.ensures
    c.index_mut.ensures.value c.requires c.change_in.ensures.address c.change_in.result c.change_in.ensures.err
