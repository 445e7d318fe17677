use Rattle.std.proofs.Common.{rules}
use Rattle.seg_store.specs.inner.Table.{table_heap}
use Rattle.seg_store.proofs.Placing.{put_by}
use Rattle.seg_store.proofs.table.Table.put.Goals as goal

pub invariant_of-self-2 : goal.invariant_of-self-2
unfolding table_heap
invariant_of-self-2 c = record {
  placed = (put_by c.reach.new.self.places.items c.reach.new.self.list.items c.push.new.self.items
      (table_heap c.args.self.now) c.args.a c.len.result c.args.r c.reach.new.self.placed c.reach.ensures.same
      c.requires (search rules) (search rules) (search rules)).placed;
}

pub returns-clause-ok : goal.returns-clause-ok
unfolding table_heap
returns-clause-ok c =
    (put_by c.reach.new.self.places.items c.reach.new.self.list.items c.push.new.self.items
    (table_heap c.args.self.now) c.args.a c.len.result c.args.r c.reach.new.self.placed c.reach.ensures.same
    c.requires (search rules) (search rules) (search rules)).heap
