use Rattle.std.proofs.Common.{rules, slice_get}
use Rattle.seg_store.specs.inner.Table.{table_heap}
use Rattle.seg_store.proofs.Placing.{gave_one, gave_none, gave_all}
use Rattle.seg_store.proofs.table.Table.give.Goals as goal

pub records-preserved-in-Some-o : goal.records-preserved-in-Some-o
unfolding table_heap
records-preserved-in-Some-o c = gave_one (slice_get c.records.self.places.items) c.records.self.list.items
    c.pop.new.self.items c.in-Some.a c.in-Some.o c.args.image.now.items c.records.image.items
    (table_heap c.args.self.now) c.records.self.placed (search rules) c.records.invariant c.in-Some-o.r c.in-Some-o.is

pub records-preserved-in-Some-o-2 : goal.records-preserved-in-Some-o-2
unfolding table_heap
records-preserved-in-Some-o-2 c = gave_one (slice_get c.records.self.places.items) c.records.self.list.items
    c.pop.new.self.items c.in-Some.a c.in-Some.o c.args.image.now.items c.records.image.items
    (table_heap c.args.self.now) c.records.self.placed (search rules) c.records.invariant c.in-Some-o.r c.in-Some-o.is

pub records-preserved : goal.records-preserved
unfolding table_heap
records-preserved c = gave_none (slice_get c.records.self.places.items) c.records.self.list.items c.pop.new.self.items
    c.in-Some.a c.in-Some.o c.args.image.now.items c.records.image.items (table_heap c.args.self.now)
    c.records.self.placed (search rules) c.records.invariant c.in_default-o.not-Some

pub returns-clause-image : goal.returns-clause-image
unfolding table_heap
returns-clause-image c = gave_all (slice_get c.records.self.places.items) c.records.self.list.items
    c.args.image.now.items c.records.image.items (table_heap c.args.self.now) c.records.invariant (search rules)
