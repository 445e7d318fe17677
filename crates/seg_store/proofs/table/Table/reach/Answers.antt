use Rattle.seg_store.specs.inner.Table.{table_heap}
use Rattle.std.proofs.Common.{rules, arith, ◌≡◌, ◌≤◌, ◌+◌, ◌-◌, ◌++◌, length, take, replicate, slice_get, vec_len}
use Rattle.seg_store.proofs.Placing.{reached_resize}
use Rattle.seg_store.proofs.table.Table.reach.Goals as goal

pub returns-in_ok-resize-clause-same : goal.returns-in_ok-resize-clause-same
unfolding table_heap
returns-in_ok-resize-clause-same c =
    let e : c.resize.new.self.items ≡ take (c.args.a + 1) c.args.self.now.places.items ++ replicate
    (c.args.a + 1 - vec_len c.args.self.now.places) 0 = search rules in
    let l : length c.args.self.now.places.items ≤ c.args.a + 1 = omega (arith, c.args.self.now.places.ok.0) in
    (reached_resize c.args.self.now.places.items c.resize.new.self.items (c.args.a + 1)
    (c.args.a + 1 - vec_len c.args.self.now.places) (slice_get c.args.self.now.list.items) c.args.self.now.placed l
    e).heap
