use Rattle.std.proofs.Common.{arith}
use Rattle.obj_seq.proofs.RangeItems.{item_fits, item_steps}
use Rattle.obj_seq.proofs.range.range_item.Goals as goal

pub overflow_cast-result-4 : goal.overflow_cast-result-4
overflow_cast-result-4 c =
    let item = item_fits c.args.start c.args.stop c.args.step c.args.k c.ranges.start c.ranges.stop c.requires.within in
    let s = item_steps c.args.start c.args.step c.args.k c.ranges.start c.ranges.step (omega arith) item in
    simp (s.short_start, s.short_step, s.wide_start, s.wide_step, s.count, s.product, s.whole) item

pub returns : goal.returns
returns c =
    let item = item_fits c.args.start c.args.stop c.args.step c.args.k c.ranges.start c.ranges.stop c.requires.within in
    let s = item_steps c.args.start c.args.step c.args.k c.ranges.start c.ranges.step (omega arith) item in
    simp (s.short_start, s.short_step, s.wide_start, s.wide_step, s.count, s.product, s.whole, s.item)
