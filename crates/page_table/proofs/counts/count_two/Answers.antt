use Rattle.std.proofs.Common.{◌^◌, arith}
use Rattle.page_table.specs.Lists.{shelf_at}
use Rattle.page_table.proofs.CountedLemmas.{few_more, some_left}
use Rattle.page_table.proofs.counts.count_two.Goals as goal

pub count-requires-2-clause-few : goal.count-requires-2-clause-few
count-requires-2-clause-few c = λ l.
    let few = few_more c.args.first c.args.second 0 (2 ^ 33) (shelf_at c.args.shelves.now.items)
    (shelf_at c.count.new.shelves.items) c.if-not-count.ensures.counts (c.requires.few c.args.second l c.requires.second)
    in omega (arith, few)

pub uncount-requires-clause-some : goal.uncount-requires-clause-some
uncount-requires-clause-some c = some_left c.args.first (shelf_at c.args.shelves.now.items)
    (shelf_at c.count.new.shelves.items) (shelf_at c.count-2.new.shelves.items) c.if-not-count.ensures.counts
    c.if-not-count-2.ensures.counts
