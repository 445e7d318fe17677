use Rattle.std.proofs.Common.{◌^◌, arith}
use Rattle.page_table.specs.Lists.{shelf_at}
use Rattle.page_table.proofs.CountedLemmas.{few_more, some_left}
use Rattle.page_table.proofs.counts.count_three.Goals as goal

pub count_two-requires-clause-few : goal.count_two-requires-clause-few
count_two-requires-clause-few c = λ d l m.
    few_more c.args.first d 1 (2 ^ 33) (shelf_at c.args.shelves.now.items)
    (shelf_at c.count.new.shelves.items) c.if-not-count.ensures.counts
    (c.requires.few d l (omega (arith, m, c.if-not-count.ensures.length)))

pub uncount-requires-clause-some : goal.uncount-requires-clause-some
uncount-requires-clause-some c = some_left c.args.first (shelf_at c.args.shelves.now.items)
    (shelf_at c.count.new.shelves.items) (shelf_at c.count_two.new.shelves.items) c.if-not-count.ensures.counts
    c.if-not-count_two.ensures.counts
