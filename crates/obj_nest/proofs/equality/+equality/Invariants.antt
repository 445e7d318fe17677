use Rattle.std.proofs.Common.{◌+◌, ◌*◌, ◌-◌, true}
use Rattle.py_data.specs.declared.record.Got.TheVariants.{Is}
use Rattle.py_data.specs.inner.Rest.{Leads}
use Rattle.py_data.specs.Looking.{until_row}
use Rattle.obj_nest.specs.Equal.{equal_levels, item_row, pair_row, is_equal}
use Rattle.obj_nest.proofs.equality.+equality.Given as goal

abbrev pub decreases-equal_at : goal.decreases-equal_at
decreases-equal_at g l = 16 * l.levels + 4

abbrev pub decreases-records : goal.decreases-records
decreases-records g l = 16 * l.levels + 3

abbrev pub decreases-paired_by : goal.decreases-paired_by
decreases-paired_by g l = 16 * l.levels + 2

abbrev pub decreases-leveled_items : goal.decreases-leveled_items
decreases-leveled_items g l = 16 * l.levels + 1

abbrev pub decreases-leveled_pairs : goal.decreases-leveled_pairs
decreases-leveled_pairs g l = 16 * l.levels + 1

abbrev pub decreases-items : goal.decreases-items
decreases-items g l = 16 * l.levels + 10

abbrev pub decreases-items_from : goal.decreases-items_from
decreases-items_from g l = 16 * l.levels + 9

abbrev pub decreases-items_sized : goal.decreases-items_sized
decreases-items_sized g l = 16 * l.levels + 8

abbrev pub decreases-every_item : goal.decreases-every_item
decreases-every_item g l = 16 * l.levels + 7

abbrev pub decreases-item : goal.decreases-item
decreases-item g l = 16 * l.levels + 6

abbrev pub decreases-item_with : goal.decreases-item_with
decreases-item_with g l = 16 * l.levels + 5

abbrev pub decreases-pairs : goal.decreases-pairs
decreases-pairs g l = 16 * l.levels + 12

abbrev pub decreases-pairs_from : goal.decreases-pairs_from
decreases-pairs_from g l = 16 * l.levels + 11

abbrev pub decreases-pairs_sized : goal.decreases-pairs_sized
decreases-pairs_sized g l = 16 * l.levels + 10

abbrev pub decreases-every_pair : goal.decreases-every_pair
decreases-every_pair g l = 16 * l.levels + 9

abbrev pub decreases-pair : goal.decreases-pair
decreases-pair g l = 16 * l.levels + 8

abbrev pub decreases-pair_with : goal.decreases-pair_with
decreases-pair_with g l = 16 * l.levels + 7

abbrev pub decreases-sought : goal.decreases-sought
decreases-sought g l = 16 * l.levels + 6

abbrev pub decreases-found : goal.decreases-found
decreases-found g l = 16 * l.levels + 5

abbrev pub invariant-every_item-turns : goal.invariant-every_item-turns
invariant-every_item-turns g l =
    let f = item_row (equal_levels l.levels) l.a.0 l.b.0 in
    Leads g.V.View.sense (until_row f is_equal (Is true) 0 l.n) l.fn.v (until_row f is_equal (Is true) l.i (l.n - l.i))
    l.v

abbrev pub invariant-every_pair-turns : goal.invariant-every_pair-turns
invariant-every_pair-turns g l =
    let f = pair_row (equal_levels l.levels) l.a.0 l.b.0 in
    Leads g.V.View.sense (until_row f is_equal (Is true) 0 l.n) l.fn.v (until_row f is_equal (Is true) l.i (l.n - l.i))
    l.v
