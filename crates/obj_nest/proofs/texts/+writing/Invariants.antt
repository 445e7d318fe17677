use Rattle.std.proofs.Common.{◌+◌, ◌*◌, ◌-◌}
use Rattle.py_data.specs.inner.Rest.{Leads}
use Rattle.py_data.specs.Looking.{each_row}
use Rattle.obj_nest.specs.Text.{write_levels, part_row, couple_row}
use Rattle.obj_nest.proofs.texts.+writing.Given as goal

abbrev pub decreases-write_at : goal.decreases-write_at
decreases-write_at g l = 16 * l.levels + 4

abbrev pub decreases-record : goal.decreases-record
decreases-record g l = 16 * l.levels + 3

abbrev pub decreases-by_kind : goal.decreases-by_kind
decreases-by_kind g l = 16 * l.levels + 2

abbrev pub decreases-leveled_list : goal.decreases-leveled_list
decreases-leveled_list g l = 16 * l.levels + 1

abbrev pub decreases-leveled_tuple : goal.decreases-leveled_tuple
decreases-leveled_tuple g l = 16 * l.levels + 1

abbrev pub decreases-leveled_dict : goal.decreases-leveled_dict
decreases-leveled_dict g l = 16 * l.levels + 1

abbrev pub decreases-list : goal.decreases-list
decreases-list g l = 16 * l.levels + 12

abbrev pub decreases-tuple : goal.decreases-tuple
decreases-tuple g l = 16 * l.levels + 12

abbrev pub decreases-dict : goal.decreases-dict
decreases-dict g l = 16 * l.levels + 12

abbrev pub decreases-items : goal.decreases-items
decreases-items g l = 16 * l.levels + 11

abbrev pub decreases-pairs : goal.decreases-pairs
decreases-pairs g l = 16 * l.levels + 11

abbrev pub decreases-every_part : goal.decreases-every_part
decreases-every_part g l = 16 * l.levels + 10

abbrev pub decreases-every_couple : goal.decreases-every_couple
decreases-every_couple g l = 16 * l.levels + 10

abbrev pub decreases-part : goal.decreases-part
decreases-part g l = 16 * l.levels + 9

abbrev pub decreases-couple : goal.decreases-couple
decreases-couple g l = 16 * l.levels + 9

abbrev pub decreases-keyed : goal.decreases-keyed
decreases-keyed g l = 16 * l.levels + 8

abbrev pub decreases-mapped : goal.decreases-mapped
decreases-mapped g l = 16 * l.levels + 7

abbrev pub invariant-every_part-turns : goal.invariant-every_part-turns
invariant-every_part-turns g l =
    let f = part_row (write_levels l.levels) l.a.0 in
    Leads g.V.View.sense (each_row f 0 l.n l.fn.out) l.fn.v (each_row f l.i (l.n - l.i) l.text) l.v

abbrev pub invariant-every_couple-turns : goal.invariant-every_couple-turns
invariant-every_couple-turns g l =
    let f = couple_row (write_levels l.levels) l.a.0 in
    Leads g.V.View.sense (each_row f 0 l.n l.fn.out) l.fn.v (each_row f l.i (l.n - l.i) l.text) l.v
