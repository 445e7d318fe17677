use Rattle.std.proofs.Common.{◌+◌, ◌*◌, ◌-◌, None}
use Rattle.py_data.specs.declared.record.Got.TheVariants.{Is}
use Rattle.py_data.specs.inner.Rest.{Leads}
use Rattle.py_data.specs.Looking.{until_row}
use Rattle.obj_nest.specs.Ordering.{parts_at, turn_row, is_open}
use Rattle.obj_nest.proofs.ordering.+ordering.Given as goal

abbrev pub decreases-order_at : goal.decreases-order_at
decreases-order_at g l = 16 * l.levels + 4

abbrev pub decreases-ranked : goal.decreases-ranked
decreases-ranked g l = 16 * l.levels + 3

abbrev pub decreases-ordered_by : goal.decreases-ordered_by
decreases-ordered_by g l = 16 * l.levels + 2

abbrev pub decreases-leveled : goal.decreases-leveled
decreases-leveled g l = 16 * l.levels + 1

abbrev pub decreases-listed : goal.decreases-listed
decreases-listed g l = 16 * l.levels + 12

abbrev pub decreases-listed_from : goal.decreases-listed_from
decreases-listed_from g l = 16 * l.levels + 11

abbrev pub decreases-shared : goal.decreases-shared
decreases-shared g l = 16 * l.levels + 10

abbrev pub decreases-every_turn : goal.decreases-every_turn
decreases-every_turn g l = 16 * l.levels + 9

abbrev pub decreases-turn : goal.decreases-turn
decreases-turn g l = 16 * l.levels + 8

abbrev pub decreases-turn_with : goal.decreases-turn_with
decreases-turn_with g l = 16 * l.levels + 7

abbrev pub decreases-decided : goal.decreases-decided
decreases-decided g l = 16 * l.levels + 6

abbrev pub decreases-unequal : goal.decreases-unequal
decreases-unequal g l = 16 * l.levels + 5

abbrev pub invariant-every_turn-turns : goal.invariant-every_turn-turns
invariant-every_turn-turns g l =
    let f = turn_row (parts_at l.levels) l.a.0 l.b.0 in
    Leads g.V.View.sense (until_row f is_open (Is None) 0 l.n) l.fn.v (until_row f is_open (Is None) l.i (l.n - l.i))
    l.v
