use Rattle.std.proofs.Common.{◌-◌, false}
use Rattle.py_data.specs.declared.record.Got.TheVariants.{Is}
use Rattle.py_data.specs.Looking.{until_row}
use Rattle.py_data.specs.inner.Rest.{Leads}
use Rattle.obj_ops.specs.Contains.{item_row, items_row, goes_on}
use Rattle.obj_ops.proofs.contain.is_item.Given as goal

abbrev pub invariant-turns : goal.invariant-turns
invariant-turns g l = Leads g.V.View.sense (items_row l.x l.a.0 l.n) l.fn.v
    (until_row (item_row l.x l.a.0) goes_on (Is false) l.i (l.n - l.i)) l.v
