use Rattle.std.proofs.Common.{◌-◌, None}
use Rattle.py_data.specs.declared.record.Got.TheVariants.{Is}
use Rattle.py_data.specs.Looking.{until_row}
use Rattle.py_data.specs.inner.Rest.{Leads}
use Rattle.obj_methods.specs.Lists.{place_row, first_of, goes_on}
use Rattle.obj_methods.proofs.searching.first_of.Given as goal

abbrev pub invariant-turns : goal.invariant-turns
invariant-turns g l = Leads g.V.View.sense (first_of l.x l.a.0 l.n) l.fn.v
    (until_row (place_row l.x l.a.0) goes_on (Is None) l.i (l.n - l.i)) l.v
