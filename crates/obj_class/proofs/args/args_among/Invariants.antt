use Rattle.std.proofs.Common.{◌-◌, None}
use Rattle.py_data.specs.inner.Rest.{Leads}
use Rattle.py_data.specs.Looking.{until_row}
use Rattle.obj_class.specs.Telling.{args_among_row, args_pair_row, is_missing}
use Rattle.obj_class.proofs.args.args_among.Given as goal

abbrev pub invariant-turns : goal.invariant-turns
invariant-turns g l = Leads g.V.View.sense (args_among_row l.d.0 l.n) l.fn.v
    (until_row (args_pair_row l.d.0) is_missing None l.i (l.n - l.i)) l.v
