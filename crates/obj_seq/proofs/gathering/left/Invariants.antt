use Rattle.std.proofs.Common.{◌-◌, ◌+◌, ◌≤◌}
use Rattle.py_data.specs.declared.record.Got.TheVariants.{Raise}
use Rattle.py_data.specs.declared.record.TheConstants.{LENGTH_LIMIT}
use Rattle.py_data.specs.Fault.{memory_fault}
use Rattle.py_data.specs.Looking.{walk_row}
use Rattle.py_data.specs.inner.Rest.{Leads}
use Rattle.obj_seq.specs.Gather.{take_row, left_row}
use Rattle.obj_seq.proofs.gathering.left.Given as goal

abbrev pub invariant-turns : goal.invariant-turns
invariant-turns g l = record {
  leads : Leads g.V.View.sense (left_row {S = g.row.S.Denot} l.it.0) l.fn.v
      (walk_row (take_row l.it.0) (Raise memory_fault) (LENGTH_LIMIT + 1 - l.counter) l.values) l.v;
  within : l.counter ≤ LENGTH_LIMIT + 1;
}
