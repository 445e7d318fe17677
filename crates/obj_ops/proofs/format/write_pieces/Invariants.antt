use Rattle.std.proofs.Common.{◌-◌}
use Rattle.py_data.specs.Looking.{each_row}
use Rattle.py_data.specs.inner.Rest.{Leads}
use Rattle.obj_ops.specs.Format.{pieces_row, piece_row, piece_at}
use Rattle.obj_ops.proofs.format.write_pieces.Given as goal

abbrev pub invariant-turns : goal.invariant-turns
invariant-turns g l = Leads g.V.View.sense (pieces_row l.roots.0 l.ps l.args) l.fn.v
    (each_row (λ i. piece_row l.roots.0 l.args (piece_at l.ps i)) l.i (l.n - l.i) l.out) l.v
