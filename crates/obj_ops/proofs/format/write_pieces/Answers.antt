use Rattle.std.proofs.Common.{arith, ℕ, List, subst, Ok}
use Rattle.py_data.specs.declared.record.Got.{Got}
use Rattle.py_data.specs.Row.{Row}
use Rattle.py_data.specs.Sense.{Meets}
use Rattle.py_data.proofs.Steps.{stop_as}
use Rattle.py_data.proofs.Turns.{each_safe, each_stop, each_more, each_raised, each_end}
use Rattle.obj_ops.specs.Format.{piece_row, piece_at}
use Rattle.obj_ops.proofs.Loops.{pieces_begin}
use Rattle.obj_ops.proofs.format.write_pieces.Goals as goal

pub turns-init : goal.turns-init
turns-init g c = pieces_begin c.args.roots.0 c.args.ps.now c.args.args.now c.len-n.result c.new-out.result _
    c.len-n.ensures c.new-out.ensures c.requires.safe c.requires.live

pub write_at-requires-clause-live : goal.write_at-requires-clause-live
write_at-requires-clause-live g c = c.turns.invariant.live

pub write_at-requires-clause-safe : goal.write_at-requires-clause-safe
write_at-requires-clause-safe g c = each_safe
    (λ i. piece_row c.args.roots.0 c.args.args.now (piece_at c.args.ps.now i)) c.turns.i c.len-n.result c.turns.out
    (omega arith) c.turns.invariant

pub returns-in_err-next : goal.returns-in_err-next
returns-in_err-next g c = stop_as _ _ _ _ _ _
    (each_stop (λ i. piece_row c.args.roots.0 c.args.args.now (piece_at c.args.ps.now i)) _ _ c.turns.i c.len-n.result
    c.turns.out (omega arith) c.turns.invariant c.in_err-next.ensures) c.from_residual.ensures.1

pub returns-in-Raise : goal.returns-in-Raise
returns-in-Raise g c =
    let f : ℕ → List ℕ → Row g.row.S.Denot (Got (List ℕ)) = λ i.
    piece_row c.args.roots.0 c.args.args.now (piece_at c.args.ps.now i) in
    each_raised f g.met.V.View.lawful _ c.turns.i c.len-n.result c.turns.out c.in-Raise.e (omega arith)
    c.turns.invariant (subst (λ r. Meets g.V.View.sense (f c.turns.i c.turns.out) c.turns.v c.write_at.new.v
    (Ok r)) c.in-Raise.is c.in_ok-next.ensures)

pub turns-preserved : goal.turns-preserved
turns-preserved g c =
    let f : ℕ → List ℕ → Row g.row.S.Denot (Got (List ℕ)) = λ i.
    piece_row c.args.roots.0 c.args.args.now (piece_at c.args.ps.now i) in
    each_more f g.met.V.View.lawful _ c.turns.i c.len-n.result c.turns.out c.in-Is.text (omega arith) c.turns.invariant
    (subst (λ r. Meets g.V.View.sense (f c.turns.i c.turns.out) c.turns.v c.write_at.new.v (Ok r)) c.in-Is.is
    c.in_ok-next.ensures)

pub returns : goal.returns
returns g c = each_end (λ i. piece_row c.args.roots.0 c.args.args.now (piece_at c.args.ps.now i)) c.turns.i
    c.len-n.result c.turns.out (omega arith) c.turns.invariant
