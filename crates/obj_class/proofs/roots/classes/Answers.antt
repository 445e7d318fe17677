use Rattle.std.proofs.Common.{arith}
use Rattle.py_base.specs.Numbers.{class_count}
use Rattle.py_data.proofs.Steps.{stop_as}
use Rattle.obj_class.proofs.RootsSteps.{from_safe, from_stop, from_more, from_end}
use Rattle.obj_class.proofs.roots.classes.Goals as goal

pub next_root-requires-clause-safe : goal.next_root-requires-clause-safe
next_root-requires-clause-safe g c = from_safe c.turns.n class_count c.turns.values (omega arith) c.turns.invariant

pub returns-in_err-next : goal.returns-in_err-next
returns-in_err-next g c = stop_as _ _ _ _ _ _
    (from_stop _ _ c.turns.n class_count c.turns.values (omega arith) c.turns.invariant c.in_err-next.ensures)
    c.from_residual.ensures.1

pub turns-preserved : goal.turns-preserved
turns-preserved g c = from_more g.met.V.View.lawful _ c.turns.n class_count c.turns.values c.in_ok-next.next
    (omega arith) c.turns.invariant c.in_ok-next.ensures

pub returns : goal.returns
returns g c = from_end c.turns.n class_count c.turns.values (omega arith) c.turns.invariant
