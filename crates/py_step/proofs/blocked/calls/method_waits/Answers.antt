use Rattle.std.proofs.Common.{sym, subst, ◌∙◌}
use Rattle.py_data.specs.Closed.{Refers}
use Rattle.py_data.specs.Heap.{at, value_at}
use Rattle.py_step.proofs.BuiltinWaits.{values_refer}
use Rattle.py_step.proofs.CallWaits.{known_tells, method_tells, method_goes}
use Rattle.py_step.proofs.StackRefers.{value_refers}
use Rattle.py_step.proofs.blocked.calls.method_waits.Goals as goal

pub builtin_waits-requires-clause-own : goal.builtin_waits-requires-clause-own
builtin_waits-requires-clause-own g c =
    let h = g.P.Peek.image c.args.heap.now in
    subst (Refers h) (sym c.peek_val-in-Builtin.ensures)
    (value_refers h (at h c.args.a.0).values 1 (values_refer h c.requires.closed c.args.a.0 c.requires.there))

pub returns-in-Builtin : goal.returns-in-Builtin
returns-in-Builtin g c = λ s k m a n.
    let h = g.P.Peek.image c.args.heap.now in
    let b = c.builtin_waits.result in
    let own = value_at (at h c.args.a.0).values 1 in
    let t = known_tells h b s k c.args.me c.args.args.now own c.peek_val-in-Builtin.result c.in-Builtin.b m a
    (sym c.peek_val-in-Builtin.ensures) (c.builtin_waits.ensures s.roots) in
    method_tells h c.args.a.0 c.requires.there b c.in-Builtin.b s k (sym c.peek_val.ensures ∙ c.in-Builtin.is) n t

pub returns-in_default : goal.returns-in_default
returns-in_default g c = λ s k m a n.
    method_goes (g.P.Peek.image c.args.heap.now) c.args.a.0 c.requires.there s k
    (λ b e. c.in_default.not-Builtin b (c.peek_val.ensures ∙ e))
