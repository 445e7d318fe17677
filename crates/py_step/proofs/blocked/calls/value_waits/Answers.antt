use Rattle.std.proofs.Common.{refl, ◌∙◌}
use Rattle.py_frames.specs.Binding.{with_own}
use Rattle.py_step.proofs.BuiltinWaits.{two_in_method}
use Rattle.py_step.proofs.CallWaits.{known_tells, plain_call, bound_call, record_goes, value_goes, own_names}
use Rattle.py_step.proofs.blocked.calls.value_waits.Goals as goal

pub method_waits-requires-clause-method : goal.method_waits-requires-clause-method
method_waits-requires-clause-method g c = let i = c.in-Some.ensures in
    two_in_method (g.P.Peek.image c.args.heap.now) c.requires.closed c.in-Some.a.0 i.1 i.2

pub returns-in-Builtin : goal.returns-in-Builtin
returns-in-Builtin g c = λ s k m a all n.
    let h = g.P.Peek.image c.args.heap.now in
    let b = c.builtin_waits.result in
    let t = known_tells h b s k c.args.me c.args.args.now c.args.own c.args.own c.in-Builtin.b m a refl
    (c.builtin_waits.ensures s.roots) in
    plain_call h b s c.args.own c.args.called k c.in-Builtin.b c.in-Builtin.is n t

pub returns-in-Some : goal.returns-in-Some
returns-in-Some g c = λ s k m a all n.
    let h = g.P.Peek.image c.args.heap.now in
    let b = c.method_waits.result in
    let i = c.in-Some.ensures in
    bound_call h b s c.args.own c.args.called k c.in-Some.a i.0 i.1 i.2
    (c.method_waits.ensures s (with_own c.args.own k) m all (own_names h c.args.own k ∙ n))

pub returns-in-None : goal.returns-in-None
returns-in-None g c = λ s k m a all n. record_goes (g.P.Peek.image c.args.heap.now) s c.args.own c.args.called k
    c.in-Ref.field-0 c.in-Ref.is c.requires.called c.in-None.ensures

pub returns-in_default : goal.returns-in_default
returns-in_default g c = λ s k m a all n. value_goes (g.P.Peek.image c.args.heap.now) s c.args.own c.args.called k
    c.in_default.not-Builtin c.in_default.not-Ref
