use Rattle.std.proofs.Common.{subst}
use Rattle.py_step.proofs.FastPaths.{call_builtin_is, call_record_is}
use Rattle.py_step.proofs.Moving.{moves_as, safe_as}
use Rattle.py_step.specs.inner.FastPath.{IsCallee}
use Rattle.py_step.proofs.calls.call.Goals as goal

pub call_record-requires-clause-safe : goal.call_record-requires-clause-safe
call_record-requires-clause-safe g c =
    let law = call_record_is c.args.p.now c.args.s.now c.args.l c.args.m c.in-Record.a
    (subst (IsCallee c.args.p.now c.args.s.now c.args.m c.args.l) c.in-Record.is c.requires.callee) in
    safe_as g.V.View.sense _ _ _ law c.requires.safe

pub call_builtin-requires-clause-safe : goal.call_builtin-requires-clause-safe
call_builtin-requires-clause-safe g c =
    let law = call_builtin_is c.args.p.now c.args.s.now c.args.l c.args.m c.in-Builtin.b
    (subst (IsCallee c.args.p.now c.args.s.now c.args.m c.args.l) c.in-Builtin.is c.requires.callee) in
    safe_as g.V.View.sense _ _ _ law c.requires.safe

pub returns-in-Record : goal.returns-in-Record
returns-in-Record g c =
    let law = call_record_is c.args.p.now c.args.s.now c.args.l c.args.m c.in-Record.a
    (subst (IsCallee c.args.p.now c.args.s.now c.args.m c.args.l) c.in-Record.is c.requires.callee) in
    moves_as g.V.View.sense _ _ _ _ _ _ _ law c.call_record.ensures

pub returns-in-Builtin : goal.returns-in-Builtin
returns-in-Builtin g c =
    let law = call_builtin_is c.args.p.now c.args.s.now c.args.l c.args.m c.in-Builtin.b
    (subst (IsCallee c.args.p.now c.args.s.now c.args.m c.args.l) c.in-Builtin.is c.requires.callee) in
    moves_as g.V.View.sense _ _ _ _ _ _ _ law c.call_builtin.ensures
