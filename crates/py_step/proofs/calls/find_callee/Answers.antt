use Rattle.std.proofs.Common.{arith, [], get_or, sym, ◌∙◌}
use Rattle.py_frames.specs.State.{code_at}
use Rattle.py_step.specs.declared.calls.Callee.TheVariants as callee
use Rattle.py_step.proofs.FastPaths.{callee_is, empty_is}
use Rattle.py_step.proofs.calls.find_callee.Goals as goal

pub returns-in-Ref : goal.returns-in-Ref
returns-in-Ref c =
    callee_is c.args.p.now c.args.s.now c.args.l c.args.n c.in-Some.all (callee.Record c.in-Ref.a) _ c.in-Some-split.args.now
    (sym (c.keys_at.ensures ∙ (λ i. get_or (code_at (c.program.ensures i) (c.code.ensures i)).keys c.args.l [])) ∙
    empty_is c.keys_at.result.now c.if-not-is_empty.ensures) (omega (arith, c.in-Some.ensures))
    (sym c.operands.ensures ∙ c.in-Some-split.ensures) c.in-Ref.is c.if-args-n.true
    (sym c.if-not-has_unset.ensures)

pub returns-in-Builtin : goal.returns-in-Builtin
returns-in-Builtin c =
    callee_is c.args.p.now c.args.s.now c.args.l c.args.n c.in-Some.all (callee.Builtin c.in-Builtin.b) _ c.in-Some-split.args.now
    (sym (c.keys_at.ensures ∙ (λ i. get_or (code_at (c.program.ensures i) (c.code.ensures i)).keys c.args.l [])) ∙
    empty_is c.keys_at.result.now c.if-not-is_empty.ensures) (omega (arith, c.in-Some.ensures))
    (sym c.operands.ensures ∙ c.in-Some-split.ensures) c.in-Builtin.is c.if-args-n.true
    (sym c.if-not-has_unset.ensures)
