use Rattle.std.proofs.Common.{◌∙◌, sym, ap}
use Rattle.py_data.specs.declared.value.Value.TheVariants.{Ref}
use Rattle.py_data.proofs.Steps.{live_after}
use Rattle.obj_class.specs.Named.{method_of}
use Rattle.py_frames.specs.State as state
use Rattle.py_step.proofs.FastPaths.{load_method_is}
use Rattle.py_step.proofs.Moving.{more_moved, more_safe, moves_as, part_moved, part_safe, safe_as}
use Rattle.py_step.specs.inner.FastPath.{kind_method}
use Rattle.py_step.proofs.fast.load_method.Goals as goal

pub kind-requires-clause-safe : goal.kind-requires-clause-safe
kind-requires-clause-safe g c =
    let law = load_method_is c.args.p.now c.args.s.now c.args.n c.args.a c.requires.operand in
    part_safe g.V.View.sense _ _ _ law _ c.requires.safe

pub returns-in_err-kind : goal.returns-in_err-kind
returns-in_err-kind g c =
    let law = load_method_is c.args.p.now c.args.s.now c.args.n c.args.a c.requires.operand in
    part_moved g.V.View.sense _ _ _ law c.args.s.now _ _ _ _ c.in_err-kind.ensures c.from_residual.ensures.1

pub method_or_attr-requires-clause-live : goal.method_or_attr-requires-clause-live
method_or_attr-requires-clause-live g c =
    live_after g.V.View.sense g.met.V.View.lawful _ _ _ _ c.in_ok-kind.ensures c.requires.live

pub method_or_attr-requires-clause-safe : goal.method_or_attr-requires-clause-safe
method_or_attr-requires-clause-safe g c =
    let law = load_method_is c.args.p.now c.args.s.now c.args.n c.args.a c.requires.operand in
    let text = c.root_name.ensures ∙ ap (λ q. state.root_name q c.args.n) c.program.ensures in
    let method = c.method_of-method.ensures ∙ ap (method_of c.in_ok-kind.kind) text in
    safe_as g.V.View.sense _ _ _ (ap (kind_method c.args.p.now c.args.s.now c.args.n (Ref c.args.a)) (sym method))
    (more_safe g.V.View.sense _ _ _ law g.met.V.View.lawful _ _ _ c.requires.safe c.in_ok-kind.ensures)

pub returns : goal.returns
returns g c =
    let law = load_method_is c.args.p.now c.args.s.now c.args.n c.args.a c.requires.operand in
    let text = c.root_name.ensures ∙ ap (λ q. state.root_name q c.args.n) c.program.ensures in
    let method = c.method_of-method.ensures ∙ ap (method_of c.in_ok-kind.kind) text in
    more_moved g.V.View.sense _ _ _ law c.args.s.now _ _ _ _ _ _ c.in_ok-kind.ensures
    (moves_as g.V.View.sense _ _ _ _ _ _ _ (ap (kind_method c.args.p.now c.args.s.now c.args.n (Ref c.args.a))
    (sym method)) c.method_or_attr.ensures)
