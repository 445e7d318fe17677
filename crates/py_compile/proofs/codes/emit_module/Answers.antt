use Rattle.std.proofs.Common.{[], subst}
use Rattle.py_emit.specs.inner.State.{Emitted, no_frames}
use Rattle.py_templates.specs.Statements.{all_stated, pieces}
use Rattle.py_templates.specs.Template.{row}
use Rattle.py_compile.proofs.Compiled.{module_arm}
use Rattle.py_compile.proofs.codes.emit_module.Goals as goal

pub returns-clause-done : goal.returns-clause-done
returns-clause-done c =
    module_arm c.args.body.now.line (row (pieces (all_stated c.args.body.now.block.now) c.args.names.now [] 1))
    no_frames
    c.args.e.now c.put.new.self c.block-2.new.e c.put-2.new.self c.put-3.new.self
    c.in_ok-put.ensures.done (subst (λ z. Emitted c.put.new.self c.block-2.new.e z no_frames)
    (c.in_ok-plans.ensures.plans c.args.names.now []) (rw c.as_slice.ensures at c.in_ok-block.ensures.done))
    c.in_ok-put-2.ensures.done c.in_ok-put-3.ensures.done
