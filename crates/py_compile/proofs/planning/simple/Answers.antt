use Rattle.std.proofs.Common.{arith}
use Rattle.py_templates.specs.Statements.{stated}
use Rattle.py_compile.specs.inner.Plans.{simple_stmt}
use Rattle.py_compile.proofs.Plans.{add_plan, simple_bodies, simple_code}
use Rattle.py_compile.proofs.planning.simple.Goals as goal

pub returns-clause-plans : goal.returns-clause-plans
returns-clause-plans c = add_plan c.args.out.now _ _ (λ n d. (stated (simple_stmt c.args.s)).code n d c.args.first)
    c.in_ok-push.ensures.ok (λ n d. simple_code c.args.s n d c.args.first)

pub returns-clause-number : goal.returns-clause-number
returns-clause-number c = let e = simple_bodies c.args.s in omega (arith, e)
