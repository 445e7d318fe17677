use Rattle.py_templates.specs.Names.{home}
use Rattle.py_templates.specs.Statements.{base}
use Rattle.py_templates.specs.Table.{class}
use Rattle.py_compile.proofs.Plans.{add_plan, planned_class}
use Rattle.py_compile.proofs.planning.class.Goals as goal

pub returns-clause-plans : goal.returns-clause-plans
returns-clause-plans c = add_plan c.args.out.now _ _
    (λ n d. class c.args.line (base n c.args.line c.args.x.now) c.args.first (home n c.args.name.now))
    c.in_ok-push.ensures.ok (λ n d. planned_class c.args.line c.args.name c.args.x c.args.first n d)
