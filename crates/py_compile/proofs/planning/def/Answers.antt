use Rattle.std.proofs.Common.{ap, ◌∙◌}
use Rattle.py_templates.specs.Names.{home}
use Rattle.py_templates.specs.Expressions.{values}
use Rattle.py_templates.specs.Statements.{defaults}
use Rattle.py_templates.specs.Table.{def}
use Rattle.py_compile.proofs.Plans.{add_plan, planned_def}
use Rattle.py_compile.proofs.planning.def.Goals as goal

pub returns-clause-plans : goal.returns-clause-plans
returns-clause-plans c = add_plan c.args.out.now _ _
    (λ n d. def c.args.line (values n c.args.line (defaults c.args.params.now)) c.args.first (home n c.args.name.now))
    c.in_ok-push.ensures.ok (λ n d. planned_def c.args.line c.args.name _ c.args.first n d ∙
    ap (λ z. def c.args.line (values n c.args.line z) c.args.first (home n c.args.name.now)) c.from_default.ensures)
