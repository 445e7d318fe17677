use Rattle.std.proofs.Common.{map, subst}
use Rattle.py_compile.specs.inner.Deletions.{SameDeletions}
use Rattle.py_templates.specs.Expressions.{all_deleted}
use Rattle.py_templates.specs.Statements.{deletion}
use Rattle.py_compile.proofs.Plans.{add_plan, delete_plans, no_delete}
use Rattle.py_compile.proofs.planning.delete.Goals as goal

pub returns-then-is_empty-clause-plans : goal.returns-then-is_empty-clause-plans
returns-then-is_empty-clause-plans c = no_delete c.args.out.now c.args.line c.args.targets.now
    (subst (λ z. SameDeletions (map (λ y. y.now) z) c.args.targets.now) (c.is_empty.ensures.0 c.if-is_empty.true)
    c.in_ok-single.ensures)

pub returns-clause-plans : goal.returns-clause-plans
returns-clause-plans c = add_plan c.args.out.now _ _
    (λ n d. deletion c.args.line (all_deleted n c.args.line c.args.targets.now)) c.in_ok-push.ensures.ok
    (delete_plans c.args.line _ c.args.targets.now c.in_ok-single.ensures)
