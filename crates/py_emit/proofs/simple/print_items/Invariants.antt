use Rattle.std.proofs.Common.{length, map, List, ℕ}
use Rattle.py_templates.specs.Template.{Frame}
use Rattle.py_templates.specs.Table.{print_one}
use Rattle.py_templates.specs.Expressions.{values}
use Rattle.py_emit.proofs.Rests.{Rest}
use Rattle.py_emit.proofs.simple.print_items.Given as goal

abbrev pub invariant-items : goal.invariant-items
invariant-items l = (env : List ℕ → List Frame) →
    Rest env l.initial.e (map (print_one l.line) (values l.names l.line l.items)) l.e
    (map (print_one l.line) (values l.names l.line l.rest))

abbrev pub decreases-items : goal.decreases-items
decreases-items l = length l.rest
