use Rattle.std.proofs.Common.{◌≡◌, drop, map}
use Rattle.std.specs.List.{list_any}
use Rattle.py_templates.specs.Whole.{is_long}
use Rattle.py_compile.proofs.compiler.has_long.Given as goal

abbrev pub invariant-loop-text : goal.invariant-loop-text
invariant-loop-text l = (map (λ x. x.now) l.text-items ≡ l.texts) ×
    (list_any is_long (map (λ x. x.now) (drop l.text-index l.text-items)) ≡ list_any is_long
    (map (λ x. x.now) l.text-items))
