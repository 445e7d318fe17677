use Rattle.std.proofs.Common.{◌≡◌, ◌++◌, []}
use Rattle.std.specs.Prelude.{replicate}
use Rattle.py_templates.specs.Whole.{slots_named}
use Rattle.py_compile.proofs.codes.slots.Given as goal

abbrev pub invariant-loop : goal.invariant-loop
invariant-loop l = l.out ≡ slots_named l.is_class l.locals ++ replicate l.counter []
