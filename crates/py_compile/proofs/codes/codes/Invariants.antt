use Rattle.std.proofs.Common.{◌≡◌, None, take}
use Rattle.py_compile.specs.inner.Bodies.{known_in}
use Rattle.py_uses.specs.inner.Gathered.{numbered}
use Rattle.py_templates.specs.Whole.{codes_from, large_bodies}
use Rattle.py_compile.proofs.codes.codes.Given as goal

abbrev pub invariant-loop-body : goal.invariant-loop-body
invariant-loop-body l =
    (l.number ≡ l.body-index)
    × ((l.found ≡ large_bodies (known_in l.locals l.used) 0 (numbered 0 (take l.body-index l.bodies)))
    × (l.found ≡ None → l.out ≡ codes_from (known_in l.locals l.used) 0 (numbered 0 (take l.body-index l.bodies))))
