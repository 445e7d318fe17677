use Rattle.std.proofs.Common.{◌≡◌, ◌-◌, [], ◌∷◌}
use Rattle.py_grammar.specs.inner.Lines.{imports_at}
use Rattle.py_lines.specs.inner.SimplePieces.{may_import}
use Rattle.py_lines.proofs.imports.imports.Given as goal

abbrev pub invariant-turns : goal.invariant-turns
invariant-turns l = imports_at (may_import l.fn.what) l.fn.turns (l.fn.first ∷ []) l.fn.tokens ≡ imports_at
    (may_import l.fn.what) (l.fn.turns - l._turn) l.found l.more
