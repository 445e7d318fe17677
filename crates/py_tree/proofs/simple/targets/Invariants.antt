use Rattle.std.proofs.Common.{◌≡◌, drop}
use Rattle.py_tokens.specs.declared.operator.TheConstants as operator
use Rattle.py_tokens.specs.declared.token.TokenKind.TheVariants as k
use Rattle.py_tree.specs.Canonical.{all, ended}
use Rattle.py_tree.specs.inner.Page.{spell}
use Rattle.py_tree.proofs.simple.targets.Given as goal

abbrev pub invariant-loop-e : goal.invariant-loop-e
invariant-loop-e l = spell l.line l.w (ended (k.Op operator.ASSIGN) (all (drop l.e-index l.es))) ≡ spell l.line
    l.initial.w (ended (k.Op operator.ASSIGN) (all l.es))
