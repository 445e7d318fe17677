use Rattle.std.proofs.Common.{◌≡◌, drop, map}
use Rattle.py_tree.specs.Canonical.{param_words}
use Rattle.py_tree.specs.Spelling.{commas}
use Rattle.py_tree.specs.inner.Page.{spell, listed}
use Rattle.py_tree.proofs.simple.params.Given as goal

abbrev pub invariant-loop-p : goal.invariant-loop-p
invariant-loop-p l = spell l.line l.w (listed l.comma (map param_words (drop l.p-index l.ps))) ≡ spell l.line
    l.initial.w (commas (map param_words l.ps))
