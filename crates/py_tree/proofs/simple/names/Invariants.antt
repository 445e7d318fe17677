use Rattle.std.proofs.Common.{◌≡◌, drop, map}
use Rattle.py_tree.specs.Canonical.{name_words}
use Rattle.py_tree.specs.Spelling.{commas}
use Rattle.py_tree.specs.inner.Page.{spell, listed}
use Rattle.py_tree.proofs.simple.names.Given as goal

abbrev pub invariant-loop-n : goal.invariant-loop-n
invariant-loop-n l = spell l.line l.w (listed l.comma (map name_words (drop l.n-index l.ns))) ≡ spell l.line
    l.initial.w (commas (map name_words l.ns))
