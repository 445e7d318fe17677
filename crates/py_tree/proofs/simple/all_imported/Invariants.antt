use Rattle.std.proofs.Common.{◌≡◌, drop, map}
use Rattle.py_tree.specs.Canonical.{imported_words}
use Rattle.py_tree.specs.Spelling.{commas}
use Rattle.py_tree.specs.inner.Page.{spell, listed}
use Rattle.py_tree.proofs.simple.all_imported.Given as goal

abbrev pub invariant-loop-i : goal.invariant-loop-i
invariant-loop-i l = spell l.line l.w (listed l.comma (map imported_words (drop l.i-index l.is))) ≡ spell l.line
    l.initial.w (commas (map imported_words l.is))
