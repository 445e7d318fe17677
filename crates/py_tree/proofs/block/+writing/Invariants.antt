use Rattle.std.proofs.Common.{◌≡◌, drop}
use Rattle.py_tree.specs.Canonical.{in_order, pieces}
use Rattle.py_tree.specs.inner.Clauses.{lexemes_if, lexemes_handlers, resumed}
use Rattle.py_tree.specs.inner.Page.{put_all}
use Rattle.py_tree.proofs.Sheets.{arms_from}
use Rattle.py_tree.proofs.block.+writing.Given as goal

abbrev pub invariant-statements-loop-s : goal.invariant-statements-loop-s
invariant-statements-loop-s l = put_all l.w (resumed l.short l.before (pieces (drop l.s-index l.ss))) ≡ put_all
    l.initial.w (in_order l.short (pieces l.ss))

abbrev pub invariant-arms-loop-a : goal.invariant-arms-loop-a
invariant-arms-loop-a l = put_all l.w (arms_from l.word (drop l.a-index l.each)) ≡ put_all l.initial.w
    (lexemes_if l.each)

abbrev pub invariant-handlers-loop-h : goal.invariant-handlers-loop-h
invariant-handlers-loop-h l = put_all l.w (lexemes_handlers (drop l.h-index l.each)) ≡ put_all l.initial.w
    (lexemes_handlers l.each)
