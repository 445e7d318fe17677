use Rattle.py_tree.specs.Canonical.{imported_words}
use Rattle.py_tree.proofs.Pages.{listed_more}
use Rattle.py_tree.proofs.simple.all_imported.Goals as goal

pub loop-i-preserved : goal.loop-i-preserved
loop-i-preserved c = listed_more imported_words c.args.line c.loop-i.w c.separate.new.w c.imported.new.w _
    c.loop-i.comma c.args.is.now c.loop-i.i-index c.i-item.result c.loop-i-test.true c.i-item.is
    c.in_ok-separate.ensures c.in_ok-imported.ensures c.loop-i.invariant
