use Rattle.py_tree.specs.Canonical.{param_words}
use Rattle.py_tree.proofs.Pages.{listed_more}
use Rattle.py_tree.proofs.simple.params.Goals as goal

pub loop-p-preserved : goal.loop-p-preserved
loop-p-preserved c = listed_more param_words c.args.line c.loop-p.w c.separate.new.w c.param.new.w _ c.loop-p.comma
    c.args.ps.now c.loop-p.p-index c.p-item.result c.loop-p-test.true c.p-item.is c.in_ok-separate.ensures
    c.in_ok-param.ensures c.loop-p.invariant
