use Rattle.py_tokens.specs.declared.operator.TheConstants as operator
use Rattle.py_tokens.specs.declared.token.TokenKind.TheVariants as k
use Rattle.py_tree.proofs.Pages.{ended_more}
use Rattle.py_tree.proofs.simple.targets.Goals as goal

pub loop-e-preserved : goal.loop-e-preserved
loop-e-preserved c = ended_more c.args.line c.loop-e.w c.expression.new.w c.operator.new.self _ (k.Op operator.ASSIGN)
    c.args.es.now c.loop-e.e-index c.e-item.result c.loop-e-test.true c.e-item.is c.in_ok-expression.ensures
    c.in_ok-operator.ensures c.loop-e.invariant
