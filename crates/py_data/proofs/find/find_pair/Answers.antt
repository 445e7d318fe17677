use Rattle.std.proofs.Common.{arith, ◌∙◌, sym}
use Rattle.py_data.proofs.Finding.{found_here, not_here, none_left}
use Rattle.py_data.proofs.find.find_pair.Goals as goal

pub loop-n-preserved : goal.loop-n-preserved
loop-n-preserved g c = not_here _ _ _ _ c.loop-n.invariant (omega arith) (sym c.same.ensures ∙ c.if-same.false)

pub returns-then-same-clause-found : goal.returns-then-same-clause-found
returns-then-same-clause-found g c = found_here _ _ _ _ c.loop-n.invariant (omega arith)
    (sym c.same.ensures ∙ c.if-same.true)

pub returns-clause-found : goal.returns-clause-found
returns-clause-found g c = none_left _ _ _ _ c.loop-n.invariant (omega arith)
