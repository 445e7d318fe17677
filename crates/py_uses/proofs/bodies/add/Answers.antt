use Rattle.std.proofs.Common.{ap, ◌∙◌}
use Rattle.py_uses.proofs.bodies.add.Goals as goal
use Rattle.py_uses.specs.inner.Gathered.{numbered}
use Rattle.py_uses.proofs.Gathers.{numbered_end}

pub returns-clause-bodies : goal.returns-clause-bodies
returns-clause-bodies c = ap (numbered 0) c.in_ok-push.ensures.ok ∙ numbered_end c.args.out.now _
