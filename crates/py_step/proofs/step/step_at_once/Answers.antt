use Rattle.std.proofs.Common.{sym}
use Rattle.py_step.proofs.Moving.{done_here, lives_on}
use Rattle.py_step.proofs.step.step_at_once.Goals as goal

pub returns-in-Some-clause-done : goal.returns-in-Some-clause-done
returns-in-Some-clause-done c = done_here c.args.p.now c.args.s.now c.in-Some.i _ _ c.requires.lives
    (lives_on _ _ _ c.dying.ensures c.is_some.ensures c.if-is_some.false) (sym c.in-Some.ensures) c.do_at_once.ensures
