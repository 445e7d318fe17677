use Rattle.py_step.specs.Client.{program_in}
use Rattle.py_step.proofs.Opened.{operable, opened_safe}
use Rattle.py_step.proofs.client.PyClientClient.step.Goals as goal

pub step_row-requires-clause-operable : goal.step_row-requires-clause-operable
step_row-requires-clause-operable g c = operable (program_in c.args.self.now) _ _ c.args.s.now c.requires.stands

pub step_row-requires-clause-safe : goal.step_row-requires-clause-safe
step_row-requires-clause-safe g c =
    opened_safe g.V.View.sense g.V.View.bracket g.met.V.View.bracketed (program_in c.args.self.now) c.args.s.now _ _
    c.open_step.ensures c.requires.stands c.requires.lives
