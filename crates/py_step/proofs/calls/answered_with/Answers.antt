use Rattle.std.proofs.Common.{ap, ◌∙◌}
use Rattle.py_data.specs.declared.record.Got.TheVariants.{Is}
use Rattle.py_frames.specs.CallRows as calls
use Rattle.py_step.proofs.FastPaths.{answered_value}
use Rattle.py_step.proofs.Moving.{give_moved, moves_as}
use Rattle.py_step.specs.inner.FastPath.{ended, site}
use Rattle.py_step.proofs.calls.answered_with.Goals as goal

pub returns-in-Value : goal.returns-in-Value
returns-in-Value g c =
    moves_as g.V.View.sense _ _ _ _ _ _ _ (ap (λ g. ended c.args.p.now c.args.s.now c.args.n
    (calls.answered (site c.args.p.now c.args.s.now) (Is g))) c.in-Value.is
    ∙ answered_value c.args.p.now c.args.s.now c.args.n c.in-Value.x)
    (give_moved g.V.View.sense c.args.p.now c.args.s.now c.args.n _ _ _ _ c.requires.some c.give_one.ensures.ok
    c.give_one.ensures.cause c.give_one.ensures.err)
