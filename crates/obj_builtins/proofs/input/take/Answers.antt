use Rattle.obj_builtins.proofs.InputSteps.{taken_safe}
use Rattle.obj_builtins.proofs.input.take.Goals as goal

pub line_text-requires-clause-safe : goal.line_text-requires-clause-safe
line_text-requires-clause-safe g c = taken_safe g.met.V.View.lawful _ _ c.in_ok-line.line.items _
    c.as_slice.ensures.value c.requires.safe c.in_ok-line.ensures
