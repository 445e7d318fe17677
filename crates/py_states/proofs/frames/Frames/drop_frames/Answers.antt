use Rattle.std.proofs.Common.{arith, ap, ◌∙◌, drop}
use Rattle.std.proofs.lemmas.List.{drop-drop}
use Rattle.py_states.proofs.frames.Frames.drop_frames.Goals as goal

pub turns-preserved : goal.turns-preserved
turns-preserved c = (
  c.pop.ensures.frames ∙ ap (drop 1) c.turns.invariant.0 ∙
      drop-drop 1 c.turns._turn c.args.self.now.frames,
  omega (arith, c.pop.ensures.values, c.turns.invariant.1),
)
