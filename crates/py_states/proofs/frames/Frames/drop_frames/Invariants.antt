use Rattle.std.proofs.Common.{◌≡◌, ◌≤◌, drop}
use Rattle.py_states.proofs.frames.Frames.drop_frames.Given as goal

abbrev pub invariant-turns : goal.invariant-turns
invariant-turns l = (l.self.frames ≡ drop l._turn l.fn.self.frames) × (l.fn.self.more_values ≤ l.self.more_values)
