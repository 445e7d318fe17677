use Rattle.py_data.proofs.Steps.{live_after, safe_then}
use Rattle.py_frames.specs.Binding.{defaulted_row}
use Rattle.py_frames.specs.ClassCalls.{entered_row}
use Rattle.py_step.specs.inner.FastPath.{arguments, site}
use Rattle.py_step.proofs.calls.function_next.Goals as goal

pub frame_next-requires-clause-live : goal.frame_next-requires-clause-live
frame_next-requires-clause-live g c =
    live_after g.V.View.sense g.met.V.View.lawful _ _ _ _ c.in_ok-frame.ensures c.requires.live

pub frame_next-requires-clause-safe : goal.frame_next-requires-clause-safe
frame_next-requires-clause-safe g c =
    safe_then g.V.View.sense g.met.V.View.lawful
    (defaulted_row c.args.p.now (arguments c.args.s.now c.args.n) c.args.code c.args.d.0)
    (entered_row (site c.args.p.now c.args.s.now)) _ _ _ c.requires.safe c.in_ok-frame.ensures
