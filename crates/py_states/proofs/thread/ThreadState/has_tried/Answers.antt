use Rattle.std.proofs.Common.{refl}
use Rattle.py_frames.specs.declared.next.Next.TheVariants.{Closes}
use Rattle.py_states.proofs.SettleLemmas.{followed, closes_is}
use Rattle.py_states.proofs.thread.ThreadState.has_tried.Goals as goal

pub returns-then-has_frame : goal.returns-then-has_frame
returns-then-has_frame c =
    followed _ _ _ _ _ _ _ c.is_ok.ensures.value c.closes.ensures.ok c.closes.ensures.err refl
    (λ p. closes_is p _ _ Closes _ refl (c.has_frame.ensures.0 c.if-has_frame.true))
