use Rattle.std.proofs.Common.{[], refl}
use Rattle.py_frames.specs.declared.next.Next.TheVariants.{Jumps}
use Rattle.py_states.proofs.SettleLemmas.{followed, jumps_is}
use Rattle.py_states.proofs.thread.ThreadState.jumps_on.Goals as goal

pub returns-then-has_frame : goal.returns-then-has_frame
returns-then-has_frame c =
    followed _ _ _ _ _ _ _ c.is_ok.ensures.value c.jumps.ensures.ok c.jumps.ensures.err refl
    (λ p. jumps_is p _ _ c.args.place (Jumps c.args.place []) _ [] _ refl refl
    (c.has_frame.ensures.0 c.if-has_frame.true))
