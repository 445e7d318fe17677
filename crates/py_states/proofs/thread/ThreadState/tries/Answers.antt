use Rattle.std.proofs.Common.{refl}
use Rattle.py_frames.specs.declared.next.Next.TheVariants.{Opens}
use Rattle.py_states.proofs.SettleLemmas.{followed, opens_is}
use Rattle.py_states.proofs.thread.ThreadState.tries.Goals as goal

pub returns-then-has_frame : goal.returns-then-has_frame
returns-then-has_frame c =
    followed _ _ _ _ _ _ _ c.is_ok.ensures.value c.opens.ensures.ok c.opens.ensures.err refl
    (λ p. opens_is p _ _ c.args.handler (Opens c.args.handler) _ refl (c.has_frame.ensures.0 c.if-has_frame.true))
