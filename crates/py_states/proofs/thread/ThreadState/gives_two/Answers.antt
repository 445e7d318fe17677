use Rattle.std.proofs.Common.{[], ◌∷◌, refl}
use Rattle.py_frames.specs.declared.next.Next.TheVariants.{Goes}
use Rattle.py_states.proofs.SettleLemmas.{followed, goes_is}
use Rattle.py_states.proofs.thread.ThreadState.gives_two.Goals as goal

pub returns-then-has_frame : goal.returns-then-has_frame
returns-then-has_frame c =
    followed _ _ _ _ _ _ _ c.is_ok.ensures.value c.goes.ensures.ok c.goes.ensures.err refl
    (λ p. goes_is p _ _ (Goes (c.args.x ∷ c.args.y ∷ [])) _ (c.args.x ∷ c.args.y ∷ []) _ refl refl
    (c.has_frame.ensures.0 c.if-has_frame.true))
