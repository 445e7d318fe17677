use Rattle.std.proofs.Common.{refl}
use Rattle.py_frames.specs.declared.next.Next.TheVariants.{Stores}
use Rattle.py_states.proofs.SettleLemmas.{followed, stores_is}
use Rattle.py_states.proofs.thread.ThreadState.keeps.Goals as goal

pub returns-then-has_frame : goal.returns-then-has_frame
returns-then-has_frame c =
    followed _ _ _ _ _ _ _ c.is_ok.ensures.value c.stores.ensures.ok c.stores.ensures.err refl
    (λ p. stores_is p _ _ c.args.i (Stores c.args.i c.args.x) c.args.x _ refl
    (c.has_frame.ensures.0 c.if-has_frame.true))
