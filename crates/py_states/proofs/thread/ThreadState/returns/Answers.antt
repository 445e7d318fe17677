use Rattle.std.proofs.Common.{arith, ◌<◌, length, refl}
use Rattle.py_frames.specs.declared.next.Next.TheVariants.{Leaves}
use Rattle.py_states.proofs.SettleLemmas.{followed, leaves_is, stays}
use Rattle.py_states.proofs.thread.ThreadState.returns.Goals as goal

pub returns-then-depth-gt1 : goal.returns-then-depth-gt1
returns-then-depth-gt1 c =
    let s = c.args.self.now in
    let several : 1 < length s.frames = omega (arith, c.depth.ensures, c.if-depth-gt1.true) in
    let some : 0 < length s.frames = omega (arith, several) in
    followed _ _ _ _ _ _ _ c.is_ok.ensures.value c.leaves.ensures.ok c.leaves.ensures.err
    (stays s c.args.x s.frames several) (λ p. leaves_is p _ _ (Leaves c.args.x) c.args.x _ refl some)
