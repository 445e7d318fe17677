use Rattle.std.proofs.Common.{◌++◌, ◌≡◌, ◌<◌, length, refl, subst}
use Rattle.py_frames.specs.declared.next.Next.TheVariants.{Enters}
use Rattle.py_frames.specs.Binding.{entered, unset_slots}
use Rattle.py_frames.specs.State.{operands}
use Rattle.py_states.specs.Innermost.{innermost}
use Rattle.py_states.proofs.SettleLemmas.{enters_is, followed, stacked}
use Rattle.py_states.proofs.thread.ThreadState.calls.Goals as goal

pub returns-then-m-height : goal.returns-then-m-height
returns-then-m-height c =
    let g = entered c.args.code (operands c.args.m (innermost c.args.self.now.frames) ++ unset_slots c.args.k) in
    let some = stacked c.args.m c.args.self.now.frames (subst (λ n. c.args.m < n) c.height.ensures
    c.if-m-height.true) in
    followed _ _ _ _ _ _ _ c.is_ok.ensures.value c.enters_over.ensures.ok c.enters_over.ensures.err refl
    (λ p. enters_is p _ _ (Enters g) g g _ refl refl some)
