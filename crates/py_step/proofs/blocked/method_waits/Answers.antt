use Rattle.std.proofs.Common.{drop, take, refl, sym, ap, subst, ◌∙◌}
use Rattle.py_data.specs.Heap.{value_at}
use Rattle.py_frames.specs.Binding.{plainly}
use Rattle.py_frames.specs.CallRows.{value_call}
use Rattle.py_frames.specs.State.{State}
use Rattle.py_frames.specs.Steps.{given_in}
use Rattle.py_step.specs.inner.Peeked.{LeadsToWait, Tells}
use Rattle.py_step.proofs.CallWaits.{own_args}
use Rattle.py_step.proofs.StepWaits.{method_tells}
use Rattle.py_step.proofs.blocked.method_waits.Goals as goal

pub returns : goal.returns
returns g c = λ s f l m e.
    let h = g.P.Peek.image c.args.heap.now in
    let b = c.value_waits.result in
    let xs = c.args.xs.now in
    let own = c.value_or_unset-own.result in
    let k = given_in s f c.args.m l (drop 2 xs) in
    let a = sym (c.first-args.ensures ∙ ap (take c.args.m) c.skip.ensures) in
    let all = own_args h own k (plainly (take c.args.m (drop 2 xs))) refl ∙ sym c.with_object-all.ensures in
    let t = c.value_waits.ensures s k m a all e in
    let called = subst (λ x. Tells {S = State} b LeadsToWait h (value_call s own k x)) c.value_or_unset.ensures t in
    method_tells h b s f xs c.args.m l (subst
    (λ x. Tells {S = State} b LeadsToWait h (value_call s x k (value_at xs 0))) c.value_or_unset-own.ensures called)
