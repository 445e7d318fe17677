use Rattle.std.proofs.Common.{drop, take, sym, ap, subst, ◌∙◌}
use Rattle.py_data.specs.declared.value.Value.TheVariants.{Unset}
use Rattle.py_frames.specs.CallRows.{value_call}
use Rattle.py_frames.specs.State.{State}
use Rattle.py_frames.specs.Steps.{given_in}
use Rattle.py_step.specs.inner.Peeked.{LeadsToWait, Tells}
use Rattle.py_step.proofs.StepWaits.{call_tells}
use Rattle.py_step.proofs.blocked.call_waits.Goals as goal

pub returns : goal.returns
returns g c = λ s f l m e.
    let h = g.P.Peek.image c.args.heap.now in
    let b = c.value_waits.result in
    let k = given_in s f c.args.m l (drop 1 c.args.xs.now) in
    let a = sym (c.first-args.ensures ∙ ap (take c.args.m) c.skip.ensures) in
    call_tells h b s f c.args.xs.now c.args.m l
    (subst (λ x. Tells {S = State} b LeadsToWait h (value_call s Unset k x)) c.value_or_unset.ensures
    (c.value_waits.ensures s k m a a e))
