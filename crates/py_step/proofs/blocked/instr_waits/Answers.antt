use Rattle.std.proofs.Common.{ℕ, ◌≤◌, List, false, length, sym, ap, subst, ◌∙◌}
use Rattle.py_frames.specs.State.{State}
use Rattle.py_frames.specs.Steps.{instr_row, site_of}
use Rattle.py_states.specs.Innermost.{innermost}
use Rattle.py_step.specs.inner.Peeked.{LeadsToWait, Tells}
use Rattle.py_step.proofs.StepWaits.{keywords, keyed_call, keyed_method, no_call, other_goes}
use Rattle.py_step.proofs.blocked.instr_waits.Goals as goal

pub returns-in_default-keys_at : goal.returns-in_default-keys_at
returns-in_default-keys_at g c = λ fs.
    let h = g.P.Peek.image c.args.heap.now in
    let s = site_of c.args.p.now c.args.s.now fs in
    let f = innermost c.args.s.now.frames in
    let e = c.keys_at.ensures ∙ ap (λ n. keywords c.args.p.now n c.in-Call.l) c.code.ensures in
    subst (λ i. Tells {S = State} false LeadsToWait h (instr_row s f c.args.xs.now i)) (sym c.in-Call.is)
    (keyed_call h s f c.args.xs.now c.in-Call.m c.in-Call.l
    (subst (λ (ks : List ℕ). 1 ≤ length ks) e c.in_default-keys_at.len_at_least))

pub returns-in_default-keys_at-2 : goal.returns-in_default-keys_at-2
returns-in_default-keys_at-2 g c = λ fs.
    let h = g.P.Peek.image c.args.heap.now in
    let s = site_of c.args.p.now c.args.s.now fs in
    let f = innermost c.args.s.now.frames in
    let e = c.keys_at-in-CallMethod.ensures ∙
    ap (λ n. keywords c.args.p.now n c.in-CallMethod.l) c.code-in-CallMethod.ensures in
    subst (λ i. Tells {S = State} false LeadsToWait h (instr_row s f c.args.xs.now i)) (sym c.in-CallMethod.is)
    (keyed_method h s f c.args.xs.now c.in-CallMethod.m c.in-CallMethod.l
    (subst (λ (ks : List ℕ). 1 ≤ length ks) e c.in_default-keys_at-2.len_at_least))

pub returns-in_default : goal.returns-in_default
returns-in_default g c = λ fs.
    other_goes (g.P.Peek.image c.args.heap.now) (site_of c.args.p.now c.args.s.now fs) (innermost c.args.s.now.frames)
    c.args.xs.now c.args.i
    (no_call c.args.i c.in_default.not-Call c.in_default.not-CallMethod)
