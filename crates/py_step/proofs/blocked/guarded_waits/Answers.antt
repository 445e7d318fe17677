use Rattle.std.proofs.Common.{sym, ap, subst, ◌∙◌}
use Rattle.py_frames.specs.State.{State, operands, pops}
use Rattle.py_frames.specs.Steps.{wanted, has_unset, instr_row, site_of}
use Rattle.py_states.specs.Innermost.{innermost}
use Rattle.py_step.specs.inner.Peeked.{LeadsToWait, Tells}
use Rattle.py_step.proofs.StepWaits.{set_tells, unset_goes}
use Rattle.py_step.proofs.blocked.guarded_waits.Goals as goal

pub returns-then-lacks_operand : goal.returns-then-lacks_operand
returns-then-lacks_operand g c = λ fs.
    let f = innermost c.args.s.now.frames in
    let i = c.args.i in
    let xs = c.operands-xs.ensures ∙ ap (λ n. operands n f) c.pops.ensures in
    let e = ap (λ xs. has_unset (wanted i xs)) (sym xs) ∙ sym c.lacks_operand.ensures ∙ c.if-lacks_operand.true in
    unset_goes (g.P.Peek.image c.args.heap.now) (site_of c.args.p.now c.args.s.now fs) f
    (operands (pops c.args.p.now f i) f) i e

pub returns-else-lacks_operand : goal.returns-else-lacks_operand
returns-else-lacks_operand g c = λ fs.
    let h = g.P.Peek.image c.args.heap.now in
    let b = c.instr_waits.result in
    let f = innermost c.args.s.now.frames in
    let i = c.args.i in
    let s = site_of c.args.p.now c.args.s.now fs in
    let xs = c.operands-xs.ensures ∙ ap (λ n. operands n f) c.pops.ensures in
    let e = ap (λ xs. has_unset (wanted i xs)) (sym xs) ∙ sym c.lacks_operand.ensures ∙ c.if-lacks_operand.false in
    set_tells h b s f (operands (pops c.args.p.now f i) f) i e
    (subst (λ xs. Tells {S = State} b LeadsToWait h (instr_row s f xs i)) xs (c.instr_waits.ensures fs))
