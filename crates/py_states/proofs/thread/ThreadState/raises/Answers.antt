use Rattle.std.proofs.Common.{ℕ, drop, ap, ◌∙◌}
use Rattle.py_frames.specs.State.{State, unwound}
use Rattle.py_states.specs.Innermost.{innermost}
use Rattle.py_states.proofs.SettleLemmas.{lined, thrown_at}
use Rattle.py_states.proofs.thread.ThreadState.raises.Goals as goal

abbrev code_in : State → ℕ
code_in s = (innermost s.frames).code

abbrev pc_in : State → ℕ
pc_in s = (innermost s.frames).pc

pub returns-clause-ok : goal.returns-clause-ok
returns-clause-ok c =
    let s = c.args.self.now in
    thrown_at s _ c.args.x _ _ (unwound c.args.x (drop c.args.first s.frames)) _ c.throws.ensures.ok
    (lined c.args.program.now _ _ _ (innermost s.frames) c.line_at-line.ensures
    (c.code.ensures ∙ ap code_in c.self.view_is) (c.pc.ensures ∙ ap pc_in c.self.view_is))
