use Rattle.std.proofs.Common.{sym, ap, ◌∙◌}
use Rattle.obj_threads.specs.Arguments.{is_none, is_set}
use Rattle.py_frames.specs.State.{State}
use Rattle.py_step.proofs.BuiltinWaits.{fresh_goes, me_goes, other_tells}
use Rattle.py_step.proofs.CallWaits.{me_of}
use Rattle.py_step.proofs.blocked.builtins.join_waits.Goals as goal

pub returns-then-is_none : goal.returns-then-is_none
returns-then-is_none g c =
    fresh_goes State (g.P.Peek.image c.args.heap.now) c.args.a.0 c.requires.there (me_of c.args.me)
    (ap is_none (sym c.peek_val.ensures) ∙ sym c.is_none.ensures ∙ c.if-is_none.true)

pub returns-then-is_me : goal.returns-then-is_me
returns-then-is_me g c =
    me_goes State (g.P.Peek.image c.args.heap.now) c.args.a.0 c.requires.there (me_of c.args.me)
    (ap is_none (sym c.peek_val.ensures) ∙ sym c.is_none.ensures ∙ c.if-is_none.false)
    (sym c.is_me.ensures ∙ c.if-is_me.true)

pub returns : goal.returns
returns g c =
    other_tells State (g.P.Peek.image c.args.heap.now) c.args.a.0 c.requires.there (me_of c.args.me) c.is_set.result
    (ap is_none (sym c.peek_val.ensures) ∙ sym c.is_none.ensures ∙ c.if-is_none.false)
    (sym c.is_me.ensures ∙ c.if-is_me.false) (ap is_set (sym c.peek_val-2.ensures) ∙ sym c.is_set.ensures)
