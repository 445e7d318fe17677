use Rattle.std.proofs.Common.{sym, ap, subst, ◌∙◌}
use Rattle.py_data.specs.Heap.{value_at}
use Rattle.obj_nest.specs.Truth.{truth_row}
use Rattle.obj_threads.specs.Arguments.{is_set}
use Rattle.py_frames.specs.State.{State}
use Rattle.py_step.specs.inner.Peeked.{Comes}
use Rattle.py_step.proofs.BuiltinWaits.{free_tells, held_alone, held_asked, many_goes, none_of, one_of, truth_comes}
use Rattle.py_step.proofs.StackRefers.{value_refers}
use Rattle.py_step.proofs.blocked.builtins.acquire_waits.Goals as goal

pub returns-then-not-is_set : goal.returns-then-not-is_set
returns-then-not-is_set g c = free_tells State (g.P.Peek.image c.args.heap.now) c.args.a.0 c.requires.there
    c.args.args.now (ap is_set (sym c.peek_val.ensures) ∙ sym c.is_set.ensures ∙ c.if-not-is_set.true)

pub returns-in-empty : goal.returns-in-empty
returns-in-empty g c =
    held_alone State (g.P.Peek.image c.args.heap.now) c.args.a.0 c.requires.there c.args.args.now
    (none_of c.args.args.now c.in-empty.len_below)
    (ap is_set (sym c.peek_val.ensures) ∙ sym c.is_set.ensures ∙ c.if-not-is_set.false)

pub returns-in-len1 : goal.returns-in-len1
returns-in-len1 g c =
    let h = g.P.Peek.image c.args.heap.now in
    let x = value_at c.args.args.now 0 in
    held_asked State h c.args.a.0 c.requires.there c.truth.result c.args.args.now x
    (one_of c.args.args.now c.in-len1.len_at_least c.in-len1.len_below)
    (ap is_set (sym c.peek_val.ensures) ∙ sym c.is_set.ensures ∙ c.if-not-is_set.false)
    (subst (λ b. Comes {S = State} h (truth_row x) b) (sym c.truth.ensures)
    (truth_comes State h c.requires.closed x (value_refers h c.args.args.now 0 c.requires.refer)))

pub returns-in_default : goal.returns-in_default
returns-in_default g c = many_goes State (g.P.Peek.image c.args.heap.now) c.args.a.0 c.requires.there c.args.args.now
    c.in_default.len_at_least
