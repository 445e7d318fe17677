use Rattle.std.proofs.Common.{rules, arith, ◌∙◌}
use Rattle.py_code.proofs.Labels.{mark_set, mark_past, mark_none}
use Rattle.py_code.proofs.assembly.labels.mark.Goals as goal

pub returns-then-place-len : goal.returns-then-place-len
returns-then-place-len c = λ all is h. c.set.ensures ∙ mark_set c.args.i.now c.in-Place.place c.args.named.now
    (search rules) (omega arith) all is h

pub returns-else-place-len : goal.returns-else-place-len
returns-else-place-len c = mark_past c.args.i.now c.in-Place.place c.args.named.now (search rules) (omega arith)

pub returns-in_default : goal.returns-in_default
returns-in_default c = mark_none c.args.i.now c.args.named.now
    (λ t e. c.in_default.not-Place t (c.operand_of.ensures ∙ e))
