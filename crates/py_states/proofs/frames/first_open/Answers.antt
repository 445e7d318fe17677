use Rattle.std.proofs.Common.{sym, ◌∙◌}
use Rattle.py_states.specs.declared.head.Head.{Head}
use Rattle.py_states.proofs.PileLemmas.{left_at}
use Rattle.py_states.proofs.LaidLemmas.{opening_next}
use Rattle.py_states.proofs.frames.first_open.Goals as goal

pub loop-i-preserved : goal.loop-i-preserved
loop-i-preserved c =
    let here = left_at {A = Head} c.args.heads.now.entries c.loop-i.i c.at.result c.at.ensures in
    sym (opening_next c.loop-i.i c.args.heads.now.entries c.at.result here c.if-at-ne0.false) ∙ c.loop-i.invariant
