use Rattle.std.proofs.Common.{◌∙◌}
use Rattle.py_code.proofs.Labels.{unmarked}
use Rattle.py_code.proofs.assembly.labels.marks.Goals as goal

pub loop-i-init : goal.loop-i-init
loop-i-init c = c.in_ok-named.ensures ∙ unmarked 0 c.args.instrs.now
