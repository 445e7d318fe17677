use Rattle.py_frames.specs.Laws.{prog_of}
use Rattle.front_end.specs.TextCode.{HasCode, IsRefused}
use Rattle.top_laws.proofs.Leading as machine
use Rattle.top_laws.proofs.laws.left_law.Goals as goal

pub returns-clause-heap : goal.returns-clause-heap
returns-clause-heap c = machine.heap_law HasCode IsRefused prog_of c.text_law.ensures.program

pub returns-clause-left : goal.returns-clause-left
returns-clause-left c = machine.left_law HasCode IsRefused prog_of c.text_law.ensures.program
