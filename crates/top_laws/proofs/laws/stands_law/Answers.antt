use Rattle.py_frames.specs.Laws.{prog_of}
use Rattle.front_end.specs.TextCode.{HasCode, IsRefused}
use Rattle.top_laws.proofs.Leading as machine
use Rattle.top_laws.proofs.laws.stands_law.Goals as goal

pub returns-clause-leads : goal.returns-clause-leads
returns-clause-leads c = machine.leads_law HasCode IsRefused prog_of c.text_law.ensures.program

pub returns-clause-stands : goal.returns-clause-stands
returns-clause-stands c = machine.stands_law HasCode IsRefused prog_of c.text_law.ensures.program

pub returns-clause-done : goal.returns-clause-done
returns-clause-done c = machine.done_law HasCode IsRefused prog_of c.text_law.ensures.program

pub returns-clause-stuck : goal.returns-clause-stuck
returns-clause-stuck c = machine.stuck_law HasCode IsRefused prog_of c.text_law.ensures.program

pub returns-clause-ready : goal.returns-clause-ready
returns-clause-ready c = machine.ready_law HasCode IsRefused prog_of c.text_law.ensures.program

pub returns-clause-same : goal.returns-clause-same
returns-clause-same c = machine.same_law HasCode IsRefused prog_of c.text_law.ensures.program
