use Rattle.py_data.specs.Heap.{at}
use Rattle.obj_seq.proofs.GatherSteps.{stands_asks, raised_met}
use Rattle.obj_seq.proofs.gathering.gather_from.Goals as goal

pub read_span-requires-clause-there : goal.read_span-requires-clause-there
read_span-requires-clause-there g c = stands_asks c.requires.stands

pub returns-in_default : goal.returns-in_default
returns-in_default g c =
    let n = c.in_default in
    raised_met g.V.View.sense c.args.a.0 c.args.kind (at (g.V.View.sense.heap c.args.v.now) c.args.a.0) c.args.v.now
    c.raise.result c.requires.kind n.not-Str n.not-Tuple n.not-List n.not-Dict n.not-Iter n.not-Range
    c.raise.ensures
