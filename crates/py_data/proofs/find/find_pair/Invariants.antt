use Rattle.py_data.proofs.Finding.{Searching}
use Rattle.py_data.proofs.find.find_pair.Given as goal

abbrev pub invariant-loop-n : goal.invariant-loop-n
invariant-loop-n g l = Searching (g.R.Records.records l.heap) l.values l.key l.n
