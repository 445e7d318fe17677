use Rattle.std.proofs.Common.{◌-◌}
use Rattle.py_data.specs.Looking.{each_row}
use Rattle.py_data.specs.inner.Rest.{Leads}
use Rattle.obj_threads.specs.Keywords.{keywords_row, keyword_row}
use Rattle.obj_threads.proofs.keywords.read_keywords.Given as goal

abbrev pub invariant-turns : goal.invariant-turns
invariant-turns g l = Leads g.V.View.sense (keywords_row l.keys) l.fn.v
    (each_row (keyword_row l.keys) l.i (l.n - l.i) l.k) l.v
