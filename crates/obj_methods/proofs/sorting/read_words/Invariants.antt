use Rattle.std.proofs.Common.{drop, []}
use Rattle.py_data.specs.inner.Rest.{Leads}
use Rattle.obj_methods.specs.Sorting.{words_row}
use Rattle.obj_methods.proofs.sorting.read_words.Given as goal

abbrev pub invariant-turns : goal.invariant-turns
invariant-turns g l = Leads g.V.View.sense (words_row l.values []) l.fn.v (words_row (drop l.i l.values) l.words) l.v
