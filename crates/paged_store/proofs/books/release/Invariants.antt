use Rattle.std.proofs.Common.{take}
use Rattle.py_data.specs.Collection.{places}
use Rattle.paged_store.specs.inner.Ending.{among, Released}
use Rattle.paged_store.proofs.books.release.Given as goal

abbrev pub invariant-names : goal.invariant-names
invariant-names l = Released (among (places (take l.a-index l.names))) l.initial.marks l.marks
