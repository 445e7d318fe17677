use Rattle.std.proofs.Common.{take}
use Rattle.py_data.specs.Collection.{places}
use Rattle.paged_store.specs.inner.Ending.{among, Shown}
use Rattle.paged_store.proofs.books.show.Given as goal

abbrev pub invariant-names : goal.invariant-names
invariant-names l = Shown (among (places (take l.a-index l.names))) l.initial.present.items l.present.items
