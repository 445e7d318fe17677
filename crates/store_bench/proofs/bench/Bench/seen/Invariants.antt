use Rattle.seg_store.specs.Meaning.{sees}
use Rattle.seg_store.specs.inner.Looks.{marks_of}
use Rattle.store_bench.specs.Known.{Knows}
use Rattle.store_bench.proofs.bench.Bench.seen.Given as goal

abbrev pub invariant-names : goal.invariant-names
invariant-names g l = Knows (sees (g.S.SegStore.meaning l.self.store) l.k) (marks_of l.marks)
