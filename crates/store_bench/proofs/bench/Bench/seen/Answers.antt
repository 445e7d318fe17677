use Rattle.std.proofs.Common.{refl, subst, sym, ◌∙◌, ap}
use Rattle.seg_store.specs.Meaning.{sees}
use Rattle.seg_store.specs.inner.Looks.{marks_of}
use Rattle.store_bench.specs.Known.{Knows}
use Rattle.store_bench.proofs.There.{knows_none, knows_more}
use Rattle.store_bench.proofs.bench.Bench.seen.Goals.{then-there+in_ok-mark, else-there}
use Rattle.store_bench.proofs.bench.Bench.seen.Goals as goal

pub names-init : goal.names-init
names-init g c = knows_none _ _ c.new-marks.ensures

pub names-preserved : goal.names-preserved
names-preserved g c = elim c.if-there.branch [
  | then-there+in_ok-mark w ↦ knows_more _ (marks_of c.names.marks) (marks_of c.if-there.marks) _ c.names.invariant
      (w.if-there.ensures refl) (ap marks_of w.marks-is ∙ w.in_ok-mark.ensures.ok)
  | else-there w ↦ subst (λ x. Knows (sees (g.S.SegStore.meaning c.args.self.now.store) c.args.k) (marks_of x))
      (sym w.marks-is) c.names.invariant
]
