use Rattle.std.proofs.Common.{length, sym, subst}
use Rattle.py_data.specs.Heap.{Heap}
use Rattle.seg_store.specs.inner.Images.{Reaches}
use Rattle.seg_store.proofs.space.Space.give.Goals as goal

pub give-requires : goal.give-requires
give-requires c = subst (λ (h : Heap). Reaches h (length c.args.image.now.items)) (sym c.open.ensures.heap) c.requires
