use Rattle.py_data.specs.Heap.{Rec}
use Rattle.paged_store.proofs.StoreReads.{image_read, image_back}
use Rattle.paged_store.proofs.image.PagedStorePeek.peek_kind.Goals as goal

pub kind-requires : goal.kind-requires
kind-requires c = image_read c.args.self.now c.args.a.0 c.requires

pub returns : goal.returns
returns c = image_back c.args.self.now c.args.a.0 c.requires (λ (r : Rec). r.kind) _ c.kind.ensures
