use Rattle.py_data.specs.Heap.{Rec}
use Rattle.paged_store.proofs.StoreReads.{own_read, own_back}
use Rattle.paged_store.proofs.segments.PagedStoreSegStore.kind.Goals as goal

pub kind-requires : goal.kind-requires
kind-requires c = own_read c.args.self.now c.args.k c.args.a.0 c.requires.segment c.requires.there

pub returns : goal.returns
returns c = own_back c.args.self.now c.args.k c.args.a.0 c.requires.segment c.requires.there (λ (r : Rec). r.kind) _
    c.kind.ensures
