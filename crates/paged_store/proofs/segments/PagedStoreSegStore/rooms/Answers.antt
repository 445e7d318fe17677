use Rattle.py_data.specs.Heap.{Rec}
use Rattle.paged_store.proofs.StoreReads.{own_read, own_back}
use Rattle.paged_store.proofs.segments.PagedStoreSegStore.rooms.Goals as goal

pub rooms-requires : goal.rooms-requires
rooms-requires c = own_read c.args.self.now c.args.k c.args.a.0 c.requires.segment c.requires.there

pub returns : goal.returns
returns c = own_back c.args.self.now c.args.k c.args.a.0 c.requires.segment c.requires.there
    (λ (r : Rec). (r.room, r.first)) _ c.rooms.ensures
