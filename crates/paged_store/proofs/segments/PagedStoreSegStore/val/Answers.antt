use Rattle.std.proofs.Common.{◌<◌, length}
use Rattle.py_data.specs.Heap.{Rec, value_at}
use Rattle.paged_store.proofs.StoreReads.{own_read, own_back, own_there, own_is}
use Rattle.paged_store.proofs.segments.PagedStoreSegStore.val.Goals as goal

pub val-requires-clause-there : goal.val-requires-clause-there
val-requires-clause-there c = own_read c.args.self.now c.args.k c.args.a.0 c.requires.segment
    (own_there c.args.self.now c.args.k c.args.a.0 c.requires.segment (λ (r : Rec). c.args.i < length r.values)
    c.requires.there)

pub val-requires-clause-place : goal.val-requires-clause-place
val-requires-clause-place c = own_is c.args.self.now c.args.k c.args.a.0 c.requires.segment
    (λ (r : Rec). c.args.i < length r.values) c.requires.there

pub returns : goal.returns
returns c = own_back c.args.self.now c.args.k c.args.a.0 c.requires.segment
    (own_there c.args.self.now c.args.k c.args.a.0 c.requires.segment (λ (r : Rec). c.args.i < length r.values)
    c.requires.there)
    (λ (r : Rec). value_at r.values c.args.i) _ c.val.ensures
