use Rattle.std.proofs.Common.{◌<◌, length}
use Rattle.py_data.specs.Heap.{Rec, value_at}
use Rattle.paged_store.proofs.StoreReads.{image_read, image_is, image_back}
use Rattle.paged_store.proofs.image.PagedStorePeek.peek_val.Goals as goal

pub val-requires-clause-there : goal.val-requires-clause-there
val-requires-clause-there c = image_read c.args.self.now c.args.a.0 c.requires.there

pub val-requires-clause-place : goal.val-requires-clause-place
val-requires-clause-place c = image_is c.args.self.now c.args.a.0 c.requires.there
    (λ (r : Rec). c.args.i < length r.values) c.requires.within

pub returns : goal.returns
returns c = image_back c.args.self.now c.args.a.0 c.requires.there (λ (r : Rec). value_at r.values c.args.i) _
    c.val.ensures
