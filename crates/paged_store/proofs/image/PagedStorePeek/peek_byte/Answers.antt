use Rattle.std.proofs.Common.{◌<◌, length, slice_index}
use Rattle.py_data.specs.Heap.{Rec}
use Rattle.paged_store.proofs.StoreReads.{image_read, image_is, image_back}
use Rattle.paged_store.proofs.image.PagedStorePeek.peek_byte.Goals as goal

pub byte-requires-clause-there : goal.byte-requires-clause-there
byte-requires-clause-there c = image_read c.args.self.now c.args.a.0 c.requires.there

pub byte-requires-clause-place : goal.byte-requires-clause-place
byte-requires-clause-place c = image_is c.args.self.now c.args.a.0 c.requires.there
    (λ (r : Rec). c.args.i < length r.bytes) c.requires.within

pub returns : goal.returns
returns c = image_back c.args.self.now c.args.a.0 c.requires.there (λ (r : Rec). slice_index r.bytes c.args.i) _
    c.byte.ensures
