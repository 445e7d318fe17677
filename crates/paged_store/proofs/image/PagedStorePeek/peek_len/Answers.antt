use Rattle.py_data.specs.Heap.{length_of}
use Rattle.paged_store.proofs.StoreReads.{image_read, image_back}
use Rattle.paged_store.proofs.image.PagedStorePeek.peek_len.Goals as goal

pub len-requires : goal.len-requires
len-requires c = image_read c.args.self.now c.args.a.0 c.requires

pub returns : goal.returns
returns c = image_back c.args.self.now c.args.a.0 c.requires length_of _ c.len.ensures
