use Rattle.std.proofs.Common.{◌+◌, ◌≤◌, length, take, drop}
use Rattle.py_data.specs.Heap.{Rec}
use Rattle.paged_store.proofs.StoreReads.{own_read, own_back, own_there, own_is}
use Rattle.paged_store.proofs.segments.PagedStoreSegStore.copy_bytes.Goals as goal

pub copy_bytes-requires-clause-there : goal.copy_bytes-requires-clause-there
copy_bytes-requires-clause-there c = own_read c.args.self.now c.args.k c.args.a.0 c.requires.segment
    (own_there c.args.self.now c.args.k c.args.a.0 c.requires.segment
    (λ (r : Rec). c.args.from + length c.args.out.now ≤ length r.bytes) c.requires.there)

pub copy_bytes-requires-clause-bytes : goal.copy_bytes-requires-clause-bytes
copy_bytes-requires-clause-bytes c = own_is c.args.self.now c.args.k c.args.a.0 c.requires.segment
    (λ (r : Rec). c.args.from + length c.args.out.now ≤ length r.bytes) c.requires.there

pub returns : goal.returns
returns c = own_back c.args.self.now c.args.k c.args.a.0 c.requires.segment
    (own_there c.args.self.now c.args.k c.args.a.0 c.requires.segment
    (λ (r : Rec). c.args.from + length c.args.out.now ≤ length r.bytes) c.requires.there)
    (λ (r : Rec). take (length c.args.out.now) (drop c.args.from r.bytes)) _ c.copy_bytes.ensures
