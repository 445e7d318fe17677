use Rattle.py_data.specs.Heap.{Rec, value_at}
use Rattle.paged_store.proofs.StoreReads.{own_read, own_back}
use Rattle.paged_store.proofs.segments.PagedStoreSegStore.find_val.Goals as goal

pub find_val-requires : goal.find_val-requires
find_val-requires c = own_read c.args.self.now c.args.k c.args.a.0 c.requires.segment c.requires.there

pub returns-clause-kind : goal.returns-clause-kind
returns-clause-kind c = own_back c.args.self.now c.args.k c.args.a.0 c.requires.segment c.requires.there
    (λ (r : Rec). r.kind) _ c.find_val.ensures.kind

pub returns-clause-value : goal.returns-clause-value
returns-clause-value c = own_back c.args.self.now c.args.k c.args.a.0 c.requires.segment c.requires.there
    (λ (r : Rec). value_at r.values c.args.i) _ c.find_val.ensures.value
