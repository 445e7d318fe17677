use Rattle.std.proofs.Common.{◌≡◌, ◌≤◌, sym, ap, subst}
use Rattle.py_data.specs.declared.record.Head.{Head}
use Rattle.py_data.specs.declared.record.TheConstants.{LENGTH_LIMIT}
use Rattle.py_data.specs.Heap.{at}
use Rattle.py_data.specs.Looking.{head_of}
use Rattle.seg_store.specs.Meaning.{sees}
use Rattle.paged_store.specs.Stores.{paged_meaning}
use Rattle.paged_store.proofs.StoreReads.{own_read, own_back, values_within}
use Rattle.paged_store.proofs.segments.PagedStoreSegStore.head.Goals as goal

pub head-requires : goal.head-requires
head-requires c = own_read c.args.self.now c.args.k c.args.a.0 c.requires.segment c.requires.there

pub returns-clause-shows : goal.returns-clause-shows
returns-clause-shows c = own_back c.args.self.now c.args.k c.args.a.0 c.requires.segment c.requires.there head_of _
    c.head.ensures

pub returns-clause-fits : goal.returns-clause-fits
returns-clause-fits c =
    let shows : c.head.result ≡ head_of (at (sees (paged_meaning c.args.self.now) c.args.k) c.args.a.0) =
    own_back c.args.self.now c.args.k c.args.a.0 c.requires.segment c.requires.there head_of _ c.head.ensures in
    subst (λ n. n ≤ LENGTH_LIMIT) (sym (ap (λ (h : Head). h.count) shows))
    (values_within c.args.self.now c.args.k c.args.a.0 c.requires.there)
