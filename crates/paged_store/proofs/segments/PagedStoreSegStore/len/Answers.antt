use Rattle.std.proofs.Common.{◌≤◌, sym, subst}
use Rattle.py_data.specs.declared.record.TheConstants.{LENGTH_LIMIT}
use Rattle.py_data.specs.Heap.{length_of}
use Rattle.paged_store.proofs.StoreReads.{own_read, own_back, length_within}
use Rattle.paged_store.proofs.segments.PagedStoreSegStore.len.Goals as goal

pub len-requires : goal.len-requires
len-requires c = own_read c.args.self.now c.args.k c.args.a.0 c.requires.segment c.requires.there

pub returns-clause-length : goal.returns-clause-length
returns-clause-length c = own_back c.args.self.now c.args.k c.args.a.0 c.requires.segment c.requires.there length_of _
    c.len.ensures

pub returns-clause-fits : goal.returns-clause-fits
returns-clause-fits c = subst (λ n. n ≤ LENGTH_LIMIT)
    (sym (own_back c.args.self.now c.args.k c.args.a.0 c.requires.segment c.requires.there length_of _ c.len.ensures))
    (length_within c.args.self.now c.args.k c.args.a.0 c.requires.there)
