use Rattle.seg_store.specs.Meaning.{sees}
use Rattle.paged_store.specs.Stores.{paged_meaning}
use Rattle.paged_store.proofs.StoreReads.{key_extent, key_index, key_pairs, key_differs, key_there, key_kind, keys_seen, key_seen, key_knows, key_found, key_within}
use Rattle.paged_store.proofs.segments.PagedStoreSegStore.find_key.Goals as goal

pub find_key-requires-clause-there : goal.find_key-requires-clause-there
find_key-requires-clause-there c = key_there c.args.self.now c.args.k c.args.d.0 c.args.key c.requires.segment
    c.requires.there

pub find_key-requires-clause-kind : goal.find_key-requires-clause-kind
find_key-requires-clause-kind c = key_kind c.args.self.now c.args.k c.args.d.0 c.args.key c.requires.segment
    c.requires.there

pub find_key-requires-clause-keys : goal.find_key-requires-clause-keys
find_key-requires-clause-keys c = keys_seen c.args.self.now c.args.k c.args.d.0 c.args.key c.requires.segment
    c.requires.there

pub find_key-requires-clause-key : goal.find_key-requires-clause-key
find_key-requires-clause-key c = key_seen c.args.self.now c.args.k c.args.d.0 c.args.key c.requires.segment
    c.requires.there

pub find_key-requires-clause-extent : goal.find_key-requires-clause-extent
find_key-requires-clause-extent c = key_extent c.args.self.now c.args.k c.args.d.0 c.args.key c.requires.segment
    c.requires.there

pub find_key-requires-clause-index : goal.find_key-requires-clause-index
find_key-requires-clause-index c = key_index c.args.self.now c.args.k c.args.d.0 c.args.key c.requires.segment
    c.requires.there

pub find_key-requires-clause-pairs : goal.find_key-requires-clause-pairs
find_key-requires-clause-pairs c = key_pairs c.args.self.now c.args.k c.args.d.0 c.args.key c.requires.segment
    c.requires.there

pub find_key-requires-clause-differ : goal.find_key-requires-clause-differ
find_key-requires-clause-differ c = key_differs c.args.self.now c.args.k c.args.d.0 c.args.key c.requires.segment
    c.requires.there

pub returns-clause-found : goal.returns-clause-found
returns-clause-found c = key_found c.args.self.now c.args.k c.args.d.0 c.args.key c.requires.segment c.requires.there _
    (c.find_key.ensures.heap (sees (paged_meaning c.args.self.now) c.args.k)
    (key_knows c.args.self.now c.args.k c.args.d.0 c.args.key c.requires.segment c.requires.there))

pub returns-clause-fits : goal.returns-clause-fits
returns-clause-fits c = key_within c.args.self.now c.args.k c.args.d.0 c.args.key c.requires.segment c.requires.there _
    c.find_key.ensures.within
