use Rattle.std.proofs.Common.{arith}
use Rattle.py_data.specs.declared.change.Change.TheVariants.{Pair}
use Rattle.seg_store.proofs.Stores.{either, told}
use Rattle.paged_store.proofs.StoreCalls.{segment_in}
use Rattle.paged_store.proofs.StoreEnds.{table_segment}
use Rattle.paged_store.proofs.StoreChanges.{stands, pair_kind, pair_extent, pair_key, pair_free, add_pair_stands, add_pair_refused}
use Rattle.paged_store.proofs.store.PagedStore.add_pair.Goals as goal

pub index_mut-draft-requires : goal.index_mut-draft-requires
index_mut-draft-requires c = let l = segment_in c.args.self.now c.args.k c.requires.segment in
    omega (arith, l, c.args.self.now.drafts.ok.0)

pub push_pair-requires-clause-segment : goal.push_pair-requires-clause-segment
push_pair-requires-clause-segment c = table_segment c.args.self.now c.args.k c.requires.segment

pub push_pair-requires-clause-stands : goal.push_pair-requires-clause-stands
push_pair-requires-clause-stands c = stands c.args.self.now c.args.k c.args.d.0 c.requires.segment
    (Pair c.args.key c.args.v) c.requires.there

pub push_pair-requires-clause-kind : goal.push_pair-requires-clause-kind
push_pair-requires-clause-kind c = pair_kind c.args.self.now c.args.k c.args.d.0 c.requires.segment c.args.key c.args.v
    c.requires.there

pub push_pair-requires-clause-extent : goal.push_pair-requires-clause-extent
push_pair-requires-clause-extent c = pair_extent c.args.self.now c.args.k c.args.d.0 c.requires.segment c.args.key
    c.args.v c.requires.there

pub push_pair-requires-clause-key : goal.push_pair-requires-clause-key
push_pair-requires-clause-key c = pair_key c.args.self.now c.args.k c.args.d.0 c.requires.segment c.args.key c.args.v
    c.requires.there

pub push_pair-requires-clause-free : goal.push_pair-requires-clause-free
push_pair-requires-clause-free c = pair_free c.args.self.now c.args.k c.args.d.0 c.requires.segment c.args.key c.args.v
    c.requires.there

pub invariant_of-self : goal.invariant_of-self
invariant_of-self c = record {
  sound = either _ c.push_pair.result c.push_pair.ensures.ok c.push_pair.ensures.err
      (λ e. (add_pair_stands c.args.self.now c.args.k c.args.d.0 c.requires.segment c.requires.held
      c.index_mut-draft.result.now
      c.index_mut-draft.ensures.value c.push_pair.new.draft c.push_pair.new.pages c.args.key c.args.v
      c.requires.there c.requires.room c.known_value.ensures c.known_value-2.ensures e).sound)
      (λ e. (add_pair_refused c.args.self.now c.args.k c.args.d.0 c.requires.segment c.requires.held
      c.index_mut-draft.result.now
      c.index_mut-draft.ensures.value c.push_pair.new.draft c.push_pair.new.pages c.args.key c.args.v
      c.requires.there c.requires.room c.known_value.ensures c.known_value-2.ensures e).sound);
}

pub returns-in_err-push_pair-clause-err : goal.returns-in_err-push_pair-clause-err
returns-in_err-push_pair-clause-err c = told c.from_residual.result
    (add_pair_refused c.args.self.now c.args.k c.args.d.0 c.requires.segment c.requires.held
    c.index_mut-draft.result.now
    c.index_mut-draft.ensures.value c.push_pair.new.draft c.push_pair.new.pages c.args.key c.args.v
    c.requires.there c.requires.room c.known_value.ensures c.known_value-2.ensures c.in_err-push_pair.ensures.err).means

pub returns-clause-ok : goal.returns-clause-ok
returns-clause-ok c = (add_pair_stands c.args.self.now c.args.k c.args.d.0 c.requires.segment c.requires.held
    c.index_mut-draft.result.now
    c.index_mut-draft.ensures.value c.push_pair.new.draft c.push_pair.new.pages c.args.key c.args.v
    c.requires.there c.requires.room c.known_value.ensures c.known_value-2.ensures
    c.in_ok-push_pair.ensures.ok).means

pub returns-in_err-push_pair-clause-peaks : goal.returns-in_err-push_pair-clause-peaks
returns-in_err-push_pair-clause-peaks c = λ i n. (c.in_err-push_pair.ensures.err.refused.wrote.same.shelf i n).total

pub returns-clause-peaks : goal.returns-clause-peaks
returns-clause-peaks c = λ i n. (c.in_ok-push_pair.ensures.ok.wrote.same.shelf i n).total
