use Rattle.std.proofs.Common.{arith}
use Rattle.py_data.specs.declared.change.Change.TheVariants.{Push}
use Rattle.seg_store.proofs.Stores.{either, told}
use Rattle.paged_store.proofs.StoreCalls.{segment_in}
use Rattle.paged_store.proofs.StoreEnds.{table_segment}
use Rattle.paged_store.proofs.StoreChanges.{stands, add_stands, add_refused}
use Rattle.paged_store.proofs.store.PagedStore.add_value.Goals as goal

pub index_mut-draft-requires : goal.index_mut-draft-requires
index_mut-draft-requires c = let l = segment_in c.args.self.now c.args.k c.requires.segment in
    omega (arith, l, c.args.self.now.drafts.ok.0)

pub push_values-requires-clause-segment : goal.push_values-requires-clause-segment
push_values-requires-clause-segment c = table_segment c.args.self.now c.args.k c.requires.segment

pub push_values-requires-clause-stands : goal.push_values-requires-clause-stands
push_values-requires-clause-stands c = stands c.args.self.now c.args.k c.args.a.0 c.requires.segment (Push c.args.v)
    c.requires.there

pub invariant_of-self : goal.invariant_of-self
invariant_of-self c = record {
  sound = either _ c.push_values.result c.push_values.ensures.ok c.push_values.ensures.err
      (λ e. (add_stands c.args.self.now c.args.k c.args.a.0 c.requires.segment c.requires.held
      c.index_mut-draft.result.now
      c.index_mut-draft.ensures.value c.push_values.new.draft c.push_values.new.pages c.args.v c.requires.there
      c.requires.room c.known_value.ensures e).sound)
      (λ e. (add_refused c.args.self.now c.args.k c.args.a.0 c.requires.segment c.requires.held
      c.index_mut-draft.result.now
      c.index_mut-draft.ensures.value c.push_values.new.draft c.push_values.new.pages 1 c.requires.room e).sound);
}

pub returns-in_err-push_values-clause-err : goal.returns-in_err-push_values-clause-err
returns-in_err-push_values-clause-err c = told c.from_residual.result
    (add_refused c.args.self.now c.args.k c.args.a.0 c.requires.segment c.requires.held c.index_mut-draft.result.now
    c.index_mut-draft.ensures.value c.push_values.new.draft c.push_values.new.pages 1 c.requires.room
    c.in_err-push_values.ensures.err).means

pub returns-clause-ok : goal.returns-clause-ok
returns-clause-ok c = (add_stands c.args.self.now c.args.k c.args.a.0 c.requires.segment c.requires.held
    c.index_mut-draft.result.now
    c.index_mut-draft.ensures.value c.push_values.new.draft c.push_values.new.pages c.args.v c.requires.there
    c.requires.room c.known_value.ensures c.in_ok-push_values.ensures.ok).means

pub returns-in_err-push_values-clause-peaks : goal.returns-in_err-push_values-clause-peaks
returns-in_err-push_values-clause-peaks c = λ i n. (c.in_err-push_values.ensures.err.wrote.same.shelf i n).total

pub returns-clause-peaks : goal.returns-clause-peaks
returns-clause-peaks c = λ i n. (c.in_ok-push_values.ensures.ok.same.shelf i n).total
