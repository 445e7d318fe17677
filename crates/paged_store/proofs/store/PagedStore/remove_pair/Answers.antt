use Rattle.std.proofs.Common.{arith}
use Rattle.py_data.specs.declared.change.Change.TheVariants.{Unpair}
use Rattle.seg_store.proofs.Stores.{either, told}
use Rattle.paged_store.proofs.StoreCalls.{segment_in}
use Rattle.paged_store.proofs.StoreEnds.{table_segment}
use Rattle.paged_store.proofs.StoreChanges.{stands, allowed, counted, bodied, few, remove_stands, remove_refused}
use Rattle.paged_store.proofs.GoneReads.{gone_slots, gone_right}
use Rattle.paged_store.proofs.store.PagedStore.remove_pair.Goals as goal

pub index_mut-draft-requires : goal.index_mut-draft-requires
index_mut-draft-requires c = let l = segment_in c.args.self.now c.args.k c.requires.segment in
    omega (arith, l, c.args.self.now.drafts.ok.0)

pub drop_pair-requires-clause-segment : goal.drop_pair-requires-clause-segment
drop_pair-requires-clause-segment c = table_segment c.args.self.now c.args.k c.requires.segment

pub drop_pair-requires-clause-stands : goal.drop_pair-requires-clause-stands
drop_pair-requires-clause-stands c = stands c.args.self.now c.args.k c.args.d.0 c.requires.segment
    (Unpair c.args.place) c.requires.there

pub overflow_cast-place : goal.overflow_cast-place
overflow_cast-place c =
    let z = (allowed c.args.self.now c.args.k c.args.d.0 c.requires.segment (Unpair c.args.place) c.requires.there).0.1
    in
    let e = counted c.args.self.now c.args.k c.args.d.0 c.requires.segment (Unpair c.args.place) c.requires.there in
    let m = few c.args.self.now c.args.k c.args.d.0 c.requires.segment (Unpair c.args.place) c.requires.there in
    omega (arith, z, e, m)

pub drop_pair-requires-clause-body : goal.drop_pair-requires-clause-body
drop_pair-requires-clause-body c = bodied c.args.self.now c.args.k c.args.d.0 c.requires.segment (Unpair c.args.place)
    c.requires.there

pub drop_pair-requires-clause-within : goal.drop_pair-requires-clause-within
drop_pair-requires-clause-within c =
    let z = (allowed c.args.self.now c.args.k c.args.d.0 c.requires.segment (Unpair c.args.place) c.requires.there).0.1
    in
    let e = counted c.args.self.now c.args.k c.args.d.0 c.requires.segment (Unpair c.args.place) c.requires.there in
    omega (arith, z, e)

pub drop_pair-requires-clause-slots : goal.drop_pair-requires-clause-slots
drop_pair-requires-clause-slots c = gone_slots c.args.self.now c.args.k c.args.d.0 c.requires.segment c.args.place
    c.requires.there

pub drop_pair-requires-clause-index : goal.drop_pair-requires-clause-index
drop_pair-requires-clause-index c = gone_right c.args.self.now c.args.k c.args.d.0 c.requires.segment c.args.place
    c.requires.there

pub invariant_of-self : goal.invariant_of-self
invariant_of-self c = record {
  sound = either _ c.drop_pair.result c.drop_pair.ensures.ok c.drop_pair.ensures.err
      (λ e. (remove_stands c.args.self.now c.args.k c.args.d.0 c.requires.segment c.requires.held
      c.index_mut-draft.result.now
      c.index_mut-draft.ensures.value c.drop_pair.new.draft c.drop_pair.new.pages c.args.place c.requires.there
      e).sound)
      (λ e. (remove_refused c.args.self.now c.args.k c.args.d.0 c.requires.segment c.requires.held
      c.index_mut-draft.result.now
      c.index_mut-draft.ensures.value c.drop_pair.new.draft c.drop_pair.new.pages c.args.place c.requires.there
      e).sound);
}

pub returns-in_err-drop_pair-clause-err : goal.returns-in_err-drop_pair-clause-err
returns-in_err-drop_pair-clause-err c = told c.from_residual.result
    (remove_refused c.args.self.now c.args.k c.args.d.0 c.requires.segment c.requires.held c.index_mut-draft.result.now
    c.index_mut-draft.ensures.value c.drop_pair.new.draft c.drop_pair.new.pages c.args.place c.requires.there
    c.in_err-drop_pair.ensures.err).means

pub returns-clause-ok : goal.returns-clause-ok
returns-clause-ok c = (remove_stands c.args.self.now c.args.k c.args.d.0 c.requires.segment c.requires.held
    c.index_mut-draft.result.now
    c.index_mut-draft.ensures.value c.drop_pair.new.draft c.drop_pair.new.pages c.args.place c.requires.there
    c.in_ok-drop_pair.ensures.ok).means

pub returns-in_err-drop_pair-clause-peaks : goal.returns-in_err-drop_pair-clause-peaks
returns-in_err-drop_pair-clause-peaks c = λ i n. (c.in_err-drop_pair.ensures.err.wrote.same.shelf i n).total

pub returns-clause-peaks : goal.returns-clause-peaks
returns-clause-peaks c = λ i n. (c.in_ok-drop_pair.ensures.ok.wrote.same.shelf i n).total
