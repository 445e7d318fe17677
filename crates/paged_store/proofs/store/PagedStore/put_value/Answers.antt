use Rattle.std.proofs.Common.{arith}
use Rattle.py_data.specs.declared.change.Change.TheVariants.{Set}
use Rattle.seg_store.proofs.Stores.{either, told}
use Rattle.paged_store.proofs.StoreCalls.{segment_in}
use Rattle.paged_store.proofs.StoreEnds.{table_segment}
use Rattle.paged_store.proofs.StoreChanges.{stands, allowed, counted, bodied, few, put_stands, put_refused}
use Rattle.paged_store.proofs.store.PagedStore.put_value.Goals as goal

pub index_mut-draft-requires : goal.index_mut-draft-requires
index_mut-draft-requires c = let l = segment_in c.args.self.now c.args.k c.requires.segment in
    omega (arith, l, c.args.self.now.drafts.ok.0)

pub set_value-requires-clause-segment : goal.set_value-requires-clause-segment
set_value-requires-clause-segment c = table_segment c.args.self.now c.args.k c.requires.segment

pub set_value-requires-clause-stands : goal.set_value-requires-clause-stands
set_value-requires-clause-stands c = stands c.args.self.now c.args.k c.args.a.0 c.requires.segment
    (Set c.args.i c.args.v) c.requires.there

pub overflow_cast-i : goal.overflow_cast-i
overflow_cast-i c =
    let z = (allowed c.args.self.now c.args.k c.args.a.0 c.requires.segment (Set c.args.i c.args.v)
    c.requires.there).0.1 in
    let e = counted c.args.self.now c.args.k c.args.a.0 c.requires.segment (Set c.args.i c.args.v) c.requires.there in
    let m = few c.args.self.now c.args.k c.args.a.0 c.requires.segment (Set c.args.i c.args.v) c.requires.there in
    omega (arith, z, e, m)

pub set_value-requires-clause-within : goal.set_value-requires-clause-within
set_value-requires-clause-within c =
    let z = (allowed c.args.self.now c.args.k c.args.a.0 c.requires.segment (Set c.args.i c.args.v)
    c.requires.there).0.1 in
    let e = counted c.args.self.now c.args.k c.args.a.0 c.requires.segment (Set c.args.i c.args.v) c.requires.there in
    let m = bodied c.args.self.now c.args.k c.args.a.0 c.requires.segment (Set c.args.i c.args.v) c.requires.there in
    omega (arith, z, e, m)

pub invariant_of-self : goal.invariant_of-self
invariant_of-self c = record {
  sound = either _ c.set_value.result c.set_value.ensures.ok c.set_value.ensures.err
      (λ e. (put_stands c.args.self.now c.args.k c.args.a.0 c.requires.segment c.requires.held
      c.index_mut-draft.result.now
      c.index_mut-draft.ensures.value c.set_value.new.draft c.set_value.new.pages c.args.i c.args.v c.requires.there
      c.known_value.ensures e).sound)
      (λ e. (put_refused c.args.self.now c.args.k c.args.a.0 c.requires.segment c.requires.held
      c.index_mut-draft.result.now
      c.index_mut-draft.ensures.value c.set_value.new.draft c.set_value.new.pages c.args.i c.args.v c.requires.there
      e).sound);
}

pub returns-in_err-set_value-clause-err : goal.returns-in_err-set_value-clause-err
returns-in_err-set_value-clause-err c = told c.from_residual.result
    (put_refused c.args.self.now c.args.k c.args.a.0 c.requires.segment c.requires.held c.index_mut-draft.result.now
    c.index_mut-draft.ensures.value c.set_value.new.draft c.set_value.new.pages c.args.i c.args.v c.requires.there
    c.in_err-set_value.ensures.err).means

pub returns-clause-ok : goal.returns-clause-ok
returns-clause-ok c = (put_stands c.args.self.now c.args.k c.args.a.0 c.requires.segment c.requires.held
    c.index_mut-draft.result.now
    c.index_mut-draft.ensures.value c.set_value.new.draft c.set_value.new.pages c.args.i c.args.v c.requires.there
    c.known_value.ensures c.in_ok-set_value.ensures.ok).means

pub returns-in_err-set_value-clause-peaks : goal.returns-in_err-set_value-clause-peaks
returns-in_err-set_value-clause-peaks c = λ i n. (c.in_err-set_value.ensures.err.wrote.same.shelf i n).total

pub returns-clause-peaks : goal.returns-clause-peaks
returns-clause-peaks c = λ i n. (c.in_ok-set_value.ensures.ok.same.shelf i n).total
